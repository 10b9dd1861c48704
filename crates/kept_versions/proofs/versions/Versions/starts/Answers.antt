use Rattle.std.proofs.Common.{subst}
use Rattle.index_rows.specs.OwnRows.{by_number}
use Rattle.listing_pages.specs.Unfinished.{AreStartsOf}
use Rattle.kept_versions.proofs.StartsOf.{no_names, starts_of}
use Rattle.kept_versions.proofs.versions.Versions.starts.Goals as goal

pub returns-clause-starts : goal.returns-clause-starts
returns-clause-starts c = no_names (by_number c.self.inside.index) c.self.inside.starts c.self.invariant.are_starts

pub returns-clause-listed : goal.returns-clause-listed
returns-clause-listed c = λ bucket.
    subst (λ vs. AreStartsOf vs bucket c.self.inside.starts) c.self.view_is
    (starts_of (by_number c.self.inside.index) c.self.inside.starts bucket c.self.invariant.numbered c.self.invariant.in_range c.self.invariant.are_starts)
