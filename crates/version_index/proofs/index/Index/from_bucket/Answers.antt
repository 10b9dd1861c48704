use Rattle.std.proofs.Common.{◌≡◌, subst, sym, ◌∙◌, nat_le}
use Rattle.std.specs.Prelude.{filter}
use Rattle.version_index.proofs.Seeks.{from_first, from_here}
use Rattle.version_index.proofs.index.Index.from_bucket.Goals as goal

pub returns-clause-rest : goal.returns-clause-rest
returns-clause-rest g c =
    let rows = c.self.inside.rows.entries in
    let found = c.range.ensures.between tt ∙ subst (λ s. from_here s rows ≡ filter (λ r. nat_le c.args.bucket r.0.bucket) rows) (sym c.first_spot-first.ensures) (from_first c.args.bucket rows c.self.invariant.1) in
    subst (λ rows. c.range.result ≡ filter (λ r. nat_le c.args.bucket r.0.bucket) rows) c.self.view_is found
