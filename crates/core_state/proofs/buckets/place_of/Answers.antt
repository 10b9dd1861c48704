use Rattle.std.proofs.Common.{nat_lt, length, ap, ◌∙◌}
use Rattle.std.specs.Prelude.{unwrap_or}
use Rattle.b2_types.specs.declared.bucket.Bucket.{Bucket}
use Rattle.core_state.proofs.Places.{or_length}
use Rattle.core_state.proofs.buckets.place_of.Goals as goal

pub returns : goal.returns
returns c =
    c.unwrap_or.ensures ∙ ap (λ o. unwrap_or o (length c.args.buckets.now)) c.first_after.ensures ∙ or_length (λ (b : Bucket). nat_lt c.args.num b.num) c.args.buckets.now
