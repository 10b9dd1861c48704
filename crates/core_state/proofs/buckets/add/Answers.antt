use Rattle.std.proofs.Common.{nat_lt, ap, ◌∙◌, arith}
use Rattle.std.specs.List.{insert, position_or_len}
use Rattle.b2_types.specs.declared.bucket.Bucket.{Bucket}
use Rattle.core_state.proofs.Places.{put_at, within}
use Rattle.core_state.proofs.buckets.add.Goals as goal

pub insert-requires : goal.insert-requires
insert-requires c =
    let at = c.place_of-place.ensures in
    let low = within (λ (b : Bucket). nat_lt c.args.bucket.num b.num) c.deref.result.now in
    let same = c.deref.ensures.len in
    omega arith

pub returns : goal.returns
returns c =
    let all = c.args.buckets.now.items in
    c.in_ok-insert.ensures.items
    ∙ ap (λ i. insert all i c.args.bucket) (c.place_of-place.ensures ∙ ap (position_or_len (λ (b : Bucket). nat_lt c.args.bucket.num b.num)) c.deref.ensures.value)
    ∙ put_at (λ (b : Bucket). b.num) c.args.bucket all
