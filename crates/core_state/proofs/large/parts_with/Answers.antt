use Rattle.std.proofs.Common.{nat_lt, ap, ◌∙◌, arith}
use Rattle.std.specs.List.{insert, position_or_len}
use Rattle.b2_base.specs.declared.extent.Extent.{Extent}
use Rattle.b2_types.specs.declared.version.PartOf.{PartOf}
use Rattle.b2_model.specs.Lists.{put_by}
use Rattle.core_state.proofs.Places.{put_at, within}
use Rattle.core_state.proofs.large.parts_with.Goals as goal

pub insert-requires : goal.insert-requires
insert-requires c =
    let at = c.place_of-place.ensures in
    let low = within (λ (q : PartOf Extent). nat_lt c.args.part.number q.number) c.deref.result.now in
    let same = c.deref.ensures.len in
    omega arith

pub returns : goal.returns
returns c =
    let others = c.in_ok-others.others.items in
    c.of.ensures ∙ c.in_ok-insert.ensures.items
    ∙ ap (λ i. insert others i c.args.part) (c.place_of-place.ensures ∙ ap (position_or_len (λ (q : PartOf Extent). nat_lt c.args.part.number q.number)) c.deref.ensures.value)
    ∙ put_at (λ (q : PartOf Extent). q.number) c.args.part others ∙ ap (put_by (λ (q : PartOf Extent). q.number) c.args.part) c.in_ok-others.ensures
