use Rattle.std.proofs.Common.{Some, sym, ap, ◌∙◌}
use Rattle.serde_json.specs.View.{view}
use Rattle.field_kinds.proofs.Infos.{info_from, no_pairs}
use Rattle.field_kinds.proofs.info.info_of.Goals as goal

pub returns-in_default : goal.returns-in_default
returns-in_default c =
    let none = rw c.in_default.is at c.in_ok-pairs.ensures in
    no_pairs (view c.args.value.now) (sym none)

pub returns : goal.returns
returns c =
    let some = rw c.in-Some.is at c.in_ok-pairs.ensures in
    info_from (view c.args.value.now) c.deref.result.now c.in_ok-info.info (sym some ∙ ap Some (sym c.deref.ensures.value)) c.in_ok-info.ensures
