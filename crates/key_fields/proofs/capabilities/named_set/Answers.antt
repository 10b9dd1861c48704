use Rattle.std.proofs.Common.{rules, ◌+◌, length, get_or, sym, ap, subst, ◌∙◌}
use Rattle.rule_table.specs.declared.cap.Cap.TheVariants.{ListKeys}
use Rattle.key_fields.specs.Capabilities.{is_named}
use Rattle.key_fields.proofs.Sets.{HasFirst, first_none, first_more, first_same, item_place, set_is}
use Rattle.key_fields.proofs.capabilities.named_set.Goals as goal
use Rattle.key_fields.proofs.capabilities.named_set.Goals.{then-is_named, else-is_named}

pub loop-cap-init : goal.loop-cap-init
loop-cap-init c = record {
  items = c.every_cap-cap-items.ensures;
  size = search (rules, c.none-set.type_inv);
  has = first_none c.none-set.result (is_named c.args.names.now) c.none-set.ensures;
}

pub loop-cap-preserved : goal.loop-cap-preserved
loop-cap-preserved c =
    let items = c.every_cap-cap-items.result in
    let at = c.loop-cap.cap-index in
    let test = is_named c.args.names.now in
    let place = item_place items at c.loop-cap.invariant.items c.loop-cap-test.true in
    elim c.if-is_named.branch [
      | then-is_named w ↦ record {
        items = c.loop-cap.invariant.items;
        size = ap (λ s. length s.flags) w.set-is ∙ search (rules, w.with-set.type_inv);
        has = subst (λ s. HasFirst s test (at + 1)) (sym w.set-is)
            (first_more c.loop-cap.set w.with-set.result test (get_or items at ListKeys) at place (sym c.is_named.ensures ∙ w.if-is_named.true) c.loop-cap.invariant.has w.with-set.ensures);
      }
      | else-is_named w ↦ record {
        items = c.loop-cap.invariant.items;
        size = ap (λ s. length s.flags) w.set-is ∙ c.loop-cap.invariant.size;
        has = first_same c.loop-cap.set c.if-is_named.set test (get_or items at ListKeys) at place (sym c.is_named.ensures ∙ w.if-is_named.false) c.loop-cap.invariant.has w.set-is;
      }
    ]

pub returns : goal.returns
returns c = set_is c.loop-cap.set (is_named c.args.names.now) c.loop-cap.cap-index c.loop-cap.invariant.size c.loop-cap-test.false c.loop-cap.invariant.has
