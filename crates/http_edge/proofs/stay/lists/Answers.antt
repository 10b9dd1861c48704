use Rattle.std.proofs.Common.{◌||◌, ap, sym, ◌∙◌}
use Rattle.http_edge.specs.Stay.{lists}
use Rattle.http_edge.proofs.Options.{lists_at, lists_one}
use Rattle.http_edge.proofs.stay.lists.Goals as goal

pub returns-then-is_option : goal.returns-then-is_option
returns-then-is_option c =
    let option = c.args.option.now in
    ap (λ t. t || lists option c.in-Some.more.now) (sym c.if-is_option.true ∙ c.is_option.ensures)
    ∙ sym (lists_at option c.parts.rest.now c.in-Some.part.now c.in-Some.more.now c.in-Some.ensures) ∙ c.parts.invariant

pub parts-preserved : goal.parts-preserved
parts-preserved c =
    let option = c.args.option.now in
    ap (λ t. t || lists option c.in-Some.more.now) (sym c.if-is_option.false ∙ c.is_option.ensures)
    ∙ sym (lists_at option c.parts.rest.now c.in-Some.part.now c.in-Some.more.now c.in-Some.ensures) ∙ c.parts.invariant

pub returns : goal.returns
returns c = c.is_option-2.ensures ∙ sym (lists_one c.args.option.now c.parts.rest.now (rw c.in_default.is at c.cut_at.ensures)) ∙ c.parts.invariant
