use Rattle.std.proofs.Common.{rules, ◌≡◌, true, false, bytes_eq, refl, ap, sym, ◌∙◌}
use Rattle.auth_grants.proofs.Serials.{no_serial_in, found, if_text}
use Rattle.auth_grants.proofs.tree.held_under.Goals as goal

pub returns-in_default : goal.returns-in_default
returns-in_default c = sym (no_serial_in c.args.text.now c.args.held.now.entries c.requires.under c.in_default.ensures.serial)

pub returns-in_default-get : goal.returns-in_default-get
returns-in_default-get c =
    sym (found c.in-Some.serial c.args.text.now c.args.held.now.entries c.requires c.in-Some.ensures.range c.in-Some.ensures.serial
    ∙ ap (if_text c.args.text.now) (sym c.in_default-get.ensures.value))

pub returns-then-eq : goal.returns-then-eq
returns-then-eq c =
    let has : bytes_eq c.in-Some-get.found.now.grant.text c.args.text.now ≡ true = search rules in
    sym (found c.in-Some.serial c.args.text.now c.args.held.now.entries c.requires c.in-Some.ensures.range c.in-Some.ensures.serial
    ∙ ap (if_text c.args.text.now) (sym c.in-Some-get.ensures.value) ∙ rw has refl)

pub returns-else-eq : goal.returns-else-eq
returns-else-eq c =
    let has : bytes_eq c.in-Some-get.found.now.grant.text c.args.text.now ≡ false = search rules in
    sym (found c.in-Some.serial c.args.text.now c.args.held.now.entries c.requires c.in-Some.ensures.range c.in-Some.ensures.serial
    ∙ ap (if_text c.args.text.now) (sym c.in-Some-get.ensures.value) ∙ rw has refl)
