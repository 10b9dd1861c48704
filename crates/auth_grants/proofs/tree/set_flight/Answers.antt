use Rattle.std.proofs.Common.{rules, ◌≡◌, ◌∙◌, None, IsSome, refl, ap, sym}
use Rattle.std.specs.Map.{values_of}
use Rattle.auth_grants.specs.Tokens.{held_in}
use Rattle.auth_grants.proofs.Serials.{unset, set, set_by, found, if_text, no_serial_in}
use Rattle.auth_grants.specs.declared.held.Held.{Held}
use Rattle.auth_grants.proofs.tree.set_flight.Goals as goal

pub returns-then-is_none-clause-set : goal.returns-then-is_none-clause-set
returns-then-is_none-clause-set c =
    let none : held_in (values_of c.args.held.now.entries) c.args.text.now ≡ None = search rules in
    sym (unset c.args.text.now c.args.flight (values_of c.args.held.now.entries) none)

pub returns-in_default-clause-set : goal.returns-in_default-clause-set
returns-in_default-clause-set c =
    sym (unset c.args.text.now c.args.flight (values_of c.args.held.now.entries)
    (no_serial_in c.args.text.now c.args.held.now.entries c.requires.under c.in_default.ensures.serial))

pub returns-in-Some-get_mut-clause-set : goal.returns-in-Some-get_mut-clause-set
returns-in-Some-get_mut-clause-set c =
    let some : IsSome (held_in (values_of c.args.held.now.entries) c.args.text.now) = search rules in
    let w : Held = record { grant = c.in-Some-get_mut.found.now.grant; flight = c.args.flight } in
    ap values_of (c.get_mut.follows.holds w).0
    ∙ set c.in-Some.serial c.args.text.now c.args.flight c.in-Some-get_mut.found.now c.args.held.now.entries c.requires c.in-Some.ensures.range c.in-Some.ensures.serial some
    (sym c.in-Some-get_mut.ensures.value)

pub returns-in-Some-get_mut-clause-by_serial : goal.returns-in-Some-get_mut-clause-by_serial
returns-in-Some-get_mut-clause-by_serial c =
    let w : Held = record { grant = c.in-Some-get_mut.found.now.grant; flight = c.args.flight } in
    set_by c.in-Some.serial c.in-Some-get_mut.found.now w c.args.held.now.entries _ c.requires (sym c.in-Some-get_mut.ensures.value) refl
    (c.get_mut.follows.holds w).0 (c.get_mut.follows.holds w).4

pub returns-in_default-get_mut-clause-set : goal.returns-in_default-get_mut-clause-set
returns-in_default-get_mut-clause-set c =
    let none : held_in (values_of c.args.held.now.entries) c.args.text.now ≡ None =
    found c.in-Some.serial c.args.text.now c.args.held.now.entries c.requires c.in-Some.ensures.range c.in-Some.ensures.serial
    ∙ ap (if_text c.args.text.now) (sym c.in_default-get_mut.ensures.value) in
    ap (λ m. values_of m.entries) c.get_mut.follows.holds-at-none ∙ sym (unset c.args.text.now c.args.flight (values_of c.args.held.now.entries) none)
