use Rattle.std.proofs.Common.{rules, sym, ap, ◌∙◌, arith}
use Rattle.b2_types.specs.KeyId.{key_id}
use Rattle.core_keys.proofs.ByNumber.{by_number, no_number}
use Rattle.core_keys.proofs.lookup.key_of_id.Goals as goal

pub returns-in_default : goal.returns-in_default
returns-in_default c = sym (no_number c.args.core.now c.is_sound.ensures.sound c.args.id.now (λ key small is.
    c.in_default.ensures key small (is ∙ ap (λ s. key_id s.account key) (sym c.settings.ensures))))

pub returns : goal.returns
returns c = c.key.ensures ∙ by_number c.args.core.now c.is_sound.ensures.sound c.args.id.now c.in-Some.num (search (rules, arith))
    (c.in-Some.ensures ∙ ap (λ s. key_id s.account c.in-Some.num) c.settings.ensures)
