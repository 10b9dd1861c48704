use Rattle.std.proofs.Common.{IsSome, option_and_then, sym, ap, subst, ◌∙◌}
use Rattle.std.proofs.lemmas.Option.{none-some}
use Rattle.b2_model.specs.AskKeys.{key_of_id}
use Rattle.b2_model.specs.Policy.{key_by}
use Rattle.core_keys.proofs.ByNumber.{known_by_id}
use Rattle.core_tokens.proofs.OnAccount.{some_of}
use Rattle.core_tokens.proofs.account.known_key.Goals as goal

pub unreachable-requires-in_default-key_of_id : goal.unreachable-requires-in_default-key_of_id
unreachable-requires-in_default-key_of_id c =
    let M = c.args.core.now in
    let some = some_of (key_by M c.in-Some.credentials) (subst (λ o. IsSome (option_and_then (key_by M) o)) c.in-Some.is c.requires) in
    none-some some.0
    (c.in_default-key_of_id.ensures ∙ ap (key_of_id M) (c.as_bytes.ensures.value ∙ c.get.ensures) ∙ known_by_id M c.is_sound.ensures.sound c.in-Some.credentials some.0 some.1)

pub returns : goal.returns
returns c =
    let M = c.args.core.now in
    let some = some_of (key_by M c.in-Some.credentials) (subst (λ o. IsSome (option_and_then (key_by M) o)) c.in-Some.is c.requires) in
    ap (option_and_then (key_by M)) c.in-Some.is ∙ some.1 ∙ sym (known_by_id M c.is_sound.ensures.sound c.in-Some.credentials some.0 some.1)
    ∙ ap (key_of_id M) (sym (c.as_bytes.ensures.value ∙ c.get.ensures)) ∙ sym c.in-Some-key_of_id.ensures
