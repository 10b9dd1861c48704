use Rattle.std.proofs.Common.{rules, Bool, Some, None, if◌then◌else◌, bytes_eq, sym, ap, ◌∙◌, arith}
use Rattle.sha2.specs.Sha256.{sha256}
use Rattle.b2_types.specs.KeyId.{key_id}
use Rattle.core_keys.proofs.ByNumber.{by_secret, has_secret, no_secret, only}
use Rattle.core_keys.proofs.lookup.key_by.Goals as goal

pub returns-in_default : goal.returns-in_default
returns-in_default c = sym (no_secret c.args.core.now c.is_sound.ensures.sound c.args.credentials.now (λ key small is.
    c.in_default.ensures key small (c.as_bytes-id.ensures.value ∙ c.get.ensures ∙ is ∙ ap (λ s. key_id s.account key) (sym c.settings.ensures))))

pub returns-in_default-key : goal.returns-in_default-key
returns-in_default-key c =
    let q = c.args.credentials.now in
    let id = sym (c.as_bytes-id.ensures.value ∙ c.get.ensures) ∙ c.in-Some.ensures ∙ ap (λ s. key_id s.account c.in-Some.num) c.settings.ensures in
    ap (only (has_secret q)) c.in_default-key.ensures ∙ sym (by_secret c.args.core.now c.is_sound.ensures.sound q c.in-Some.num (search (rules, arith)) id)

pub returns-then-check_secret : goal.returns-then-check_secret
returns-then-check_secret c =
    let q = c.args.credentials.now in
    let k = c.in-Some-key.key.now in
    let id = sym (c.as_bytes-id.ensures.value ∙ c.get.ensures) ∙ c.in-Some.ensures ∙ ap (λ s. key_id s.account c.in-Some.num) c.settings.ensures in
    let own = c.if-check_secret.ensures ∙ ap (λ s. bytes_eq (sha256 s) k.hash) (c.as_bytes.ensures.value ∙ c.get-2.ensures) in
    ap (λ (b : Bool). if b then Some k else None) own ∙ ap (only (has_secret q)) c.in-Some-key.ensures
    ∙ sym (by_secret c.args.core.now c.is_sound.ensures.sound q c.in-Some.num (search (rules, arith)) id)

pub returns-else-check_secret : goal.returns-else-check_secret
returns-else-check_secret c =
    let q = c.args.credentials.now in
    let k = c.in-Some-key.key.now in
    let id = sym (c.as_bytes-id.ensures.value ∙ c.get.ensures) ∙ c.in-Some.ensures ∙ ap (λ s. key_id s.account c.in-Some.num) c.settings.ensures in
    let own = c.if-check_secret.ensures ∙ ap (λ s. bytes_eq (sha256 s) k.hash) (c.as_bytes.ensures.value ∙ c.get-2.ensures) in
    ap (λ (b : Bool). if b then Some k else None) own ∙ ap (only (has_secret q)) c.in-Some-key.ensures
    ∙ sym (by_secret c.args.core.now c.is_sound.ensures.sound q c.in-Some.num (search (rules, arith)) id)
