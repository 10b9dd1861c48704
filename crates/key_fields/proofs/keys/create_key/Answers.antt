use Rattle.std.proofs.Common.{codes, Err, ap, ◌∙◌, refl}
use Rattle.std.proofs.lemmas.Result.{err_from_is_err_and}
use Rattle.serde_json.specs.View.{view}
use Rattle.field_kinds.specs.declared.texts.TextRule.TheVariants as rule
use Rattle.field_kinds.specs.Kinds.{text_by}
use Rattle.field_kinds.specs.Reader.{needed}
use Rattle.key_fields.specs.Keys.{create_key}
use Rattle.field_kinds.proofs.Handed.{gives_err}
use Rattle.key_fields.proofs.keys.create_key.Goals as goal

pub returns-in_err-name : goal.returns-in_err-name
returns-in_err-name c =
    let d = view c.args.body.now in
    let p = err_from_is_err_and c.from_residual-in_err-name.result c.from_residual-in_err-name.ensures.1 in
    gives_err (λ c. c) (λ x. x) c.in_err-name.field-0.0 (create_key c.args.version d) (needed (codes "keyName") (text_by rule.KeyName) d)
    (λ f is. rw (c.in_ok-account.ensures, c.in_ok-caps.ensures, is) refl) c.in_err-name.ensures c.from_residual-in_err-name.result (p.1 ∙ ap Err p.2)
