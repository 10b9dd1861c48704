use Rattle.std.proofs.Common.{◌≡◌, codes, Err, ap, ◌∙◌, refl}
use Rattle.std.proofs.lemmas.Result.{err_from_is_err_and}
use Rattle.serde_json.specs.View.{view}
use Rattle.field_kinds.proofs.Handed.{gives_err}
use Rattle.copy_fields.specs.Metadata.{absent, kept}
use Rattle.copy_fields.proofs.metadata.kept.Goals as goal

pub returns-in_err-absent : goal.returns-in_err-absent
returns-in_err-absent c =
    let d = view c.args.body.now in
    let p = err_from_is_err_and c.from_residual.result c.from_residual.ensures.1 in
    gives_err (λ m. m) (λ x. x) c.in_err-absent.field-0.0 (kept d) (absent (codes "contentType") d)
    (λ f is. rw is refl) c.in_err-absent.ensures c.from_residual.result (p.1 ∙ ap Err p.2)
