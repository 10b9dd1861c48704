use Rattle.std.proofs.Common.{Err, ap, ◌∙◌, refl}
use Rattle.std.proofs.lemmas.Result.{err_from_is_err_and}
use Rattle.field_kinds.specs.Kinds.{mode_of}
use Rattle.field_kinds.proofs.Handed.{gives_err}
use Rattle.upload_heads.specs.Kinds.{moment}
use Rattle.upload_heads.specs.Table.{needed}
use Rattle.upload_heads.specs.Upload.{mode_name, until_name, retention_rows}
use Rattle.upload_heads.proofs.upload.given_retention.Goals as goal

pub returns-in_err-mode : goal.returns-in_err-mode
returns-in_err-mode c =
    let p = err_from_is_err_and c.from_residual.result c.from_residual.ensures.1 in
    gives_err (λ x. x) (λ x. x) c.in_err-mode.field-0.0 (retention_rows c.args.headers.now) (needed mode_name mode_of c.args.headers.now)
    (λ f is. rw is refl) c.in_err-mode.ensures c.from_residual.result (p.1 ∙ ap Err p.2)

pub returns-in_err-until : goal.returns-in_err-until
returns-in_err-until c =
    let p = err_from_is_err_and c.from_residual-in_err-until.result c.from_residual-in_err-until.ensures.1 in
    gives_err (λ x. x) (λ x. x) c.in_err-until.field-0.0 (retention_rows c.args.headers.now) (needed until_name moment c.args.headers.now)
    (λ f is. rw (c.in_ok-mode.ensures, is) refl) c.in_err-until.ensures c.from_residual-in_err-until.result (p.1 ∙ ap Err p.2)

pub returns : goal.returns
returns c = rw (c.in_ok-mode.ensures, c.in_ok-until.ensures) refl
