use Rattle.std.proofs.Common.{◌≡◌, codes, Err, ap, ◌∙◌, refl}
use Rattle.std.proofs.lemmas.Result.{err_from_is_err_and}
use Rattle.serde_json.specs.View.{view}
use Rattle.field_kinds.specs.Kinds.{file_id, hold}
use Rattle.field_kinds.specs.Kept.{kept}
use Rattle.field_kinds.specs.Reader.{needed, optional}
use Rattle.field_kinds.proofs.Handed.{gives_err}
use Rattle.copy_fields.specs.Copies.{copy_file}
use Rattle.copy_fields.proofs.copies.copy_file.Goals as goal

pub returns-in_err-source : goal.returns-in_err-source
returns-in_err-source c =
    let d = view c.args.body.now in
    let p = err_from_is_err_and c.from_residual.result c.from_residual.ensures.1 in
    gives_err (λ c. c) (λ x. x) c.in_err-source.field-0.0 (copy_file c.args.info d) (needed (codes "sourceFileId") file_id d)
    (λ f is. rw is refl) c.in_err-source.ensures c.from_residual.result (p.1 ∙ ap Err p.2)

pub returns-in_err-retention : goal.returns-in_err-retention
returns-in_err-retention c =
    let d = view c.args.body.now in
    let p = err_from_is_err_and c.from_residual-in_err-retention.result c.from_residual-in_err-retention.ensures.1 in
    gives_err (λ c. c) (λ x. x) c.in_err-retention.field-0.0 (copy_file c.args.info d) (kept (codes "fileRetention") d)
    (λ f is. rw (c.in_ok-source.ensures, c.in_ok-bucket.ensures, c.in_ok-name.ensures, c.in_ok-range.ensures, c.in_ok-metadata.ensures, is) refl)
    c.in_err-retention.ensures c.from_residual-in_err-retention.result (p.1 ∙ ap Err p.2)

pub returns-in_err-hold : goal.returns-in_err-hold
returns-in_err-hold c =
    let d = view c.args.body.now in
    let p = err_from_is_err_and c.from_residual-in_err-hold.result c.from_residual-in_err-hold.ensures.1 in
    gives_err (λ c. c) (λ x. x) c.in_err-hold.field-0.0 (copy_file c.args.info d) (optional (codes "legalHold") hold d)
    (λ f is. rw (c.in_ok-source.ensures, c.in_ok-bucket.ensures, c.in_ok-name.ensures, c.in_ok-range.ensures, c.in_ok-metadata.ensures, c.in_ok-retention.ensures, is) refl)
    c.in_err-hold.ensures c.from_residual-in_err-hold.result (p.1 ∙ ap Err p.2)
