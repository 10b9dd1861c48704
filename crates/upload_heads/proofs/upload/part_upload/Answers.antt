use Rattle.std.proofs.Common.{Err, ap, ◌∙◌, codes, refl}
use Rattle.std.proofs.lemmas.Result.{err_from_is_err_and}
use Rattle.field_kinds.proofs.Handed.{gives_err}
use Rattle.upload_heads.specs.Kinds.{part_number, digest_rule}
use Rattle.upload_heads.specs.Table.{needed}
use Rattle.upload_heads.specs.Upload.{not_encrypted, part_upload}
use Rattle.upload_heads.proofs.upload.part_upload.Goals as goal

pub returns-in_err-number : goal.returns-in_err-number
returns-in_err-number c =
    let p = err_from_is_err_and c.from_residual.result c.from_residual.ensures.1 in
    gives_err (λ x. x) (λ x. x) c.in_err-number.field-0.0 (part_upload c.args.bucket c.args.file c.args.length c.args.headers.now) (needed (codes "x-bz-part-number") part_number c.args.headers.now)
    (λ f is. rw is refl) c.in_err-number.ensures c.from_residual.result (p.1 ∙ ap Err p.2)

pub returns-in_err-digest : goal.returns-in_err-digest
returns-in_err-digest c =
    let p = err_from_is_err_and c.from_residual-in_err-digest.result c.from_residual-in_err-digest.ensures.1 in
    gives_err (λ x. x) (λ x. x) c.in_err-digest.field-0.0 (part_upload c.args.bucket c.args.file c.args.length c.args.headers.now) (needed (codes "x-bz-content-sha1") digest_rule c.args.headers.now)
    (λ f is. rw (c.in_ok-number.ensures, is) refl) c.in_err-digest.ensures c.from_residual-in_err-digest.result (p.1 ∙ ap Err p.2)

pub returns-in_err-not_encrypted : goal.returns-in_err-not_encrypted
returns-in_err-not_encrypted c =
    let p = err_from_is_err_and c.from_residual-in_err-not_encrypted.result c.from_residual-in_err-not_encrypted.ensures.1 in
    gives_err (λ x. x) (λ x. x) c.in_err-not_encrypted.field-0.0 (part_upload c.args.bucket c.args.file c.args.length c.args.headers.now) (not_encrypted c.args.headers.now)
    (λ f is. rw (c.in_ok-number.ensures, c.in_ok-digest.ensures, is) refl) c.in_err-not_encrypted.ensures c.from_residual-in_err-not_encrypted.result (p.1 ∙ ap Err p.2)

pub returns : goal.returns
returns c = rw (c.in_ok-number.ensures, c.in_ok-digest.ensures, c.in_ok-not_encrypted.ensures) refl
