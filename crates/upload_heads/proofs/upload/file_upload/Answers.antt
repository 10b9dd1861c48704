use Rattle.std.proofs.Common.{Err, ap, ◌∙◌, codes, refl}
use Rattle.std.proofs.lemmas.Result.{err_from_is_err_and}
use Rattle.field_kinds.proofs.Handed.{gives_err}
use Rattle.upload_heads.specs.Kinds.{file_name, content_type, digest_rule, hold}
use Rattle.upload_heads.specs.Table.{needed, optional}
use Rattle.upload_heads.specs.Upload.{retention, not_encrypted, file_upload}
use Rattle.upload_heads.proofs.upload.file_upload.Goals as goal

pub returns-in_err-name : goal.returns-in_err-name
returns-in_err-name c =
    let p = err_from_is_err_and c.from_residual.result c.from_residual.ensures.1 in
    gives_err (λ x. x) (λ x. x) c.in_err-name.field-0.0 (file_upload c.args.bucket c.args.length c.args.info c.args.headers.now) (needed (codes "x-bz-file-name") file_name c.args.headers.now)
    (λ f is. rw is refl) c.in_err-name.ensures c.from_residual.result (p.1 ∙ ap Err p.2)

pub returns-in_err-kind : goal.returns-in_err-kind
returns-in_err-kind c =
    let p = err_from_is_err_and c.from_residual-in_err-kind.result c.from_residual-in_err-kind.ensures.1 in
    gives_err (λ x. x) (λ x. x) c.in_err-kind.field-0.0 (file_upload c.args.bucket c.args.length c.args.info c.args.headers.now) (needed (codes "content-type") content_type c.args.headers.now)
    (λ f is. rw (c.in_ok-name.ensures, is) refl) c.in_err-kind.ensures c.from_residual-in_err-kind.result (p.1 ∙ ap Err p.2)

pub returns-in_err-digest : goal.returns-in_err-digest
returns-in_err-digest c =
    let p = err_from_is_err_and c.from_residual-in_err-digest.result c.from_residual-in_err-digest.ensures.1 in
    gives_err (λ x. x) (λ x. x) c.in_err-digest.field-0.0 (file_upload c.args.bucket c.args.length c.args.info c.args.headers.now) (needed (codes "x-bz-content-sha1") digest_rule c.args.headers.now)
    (λ f is. rw (c.in_ok-name.ensures, c.in_ok-kind.ensures, is) refl) c.in_err-digest.ensures c.from_residual-in_err-digest.result (p.1 ∙ ap Err p.2)

pub returns-in-Err : goal.returns-in-Err
returns-in-Err c = rw (c.in_ok-name.ensures, c.in_ok-kind.ensures, c.in_ok-digest.ensures, c.in-Err.is) refl

pub returns-in_err-hold : goal.returns-in_err-hold
returns-in_err-hold c =
    let p = err_from_is_err_and c.from_residual-in_err-hold.result c.from_residual-in_err-hold.ensures.1 in
    gives_err (λ x. x) (λ x. x) c.in_err-hold.field-0.0 (file_upload c.args.bucket c.args.length c.args.info c.args.headers.now) (optional (codes "x-bz-file-legal-hold") hold c.args.headers.now)
    (λ f is. rw (c.in_ok-name.ensures, c.in_ok-kind.ensures, c.in_ok-digest.ensures, c.in-Ok.is, is) refl) c.in_err-hold.ensures c.from_residual-in_err-hold.result (p.1 ∙ ap Err p.2)

pub returns-in_err-retention : goal.returns-in_err-retention
returns-in_err-retention c =
    let p = err_from_is_err_and c.from_residual-in_err-retention.result c.from_residual-in_err-retention.ensures.1 in
    gives_err (λ x. x) (λ x. x) c.in_err-retention.field-0.0 (file_upload c.args.bucket c.args.length c.args.info c.args.headers.now) (retention c.args.headers.now)
    (λ f is. rw (c.in_ok-name.ensures, c.in_ok-kind.ensures, c.in_ok-digest.ensures, c.in-Ok.is, c.in_ok-hold.ensures, is) refl) c.in_err-retention.ensures c.from_residual-in_err-retention.result (p.1 ∙ ap Err p.2)

pub returns-in_err-not_encrypted : goal.returns-in_err-not_encrypted
returns-in_err-not_encrypted c =
    let p = err_from_is_err_and c.from_residual-in_err-not_encrypted.result c.from_residual-in_err-not_encrypted.ensures.1 in
    gives_err (λ x. x) (λ x. x) c.in_err-not_encrypted.field-0.0 (file_upload c.args.bucket c.args.length c.args.info c.args.headers.now) (not_encrypted c.args.headers.now)
    (λ f is. rw (c.in_ok-name.ensures, c.in_ok-kind.ensures, c.in_ok-digest.ensures, c.in-Ok.is, c.in_ok-hold.ensures, c.in_ok-retention.ensures, is) refl) c.in_err-not_encrypted.ensures c.from_residual-in_err-not_encrypted.result (p.1 ∙ ap Err p.2)

pub returns : goal.returns
returns c = rw (c.in_ok-name.ensures, c.in_ok-kind.ensures, c.in_ok-digest.ensures, c.in-Ok.is, c.in_ok-hold.ensures, c.in_ok-retention.ensures, c.in_ok-not_encrypted.ensures, c.into_text.ensures, c.unwrap_or.ensures) refl
