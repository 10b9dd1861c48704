use Rattle.request_laws.proofs.Routed.{target_named, asks_no_upload, asks_no_call}
use Rattle.request_laws.proofs.routes_tell_uploads.Goals as goal

pub returns-clause-target : goal.returns-clause-target
returns-clause-target c = target_named

pub returns-clause-call : goal.returns-clause-call
returns-clause-call c = asks_no_upload

pub returns-clause-upload : goal.returns-clause-upload
returns-clause-upload c = asks_no_call
