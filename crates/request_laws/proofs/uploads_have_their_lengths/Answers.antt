use Rattle.request_laws.proofs.UploadLengths.{upload_length}
use Rattle.request_laws.proofs.uploads_have_their_lengths.Goals as goal

pub returns : goal.returns
returns c = upload_length
