use Rattle.b2_base.proofs.IdLemmas.{no_pieces, other_bucket, other_version}
use Rattle.b2_base.proofs.file_id.parts.Goals as goal

pub returns-in_default-clause-id : goal.returns-in_default-clause-id
returns-in_default-clause-id c = no_pieces c.args.bytes.now c.in_default.ensures

pub returns-in_default-read_eight-clause-id : goal.returns-in_default-read_eight-clause-id
returns-in_default-read_eight-clause-id c = other_bucket c.args.bytes.now c.in-Some.bucket.now c.in-Some.version.now c.in-Some.ensures c.in_default-read_eight.ensures

pub returns-in_default-read_sixteen-clause-id : goal.returns-in_default-read_sixteen-clause-id
returns-in_default-read_sixteen-clause-id c = other_version c.args.bytes.now c.in-Some.bucket.now c.in-Some.version.now c.in-Some.ensures c.in_default-read_sixteen.ensures
