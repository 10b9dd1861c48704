use Rattle.std.proofs.Common.{arith}
use Rattle.std.proofs.lemmas.Bool.{false≢true}
use Rattle.b2_base.proofs.IdLemmas.{one_version}
use Rattle.b2_base.proofs.file_id.FileId.read.Goals as goal

pub returns-in_default-new-2 : goal.returns-in_default-new-2
returns-in_default-new-2 c = λ bucket version small_b small_v is.
    let same = one_version c.args.bytes.now c.in-Some.bucket c.in-Some.version bucket version c.in-Some.ensures.range (omega arith) c.in-Some.ensures.id is in
    false≢true (c.in_default-new-2.ensures.in_range.1 (omega (arith, same, small_v)))
