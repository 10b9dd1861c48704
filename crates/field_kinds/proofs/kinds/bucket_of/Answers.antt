use Rattle.std.proofs.Common.{◌≡◌, ℕ, List, subst}
use Rattle.field_kinds.specs.Spelled.{bucket_of}
use Rattle.field_kinds.proofs.Spelled.{bucket_read}
use Rattle.field_kinds.proofs.kinds.bucket_of.Goals as goal

pub returns : goal.returns
returns c =
    let same : List ℕ → Type 0 = λ t. c.read.result ≡ bucket_of t in
    subst same c.as_bytes.ensures.value (bucket_read c.as_bytes.result.now c.read.result c.read.ensures.id c.read.ensures.range)
