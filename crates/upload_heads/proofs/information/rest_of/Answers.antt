use Rattle.std.proofs.Common.{◌-◌, length}
use Rattle.upload_heads.proofs.Names.{rest_text}
use Rattle.upload_heads.proofs.information.rest_of.Goals as goal

pub unreachable-requires : goal.unreachable-requires
unreachable-requires c =
    c.in_default.ensures.cases.0
    (rest_text c.args.count (length c.as_bytes.result.now - c.args.count) c.as_bytes.result.now c.args.name.now c.as_bytes.ensures.value c.as_bytes.ensures.valid)
