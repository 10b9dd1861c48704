use Rattle.std.proofs.Common.{sym, ap, ◌∙◌}
use Rattle.call_paths.proofs.Reading.{no_path, no_parts}
use Rattle.call_paths.proofs.read.read_path.Goals as goal

pub returns-else-is_some : goal.returns-else-is_some
returns-else-is_some c =
    no_path c.args.path.now (rw c.in_default.is at c.name_path.ensures) (rw c.in_default-upload_target.is at c.upload_target.ensures) (rw c.in_default-part_target.is at c.part_target.ensures) (no_parts c.args.path.now c.download_parts.result c.download_parts.ensures (sym c.is_some.ensures ∙ c.if-is_some.false))
