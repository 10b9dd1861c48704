use Rattle.name_rules.proofs.Ascii.{name_is_text, ok_if}
use Rattle.name_rules.proofs.bucket.bucket_name.Goals as goal

pub unwrap-text-requires : goal.unwrap-text-requires
unwrap-text-requires c = ok_if c.from_utf8.result _ _ c.from_utf8.ensures.cases (name_is_text c.args.bytes.now c.in_default.ensures)
