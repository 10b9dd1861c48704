use Rattle.std.proofs.Common.{ap, ◌∙◌}
use Rattle.name_rules.specs.Escape.{encoded_name}
use Rattle.name_rules.proofs.Escapes.{percent_encode-is}
use Rattle.name_rules.proofs.escape.encode_text.Goals as goal

pub returns : goal.returns
returns c = rw (c.of.ensures, c.in_ok-append_to.ensures.ok, c.new-encoded.ensures.bytes, c.percent_encode.ensures.text) (percent_encode-is c.as_bytes.result.now ∙ ap encoded_name (c.as_bytes.ensures.value))
