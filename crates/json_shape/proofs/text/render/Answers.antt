use Rattle.std.proofs.Common.{ap, ◌∙◌, subst, sym}
use Rattle.std.specs.Str.{IsUtf8}
use Rattle.std.proofs.lemmas.Str.{IsUtf8-string_bytes}
use Rattle.serde_json.specs.Read.{read}
use Rattle.json_shape.proofs.text.render.Goals as goal

pub returns-clause-back : goal.returns-clause-back
returns-clause-back c shallow = record { text = subst IsUtf8 (sym c.of.ensures) (IsUtf8-string_bytes c.in_ok-to_string.field-0); is = ap read c.of.ensures ∙ c.in_ok-to_string.ensures.reads_back shallow }
