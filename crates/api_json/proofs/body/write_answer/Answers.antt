use Rattle.std.proofs.Common.{◌∙◌, ap}
use Rattle.serde_json.specs.Written.{compact_text, has_float}
use Rattle.api_json.proofs.Plain.{body_plain}
use Rattle.api_json.proofs.body.write_answer.Goals as goal

pub returns : goal.returns
returns c = c.in_ok-text.ensures.text (ap has_float c.in_ok-value.ensures ∙ body_plain c.args.shown.now) ∙ ap compact_text c.in_ok-value.ensures
