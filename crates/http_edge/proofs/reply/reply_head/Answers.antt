use Rattle.std.proofs.Common.{◌∙◌}
use Rattle.std.specs.String.{string_bytes}
use Rattle.http_edge.proofs.Texts.{head_text}
use Rattle.http_edge.proofs.reply.reply_head.Goals as goal

pub returns : goal.returns
returns g c =
    c.of.ensures ∙ c.in_ok-head.ensures.ok
    ∙ head_text c.args.answer.now c.args.len c.args.stay (string_bytes c.in_ok-status.status) (string_bytes c.in_ok-body.body) c.option_text-option.result.now c.in_ok-status.ensures c.in_ok-body.ensures c.option_text-option.ensures
