use Rattle.std.proofs.Common.{ap, ◌∙◌}
use Rattle.workload.proofs.Sizes.{post_of}
use Rattle.workload.proofs.texts.post.Goals as goal

pub returns-clause-bytes : goal.returns-clause-bytes
returns-clause-bytes c = c.in_ok-bytes.ensures ∙ ap (λ digits. post_of c.args.call.now digits c.args.body.now) (c.as_bytes-length.ensures.value ∙ c.format.ensures.text)
