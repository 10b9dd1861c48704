use Rattle.std.proofs.Common.{◌∙◌, ap}
use Rattle.name_rules.specs.Escape.{encoded_name}
use Rattle.std.specs.List.{flat_map}
use Rattle.http_edge.specs.Reply.{info_header}
use Rattle.http_edge.proofs.Texts.{file_text}
use Rattle.std.specs.String.{string_bytes}
use Rattle.http_edge.proofs.content.file_lines.Goals as goal

pub returns : goal.returns
returns c =
    c.in_ok-format.ensures.ok
    ∙ file_text c.args.file.now c.get-id.result.now c.get-name.result.now c.get-digest.result.now (string_bytes c.in_ok-info.info) c.get-stamp.result
    (c.get-id.ensures ∙ c.in_ok-id.ensures) (c.get-name.ensures ∙ c.in_ok-name.ensures ∙ ap encoded_name c.get.ensures) (c.get-digest.ensures ∙ c.in_ok-digest.ensures) (c.in_ok-info.ensures ∙ ap (flat_map info_header) c.get-2.ensures) c.get-stamp.ensures.value
