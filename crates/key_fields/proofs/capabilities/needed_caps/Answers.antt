use Rattle.std.proofs.Common.{codes, Err, sym, ap, ◌∙◌}
use Rattle.std.proofs.lemmas.Result.{err_from_is_err_and}
use Rattle.serde_json.specs.View.{view}
use Rattle.field_kinds.specs.Kinds.{text, list_of}
use Rattle.field_kinds.specs.Reader.{needed, or_wrong}
use Rattle.key_fields.specs.Capabilities.{caps_of, capabilities}
use Rattle.field_kinds.proofs.Handed.{gives_err}
use Rattle.key_fields.proofs.Narrow.{needed_err, needed_ok}
use Rattle.key_fields.proofs.capabilities.needed_caps.Goals as goal

pub returns-in_err-names : goal.returns-in_err-names
returns-in_err-names c =
    let d = view c.args.body.now in
    let p = err_from_is_err_and c.from_residual.result c.from_residual.ensures.1 in
    gives_err (λ c. c) (λ x. x) c.in_err-names.field-0.0 (needed (codes "capabilities") capabilities d) (needed (codes "capabilities") (list_of text) d)
    (λ f is. needed_err (codes "capabilities") (list_of text) caps_of d f is) c.in_err-names.ensures c.from_residual.result (p.1 ∙ ap Err p.2)

pub returns-in-Some : goal.returns-in-Some
returns-in-Some c =
    let read = needed_ok (codes "capabilities") (list_of text) caps_of (view c.args.body.now) c.in_ok-names.names c.in_ok-names.ensures in
    read ∙ ap (or_wrong (codes "capabilities")) (ap caps_of (sym c.get.ensures) ∙ sym c.caps_of.ensures ∙ c.in-Some.is)

pub returns : goal.returns
returns c =
    let read = needed_ok (codes "capabilities") (list_of text) caps_of (view c.args.body.now) c.in_ok-names.names c.in_ok-names.ensures in
    read ∙ ap (or_wrong (codes "capabilities")) (ap caps_of (sym c.get.ensures) ∙ sym c.caps_of.ensures ∙ c.in-None.is) ∙ ap Err (sym c.in_ok-wrong-in-None.ensures)
