use Rattle.httparse.specs.Spans.{IsRequestOf}
use Rattle.std.proofs.Common.{rules, subst, sym, take, List, ℕ}
use Rattle.std.specs.Str.{IsUtf8}
use Rattle.http_edge.proofs.Clean.{clean_spans, token_text}
use Rattle.http_edge.proofs.head.whole_request.Goals as goal

pub returns-in-Ok-Complete-clause-clean : goal.returns-in-Ok-Complete-clause-clean
returns-in-Ok-Complete-clause-clean c =
    let is : IsRequestOf c.args.bytes.now c.parse_request.new.headers c.in-Ok-Complete.spans = search rules in
    clean_spans c.args.bytes.now (take c.in-Ok-Complete.spans.headers c.parse_request.new.headers) is.0.fields is.1.fields is.1.reads.0.fields

pub returns-in-Ok-Complete-clause-method_text : goal.returns-in-Ok-Complete-clause-method_text
returns-in-Ok-Complete-clause-method_text c =
    let is : IsRequestOf c.args.bytes.now c.parse_request.new.headers c.in-Ok-Complete.spans = search rules in
    let P : List ℕ → Type 0 = IsUtf8 in subst P (sym is.1.method) (token_text is.0.method is.1.reads.0.method)
