use Rattle.std.proofs.Common.{◌∙◌, ap, refl}
use Rattle.http_edge.specs.Headers.{headers_by}
use Rattle.http_edge.proofs.Heads.{parts_of, is_request, bad_length}
use Rattle.http_edge.proofs.head.read_head.Goals as goal

pub returns-in_default-body_length-clause-fault : goal.returns-in_default-body_length-clause-fault
returns-in_default-body_length-clause-fault c =
    let found = c.in-Some.ensures.head in
    let method = c.text_in-method.result.now in
    let path = c.path_and_query.result.0.now in
    let query = c.path_and_query.result.1.now in
    let parts = parts_of found.0 method c.text_in.result.now path query c.in_ok-headers.headers (c.text_in-method.ensures ∙ c.of.ensures ∙ found.2.method) (c.text_in.ensures ∙ c.of-2.ensures ∙ found.2.path)
    c.path_and_query.ensures.0 c.path_and_query.ensures.1 (c.in_ok-headers.ensures ∙ ap headers_by found.2.fields) in
    bad_length c.args.bytes.now found.0 c.in-Ok.route c.plain-in_default-body_length.result method path query c.in_ok-headers.headers found.1 parts
    (rw (c.as_bytes.ensures.value, c.as_bytes-2.ensures.value) at c.in-Ok.ensures) (rw c.in_default-body_length.is at c.body_length.ensures) c.plain-in_default-body_length.ensures

pub returns-clause-request : goal.returns-clause-request
returns-clause-request c =
    let found = c.in-Some.ensures.head in
    let method = c.text_in-method.result.now in
    let path = c.path_and_query.result.0.now in
    let query = c.path_and_query.result.1.now in
    let parts = parts_of found.0 method c.text_in.result.now path query c.in_ok-headers.headers (c.text_in-method.ensures ∙ c.of.ensures ∙ found.2.method) (c.text_in.ensures ∙ c.of-2.ensures ∙ found.2.path)
    c.path_and_query.ensures.0 c.path_and_query.ensures.1 (c.in_ok-headers.ensures ∙ ap headers_by found.2.fields) in
    is_request c.args.bytes.now found.0 c.in-Ok.route _ method path query c.in_ok-headers.headers found.1 parts
    (rw (c.as_bytes.ensures.value, c.as_bytes-2.ensures.value) at c.in-Ok.ensures) c.in-Some-body_length.ensures.0 c.in_ok-copy.ensures c.in_ok-copy-2.ensures c.in_ok-copy-3.ensures refl
    c.in-Some-body_length.ensures.1 c.asks_stay-stay.ensures
