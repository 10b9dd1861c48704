-- A head that came, and what the bytes after it make of it.
use Rattle.std.proofs.Common.{◌≡◌, ℕ, ◌<◌, ◌≤◌, Bool, true, false, cond, List, ◌++◌, length, take, drop, sym, ap, ◌∙◌, subst, append_assoc, arith}
use Rattle.std.proofs.lemmas.List.{take-append-le, drop-append-le, take-append-drop}
use Rattle.rule_table.specs.declared.fault.FaultKind.{FaultKind}
use Rattle.wire_forms.specs.declared.request.Request.{Request}
use Rattle.call_paths.specs.declared.routes.Route.{Route}
use Rattle.http_edge.specs.declared.head.Head.{Head}
use Rattle.http_edge.specs.Length.{is_upload}
use Rattle.http_edge.specs.Request.{IsRequest}
use Rattle.http_edge.specs.Received.{Received, unfinished, announced, whole, without_body, IsReceived}
use Rattle.http_edge.proofs.Fronts.{end_within, head_further}
use Rattle.http_edge.proofs.Receiving.{came_whole, came_part, whole_stays, malformed_stays}
use Rattle.conn_talk.specs.Asked.{nothing, refused, begun, complete, IsAsked}
use Rattle.conn_talk.specs.Asked.{IsRead}

pub read_more : (before : ℕ) (bytes more : List ℕ) (head : Head) (rest : List ℕ) → IsRead before bytes head rest → IsRead before (bytes ++ more) head (rest ++ more)
read_more before bytes more head rest read =
    let within = end_within bytes read.end read.cut.0 in
    let P : List ℕ → Type 0 = λ front. IsRequest front read.asked read.route in
    record {
      end = read.end;
      asked = read.asked;
      route = read.route;
      cut = head_further bytes more read.end read.cut;
      request = subst P (sym (take-append-le read.end bytes more within)) read.request;
      head_is = read.head_is;
      rest_is = ap (λ l. l ++ more) read.rest_is ∙ sym (drop-append-le read.end bytes more within);
    }

-- the head's length and its call are those of the request
length_of : (before : ℕ) (bytes : List ℕ) (head : Head) (rest : List ℕ) (read : IsRead before bytes head rest) → head.request.length ≡ read.asked.length
length_of before bytes head rest read = ap (λ (h : Head). h.request.length) read.head_is

upload_of : (before : ℕ) (bytes : List ℕ) (head : Head) (rest : List ℕ) (read : IsRead before bytes head rest) → is_upload head.route.name ≡ is_upload read.route.name
upload_of before bytes head rest read = ap (λ (h : Head). is_upload h.route.name) read.head_is

part : (before : ℕ) (bytes : List ℕ) (head : Head) (rest : List ℕ) (read : IsRead before bytes head rest) → length rest < head.request.length → IsReceived bytes (without_body read.asked read.route)
part before bytes head rest read short =
    let need = length_of before bytes head rest read in
    let size = ap length read.rest_is in came_part bytes read.end read.asked read.route read.cut read.request (omega (arith, need, size, short))

-- what a request is whose body has not come whole
abbrev pending_as : Request → Route → Bool → Received
pending_as r route t = cond t (announced r route) unfinished

pub asks_nothing : (before : ℕ) (bytes : List ℕ) (head : Head) (rest : List ℕ) → IsRead before bytes head rest → is_upload head.route.name ≡ false → length rest < head.request.length → IsAsked before bytes nothing
asks_nothing before bytes head rest read call short =
    subst (IsReceived bytes) (ap (pending_as read.asked read.route) (sym (upload_of before bytes head rest read) ∙ call)) (part before bytes head rest read short)

pub asks_begun : (before : ℕ) (bytes : List ℕ) (head : Head) (rest : List ℕ) → IsRead before bytes head rest → is_upload head.route.name ≡ true → length rest < head.request.length → IsAsked before bytes (begun head rest)
asks_begun before bytes head rest read upload short =
    let received : IsReceived bytes (announced read.asked read.route) =
    subst (IsReceived bytes) (ap (pending_as read.asked read.route) (sym (upload_of before bytes head rest read) ∙ upload)) (part before bytes head rest read short) in
    (read.asked, read.route, received, read.head_is, (read.end, read.cut, read.rest_is))

pub asks_complete : (before : ℕ) (bytes : List ℕ) (head : Head) (rest : List ℕ) → IsRead before bytes head rest → head.request.length ≤ length rest
    → IsAsked before bytes (complete head (take head.request.length rest) (drop head.request.length rest))
asks_complete before bytes head rest read fits =
    let need = length_of before bytes head rest read in
    let size = ap length read.rest_is in
    let body : take read.asked.length (drop read.end bytes) ≡ take head.request.length rest = λ i. take (sym need i) (sym read.rest_is i) in
    let received : IsReceived bytes (whole read.asked read.route (take head.request.length rest)) =
    subst (IsReceived bytes) (ap (whole read.asked read.route) body) (came_whole bytes read.end read.asked read.route read.cut read.request (omega (arith, need, size, fits))) in
    (read.asked, read.route, received, read.head_is, (read.end, read.cut, take-append-drop head.request.length rest ∙ read.rest_is))

-- more bytes after a request

pub refused_more : (before : ℕ) (bytes more : List ℕ) (kind : FaultKind) → IsAsked before bytes (refused kind) → IsAsked before (bytes ++ more) (refused kind)
refused_more before bytes more kind is = malformed_stays bytes more kind is

pub complete_more : (before : ℕ) (bytes more : List ℕ) (head : Head) (body rest : List ℕ) → IsAsked before bytes (complete head body rest) → IsAsked before (bytes ++ more) (complete head body (rest ++ more))
complete_more before bytes more head body rest (r, route, received, is, (end, cut, after)) =
    let within = end_within bytes end cut.0 in (
      r,
      route,
      whole_stays bytes more body r route received,
      is,
      (end, head_further bytes more end cut, sym (append_assoc body rest more) ∙ ap (λ l. l ++ more) after ∙ sym (drop-append-le end bytes more within)),
    )
