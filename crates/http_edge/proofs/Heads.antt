-- What a head says.
use Rattle.std.proofs.Common.{◌≡◌, ℕ, true, false, List, refl, sym, ap, ◌∙◌, subst, ◌==◌}
use Rattle.std.specs.List.{before_first, after_first}
use Rattle.httparse.specs.Grammar.{RequestHead}
use Rattle.http_header.specs.FieldValue.{FieldValue}
use Rattle.http_header.specs.HeaderMap.{Entries}
use Rattle.rule_table.specs.declared.fault.FaultKind.TheVariants.{BadLength}
use Rattle.b2_types.specs.declared.fault.Fault.{Fault}
use Rattle.b2_types.specs.Fault.{plain}
use Rattle.wire_forms.specs.declared.request.Request.{Request}
use Rattle.call_paths.specs.declared.routes.Route.{Route}
use Rattle.call_paths.specs.Path.{IsRouted}
use Rattle.http_edge.specs.Headers.{IsHead, path_of, query_of, headers_of}
use Rattle.http_edge.specs.Length.{lengths, told_length, is_bad_length}
use Rattle.http_edge.specs.Stay.{asks_stay}
use Rattle.http_edge.specs.Request.{IsRequest, IsHeadFault}
use Rattle.http_edge.specs.Steps.{IsFaultOf}

-- these are the parts of the head
pub record HasParts (h : RequestHead) (method path query : List ℕ) (headers : Entries FieldValue) : Type 0 where
  pub method_is : method ≡ h.method
  pub path_is : path ≡ path_of h
  pub query_is : query ≡ query_of h
  pub headers_is : headers ≡ headers_of h

pub parts_of : (h : RequestHead) (method target path query : List ℕ) (headers : Entries FieldValue) → method ≡ h.method → target ≡ h.target → path ≡ before_first (λ b. b == 63) target → query ≡ after_first (λ b. b == 63) target → headers ≡ headers_of h
    → HasParts h method path query headers
parts_of h method target path query headers is_method is_target is_path is_query is_headers = record {
  method_is = is_method;
  path_is = is_path ∙ ap (before_first (λ b. b == 63)) is_target;
  query_is = is_query ∙ ap (after_first (λ b. b == 63)) is_target;
  headers_is = is_headers;
}

routed : (h : RequestHead) (route : Route) (method path query : List ℕ) (headers : Entries FieldValue) → HasParts h method path query headers → IsRouted method path route → IsRouted h.method (path_of h) route
routed h route method path query headers parts is =
    let by_method : List ℕ → Type 0 = λ x. IsRouted x path route in
    let by_path : List ℕ → Type 0 = λ x. IsRouted h.method x route in
    subst by_path parts.path_is (subst by_method parts.method_is is)

pub is_request : (bytes : List ℕ) (h : RequestHead) (route : Route) (r : Request) (method path query : List ℕ) (headers : Entries FieldValue) → IsHead bytes h → HasParts h method path query headers → IsRouted method path route
    → is_bad_length route.name headers ≡ false → r.method ≡ method → r.path ≡ path → r.query ≡ query → r.headers ≡ headers → r.length ≡ told_length (lengths headers) → r.stay ≡ asks_stay headers → IsRequest bytes r route
is_request bytes h route r method path query headers head parts is fits is_method is_path is_query is_headers is_length is_stay =
    let m = is_method ∙ parts.method_is in
    let p = is_path ∙ parts.path_is in
    let q = is_query ∙ parts.query_is in
    let hs = is_headers ∙ parts.headers_is in
    let n = is_length ∙ ap (λ x. told_length (lengths x)) parts.headers_is in
    let s = is_stay ∙ ap asks_stay parts.headers_is in (
      h,
      head,
      (routed h route method path query headers parts is, sym (ap (is_bad_length route.name) parts.headers_is) ∙ fits),
      λ i. record { method = m i; path = p i; query = q i; headers = hs i; length = n i; stay = s i },
    )

pub bad_length : (bytes : List ℕ) (h : RequestHead) (route : Route) (fault : Fault) (method path query : List ℕ) (headers : Entries FieldValue) → IsHead bytes h → HasParts h method path query headers → IsRouted method path route
    → is_bad_length route.name headers ≡ true → fault ≡ plain BadLength → IsFaultOf (IsHeadFault bytes) fault
bad_length bytes h route fault method path query headers head parts is amiss told =
    let bad : IsHeadFault bytes BadLength = (h, head, (route, routed h route method path query headers parts is, sym (ap (is_bad_length route.name) parts.headers_is) ∙ amiss)) in
    subst (IsFaultOf (IsHeadFault bytes)) (sym told) (refl, bad)
