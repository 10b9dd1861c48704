-- Bytes come to one thing.
use Rattle.std.proofs.Common.{◌≡◌, ℕ, ◌⊎◌, inl, inr, List, [], take, drop, refl, sym, ap, ◌∙◌, subst}
use Rattle.std.proofs.lemmas.Bool.{false≢true}
use Rattle.httparse.specs.Grammar.{RequestHead}
use Rattle.httparse.proofs.GrammarLemmas.{request_unique}
use Rattle.rule_table.specs.declared.fault.FaultKind.{FaultKind}
use Rattle.rule_table.specs.declared.fault.FaultKind.TheVariants.{BadHead, BadLength}
use Rattle.wire_forms.specs.declared.request.Request.{Request}
use Rattle.call_paths.specs.declared.routes.Route.{Route}
use Rattle.call_paths.specs.Path.{IsRouted, IsRouteFault}
use Rattle.call_paths.proofs.Routing.{one_route, one_fault, routed_or_not}
use Rattle.http_edge.specs.declared.cut.Cut.{Cut}
use Rattle.http_edge.specs.declared.cut.Cut.TheVariants.{Head, NotYet, TooLong}
use Rattle.http_edge.specs.Headers.{IsHead, path_of, headers_of}
use Rattle.http_edge.specs.Length.{is_bad_length}
use Rattle.http_edge.specs.Request.{request_of, IsRequest, IsHeadFault}
use Rattle.http_edge.specs.Received.{Received, malformed, with_body, IsReadAs, IsCutTo, IsReceived}
use Rattle.http_edge.proofs.Fronts.{one_cut}

one_head : (bytes : List ℕ) (h k : RequestHead) → IsHead bytes h → IsHead bytes k → h ≡ k
one_head bytes h k first second = (request_unique bytes h k [] [] first.0 second.0).0

pub one_request : (bytes : List ℕ) (r q : Request) (a b : Route) → IsRequest bytes r a → IsRequest bytes q b → (r ≡ q) × (a ≡ b)
one_request bytes r q a b (h, head, (routed, fits), is) (k, other, (also, too), same) =
    let heads = one_head bytes h k head other in
    let P : RequestHead → Type 0 = λ x. IsRouted x.method (path_of x) a in
    (is ∙ ap request_of heads ∙ sym same, one_route k.method (path_of k) a b (subst P heads routed) also)

-- ---- faults

-- a fault of the route, in the head that the bytes are
abbrev IsLost : List ℕ → FaultKind → Type 0
IsLost bytes kind = (h : RequestHead) × IsHead bytes h × IsRouteFault h.method (path_of h) kind

pub lost : (bytes : List ℕ) (kind : FaultKind) → IsLost bytes kind → IsHeadFault bytes kind
lost bytes BadHead (h, head, fault) = absurd fault
lost bytes BadLength (h, head, fault) = absurd fault
lost bytes other fault = fault

-- a fault is the head's, the length's or the route's
abbrev Cause : List ℕ → FaultKind → Type 0
Cause bytes kind = ((kind ≡ BadHead) × IsHeadFault bytes BadHead) ⊎ ((kind ≡ BadLength) × IsHeadFault bytes BadLength) ⊎ IsLost bytes kind

cause : (bytes : List ℕ) (kind : FaultKind) → IsHeadFault bytes kind → Cause bytes kind
cause bytes BadHead fault = inl (refl, fault)
cause bytes BadLength fault = inr (inl (refl, fault))
cause bytes other fault = inr (inr fault)

lost_once : (bytes : List ℕ) (a b : FaultKind) → IsLost bytes a → IsLost bytes b → a ≡ b
lost_once bytes a b (h, head, first) (k, other, second) =
    let P : RequestHead → Type 0 = λ x. IsRouteFault x.method (path_of x) a in
    one_fault k.method (path_of k) a b (subst P (one_head bytes h k head other) first) second

bad_or_lost : (bytes : List ℕ) (kind : FaultKind) → IsHeadFault bytes BadLength → IsLost bytes kind → ⊥
bad_or_lost bytes kind (h, head, (route, routed, bad)) (k, other, fault) =
    let P : RequestHead → Type 0 = λ x. IsRouted x.method (path_of x) route in
    routed_or_not k.method (path_of k) route kind (subst P (one_head bytes h k head other) routed) fault

one_cause : (bytes : List ℕ) (a b : FaultKind) → Cause bytes a → Cause bytes b → a ≡ b
one_cause bytes a b (inl (is, none)) (inl (also, too)) = is ∙ sym also
one_cause bytes a b (inl (is, none)) (inr (inl (also, (h, head, bad)))) = absurd (none (h, head))
one_cause bytes a b (inl (is, none)) (inr (inr (h, head, fault))) = absurd (none (h, head))
one_cause bytes a b (inr (inl (is, (h, head, bad)))) (inl (also, none)) = absurd (none (h, head))
one_cause bytes a b (inr (inl (is, bad))) (inr (inl (also, too))) = is ∙ sym also
one_cause bytes a b (inr (inl (is, bad))) (inr (inr fault)) = absurd (bad_or_lost bytes b bad fault)
one_cause bytes a b (inr (inr (h, head, fault))) (inl (also, none)) = absurd (none (h, head))
one_cause bytes a b (inr (inr fault)) (inr (inl (also, bad))) = absurd (bad_or_lost bytes a bad fault)
one_cause bytes a b (inr (inr first)) (inr (inr second)) = lost_once bytes a b first second

pub one_head_fault : (bytes : List ℕ) (a b : FaultKind) → IsHeadFault bytes a → IsHeadFault bytes b → a ≡ b
one_head_fault bytes a b first second = one_cause bytes a b (cause bytes a first) (cause bytes b second)

no_cause : (bytes : List ℕ) (r : Request) (a : Route) (kind : FaultKind) → IsRequest bytes r a → Cause bytes kind → ⊥
no_cause bytes r a kind (h, head, for, is) (inl (same, none)) = none (h, head)
no_cause bytes r a kind (h, head, (routed, fits), is) (inr (inl (same, (k, other, (route, also, bad))))) =
    let heads = one_head bytes h k head other in
    let P : RequestHead → Type 0 = λ x. IsRouted x.method (path_of x) a in
    let routes : a ≡ route = one_route k.method (path_of k) a route (subst P heads routed) also in
    false≢true (sym fits ∙ (λ i. is_bad_length (routes i).name (headers_of (heads i))) ∙ bad)
no_cause bytes r a kind (h, head, (routed, fits), is) (inr (inr (k, other, fault))) =
    let P : RequestHead → Type 0 = λ x. IsRouted x.method (path_of x) a in
    routed_or_not k.method (path_of k) a kind (subst P (one_head bytes h k head other) routed) fault

pub request_or_fault : (bytes : List ℕ) (r : Request) (a : Route) (kind : FaultKind) → IsRequest bytes r a → IsHeadFault bytes kind → ⊥
request_or_fault bytes r a kind is fault = no_cause bytes r a kind is (cause bytes kind fault)

-- ---- what the bytes come to

read_once : (bytes rest : List ℕ) (a b : Received) → IsReadAs bytes rest a → IsReadAs bytes rest b → a ≡ b
read_once bytes rest a b (inl (kind, fault, is)) (inl (other, also, same)) = is ∙ ap malformed (one_head_fault bytes kind other fault also) ∙ sym same
read_once bytes rest a b (inl (kind, fault, is)) (inr (r, route, request, same)) = absurd (request_or_fault bytes r route kind request fault)
read_once bytes rest a b (inr (r, route, request, is)) (inl (kind, fault, same)) = absurd (request_or_fault bytes r route kind request fault)
read_once bytes rest a b (inr (r, route, request, is)) (inr (q, other, also, same)) =
    let one = one_request bytes r q route other request also in is ∙ (λ i. with_body (one.0 i) (one.1 i) rest) ∙ sym same

cut_once : (bytes : List ℕ) (cut : Cut) (a b : Received) → IsCutTo bytes cut a → IsCutTo bytes cut b → a ≡ b
cut_once bytes (Head end) a b first second = read_once (take end bytes) (drop end bytes) a b first second
cut_once bytes NotYet a b first second = first ∙ sym second
cut_once bytes TooLong a b first second = first ∙ sym second

pub one_received : (bytes : List ℕ) (a b : Received) → IsReceived bytes a → IsReceived bytes b → a ≡ b
one_received bytes a b (cut, is, to) (other, also, too) =
    let by_cut : Cut → Type 0 = λ c. IsCutTo bytes c a in
    cut_once bytes other a b (subst by_cut (one_cut bytes cut other is also) to) too
