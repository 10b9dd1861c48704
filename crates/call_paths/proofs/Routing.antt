-- A request is for one call, or there is one reason why it is for none.
use Rattle.std.proofs.Common.{◌≡◌, ℕ, true, List, refl, sym, ap, ◌∙◌}
use Rattle.std.proofs.lemmas.Bool.{false≢true}
use Rattle.rule_table.specs.declared.fault.FaultKind.{FaultKind}
use Rattle.rule_table.specs.declared.fault.FaultKind.TheVariants.{NoCall, BadMethod}
use Rattle.call_paths.specs.declared.routes.Route.{Route}
use Rattle.call_paths.specs.Path.{takes, serves, IsRouted, IsRouteFault}
use Rattle.call_paths.proofs.Paths.{one_path}

pub one_route : (method path : List ℕ) (a b : Route) → IsRouted method path a → IsRouted method path b → a ≡ b
one_route method path a b first second = one_path path a b first.path_is second.path_is

pub routed_or_not : (method path : List ℕ) (route : Route) (kind : FaultKind) → IsRouted method path route → IsRouteFault method path kind → ⊥
routed_or_not method path route NoCall is none = false≢true (sym (none route is.path_is) ∙ is.served)
routed_or_not method path route BadMethod is (other, path_is, served, refused) =
    let same : other ≡ route = one_path path other route path_is is.path_is in false≢true (sym refused ∙ ap (λ r. takes r.name method) same ∙ is.taken)
routed_or_not method path route kind is none = absurd none

pub one_fault : (method path : List ℕ) (a b : FaultKind) → IsRouteFault method path a → IsRouteFault method path b → a ≡ b
one_fault method path NoCall NoCall first second = refl
one_fault method path NoCall BadMethod first (route, path_is, served, refused) = absurd (false≢true (sym (first route path_is) ∙ served))
one_fault method path BadMethod NoCall (route, path_is, served, refused) second = absurd (false≢true (sym (second route path_is) ∙ served))
one_fault method path BadMethod BadMethod first second = refl
one_fault method path NoCall b first second = absurd second
one_fault method path BadMethod b first second = absurd second
one_fault method path a b first second = absurd first
