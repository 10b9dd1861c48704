use Rattle.std.proofs.Common.{◌≡◌, ◌==◌, not, List, find, filter, subst, ap, ◌∙◌}
use Rattle.b2_types.specs.declared.key.Flight.{Flight}
use Rattle.core_state.specs.Uploads.{left_by}
use Rattle.core_state.specs.declared.parts.Parts.{Parts}
use Rattle.core_state.proofs.UnderWay.{vacated}
use Rattle.core_state.proofs.state.Core.vacate.Goals as goal

pub invariant_of-result : goal.invariant_of-result
invariant_of-result c =
    let p = c.self.inside.parts in
    let with_flights : List Flight → Parts = λ fs. record p { now = c.args.t; tokens = c.leave.new.tokens; flights = fs } in
    let flights = subst (λ n. c.remove-flight.new.self ≡ filter (λ f. not (f.conn == n)) p.flights) c.get.ensures c.remove-flight.ensures.left in
    let found = subst (λ n. c.remove-flight.result ≡ find (λ f. f.conn == n) p.flights) c.get.ensures c.remove-flight.ensures.value in
    (vacated p (with_flights c.remove-flight.new.self) c.args.self c.args.t c.args.conn c.remove-flight.result c.leave.new.tokens c.self.view_is c.self.invariant c.requires.later found
    (c.leave.ensures ∙ ap (λ o. left_by o p.tokens) c.as_ref.ensures.value) (ap with_flights flights)).whole

pub returns : goal.returns
returns c =
    let p = c.self.inside.parts in
    let with_flights : List Flight → Parts = λ fs. record p { now = c.args.t; tokens = c.leave.new.tokens; flights = fs } in
    let flights = subst (λ n. c.remove-flight.new.self ≡ filter (λ f. not (f.conn == n)) p.flights) c.get.ensures c.remove-flight.ensures.left in
    let found = subst (λ n. c.remove-flight.result ≡ find (λ f. f.conn == n) p.flights) c.get.ensures c.remove-flight.ensures.value in
    (vacated p (with_flights c.remove-flight.new.self) c.args.self c.args.t c.args.conn c.remove-flight.result c.leave.new.tokens c.self.view_is c.self.invariant c.requires.later found
    (c.leave.ensures ∙ ap (λ o. left_by o p.tokens) c.as_ref.ensures.value) (ap with_flights flights)).state
