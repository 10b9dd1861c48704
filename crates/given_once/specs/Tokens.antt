-- Tokens that steps give.
use Rattle.std.specs.Prelude.{Option, Some, None}
use Rattle.b2_types.specs.declared.fault.Fault.{Fault}
use Rattle.b2_types.specs.declared.key.Grant.{Grant}
use Rattle.b2_model.specs.Checks.{first_fault}
use Rattle.b2_model.specs.State.{Pieces}
use Rattle.b2_model.specs.Ask.{plan_of, refusals_of}
use Rattle.b2_model.specs.Run.{Step, asks, begins, ends, loses, passes, restarts, Progress, moment, start_of}

-- what comes of a call that is not refused
abbrev pub unless_refused : {X : Type 0} → Option Fault → Option X → Option X
unless_refused None x = x
unless_refused (Some fault) x = None

-- the token that a step gives
abbrev pub token_given : {C : Type 0} → Pieces C → Progress C → Step C → Option Grant
token_given K P (asks reading token c) =
    unless_refused
    (first_fault (refusals_of K (start_of P reading) (moment P.state reading) P.words token c))
    (plan_of K (start_of P reading) (moment P.state reading) P.words token c).grant
token_given K P (begins reading conn token u) = None
token_given K P (ends reading conn body) = None
token_given K P (loses reading conn) = None
token_given K P (passes reading) = None
token_given K P (restarts reading) = None
