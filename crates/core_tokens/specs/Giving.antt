-- What calls that give a token come to.
use Rattle.std.specs.Prelude.{◌≡◌, ℕ, true, false, [], List, Option, drop}
use Rattle.b2_base.specs.declared.extent.Extent.{Extent}
use Rattle.rule_table.specs.declared.fault.FaultKind.TheVariants.{Cap}
use Rattle.b2_types.specs.declared.answer.AnswerOf.TheVariants as answer
use Rattle.b2_types.specs.declared.call.Call.{Call}
use Rattle.b2_types.specs.declared.kinds.TokenKind.{TokenKind}
use Rattle.b2_types.specs.declared.shown.Shown.{Shown}
use Rattle.b2_types.specs.Fault.{plain}
use Rattle.b2_model.specs.Ask.{ask, at_moment}
use Rattle.b2_model.specs.Kinds.{day, later}
use Rattle.b2_model.specs.Plan.{new_token, no_serial}
use Rattle.b2_model.specs.State.{State}
use Rattle.auth_grants.specs.declared.grants.Terms.{Terms}
use Rattle.core_state.specs.GivenTokens.{with_token}
use Rattle.core_decisions.specs.Decided.{Copies, answering, at_extents}

-- Nothing but the want of a serial refuses the call. Where one is left it gives a token for these terms,
-- with the next two words, and shows this of the token's text.
unfoldable pub IsGiving : State Extent → ℕ → Option (List ℕ) → Call → Terms → (List ℕ → Shown) → Type 0
IsGiving M t token c terms shows = (copy : Copies) (words : List ℕ)
    → ((no_serial M).fails ≡ false
    → ask (at_extents copy) M t words token c ≡ answering (with_token M t (new_token M words) terms) (answer.Json (shows (new_token M words))) (drop 2 words))
    × ((no_serial M).fails ≡ true → ask (at_extents copy) M t words token c ≡ answering (at_moment M t) (answer.Refused (plain Cap)) words)

-- what a token is given for that is good for a day
abbrev pub day_terms : ℕ → TokenKind → ℕ → ℕ → ℕ → Terms
day_terms t kind key bucket file = record { kind = kind; key = key; bucket = bucket; file = file; prefix = []; end = later t day }
