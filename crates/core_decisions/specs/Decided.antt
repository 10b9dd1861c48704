-- What a call comes to on a state, as the version machine has it.
use Rattle.std.specs.Prelude.{◌≡◌, ⊤, ℕ, List, [], Option, Some, None}
use Rattle.b2_base.specs.declared.extent.Extent.{Extent}
use Rattle.b2_types.specs.declared.answer.AnswerOf.{AnswerOf}
use Rattle.b2_types.specs.declared.call.Call.{Call}
use Rattle.b2_types.specs.declared.call.Call.TheVariants as call
use Rattle.b2_model.specs.Body.{Body}
use Rattle.b2_model.specs.State.{State, Pieces}
use Rattle.b2_model.specs.Changes.{after_record}
use Rattle.b2_model.specs.Ask.{Outcome, ask, at_moment}
use Rattle.sound_states.specs.Sound.{IsSound}
use Rattle.sound_steps.specs.FitSteps.{Applies, IsFitCall}
use Rattle.contents_agree.specs.ContentsOf.{brought}
use Rattle.new_versions.specs.Decided.{extent_len}
use Rattle.core_decisions.specs.declared.decision.Decision.{Decision}
use Rattle.core_decisions.specs.declared.decision.Decision.TheVariants as decision

-- contents at extents, of which copies are made so
abbrev pub Copies : Type 0
Copies = List Extent → ℕ → ℕ → Body Extent

abbrev pub at_extents : Copies → Pieces Extent
at_extents copy = record { size = extent_len; copy = copy }

-- the state's moment alone moves where nothing is written
abbrev pub outcome : State Extent → ℕ → List ℕ → Decision → Outcome Extent
outcome M t words (decision.Reply told) = record { state = at_moment M t; answer = told; words = words }
outcome M t words (decision.Write r told) = record { state = after_record (at_moment M t) r; answer = told; words = words }

-- it copies nothing
abbrev pub IsNoCopy : Call → Type 0
IsNoCopy (call.CopyFile c) = ⊥
IsNoCopy (call.CopyPart c) = ⊥
IsNoCopy other = ⊤

-- What is written applies to the state, and is such as a record may tell, where the state is sound and the
-- lifecycle rules of the call are such as a bucket may have. It brings no content where the call copies none.
abbrev pub IsWritable : State Extent → Call → Decision → Type 0
IsWritable M c (decision.Reply told) = ⊤
IsWritable M c (decision.Write r told) = (IsSound M → IsFitCall c → Applies M (Some r.change)) × (IsNoCopy c → brought r.change ≡ [])

-- the machine does and answers just so, and draws no random word
unfoldable pub IsDecision : State Extent → ℕ → Option (List ℕ) → Call → Decision → Type 0
IsDecision M t token c d = IsWritable M c d × ((copy : Copies) (words : List ℕ) → ask (at_extents copy) M t words token c ≡ outcome M t words d)

-- ---- with random words

-- the words of a giver, and those that are left: where it tells the words ahead, they are these
abbrev pub AreWords : Option (List ℕ) → Option (List ℕ) → List ℕ → List ℕ → Type 0
AreWords None left words rest = ⊤
AreWords (Some ahead) None words rest = ⊥
AreWords (Some ahead) (Some told) words rest = (words ≡ ahead) × (rest ≡ told)

-- the machine makes this of the giver's words, and of those that are left
unfoldable pub ComesTo : State Extent → ℕ → Option (List ℕ) → Call → Option (List ℕ) → Option (List ℕ) → (List ℕ → Outcome Extent) → Type 0
ComesTo M t token c ahead left made =
    (words : List ℕ) × (rest : List ℕ) × AreWords ahead left words rest × ((copy : Copies) → ask (at_extents copy) M t words token c ≡ made rest)

-- it does and answers just so
abbrev pub IsDrawn : State Extent → ℕ → Option (List ℕ) → Call → Option (List ℕ) → Option (List ℕ) → Decision → Type 0
IsDrawn M t token c ahead left d = IsWritable M c d × ComesTo M t token c ahead left (λ rest. outcome M t rest d)

-- this is the state after it, and its answer
abbrev pub answering : State Extent → AnswerOf Extent → List ℕ → Outcome Extent
answering N told rest = record { state = N; answer = told; words = rest }

abbrev pub IsAnswer : State Extent → ℕ → Option (List ℕ) → Call → Option (List ℕ) → Option (List ℕ) → State Extent → AnswerOf Extent → Type 0
IsAnswer M t token c ahead left N told = ComesTo M t token c ahead left (answering N told)
