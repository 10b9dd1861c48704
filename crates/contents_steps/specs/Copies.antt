-- The contents that a step brings, and maps between contents that go along with it.
use Rattle.std.specs.Prelude.{◌≡◌, ⊤, List, [], ◌∷◌, Option, None, option_map}
use Rattle.b2_types.specs.declared.call.Call.{Call}
use Rattle.b2_types.specs.declared.call.Call.TheVariants as call
use Rattle.b2_model.specs.Body.{Body}
use Rattle.b2_model.specs.State.{State, Pieces}
use Rattle.b2_model.specs.Rows.{version_at}
use Rattle.b2_model.specs.Policy.{items}
use Rattle.b2_model.specs.AskCopies.{copy_body}
use Rattle.b2_model.specs.Contents.{state_by, body_by}
use Rattle.b2_model.specs.Run.{Step, asks, ends, Progress, start_of}

-- the copy that a call makes of what stands
abbrev pub copy_made : {C : Type 0} → Pieces C → State C → Call → Option (Body C)
copy_made P M (call.CopyFile c) = option_map (λ v. copy_body P v c.range) (version_at M c.source.bucket c.source.num)
copy_made P M (call.CopyPart c) = option_map (λ v. copy_body P v c.range) (version_at M c.source.bucket c.source.num)
copy_made P M other = None

-- the contents that come with a step
abbrev pub brought_by : {C : Type 0} → Pieces C → Progress C → Step C → List C
brought_by P R (asks reading token c) = items (option_map (λ b. b.content) (copy_made P (start_of R reading) c))
brought_by P R (ends reading conn body) = body.content ∷ []
brought_by P R other = []

-- ---- maps

abbrev pub KeepsSizes : {C D : Type 0} → (C → D) → Pieces C → Pieces D → Type 0
KeepsSizes {C} f P Q = (c : C) → Q.size (f c) ≡ P.size c

-- the copy that the step makes is the one that is made of the mapped state. Of no other copy is anything asked
abbrev pub CopiesAlong : {C D : Type 0} → (C → D) → Pieces C → Pieces D → Progress C → Step C → Type 0
CopiesAlong f P Q R (asks reading token c) =
    copy_made Q (state_by f (start_of R reading)) c ≡ option_map (body_by f) (copy_made P (start_of R reading) c)
CopiesAlong f P Q R other = ⊤

-- ---- two machines, of which each content of one stands for one of the other

pub record StandsFor {C D : Type 0} (f : C → D) (R : Progress C) (S : Progress D) : Type 0 where
  pub state : S.state ≡ state_by f R.state
  pub words : S.words ≡ R.words
