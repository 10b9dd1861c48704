-- Records with pieces of which places are used again.
use Rattle.std.specs.Prelude.{◌≡◌, ⊤, List, [], ◌∷◌, All, map, fold}
use Rattle.b2_types.specs.declared.record.RecordOf.{RecordOf}
use Rattle.b2_model.specs.Contents.{state_by, change_by}
use Rattle.b2_model.specs.Stored.{Replayed, replay_one}
use Rattle.contents_agree.specs.ContentsOf.{contents_of}

abbrev pub record_by : {C D : Type 0} → (C → D) → RecordOf C → RecordOf D
record_by f r = record { at = r.at; change = change_by f r.change }

abbrev pub replayed_by : {C D : Type 0} → (C → D) → Replayed C → Replayed D
replayed_by f R = record { state = state_by f R.state; settled = R.settled }

-- a record, and what each piece stands for once those of the record have come
pub record Entry (C D : Type 0) : Type 0 where
  pub entry : RecordOf C
  pub meaning : C → D

-- at each record the pieces of the state stand for what they stood for
abbrev pub AreEntries : {C D : Type 0} → (C → D) → Replayed C → List (Entry C D) → Type 0
AreEntries f R [] = ⊤
AreEntries f R (e ∷ es) = All (λ c. f c ≡ e.meaning c) (contents_of R.state) × AreEntries e.meaning (replay_one R e.entry) es

abbrev pub entries : {C D : Type 0} → List (Entry C D) → List (RecordOf C)
entries es = map (λ e. e.entry) es

-- the records of the other machine
abbrev pub entries_by : {C D : Type 0} → List (Entry C D) → List (RecordOf D)
entries_by es = map (λ e. record_by e.meaning e.entry) es

abbrev pub final_meaning : {C D : Type 0} → (C → D) → List (Entry C D) → C → D
final_meaning f es = fold (λ g e. e.meaning) f es
