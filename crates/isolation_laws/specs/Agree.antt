-- What two states have in common, where they agree on a key, on some buckets, or on some names in these.
use Rattle.std.specs.Prelude.{◌≡◌, ℕ, ◌&&◌, ◌==◌, List, filter}
use Rattle.name_rules.specs.Folder.{begins_with}
use Rattle.b2_types.specs.declared.fault.Fault.{Fault}
use Rattle.b2_types.specs.declared.answer.AnswerOf.{AnswerOf}
use Rattle.b2_types.specs.declared.answer.AnswerOf.TheVariants.{Refused}
use Rattle.b2_model.specs.Lists.{is_among}
use Rattle.b2_model.specs.State.{State, key_at}

-- they have the same key of this number, and the same tokens of it
pub record AgreeOnKey {C : Type 0} (key : ℕ) (M N : State C) : Type 0 where
  pub same : key_at M key ≡ key_at N key
  pub tokens : filter (λ g. g.key == key) M.grants ≡ filter (λ g. g.key == key) N.grants

-- they have the same settings, and the same of these buckets with all that stands in them
pub record AgreeOnBuckets {C : Type 0} (own : List ℕ) (M N : State C) : Type 0 where
  pub settings : M.settings ≡ N.settings
  pub buckets : filter (λ b. is_among own b.num) M.buckets ≡ filter (λ b. is_among own b.num) N.buckets
  pub versions : filter (λ v. is_among own v.bucket) M.versions ≡ filter (λ v. is_among own v.bucket) N.versions

-- of what stands in these buckets they have the same names with the prefix
pub record AgreeOnNames {C : Type 0} (own prefix : List ℕ) (M N : State C) : Type 0 where
  pub settings : M.settings ≡ N.settings
  pub buckets : filter (λ b. is_among own b.num) M.buckets ≡ filter (λ b. is_among own b.num) N.buckets
  pub versions : filter (λ v. is_among own v.bucket && begins_with prefix v.name) M.versions
      ≡ filter (λ v. is_among own v.bucket && begins_with prefix v.name) N.versions

-- both answers are refusals, with the same fault
abbrev pub AreOneRefusal : {C : Type 0} → AnswerOf C → AnswerOf C → Type 0
AreOneRefusal a b = (f : Fault) × ((a ≡ Refused f) × (b ≡ Refused f))
