-- The state of the version machine: all that a store knows, over what stands for a piece of content. In
-- the machine itself a piece is its list of bytes; a server keeps extents in its place. The content of a
-- version is a list of pieces: one of an upload, and those of its parts of a large file.
use Rattle.std.specs.Prelude.{ℕ, List, Option, ◌==◌, find, sum_by}
use Rattle.b2_base.specs.declared.settings.Settings.{Settings}
use Rattle.b2_types.specs.declared.bucket.Bucket.{Bucket}
use Rattle.b2_types.specs.declared.version.VersionOf.{VersionOf}
use Rattle.b2_types.specs.declared.key.Key.{Key}
use Rattle.b2_types.specs.declared.key.Grant.{Grant}
use Rattle.b2_types.specs.declared.key.Flight.{Flight}
use Rattle.b2_model.specs.Body.{Body}

-- what a server knows of pieces of content: the length of each, and what a copy of some bytes of several,
-- one after the other, makes, from a place on and so many
pub record Pieces (C : Type 0) : Type 0 where
  pub size : C → ℕ
  pub copy : List C → ℕ → ℕ → Body C

pub record State (C : Type 0) : Type 0 where
  pub settings : Settings
  -- the moment of the last step
  pub now : ℕ
  -- the moment of the last record that was written or applied
  pub kept : ℕ
  -- the day of the last lifecycle pass
  pub pass_day : ℕ
  -- how often the store was opened
  pub boot : ℕ
  -- how many tokens were given since it was opened
  pub serial : ℕ
  pub next_bucket : ℕ
  pub next_key : ℕ
  -- may stand one above the last number of a version
  pub next_version : ℕ
  -- each list stands by number, the tokens in the order in which they were given, the uploads under way
  -- by connection
  pub buckets : List Bucket
  pub versions : List (VersionOf C)
  -- the master key, which has the number 0, is always among them
  pub keys : List Key
  pub grants : List Grant
  pub flights : List Flight

-- the bucket of this number
abbrev pub bucket_at : {C : Type 0} → State C → ℕ → Option Bucket
bucket_at M num = find (λ b. b.num == num) M.buckets

-- the key of this number
abbrev pub key_at : {C : Type 0} → State C → ℕ → Option Key
key_at M num = find (λ k. k.num == num) M.keys

-- the bytes of the pieces together
abbrev pub length_of : {C : Type 0} → (C → ℕ) → List C → ℕ
length_of size pieces = sum_by size pieces
