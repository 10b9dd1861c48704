-- What holds of every state that records and steps give.
use Rattle.std.specs.Prelude.{◌≡◌, ⊤, ℕ, ◌+◌, ◌^◌, ◌<◌, ◌≤◌, ◌==◌, true, false, List, [], ◌∷◌, All, Some, length, find, bytes_eq}
use Rattle.std.specs.List.{AllPairs, list_any}
use Rattle.std.specs.Ordering.{nat_cmp}
use Rattle.std.specs.Cmp.Lexicographic.{slice_cmp}
use Rattle.std.specs.declared.cmp.Ordering.TheVariants.{Less}
use Rattle.b2_base.specs.declared.settings.Settings.{Settings}
use Rattle.b2_types.specs.declared.kinds.Action.{Action}
use Rattle.b2_types.specs.declared.kinds.Action.TheVariants as action
use Rattle.b2_types.specs.declared.kinds.Mark.{Mark}
use Rattle.b2_types.specs.declared.kinds.Mark.TheVariants as mark
use Rattle.b2_types.specs.declared.kinds.TokenKind.{TokenKind}
use Rattle.b2_types.specs.declared.kinds.TokenKind.TheVariants as token
use Rattle.b2_types.specs.declared.bucket.Bucket.{Bucket}
use Rattle.b2_types.specs.declared.key.Key.{Key}
use Rattle.b2_types.specs.declared.key.Grant.{Grant}
use Rattle.b2_types.specs.declared.key.Flight.{Flight}
use Rattle.b2_types.specs.declared.upload.UploadCall.{UploadCall}
use Rattle.b2_types.specs.declared.upload.UploadCall.TheVariants as upload
use Rattle.b2_types.specs.declared.record.Numbers.{Numbers}
use Rattle.b2_types.specs.declared.version.VersionOf.{VersionOf}
use Rattle.b2_types.specs.declared.record.ChangeOf.{ChangeOf}
use Rattle.b2_types.specs.declared.record.ChangeOf.TheVariants as change
use Rattle.b2_model.specs.State.{State}
use Rattle.b2_model.specs.Policy.{is_same_name}
use Rattle.b2_types.specs.LifecycleRules.{are_rules}
use Rattle.b2_model.specs.Plan.{number_end}
use Rattle.b2_model.specs.Version.{no_digest, marker}
use Rattle.b2_model.specs.LiveGrant.{token_text}
use Rattle.b2_model.specs.Changes.{master_key}
use Rattle.b2_model.specs.Stored.{numbers_of}

-- the number of each is below those of all later ones
abbrev pub IsAscending : {X : Type 0} → (X → ℕ) → List X → Type 0
IsAscending num xs = AllPairs (λ x y. num x < num y) xs

-- a number that was given, where this is the next
abbrev pub IsGiven : ℕ → ℕ → Type 0
IsGiven next num = (0 < num) × (num < next)

-- ---- buckets

pub record AreBuckets (next : ℕ) (buckets : List Bucket) : Type 0 where
  pub order : IsAscending (λ b. b.num) buckets
  pub given : All (λ b. IsGiven next b.num) buckets
  -- different without regard to case
  pub names : AllPairs (λ a b. is_same_name a.name b.name ≡ false) buckets
  pub rules : All (λ b. are_rules b.rules ≡ true) buckets
  pub first : 0 < next
  pub last : next ≤ number_end

-- ---- versions

-- a bucket of this number stands
abbrev pub IsAmong : List Bucket → ℕ → Type 0
IsAmong standing num = list_any (λ b. b.num == num) standing ≡ true

-- an upload has one piece; a large file any number of them, and no digest
abbrev pub IsUpload : {C : Type 0} → Mark → VersionOf C → Type 0
IsUpload mark.Verified v = length v.content ≡ 1
IsUpload mark.Unverified v = length v.content ≡ 1
IsUpload mark.Large v = v.digest ≡ no_digest
IsUpload mark.Marker v = ⊥

-- a start has parts, each number once, and no content yet
pub record IsStart {C : Type 0} (v : VersionOf C) : Type 0 where
  pub content : v.content ≡ []
  pub mark : v.mark ≡ mark.Large
  pub digest : v.digest ≡ no_digest
  pub parts : IsAscending (λ p. p.number) v.parts

-- what a version holds, by what it is
abbrev pub Holds : {C : Type 0} → Action → VersionOf C → Type 0
Holds action.Upload v = IsUpload v.mark v × (v.parts ≡ [])
Holds action.Hide v = v ≡ marker v.bucket v.num v.name v.stamp
Holds action.Start v = IsStart v

pub record AreVersions {C : Type 0} (standing : List Bucket) (next : ℕ) (versions : List (VersionOf C)) : Type 0 where
  pub order : IsAscending (λ v. v.num) versions
  pub given : All (λ v. IsGiven next v.num) versions
  -- the bucket of each stands
  pub placed : All (λ v. IsAmong standing v.bucket) versions
  pub hold : All (λ v. Holds v.action v) versions
  pub first : 0 < next

-- ---- keys

-- the master key is the first, and its number is 0
pub record AreKeys (settings : Settings) (next : ℕ) (keys : List Key) : Type 0 where
  pub others : List Key
  pub all : keys ≡ master_key settings ∷ others
  pub order : IsAscending (λ k. k.num) keys
  pub given : All (λ k. k.num < next) keys
  pub first : 0 < next
  pub last : next ≤ number_end

-- ---- tokens

-- the first text stands before the second, by their bytes
abbrev pub IsBefore : List ℕ → List ℕ → Type 0
IsBefore a b = slice_cmp nat_cmp a b ≡ Less

-- what a token names, by its kind: numbers that were given. What they are of need not stand any more
abbrev pub Names : Numbers → TokenKind → Grant → Type 0
Names numbers token.Account g = (g.bucket ≡ 0) × (g.file ≡ 0) × (g.prefix ≡ [])
Names numbers token.UploadUrl g = IsGiven numbers.next_bucket g.bucket × (g.file ≡ 0) × (g.prefix ≡ [])
Names numbers token.PartUrl g = IsGiven numbers.next_bucket g.bucket × IsGiven numbers.next_version g.file × (g.prefix ≡ [])
Names numbers token.Download g = IsGiven numbers.next_bucket g.bucket × (g.file ≡ 0)

-- a token of this opening, one of so many. The number of its key was given, and is given to no other key
pub record IsToken (numbers : Numbers) (count : ℕ) (g : Grant) : Type 0 where
  pub serial : ℕ
  pub first : ℕ
  pub second : ℕ
  pub text : g.text ≡ token_text numbers.boot serial first second
  pub given : IsGiven (count + 1) serial
  pub key : g.key < numbers.next_key
  pub names : Names numbers g.kind g

pub record AreTokens (numbers : Numbers) (count : ℕ) (grants : List Grant) : Type 0 where
  pub order : AllPairs (λ g h. IsBefore g.text h.text) grants
  pub given : All (IsToken numbers count) grants
  pub last : count < 2 ^ 64

-- ---- uploads under way

-- the upload is in form, and one for what the token is
abbrev pub IsFor : UploadCall → Grant → Type 0
IsFor (upload.File u) g = (g.kind ≡ token.UploadUrl) × (u.bucket ≡ g.bucket)
IsFor (upload.Part u) g = (g.kind ≡ token.PartUrl) × (u.bucket ≡ g.bucket) × (u.file ≡ g.file)
IsFor (upload.Bad u) g = ⊥

-- its token stands. The bucket of its token was given, but may be dropped while the upload is under way
pub record IsUnderWay (grants : List Grant) (f : Flight) : Type 0 where
  pub token : Grant
  pub there : find (λ g. bytes_eq g.text f.token) grants ≡ Some token
  pub purpose : IsFor f.upload token

pub record AreFlights (grants : List Grant) (flights : List Flight) : Type 0 where
  -- one upload is under way on a connection
  pub order : IsAscending (λ f. f.conn) flights
  -- and one on a token
  pub apart : AllPairs (λ f g. bytes_eq f.token g.token ≡ false) flights
  pub under_way : All (IsUnderWay grants) flights

-- ---- a state

pub record IsSound {C : Type 0} (M : State C) : Type 0 where
  pub buckets : AreBuckets M.next_bucket M.buckets
  pub versions : AreVersions M.buckets M.next_version M.versions
  pub keys : AreKeys M.settings M.next_key M.keys
  pub tokens : AreTokens (numbers_of M) M.serial M.grants
  pub flights : AreFlights M.grants M.flights
  pub moments : M.kept ≤ M.now

-- ---- what is asked of records

-- the digest of an upload is verified, or told not to be
abbrev pub IsUploadMark : Mark → Type 0
IsUploadMark mark.Verified = ⊤
IsUploadMark mark.Unverified = ⊤
IsUploadMark mark.Large = ⊥
IsUploadMark mark.Marker = ⊥

-- a change as its record may tell it
abbrev pub IsFitChange : {C : Type 0} → ChangeOf C → Type 0
IsFitChange (change.Upload v content m digest) = IsUploadMark m
IsFitChange (change.SnapState n) = (n.next_bucket ≤ number_end) × (n.next_key ≤ number_end)
IsFitChange other = ⊤
