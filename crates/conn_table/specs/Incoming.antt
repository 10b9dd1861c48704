-- What a connection keeps of the bytes that came.
use Rattle.std.specs.Prelude.{◌≡◌, ◌≤◌, ◌<◌, ◌+◌, ℕ, Bool, true, false, List, [], ◌++◌, length, take, Option, None, MatchOption, if◌then◌else◌, ⊤}
use Rattle.http_edge.specs.declared.cut.Cut.TheVariants.{NotYet}
use Rattle.http_edge.specs.declared.head.Head.{Head}
use Rattle.http_edge.specs.Cut.{IsCut}
use Rattle.http_edge.specs.Length.{is_upload}
use Rattle.conn_talk.specs.declared.act.Act.{Act}
use Rattle.conn_table.specs.declared.incoming.Incoming.{Incoming}
use Rattle.conn_table.specs.declared.incoming.Stage.{Stage}
use Rattle.conn_table.specs.declared.incoming.Stage.TheVariants as stage
use Rattle.conn_talk.specs.Asked.{Asked, nothing, refused, begun, complete, last_request, most_held, IsRead, IsAsked, stay_of, is_begun, goes_on}
use Rattle.conn_talk.specs.Acts.{acts_after}

-- the end of the head is looked for, and is not among so many bytes: those of a head that has not ended, or those
-- that were held behind the request before
pub record IsSeeking (seen : ℕ) (bytes kept : List ℕ) : Type 0 where
  pub kept_is : kept ≡ bytes
  pub within : seen ≤ length bytes
  pub none : 0 < seen → IsCut (take seen bytes) NotYet
  pub few : length bytes ≤ most_held

-- the body of a call has not come whole
pub record IsGathering (before : ℕ) (bytes : List ℕ) (head : Head) (kept : List ℕ) : Type 0 where
  pub read : IsRead before bytes head kept
  pub call : is_upload head.route.name ≡ false
  pub short : length kept < head.request.length

-- so many bytes of the body of an upload are still to come
pub record IsUploading (before : ℕ) (bytes : List ℕ) (told : Asked) (left : ℕ) (kept : List ℕ) : Type 0 where
  pub head : Head
  pub came : List ℕ
  pub told_is : told ≡ begun head came
  pub read : IsRead before bytes head came
  pub upload : is_upload head.route.name ≡ true
  pub size : length came + left ≡ head.request.length
  pub short : 0 < left
  pub kept_is : kept ≡ []

-- which bytes after a request are held; of one that is not whole nothing more is kept
abbrev pub IsHeld : Asked → Stage → List ℕ → Type 0
IsHeld (complete head body rest) (stage.Complete says) kept =
    (says ≡ goes_on (complete head body rest)) × (kept ≡ (if says then rest else []))
IsHeld (complete head body rest) other kept = ⊥
IsHeld other (stage.Complete says) kept = ⊥
IsHeld other more kept = kept ≡ []

-- the stage says that they are held
abbrev pub holds_bytes : Stage → Bool
holds_bytes (stage.Complete says) = says
holds_bytes other = false

abbrev pub IsRefused : Asked → Type 0
IsRefused (refused kind) = ⊤
IsRefused other = ⊥

-- these bytes came of the request, and it was told that they ask for that
abbrev pub IsAt : ℕ → List ℕ → Asked → Stage → Option Head → List ℕ → Type 0
IsAt before bytes told (stage.Seeking seen) head kept = (told ≡ nothing) × IsSeeking seen bytes kept × (head ≡ None)
IsAt before bytes told stage.Gathering head kept = (told ≡ nothing) × MatchOption head ⊥ (λ h. IsGathering before bytes h kept)
IsAt before bytes told (stage.Uploading left) head kept = IsUploading before bytes told left kept × (head ≡ None)
IsAt before bytes told (stage.Complete says) head kept = IsAsked before bytes told × IsHeld told (stage.Complete says) kept × (head ≡ None)
IsAt before bytes told stage.Closed head kept = IsAsked before bytes told × IsRefused told × (kept ≡ []) × (head ≡ None)

-- the flags say what was told
pub record HasFlags (before : ℕ) (told : Asked) (k : Incoming) : Type 0 where
  pub before_is : k.before ≡ before
  pub stay_is : k.stay ≡ stay_of told
  pub upload_is : k.upload ≡ is_begun told

-- a request before its reply
pub record IsReading (before : ℕ) (bytes : List ℕ) (told : Asked) (k : Incoming) : Type 0 where
  pub flags : HasFlags before told k
  pub at : IsAt before bytes told k.stage k.head k.bytes.items

-- and while its reply is pending
pub record IsWaiting (before : ℕ) (told : Asked) (k : Incoming) : Type 0 where
  pub flags : HasFlags before told k
  pub held : IsHeld told k.stage k.bytes.items
  pub few : goes_on told ≡ true → before < last_request
  pub no_head : k.head ≡ None

-- the bytes, all that came of the request, ask for this; the acts of it, after what was told, stand after the
-- first ones
pub record Gives (before : ℕ) (bytes : List ℕ) (told : Asked) (first acts : List Act) (k : Incoming) : Type 0 where
  pub new : Asked
  pub asked : IsAsked before bytes new
  pub acts_are : acts ≡ first ++ acts_after told new
  pub reading : IsReading before bytes new k

-- ---- for the steps

-- the end of the head is not among so many of the bytes
abbrev pub IsSought : Stage → List ℕ → Type 0
IsSought (stage.Seeking seen) kept = (seen ≤ length kept) × (0 < seen → IsCut (take seen kept) NotYet)
IsSought other kept = ⊤

pub record SameFlags (old new : Incoming) : Type 0 where
  pub head_is : new.head ≡ old.head
  pub before_is : new.before ≡ old.before
  pub stay_is : new.stay ≡ old.stay
  pub upload_is : new.upload ≡ old.upload
