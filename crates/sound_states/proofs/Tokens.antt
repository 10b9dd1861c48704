-- Tokens and uploads under way stay sound where numbers rise, and where tokens are forgotten.
use Rattle.std.proofs.Common.{◌≡◌, ℕ, ◌+◌, ◌<◌, ◌≤◌, ◌^◌, nat_le, Bool, true, false, not, ◌&&◌, List, [], ◌∷◌, All, Some, filter, find, bytes_eq, if◌then◌else◌, refl, sym, ap, ◌∙◌, arith}
use Rattle.std.specs.List.{list_all}
use Rattle.std.proofs.lemmas.Bool.{false≢true}
use Rattle.std.proofs.lemmas.Slice.Eq.{bytes_eq-Decides}
use Rattle.std.proofs.lemmas.Option.{none-some}
use Rattle.std.proofs.lemmas.List.Elements.{All-nil, All-cons, All-filter}
use Rattle.std.proofs.lemmas.List.Kept.{AllPairs-filter}
use Rattle.b2_types.specs.declared.kinds.TokenKind.{TokenKind}
use Rattle.b2_types.specs.declared.kinds.TokenKind.TheVariants as token
use Rattle.b2_types.specs.declared.key.Grant.{Grant}
use Rattle.b2_types.specs.declared.key.Flight.{Flight}
use Rattle.b2_types.specs.declared.record.Numbers.{Numbers}
use Rattle.b2_model.specs.Kinds.{day}
use Rattle.b2_model.specs.LiveGrant.{token_text}
use Rattle.sound_states.specs.Sound.{IsGiven, IsBefore, Names, IsToken, AreTokens, IsUnderWay, AreFlights}
use Rattle.sound_states.proofs.Ascending.{pairs_nil, ascends_nil, all_from}

-- ---- no token

pub no_tokens : (numbers : Numbers) (count : ℕ) → count < 2 ^ 64 → AreTokens numbers count []
no_tokens numbers count last = record { order = pairs_nil (λ g h. IsBefore g.text h.text); given = All-nil _; last = last }

pub no_flights : (grants : List Grant) → AreFlights grants []
no_flights grants = record { order = ascends_nil (λ f. f.conn); apart = pairs_nil (λ f g. bytes_eq f.token g.token ≡ false); under_way = All-nil _ }

-- ---- numbers that rise

-- the next numbers do not fall, of the same opening
pub record Rise (n m : Numbers) : Type 0 where
  pub boot : n.boot ≡ m.boot
  pub buckets : n.next_bucket ≤ m.next_bucket
  pub keys : n.next_key ≤ m.next_key
  pub versions : n.next_version ≤ m.next_version

given_later : (next more n : ℕ) → next ≤ more → IsGiven next n → IsGiven more n
given_later next more n rises given = (given.0, omega (arith, given.1, rises))

names_later : (n m : Numbers) (kind : TokenKind) (g : Grant) → Rise n m → Names n kind g → Names m kind g
names_later n m token.Account g rise names = names
names_later n m token.UploadUrl g rise names = (given_later n.next_bucket m.next_bucket g.bucket rise.buckets names.0, names.1, names.2)
names_later n m token.PartUrl g rise names =
    (given_later n.next_bucket m.next_bucket g.bucket rise.buckets names.0, given_later n.next_version m.next_version g.file rise.versions names.1, names.2)
names_later n m token.Download g rise names = (given_later n.next_bucket m.next_bucket g.bucket rise.buckets names.0, names.1)

pub token_later : (n m : Numbers) (count more : ℕ) (g : Grant) → Rise n m → count ≤ more → IsToken n count g → IsToken m more g
token_later n m count more g rise rises is =
    let keys = rise.keys in
    let key = is.key in
    record {
      serial = is.serial;
      first = is.first;
      second = is.second;
      text = is.text ∙ ap (λ b. token_text b is.serial is.first is.second) rise.boot;
      given = given_later (count + 1) (more + 1) is.serial (omega (arith, rises)) is.given;
      key = omega (arith, keys, key);
      names = names_later n m g.kind g rise is.names;
    }

pub tokens_later : (n m : Numbers) (count : ℕ) (grants : List Grant) → Rise n m → AreTokens n count grants → AreTokens m count grants
tokens_later n m count grants rise sound = record {
  order = sound.order;
  given = all_from (IsToken n count) (IsToken m count) grants (λ g is. token_later n m count count g rise (omega arith) is) sound.given;
  last = sound.last;
}

pub fewer_tokens : (n : Numbers) (count : ℕ) (keep : Grant → Bool) (grants : List Grant) → AreTokens n count grants → AreTokens n count (filter keep grants)
fewer_tokens n count keep grants sound = record {
  order = AllPairs-filter (λ g h. IsBefore g.text h.text) keep grants sound.order;
  given = All-filter keep (IsToken n count) grants sound.given;
  last = sound.last;
}

-- ---- tokens of uploads under way are kept

pub same_text : (a : List ℕ) → bytes_eq a a ≡ true
same_text a = (bytes_eq-Decides a a).1 refl

-- no upload is under way on the token of this text
abbrev pub is_free : List Flight → List ℕ → Bool
is_free flights text = list_all (λ f. not (bytes_eq f.token text)) flights

-- the tokens of these uploads are not free
pub each_busy : (flights : List Flight) → All (λ f. is_free flights f.token ≡ false) flights
each_busy [] = All-nil _
each_busy (f ∷ flights) =
    All-cons (λ g. is_free (f ∷ flights) g.token ≡ false) f flights (ap (λ b. not b && is_free flights f.token) (same_text f.token))
    (all_from (λ g. is_free flights g.token ≡ false) (λ g. is_free (f ∷ flights) g.token ≡ false) flights (λ g busy. later (not (bytes_eq f.token g.token)) (is_free flights g.token) busy) (each_busy flights))
  where
    later : (a b : Bool) → b ≡ false → (a && b) ≡ false
    later true b is = is
    later false b is = refl

module _ (keep : Grant → Bool) (text : List ℕ) (kept : (g : Grant) → g.text ≡ text → keep g ≡ true) where
  pub still_found : (grants : List Grant) (g : Grant) → find (λ h. bytes_eq h.text text) grants ≡ Some g → find (λ h. bytes_eq h.text text) (filter keep grants) ≡ Some g
  still_found [] g is = absurd (none-some g is)
  still_found (h ∷ hs) g is = at (bytes_eq h.text text) (keep h) refl refl is (still_found hs g)
    where
      at : (same keeps : Bool) → bytes_eq h.text text ≡ same → keep h ≡ keeps → (if same then Some h else find (λ h. bytes_eq h.text text) hs) ≡ Some g
          → (find (λ h. bytes_eq h.text text) hs ≡ Some g → find (λ h. bytes_eq h.text text) (filter keep hs) ≡ Some g)
          → find (λ h. bytes_eq h.text text) (if keeps then h ∷ filter keep hs else filter keep hs) ≡ Some g
      at true true is_same is_kept here rest = rw is_same here
      at true false is_same is_kept here rest = absurd (false≢true (sym is_kept ∙ kept h ((bytes_eq-Decides h.text text).0 is_same)))
      at false true is_same is_kept here rest = rw is_same (rest here)
      at false false is_same is_kept here rest = rest here

-- a token that ended a day ago or more is forgotten, but not that of an upload under way
abbrev pub is_kept : ℕ → List Flight → Grant → Bool
is_kept t flights g = not (is_free flights g.text && nat_le (g.end + day) t)

pub kept_flights : (t : ℕ) (grants : List Grant) (flights : List Flight) → AreFlights grants flights → AreFlights (filter (is_kept t flights) grants) flights
kept_flights t grants flights sound = record {
  order = sound.order;
  apart = sound.apart;
  under_way = λ k d within. stays _ (each_busy flights k d within) (sound.under_way k d within);
}
  where
    stays : (f : Flight) → is_free flights f.token ≡ false → IsUnderWay grants f → IsUnderWay (filter (is_kept t flights) grants) f
    stays f busy is = record {
      token = is.token;
      there = still_found (is_kept t flights) f.token (λ g same.
          ap (λ text. not (is_free flights text && nat_le (g.end + day) t)) same ∙ ap (λ b. not (b && nat_le (g.end + day) t)) busy) grants is.token is.there;
      purpose = is.purpose;
    }
