-- An upload that begins has its token, and is the only one on it.
use Rattle.std.proofs.Common.{◌≡◌, ℕ, ◌<◌, ◌==◌, Bool, true, false, not, ◌&&◌, ◌||◌, List, [], ◌∷◌, ◌++◌, All, Option, Some, None, filter, find, unwrap_or, bytes_eq, refl, sym, ap, ◌∙◌}
use Rattle.std.specs.Option.{is_none}
use Rattle.std.specs.List.{list_any}
use Rattle.std.proofs.lemmas.Bool.{false≢true}
use Rattle.std.proofs.lemmas.List.Elements.{All-filter}
use Rattle.std.proofs.lemmas.List.Kept.{AllPairs-filter}
use Rattle.b2_types.specs.declared.kinds.TokenKind.{TokenKind}
use Rattle.b2_types.specs.declared.kinds.TokenKind.TheVariants as kind
use Rattle.b2_types.specs.declared.key.Grant.{Grant}
use Rattle.b2_types.specs.declared.key.Flight.{Flight}
use Rattle.b2_types.specs.declared.upload.UploadCall.{UploadCall}
use Rattle.b2_types.specs.declared.upload.UploadCall.TheVariants as upload
use Rattle.b2_model.specs.Checks.{Check, first_fault, some_and}
use Rattle.b2_model.specs.Kinds.{token_place}
use Rattle.b2_model.specs.State.{State}
use Rattle.b2_model.specs.Lists.{put_by}
use Rattle.b2_model.specs.LiveGrant.{grant_at}
use Rattle.b2_model.specs.Policy.{Caller, caller_of, is_of_kinds, token_rules, call_rules, name_rule, judged_upload}
use Rattle.b2_model.specs.UploadSteps.{fits, target_of, upload_rules, upload_exists, begin_rules, begin_refusals, new_flight}
use Rattle.machine_laws.proofs.Passed.{none_in}
use Rattle.sound_states.specs.Sound.{IsFor, IsUnderWay, AreFlights}
use Rattle.sound_states.proofs.Ascending.{all_from, put_all, put_ascends, put_pairs, not_among}
use Rattle.sound_states.proofs.Tests.{both_hold, equal_numbers, none_passes, text_back}
use Rattle.sound_steps.proofs.Plans.{Pass, all_pass}

-- ---- what passes the rules of the token

upload_kind : (k : TokenKind) → ((1 == token_place k) || false) ≡ true → k ≡ kind.UploadUrl
upload_kind kind.Account is = absurd (false≢true is)
upload_kind kind.UploadUrl is = refl
upload_kind kind.PartUrl is = absurd (false≢true is)
upload_kind kind.Download is = absurd (false≢true is)

part_kind : (k : TokenKind) → ((2 == token_place k) || false) ≡ true → k ≡ kind.PartUrl
part_kind kind.Account is = absurd (false≢true is)
part_kind kind.UploadUrl is = absurd (false≢true is)
part_kind kind.PartUrl is = refl
part_kind kind.Download is = absurd (false≢true is)

not_not : (a : Bool) → not a ≡ false → a ≡ true
not_not true is = refl
not_not false is = absurd (false≢true (sym is))

module _ {C : Type 0} where
  token_pass : (M : State C) (t : ℕ) (kinds : List TokenKind) (right : Grant → Bool) (who : Caller) (j exists names : List Check)
      → first_fault (token_rules t kinds right who ++ j ++ exists ++ names) ≡ None → Pass (token_rules t kinds right who)
  token_pass M t kinds right who j exists names none =
      all_pass (token_rules t kinds right who) (none_in (token_rules t kinds right who) j (none_in (token_rules t kinds right who ++ j) exists (none_in (token_rules t kinds right who ++ j ++ exists) names none).0).0).0

  -- what is known of an upload that is not refused
  pub record Begins (M : State C) (token : Option (List ℕ)) (u : UploadCall) : Type 0 where
    pub text : List ℕ
    pub is : token ≡ Some text
    pub grant : Grant
    pub there : grant_at M text ≡ Some grant
    pub purpose : IsFor u grant
    pub alone : All (λ f. bytes_eq f.token text ≡ false) M.flights

  by_grant : (M : State C) (text : List ℕ) (kinds : List TokenKind) (right : Grant → Bool) (u : UploadCall) → ((g : Grant) → is_of_kinds kinds g ≡ true → right g ≡ true → IsFor u g)
      → All (λ f. bytes_eq f.token text ≡ false) M.flights
      → (o : Option Grant) → grant_at M text ≡ o → is_none o ≡ false → some_and (λ g. not (is_of_kinds kinds g && right g)) o ≡ false → Begins M (Some text) u
  by_grant M text kinds right u purpose alone None is there right_one = absurd (false≢true (sym there))
  by_grant M text kinds right u purpose alone (Some g) is there right_one =
      let both = both_hold (is_of_kinds kinds g) (right g) (not_not (is_of_kinds kinds g && right g) right_one) in
      record { text = text; is = refl; grant = g; there = is; purpose = purpose g both.0 both.1; alone = alone }

  by_token : (M : State C) (t : ℕ) (kinds : List TokenKind) (right : Grant → Bool) (u : UploadCall) → ((g : Grant) → is_of_kinds kinds g ≡ true → right g ≡ true → IsFor u g)
      → (token : Option (List ℕ)) → Pass (token_rules t kinds right (caller_of M token)) → list_any (λ f. some_and (bytes_eq f.token) token) M.flights ≡ false → Begins M token u
  by_token M t kinds right u purpose None pass free = absurd (false≢true (sym pass.0))
  by_token M t kinds right u purpose (Some text) pass free =
      by_grant M text kinds right u purpose (none_passes (λ f. bytes_eq f.token text) M.flights free) (grant_at M text) refl pass.1.0 pass.1.1.0

  pub begins_well : (M : State C) (t : ℕ) (token : Option (List ℕ)) (u : UploadCall) → first_fault (begin_refusals M t token u) ≡ None → Begins M token u
  begins_well M t token (upload.File u) none =
      let who = caller_of M token in
      let j = judged_upload (upload.File u) in
      let right = fits (target_of (upload.File u)) in
      let both = none_in (upload_rules M t who (upload.File u) (upload_exists M (upload.File u))) (begin_rules M t token (upload.File u)) none in
      by_token M t (kind.UploadUrl ∷ []) right (upload.File u) (λ g kinds fit. (upload_kind g.kind kinds, sym (equal_numbers g.bucket u.bucket fit))) token
      (token_pass M t (kind.UploadUrl ∷ []) right who (call_rules M j who) (upload_exists M (upload.File u)) (name_rule M j who) both.0)
      (all_pass (begin_rules M t token (upload.File u)) both.1).0
  begins_well M t token (upload.Part u) none =
      let who = caller_of M token in
      let j = judged_upload (upload.Part u) in
      let right = fits (target_of (upload.Part u)) in
      let both = none_in (upload_rules M t who (upload.Part u) (upload_exists M (upload.Part u))) (begin_rules M t token (upload.Part u)) none in
      by_token M t (kind.PartUrl ∷ []) right (upload.Part u) (λ g kinds fit.
      let numbers = both_hold (g.bucket == u.bucket) (g.file == u.file) fit in
      (part_kind g.kind kinds, sym (equal_numbers g.bucket u.bucket numbers.0), sym (equal_numbers g.file u.file numbers.1))) token
      (token_pass M t (kind.PartUrl ∷ []) right who (call_rules M j who) (upload_exists M (upload.Part u)) (name_rule M j who) both.0)
      (all_pass (begin_rules M t token (upload.Part u)) both.1).0
  begins_well M t token (upload.Bad c) none =
      absurd (false≢true (sym (all_pass (begin_rules M t token (upload.Bad c)) (none_in (upload_rules M t (caller_of M token) (upload.Bad c) []) (begin_rules M t token (upload.Bad c)) none).1).0))

  -- ---- the uploads after a begin

  pub with_begun : (M : State C) (conn : ℕ) (token : Option (List ℕ)) (u : UploadCall) → AreFlights M.grants M.flights → list_any (λ f. f.conn == conn) M.flights ≡ false → Begins M token u
      → AreFlights M.grants (put_by (λ f. f.conn) (new_flight conn token u) M.flights)
  with_begun M conn token u sound free begun =
      let f = new_flight conn token u in
      let is : f.token ≡ begun.text = ap (λ o. unwrap_or o []) begun.is in
      let alone = all_from (λ g. bytes_eq g.token begun.text ≡ false) (λ g. (bytes_eq f.token g.token ≡ false) × (bytes_eq g.token f.token ≡ false)) M.flights
      (λ g apart. let other : bytes_eq g.token f.token ≡ false = ap (bytes_eq g.token) is ∙ apart in (text_back f.token g.token ∙ other, other)) begun.alone in
      record {
        order = put_ascends (λ f. f.conn) f M.flights sound.order (not_among (λ f. f.conn) conn M.flights free);
        apart = put_pairs (λ f. f.conn) (λ f g. bytes_eq f.token g.token ≡ false) f M.flights sound.apart alone;
        under_way = put_all (λ f. f.conn) (IsUnderWay M.grants) f M.flights (record { token = begun.grant; there = ap (λ text. find (λ g. bytes_eq g.text text) M.grants) is ∙ begun.there; purpose = begun.purpose }) sound.under_way;
      }

  pub fewer_flights : (M : State C) (keep : Flight → Bool) → AreFlights M.grants M.flights → AreFlights M.grants (filter keep M.flights)
  fewer_flights M keep sound = record {
    order = AllPairs-filter (λ f g. f.conn < g.conn) keep M.flights sound.order;
    apart = AllPairs-filter (λ f g. bytes_eq f.token g.token ≡ false) keep M.flights sound.apart;
    under_way = All-filter keep (IsUnderWay M.grants) M.flights sound.under_way;
  }
