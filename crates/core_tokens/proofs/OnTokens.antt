-- What tokens for uploads and downloads are given for.
use Rattle.std.proofs.Common.{◌≡◌, ℕ, ◌*◌, ◌==◌, ◌&&◌, ◌||◌, Bool, true, false, List, [], ◌∷◌, All, Option, Some, refl, sym, ap, subst, ◌∙◌}
use Rattle.std.specs.List.{list_any}
use Rattle.std.proofs.lemmas.Bool.{false≢true}
use Rattle.std.proofs.lemmas.List.Elements.{All-head, All-tail}
use Rattle.b2_base.specs.declared.extent.Extent.{Extent}
use Rattle.b2_types.specs.declared.bucket.Bucket.{Bucket}
use Rattle.b2_types.specs.declared.call.AuthorizeDownload.{AuthorizeDownload}
use Rattle.b2_types.specs.declared.call.Call.TheVariants as call
use Rattle.b2_types.specs.declared.call.FileCall.{FileCall}
use Rattle.b2_types.specs.declared.call.GetUploadUrl.{GetUploadUrl}
use Rattle.b2_types.specs.declared.kinds.TokenKind.TheVariants as kind
use Rattle.b2_types.specs.declared.version.VersionOf.{VersionOf}
use Rattle.b2_model.specs.AskLarge.{not_large}
use Rattle.b2_model.specs.Kinds.{later}
use Rattle.b2_model.specs.Plan.{grants, key_num, new_token, no_serial}
use Rattle.b2_model.specs.Policy.{caller_of}
use Rattle.b2_model.specs.Rows.{version_at}
use Rattle.b2_model.specs.State.{State, bucket_at}
use Rattle.auth_grants.specs.declared.grants.Terms.{Terms}
use Rattle.sound_states.specs.Sound.{IsAmong, IsGiven, IsSound}
use Rattle.sound_states.proofs.Found.{found_has, found_passes}
use Rattle.sound_states.proofs.Tests.{both_hold, equal_numbers}
use Rattle.sound_steps.proofs.NewTokens.{asks_given}
use Rattle.core_state.specs.GivenTokens.{MayHave, grant_of}
use Rattle.core_decisions.specs.Decided.{Copies}
use Rattle.core_tokens.specs.Giving.{day_terms}
use Rattle.core_tokens.specs.ShownTokens.{shows_download, shows_part, shows_upload}
use Rattle.core_tokens.proofs.TokenForms.{download_form, part_form, upload_form}

-- the number of the key that asks
abbrev pub asking : State Extent → Option (List ℕ) → ℕ
asking M token = key_num (caller_of M token).key

bucket_given : (M : State Extent) (n : ℕ) (b : Bucket) → IsSound M → bucket_at M n ≡ Some b → IsGiven M.next_bucket b.num
bucket_given M n b sound found = (found_has (λ (b : Bucket). b.num == n) (λ (b : Bucket). IsGiven M.next_bucket b.num) M.buckets b sound.buckets.given found).1

pub bucket_number : (M : State Extent) (n : ℕ) (b : Bucket) → bucket_at M n ≡ Some b → b.num ≡ n
bucket_number M n b found = equal_numbers b.num n (found_passes (λ (b : Bucket). b.num == n) M.buckets b found)

-- ---- files

pub upload_plan : (M : State Extent) (t : ℕ) (token : Option (List ℕ)) (q : GetUploadUrl) (b : Bucket) (terms : Terms) → bucket_at M q.bucket ≡ Some b → terms ≡ day_terms t kind.UploadUrl (asking M token) b.num 0
    → (copy : Copies) (words : List ℕ) → (upload_form M t token q).plan copy words b ≡ grants (no_serial M ∷ []) (grant_of (new_token M words) terms) (shows_upload M q.bucket (new_token M words))
upload_plan M t token q b terms found is copy words =
    ap (λ (T : Terms). grants (no_serial M ∷ []) (grant_of (new_token M words) T) (shows_upload M b.num (new_token M words))) (sym is)
    ∙ ap (λ n. grants (no_serial M ∷ []) (grant_of (new_token M words) terms) (shows_upload M n (new_token M words))) (bucket_number M q.bucket b found)

pub may_upload : (M : State Extent) (t : ℕ) (token : Option (List ℕ)) (q : GetUploadUrl) (b : Bucket) (terms : Terms) → IsSound M → bucket_at M q.bucket ≡ Some b → terms ≡ day_terms t kind.UploadUrl (asking M token) b.num 0
    → MayHave M terms
may_upload M t token q b terms sound found is = subst (MayHave M) (sym is) (record {
  key = asks_given M token (call.GetUploadUrl q) sound;
  names = λ text. (bucket_given M q.bucket b sound found, refl, refl);
})

-- ---- parts

pub part_plan : (M : State Extent) (t : ℕ) (token : Option (List ℕ)) (q : FileCall) (v : VersionOf Extent) (terms : Terms) → version_at M q.bucket q.file ≡ Some v → terms ≡ day_terms t kind.PartUrl (asking M token) v.bucket v.num
    → (copy : Copies) (words : List ℕ) → (part_form M t token q).plan copy words v ≡ grants (not_large v ∷ no_serial M ∷ []) (grant_of (new_token M words) terms) (shows_part M q.bucket q.file (new_token M words))
part_plan M t token q v terms found is copy words =
    let both = both_hold (v.bucket == q.bucket) (v.num == q.file) (found_passes (λ (v : VersionOf Extent). v.bucket == q.bucket && v.num == q.file) M.versions v found) in
    let own = not_large v ∷ no_serial M ∷ [] in
    ap (λ (T : Terms). grants own (grant_of (new_token M words) T) (shows_part M v.bucket v.num (new_token M words))) (sym is)
    ∙ ap (λ n. grants own (grant_of (new_token M words) terms) (shows_part M n v.num (new_token M words))) (equal_numbers v.bucket q.bucket both.0)
    ∙ ap (λ n. grants own (grant_of (new_token M words) terms) (shows_part M q.bucket n (new_token M words))) (equal_numbers v.num q.file both.1)

among_given : (next n : ℕ) (bs : List Bucket) → All (λ b. IsGiven next b.num) bs → list_any (λ b. b.num == n) bs ≡ true → IsGiven next n
among_given next n [] each there = absurd (false≢true there)
among_given next n (b ∷ bs) each there = at (b.num == n) refl there (among_given next n bs (All-tail (λ (b : Bucket). IsGiven next b.num) b bs each))
  where
    at : (r : Bool) → (b.num == n) ≡ r → (r || list_any (λ b. b.num == n) bs) ≡ true → (list_any (λ b. b.num == n) bs ≡ true → IsGiven next n) → IsGiven next n
    at true is there rest = subst (IsGiven next) (equal_numbers b.num n is) (All-head (λ (b : Bucket). IsGiven next b.num) b bs each)
    at false is there rest = rest there

pub may_upload_part : (M : State Extent) (t : ℕ) (token : Option (List ℕ)) (q : FileCall) (v : VersionOf Extent) (terms : Terms) → IsSound M → version_at M q.bucket q.file ≡ Some v
    → terms ≡ day_terms t kind.PartUrl (asking M token) v.bucket v.num → MayHave M terms
may_upload_part M t token q v terms sound found is =
    let test = λ (v : VersionOf Extent). v.bucket == q.bucket && v.num == q.file in
    let placed = (found_has test (λ (v : VersionOf Extent). IsAmong M.buckets v.bucket) M.versions v sound.versions.placed found).1 in
    let given = (found_has test (λ (v : VersionOf Extent). IsGiven M.next_version v.num) M.versions v sound.versions.given found).1 in
    subst (MayHave M) (sym is) (record {
      key = asks_given M token (call.GetUploadPartUrl q) sound;
      names = λ text. (among_given M.next_bucket v.bucket M.buckets sound.buckets.given placed, given, refl);
    })

-- ---- downloads

abbrev pub download_terms : State Extent → ℕ → Option (List ℕ) → AuthorizeDownload → Terms
download_terms M t token q = record { kind = kind.Download; key = asking M token; bucket = q.bucket; file = 0; prefix = q.prefix; end = later t (q.duration * 1000) }

pub download_plan : (M : State Extent) (t : ℕ) (token : Option (List ℕ)) (q : AuthorizeDownload) (b : Bucket) (terms : Terms) → bucket_at M q.bucket ≡ Some b → terms ≡ download_terms M t token q
    → (copy : Copies) (words : List ℕ) → (download_form M t token q).plan copy words b ≡ grants (no_serial M ∷ []) (grant_of (new_token M words) terms) (shows_download q.bucket q.prefix (new_token M words))
download_plan M t token q b terms found is copy words =
    ap (λ (T : Terms). grants (no_serial M ∷ []) (grant_of (new_token M words) T) (shows_download b.num q.prefix (new_token M words))) (sym is)
    ∙ ap (λ n. grants (no_serial M ∷ []) (grant_of (new_token M words) terms) (shows_download n q.prefix (new_token M words))) (bucket_number M q.bucket b found)

pub may_download : (M : State Extent) (t : ℕ) (token : Option (List ℕ)) (q : AuthorizeDownload) (b : Bucket) (terms : Terms) → IsSound M → bucket_at M q.bucket ≡ Some b → terms ≡ download_terms M t token q → MayHave M terms
may_download M t token q b terms sound found is = subst (MayHave M) (sym is) (record {
  key = asks_given M token (call.GetDownloadAuthorization q) sound;
  names = λ text. (subst (IsGiven M.next_bucket) (bucket_number M q.bucket b found) (bucket_given M q.bucket b sound found), refl);
})
