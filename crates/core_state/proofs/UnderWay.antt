-- The state when an upload begins, ends or is lost.
use Rattle.std.proofs.Common.{◌≡◌, ℕ, ◌≤◌, ◌<◌, ◌==◌, Bool, true, false, not, cond, List, [], ◌∷◌, All, Option, Some, None, IsSome, find, filter, map, bytes_eq, option_map, subst, sym, ap, ◌∙◌, refl, arith}
use Rattle.std.specs.Option.{is_some}
use Rattle.std.specs.List.{AllPairs, list_any}
use Rattle.std.proofs.lemmas.Bool.{false≢true}
use Rattle.std.proofs.lemmas.Option.{none-some}
use Rattle.std.proofs.lemmas.List.Elements.{All-cons, All-head, All-tail}
use Rattle.std.proofs.lemmas.Slice.Eq.{bytes_eq-Decides}
use Rattle.b2_base.specs.declared.extent.Extent.{Extent}
use Rattle.b2_base.specs.declared.numbers.TheConstants.{LAST_VERSION}
use Rattle.b2_base.specs.declared.settings.Settings.{Settings}
use Rattle.b2_types.specs.declared.key.Flight.{Flight}
use Rattle.b2_types.specs.declared.key.Grant.{Grant}
use Rattle.b2_types.specs.declared.upload.UploadCall.{UploadCall}
use Rattle.b2_model.specs.Checks.{first_fault}
use Rattle.b2_model.specs.LiveGrant.{grant_at}
use Rattle.b2_model.specs.Lists.{put_by}
use Rattle.b2_model.specs.State.{State}
use Rattle.b2_model.specs.UploadSteps.{begin_as, begin_refusals, flight_of, new_flight, without_flight}
use Rattle.sound_states.specs.Sound.{IsSound}
use Rattle.sound_states.proofs.Ascending.{all_from_both, pairs_head, pairs_tail}
use Rattle.sound_states.proofs.Found.{found_has, found_passes, none_of_all, same_found}
use Rattle.sound_states.proofs.Tests.{equal_numbers, not_equal, text_back}
use Rattle.sound_states.proofs.Tokens.{same_text}
use Rattle.sound_steps.proofs.Begun.{begins_well}
use Rattle.sound_steps.proofs.Outcomes.{begin_sound, landed}
use Rattle.auth_grants.specs.Tokens.{AreOnToken, Tokens, flight_at, flight_on, grants_of, held_in, held_of, tokens_of, with_flight}
use Rattle.auth_grants.proofs.Uploads.{begins, ends, is_busy}
use Rattle.core_state.specs.declared.parts.Parts.{Parts}
use Rattle.core_state.specs.Uploads.{left_by}
use Rattle.core_state.specs.View.{IsWhole, state_of}
use Rattle.core_state.proofs.PassSteps.{WholeAs}

grants_kept : (M : State Extent) (gs : List Grant) → grants_of (map (held_of M) gs) ≡ gs
grants_kept M [] = refl
grants_kept M (g ∷ gs) = ap (λ l. g ∷ l) (grants_kept M gs)

abbrev moved : State Extent → ℕ → List Flight → State Extent
moved M t flights = record M { now = t; flights = flights }

-- the tokens know of the uploads that are under way now
with_flights : (p q : Parts) (t : ℕ) (flights : List Flight) (T : Tokens) → IsWhole p → IsSound (moved (state_of p) t flights) → T ≡ tokens_of (moved (state_of p) t flights)
    → q ≡ record p { now = t; tokens = T; flights = flights } → WholeAs q (moved (state_of p) t flights)
with_flights p q t flights T whole sound tokens is =
    let M = state_of p in
    let N = moved M t flights in
    let grants : grants_of T.held ≡ M.grants = ap (λ (U : Tokens). grants_of U.held) tokens ∙ grants_kept N M.grants in
    let serial : T.serial ≡ M.serial = ap (λ (U : Tokens). U.serial) tokens in
    let with_serial : ℕ → State Extent = λ n. record N { serial = n; grants = grants_of T.held } in
    let with_grants : List Grant → State Extent = λ gs. record N { grants = gs } in
    let state : state_of q ≡ N = ap state_of is ∙ ap with_serial serial ∙ ap with_grants grants in
    record {
      whole = record {
        sound = subst IsSound (sym state) sound;
        tokens = ap (λ (x : Parts). x.tokens) is ∙ tokens ∙ ap tokens_of (sym state);
        last = subst (λ (s : Settings). s.last_version ≤ LAST_VERSION) (sym (ap (λ (x : Parts). x.settings) is)) whole.last;
      };
      state = state;
    }

-- ---- an upload that begins

some_held : (M : State Extent) (text : List ℕ) (gs : List Grant) → IsSome (find (λ g. bytes_eq g.text text) gs) → IsSome (held_in (map (held_of M) gs) text)
some_held M text [] some = some
some_held M text (g ∷ gs) some = here (bytes_eq g.text text) refl some (some_held M text gs)
  where
    here : (b : Bool) → bytes_eq g.text text ≡ b → IsSome (cond b (Some g) (find (λ g. bytes_eq g.text text) gs))
        → (IsSome (find (λ g. bytes_eq g.text text) gs) → IsSome (held_in (map (held_of M) gs) text)) → IsSome (held_in (map (held_of M) (g ∷ gs)) text)
    here true is some rest = rw is refl
    here false is some rest = rw is (rest some)

none_on : (text : List ℕ) (fs : List Flight) → All (λ f. bytes_eq f.token text ≡ false) fs → find (λ f. bytes_eq f.token text) fs ≡ None
none_on text [] none = refl
none_on text (f ∷ fs) none = rw (All-head (λ f. bytes_eq f.token text ≡ false) f fs none) (none_on text fs (All-tail (λ f. bytes_eq f.token text ≡ false) f fs none))

-- no upload has the token of one that is not refused
pub is_free : (M : State Extent) (t : ℕ) (text : List ℕ) (u : UploadCall) → first_fault (begin_refusals M t (Some text) u) ≡ None → flight_on M text ≡ None
is_free M t text u passes =
    let begun = begins_well M t (Some text) u passes in
    let same : begun.text ≡ text = sym (same_found text begun.text begun.is) in
    ap (option_map (λ f. f.conn)) (none_on text M.flights (subst (λ x. All (λ f. bytes_eq f.token x ≡ false) M.flights) same begun.alone))

-- it stands
pub token_stands : (M : State Extent) (t : ℕ) (text : List ℕ) (u : UploadCall) → first_fault (begin_refusals M t (Some text) u) ≡ None → IsSome (grant_at M text)
token_stands M t text u passes =
    let begun = begins_well M t (Some text) u passes in
    let same : begun.text ≡ text = sym (same_found text begun.text begun.is) in
    subst (λ x. IsSome (grant_at M x)) same (ap is_some begun.there)

no_some : (o : Option ℕ) → is_some o ≡ false → o ≡ None
no_some None is = refl
no_some (Some n) is = absurd (false≢true (sym is))

pub is_untaken : (p : Parts) (M : State Extent) (t : ℕ) (text : List ℕ) (u : UploadCall) → state_of p ≡ M → IsWhole p → first_fault (begin_refusals M t (Some text) u) ≡ None → flight_at p.tokens text ≡ None
is_untaken p M t text u view whole passes =
    let N = state_of p in
    let here : first_fault (begin_refusals N t (Some text) u) ≡ None = subst (λ (O : State Extent). first_fault (begin_refusals O t (Some text) u) ≡ None) (sym view) passes in
    let begun = begins_well N t (Some text) u here in
    let same : begun.text ≡ text = sym (same_found text begun.text begun.is) in
    let free = subst (λ x. list_any (λ (f : Flight). bytes_eq f.token x) N.flights ≡ false) same (none_of_all (λ f. bytes_eq f.token begun.text) N.flights begun.alone) in
    ap (λ (T : Tokens). flight_at T text) whole.tokens ∙ no_some (flight_at (tokens_of N) text) (sym (is_busy N text (token_stands N t text u here)) ∙ free)

pub text_is : (M : State Extent) (text : List ℕ) (g : Grant) → Some g ≡ grant_at M text → g.text ≡ text
text_is M text g is = (bytes_eq-Decides g.text text).0 (found_passes (λ h. bytes_eq h.text text) M.grants g (sym is))

pub is_held : (p : Parts) (M : State Extent) (t : ℕ) (text : List ℕ) (u : UploadCall) → state_of p ≡ M → IsWhole p → first_fault (begin_refusals M t (Some text) u) ≡ None → IsSome (held_in p.tokens.held text)
is_held p M t text u view whole passes =
    let N = state_of p in
    let here : first_fault (begin_refusals N t (Some text) u) ≡ None = subst (λ (O : State Extent). first_fault (begin_refusals O t (Some text) u) ≡ None) (sym view) passes in
    subst (λ (T : Tokens). IsSome (held_in T.held text)) (sym whole.tokens) (some_held N text N.grants (token_stands N t text u here))

on_its_way : (p q : Parts) (t conn : ℕ) (text : List ℕ) (u : UploadCall) (f : Flight) (T : Tokens) → IsWhole p → p.kept ≤ t → flight_of (state_of p) conn ≡ None
    → first_fault (begin_refusals (state_of p) t (Some text) u) ≡ None → f ≡ new_flight conn (Some text) u → T ≡ with_flight text (Some conn) p.tokens
    → q ≡ record p { now = t; tokens = T; flights = put_by (λ g. g.conn) f p.flights }
    → WholeAs q (moved (state_of p) t (put_by (λ g. g.conn) (new_flight conn (Some text) u) p.flights))
on_its_way p q t conn text u f T whole later free passes made taken is =
    let M = state_of p in
    let flights : List Flight = put_by (λ g. g.conn) (new_flight conn (Some text) u) p.flights in
    let sound : IsSound (moved M t flights) =
    subst (λ o. IsSound (begin_as M t conn (Some text) u o).state) passes (begin_sound M t conn (Some text) u later whole.sound (ap is_some free)) in
    with_flights p q t flights T whole sound
    (taken ∙ ap (with_flight text (Some conn)) whole.tokens ∙ begins M conn text u (is_free M t text u passes))
    (is ∙ ap (λ (g : Flight). record p { now = t; tokens = T; flights = put_by (λ h. h.conn) g p.flights }) made)

pub occupied : (p q : Parts) (M : State Extent) (t conn : ℕ) (text : List ℕ) (u : UploadCall) (f : Flight) (T : Tokens) → state_of p ≡ M → IsWhole p → M.kept ≤ t → flight_of M conn ≡ None
    → first_fault (begin_refusals M t (Some text) u) ≡ None → f ≡ new_flight conn (Some text) u → T ≡ with_flight text (Some conn) p.tokens
    → q ≡ record p { now = t; tokens = T; flights = put_by (λ g. g.conn) f p.flights }
    → WholeAs q (moved M t (put_by (λ g. g.conn) (new_flight conn (Some text) u) M.flights))
occupied p q M t conn text u f T view whole later free passes made taken is =
    subst (λ (N : State Extent). N.kept ≤ t → flight_of N conn ≡ None → first_fault (begin_refusals N t (Some text) u) ≡ None → WholeAs q (moved N t (put_by (λ g. g.conn) (new_flight conn (Some text) u) N.flights))) view
    (λ l fr ps. on_its_way p q t conn text u f T whole l fr ps made taken is) later free passes

-- ---- an upload that ends or is lost

-- the uploads of the connection are those on the token of its upload
on_token : (conn : ℕ) (fs : List Flight) (f : Flight) → AllPairs (λ a b. a.conn < b.conn) fs → AllPairs (λ a b. bytes_eq a.token b.token ≡ false) fs → find (λ f. f.conn == conn) fs ≡ Some f → AreOnToken conn f.token fs
on_token conn [] f order apart is = absurd (none-some f is)
on_token conn (x ∷ xs) f order apart is = here (x.conn == conn) refl is (on_token conn xs f (pairs_tail Lower x xs order) (pairs_tail Other x xs apart))
  where
    Lower : Flight → Flight → Type 0
    Lower a b = a.conn < b.conn

    Other : Flight → Flight → Type 0
    Other a b = bytes_eq a.token b.token ≡ false

    Same : List ℕ → Flight → Type 0
    Same text g = (g.conn == conn) ≡ bytes_eq g.token text

    later : (x.conn == conn) ≡ true → All (Same x.token) xs
    later same =
        all_from_both (Lower x) (Other x) (Same x.token) xs
        (λ g below other. let at : x.conn ≡ conn = equal_numbers x.conn conn same in
        not_equal g.conn conn (λ e. absurd (omega (arith, below, at, e))) ∙ sym (text_back g.token x.token ∙ other))
        (pairs_head Lower x xs order) (pairs_head Other x xs apart)

    here : (b : Bool) → (x.conn == conn) ≡ b → cond b (Some x) (find (λ f. f.conn == conn) xs) ≡ Some f → (find (λ f. f.conn == conn) xs ≡ Some f → All (Same f.token) xs) → All (Same f.token) (x ∷ xs)
    here true same at rest =
        subst (λ g. All (Same g.token) (x ∷ xs)) (same_found x f at) (All-cons (Same x.token) x xs (same ∙ sym (same_text x.token)) (later same))
    here false same at rest =
        All-cons (Same f.token) x xs (same ∙ sym (found_has (λ f. f.conn == conn) (Other x) xs f (pairs_head Other x xs apart) at).1) (rest at)

none_gone : (conn : ℕ) (fs : List Flight) → find (λ f. f.conn == conn) fs ≡ None → filter (λ f. not (f.conn == conn)) fs ≡ fs
none_gone conn [] none = refl
none_gone conn (f ∷ fs) none = here (f.conn == conn) refl none (none_gone conn fs)
  where
    here : (b : Bool) → (f.conn == conn) ≡ b → cond b (Some f) (find (λ f. f.conn == conn) fs) ≡ None → (find (λ f. f.conn == conn) fs ≡ None → filter (λ f. not (f.conn == conn)) fs ≡ fs)
        → filter (λ f. not (f.conn == conn)) (f ∷ fs) ≡ f ∷ fs
    here true is none rest = absurd (none-some f (sym none))
    here false is none rest = rw is (ap (λ l. f ∷ l) (rest none))

left : (M : State Extent) (t conn : ℕ) (o : Option Flight) → IsSound M → flight_of M conn ≡ o → left_by o (tokens_of M) ≡ tokens_of (without_flight M t conn)
left M t conn None sound is = ap (λ (fs : List Flight). tokens_of (moved M t fs)) (sym (none_gone conn M.flights is))
left M t conn (Some f) sound is = ends M t conn f.token (on_token conn M.flights f sound.flights.order sound.flights.apart is)

landed_as : (p q : Parts) (t conn : ℕ) (o : Option Flight) (T : Tokens) → IsWhole p → p.kept ≤ t → o ≡ flight_of (state_of p) conn → T ≡ left_by o p.tokens
    → q ≡ record p { now = t; tokens = T; flights = filter (λ f. not (f.conn == conn)) p.flights } → WholeAs q (without_flight (state_of p) t conn)
landed_as p q t conn o T whole later found gone is =
    let M = state_of p in
    with_flights p q t (filter (λ f. not (f.conn == conn)) p.flights) T whole (landed M t conn later whole.sound)
    (gone ∙ ap (left_by o) whole.tokens ∙ left M t conn o whole.sound (sym found)) is

pub vacated : (p q : Parts) (M : State Extent) (t conn : ℕ) (o : Option Flight) (T : Tokens) → state_of p ≡ M → IsWhole p → M.kept ≤ t → o ≡ find (λ f. f.conn == conn) p.flights → T ≡ left_by o p.tokens
    → q ≡ record p { now = t; tokens = T; flights = filter (λ f. not (f.conn == conn)) p.flights } → WholeAs q (without_flight M t conn)
vacated p q M t conn o T view whole later found gone is =
    subst (λ (N : State Extent). N.kept ≤ t → WholeAs q (without_flight N t conn)) view (λ l. landed_as p q t conn o T whole l found gone is) later
