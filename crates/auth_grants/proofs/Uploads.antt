-- The uploads under way of a state, and the tokens that they are on.
use Rattle.std.proofs.Common.{◌≡◌, ◌≢◌, ℕ, List, [], ◌∷◌, map, filter, find, true, false, Bool, not, ◌==◌, Option, Some, None, IsSome, is_some, cond, refl, sym, ap, ◌∙◌, bytes_eq, option_map, true≢false}
use Rattle.std.specs.List.{list_any}
use Rattle.std.proofs.lemmas.List.Elements.{All-head, All-tail}
use Rattle.std.specs.Cmp.Lexicographic.{bytes_decides}
use Rattle.b2_base.specs.declared.extent.Extent.{Extent}
use Rattle.b2_types.specs.declared.key.Grant.{Grant}
use Rattle.b2_types.specs.declared.key.Flight.{Flight}
use Rattle.b2_types.specs.declared.upload.UploadCall.{UploadCall}
use Rattle.b2_model.specs.State.{State}
use Rattle.b2_model.specs.Lists.{put_by}
use Rattle.b2_model.specs.LiveGrant.{grant_at}
use Rattle.b2_model.specs.UploadSteps.{busy, new_flight, without_flight}
use Rattle.flight_laws.proofs.Finds.{put_found, put_other}
use Rattle.auth_grants.specs.declared.held.Held.{Held}
use Rattle.auth_grants.specs.Tokens.{tokens, with_conn, with_flight_in, with_flight, flight_at, flight_on, held_of, tokens_of, AreOnToken}

differ : (a b : List ℕ) (r : Bool) → bytes_eq a b ≡ r → a ≢ b → r ≡ false
differ a b true is other = absurd (other ((bytes_decides a b).0 is))
differ a b false is other = refl

-- a token of another text
other_text : (g : Grant) (text : List ℕ) → bytes_eq g.text text ≡ false → text ≢ g.text
other_text g text is same = true≢false (sym ((bytes_decides g.text text).1 (sym same)) ∙ is)

-- ---- what is busy

busy_step : (text : List ℕ) (f : Flight) (fs : List Flight) (r : Bool) → bytes_eq f.token text ≡ r
    → list_any (λ f. bytes_eq f.token text) fs ≡ is_some (option_map (λ f. f.conn) (find (λ f. bytes_eq f.token text) fs))
    → list_any (λ f. bytes_eq f.token text) (f ∷ fs) ≡ is_some (option_map (λ f. f.conn) (find (λ f. bytes_eq f.token text) (f ∷ fs)))
busy_step text f fs true is rest = rw is refl
busy_step text f fs false is rest = rw is rest

busy_all : (text : List ℕ) (fs : List Flight) → list_any (λ f. bytes_eq f.token text) fs ≡ is_some (option_map (λ f. f.conn) (find (λ f. bytes_eq f.token text) fs))
busy_all text [] = refl
busy_all text (f ∷ fs) = busy_step text f fs _ refl (busy_all text fs)

at_step : (M : State Extent) (text : List ℕ) (g : Grant) (gs : List Grant) (r : Bool) → bytes_eq g.text text ≡ r → IsSome (find (λ g. bytes_eq g.text text) (g ∷ gs))
    → (IsSome (find (λ g. bytes_eq g.text text) gs) → flight_at (tokens M.serial (map (held_of M) gs)) text ≡ flight_on M text)
    → flight_at (tokens M.serial (map (held_of M) (g ∷ gs))) text ≡ flight_on M text
at_step M text g gs true is some rest = rw is (ap (flight_on M) ((bytes_decides g.text text).0 is))
at_step M text g gs false is some rest = rw is (rest (rw is at some))

at_all : (M : State Extent) (text : List ℕ) (gs : List Grant) → IsSome (find (λ g. bytes_eq g.text text) gs)
    → flight_at (tokens M.serial (map (held_of M) gs)) text ≡ flight_on M text
at_all M text [] some = absurd (true≢false (sym some))
at_all M text (g ∷ gs) some = at_step M text g gs _ refl some (at_all M text gs)

pub is_busy : (M : State Extent) (text : List ℕ) → IsSome (grant_at M text) → (busy M (Some text)).fails ≡ is_some (flight_at (tokens_of M) text)
is_busy M text some = busy_all text M.flights ∙ ap is_some (sym (at_all M text M.grants some))

-- ---- a begin

no_find : (o : Option Flight) → option_map (λ f. f.conn) o ≡ None → o ≡ None
no_find None is = refl
no_find (Some f) is = absurd (true≢false (ap is_some is))

abbrev begun : State Extent → ℕ → List ℕ → UploadCall → State Extent
begun M conn text u = record M { flights = put_by (λ f. f.conn) (new_flight conn (Some text) u) M.flights }

held : Grant → Option ℕ → Held
held g flight = record { grant = g; flight = flight }

begin_one : (M : State Extent) (conn : ℕ) (text : List ℕ) (u : UploadCall) (g : Grant) (r : Bool) → bytes_eq g.text text ≡ r → flight_on M text ≡ None
    → with_conn text (Some conn) (held_of M g) ≡ held_of (begun M conn text u) g
unfolding held
begin_one M conn text u g true is none =
    let new : flight_on (begun M conn text u) text ≡ Some conn =
    ap (option_map (λ f. f.conn)) (put_found (λ f. bytes_eq f.token text) (new_flight conn (Some text) u) M.flights ((bytes_decides text text).1 refl) (no_find _ none)) in
    rw is (ap (held g) (sym (ap (flight_on (begun M conn text u)) ((bytes_decides g.text text).0 is) ∙ new)))
begin_one M conn text u g false is none =
    rw is (ap (held g) (sym (ap (option_map (λ f. f.conn)) (put_other (λ f. bytes_eq f.token g.text) (new_flight conn (Some text) u) M.flights
    (differ text g.text _ refl (other_text g text is))))))

begin_all : (M : State Extent) (conn : ℕ) (text : List ℕ) (u : UploadCall) (gs : List Grant) → flight_on M text ≡ None
    → with_flight_in text (Some conn) (map (held_of M) gs) ≡ map (held_of (begun M conn text u)) gs
begin_all M conn text u [] none = refl
begin_all M conn text u (g ∷ gs) none =
    rw (begin_one M conn text u g _ refl none) (ap (λ hs. held_of (begun M conn text u) g ∷ hs) (begin_all M conn text u gs none))

pub begins : (M : State Extent) (conn : ℕ) (text : List ℕ) (u : UploadCall) → flight_on M text ≡ None
    → with_flight text (Some conn) (tokens_of M) ≡ tokens_of (record M { flights = put_by (λ f. f.conn) (new_flight conn (Some text) u) M.flights })
begins M conn text u none = ap (tokens M.serial) (begin_all M conn text u M.grants none)

-- ---- an end

gone_step : (conn : ℕ) (text : List ℕ) (f : Flight) (fs : List Flight) (r : Bool) → (f.conn == conn) ≡ r → (f.conn == conn) ≡ bytes_eq f.token text
    → find (λ f. bytes_eq f.token text) (filter (λ f. not (f.conn == conn)) fs) ≡ None
    → find (λ f. bytes_eq f.token text) (filter (λ f. not (f.conn == conn)) (f ∷ fs)) ≡ None
gone_step conn text f fs true is one rest = rw is rest
gone_step conn text f fs false is one rest = rw (is, sym one ∙ is) rest

gone : (conn : ℕ) (text : List ℕ) (fs : List Flight) → AreOnToken conn text fs → find (λ f. bytes_eq f.token text) (filter (λ f. not (f.conn == conn)) fs) ≡ None
gone conn text [] one = refl
gone conn text (f ∷ fs) one =
    gone_step conn text f fs _ refl (All-head (λ f. (f.conn == conn) ≡ bytes_eq f.token text) f fs one) (gone conn text fs (All-tail (λ f. (f.conn == conn) ≡ bytes_eq f.token text) f fs one))

stay_step : (conn : ℕ) (text other : List ℕ) (f : Flight) (fs : List Flight) (r : Bool) → text ≢ other → (f.conn == conn) ≡ r → (f.conn == conn) ≡ bytes_eq f.token text
    → find (λ f. bytes_eq f.token other) (filter (λ f. not (f.conn == conn)) fs) ≡ find (λ f. bytes_eq f.token other) fs
    → find (λ f. bytes_eq f.token other) (filter (λ f. not (f.conn == conn)) (f ∷ fs)) ≡ find (λ f. bytes_eq f.token other) (f ∷ fs)
stay_step conn text other f fs true apart is one rest =
    let on : f.token ≡ text = (bytes_decides f.token text).0 (sym one ∙ is) in
    rw (is, differ f.token other _ refl (λ same. apart (sym on ∙ same))) rest
stay_step conn text other f fs false apart is one rest = rw is (ap (cond (bytes_eq f.token other) (Some f)) rest)

stay : (conn : ℕ) (text other : List ℕ) (fs : List Flight) → text ≢ other → AreOnToken conn text fs
    → find (λ f. bytes_eq f.token other) (filter (λ f. not (f.conn == conn)) fs) ≡ find (λ f. bytes_eq f.token other) fs
stay conn text other [] apart one = refl
stay conn text other (f ∷ fs) apart one =
    stay_step conn text other f fs _ apart refl (All-head (λ f. (f.conn == conn) ≡ bytes_eq f.token text) f fs one)
    (stay conn text other fs apart (All-tail (λ f. (f.conn == conn) ≡ bytes_eq f.token text) f fs one))

end_one : (M : State Extent) (t conn : ℕ) (text : List ℕ) (g : Grant) (r : Bool) → bytes_eq g.text text ≡ r → AreOnToken conn text M.flights
    → with_conn text None (held_of M g) ≡ held_of (without_flight M t conn) g
unfolding held
end_one M t conn text g true is one =
    rw is (ap (held g) (sym (ap (flight_on (without_flight M t conn)) ((bytes_decides g.text text).0 is) ∙ ap (option_map (λ f. f.conn)) (gone conn text M.flights one))))
end_one M t conn text g false is one =
    rw is (ap (held g) (sym (ap (option_map (λ f. f.conn)) (stay conn text g.text M.flights (other_text g text is) one))))

end_all : (M : State Extent) (t conn : ℕ) (text : List ℕ) (gs : List Grant) → AreOnToken conn text M.flights
    → with_flight_in text None (map (held_of M) gs) ≡ map (held_of (without_flight M t conn)) gs
end_all M t conn text [] one = refl
end_all M t conn text (g ∷ gs) one =
    rw (end_one M t conn text g _ refl one) (ap (λ hs. held_of (without_flight M t conn) g ∷ hs) (end_all M t conn text gs one))

pub ends : (M : State Extent) (t conn : ℕ) (text : List ℕ) → AreOnToken conn text M.flights
    → with_flight text None (tokens_of M) ≡ tokens_of (without_flight M t conn)
ends M t conn text one = ap (tokens M.serial) (end_all M t conn text M.grants one)
