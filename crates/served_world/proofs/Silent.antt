-- Nothing is sent where no request has a reply.
use Rattle.std.proofs.Common.{◌≡◌, ℕ, nat_eq, Bool, true, false, cond, List, [], ◌∷◌, ◌++◌, Option, Some, None, MatchOption, refl, ap, ◌∙◌, subst}
use Rattle.std.specs.Prelude.{⊤}
use Rattle.std.specs.List.{flat_map, AllByRecursion}
use Rattle.std.proofs.lemmas.Bool.{ne_eqb}
use Rattle.served_world.specs.Replies.{text_of}
use Rattle.served_world.specs.World.{Conn, Ended, Answered, World}
use Rattle.served_world.specs.Served.{replies_on, IsFront, SendsFront, bytes_on, ended_on, now_on, IsShown}
use Rattle.served_world.specs.Laws.{HasNone}

no_front : (xs ys : List ℕ) → IsFront xs ys → ys ≡ [] → xs ≡ []
no_front [] ys front none = refl
no_front (x ∷ xs) ys (rest, is) none = absurd (cc (is, none))

pub no_replies : (name : ℕ) (rs : List Answered) → HasNone name rs → replies_on name rs ≡ []
no_replies name [] none = refl
no_replies name (r ∷ rs) (other, none) = ap (λ b. cond b (text_of r.reply) [] ++ replies_on name rs) (ne_eqb r.name name other) ∙ no_replies name rs none

pub silent : (rs : List Answered) (k : Conn) → SendsFront rs k → HasNone k.name rs → k.sent ≡ []
silent rs k front none = no_front k.sent (replies_on k.name rs) front (no_replies k.name rs none)

pub silent_at : (rs : List Answered) (k : Conn) (x : Option Conn) → x ≡ Some k → MatchOption x ⊤ (SendsFront rs) → HasNone k.name rs → k.sent ≡ []
silent_at rs k x there is none = silent rs k (subst (λ (y : Option Conn). MatchOption y ⊤ (SendsFront rs)) there is) none

if_none : (b : Bool) (l : List ℕ) → l ≡ [] → cond b l [] ≡ []
if_none true l none = none
if_none false l none = refl

ended_silent : (c : ℕ) (ended : List Ended) → AllByRecursion (λ (e : Ended). SendsFront [] e.conn) ended → flat_map (ended_on c) ended ≡ []
ended_silent c [] all = refl
ended_silent c (e ∷ ended) (first, all) = ap (λ l. l ++ flat_map (ended_on c) ended) (if_none (nat_eq e.number c) e.conn.sent (silent [] e.conn first tt)) ∙ ended_silent c ended all

now_silent : (x : Option Conn) → MatchOption x ⊤ (SendsFront []) → now_on x ≡ []
now_silent None is = refl
now_silent (Some k) is = silent [] k is tt

pub link_silent : (w : World) → IsShown w → (c : ℕ) → MatchOption (w.conns c) ⊤ (SendsFront w.answered) → AllByRecursion (λ (e : Ended). SendsFront w.answered e.conn) w.ended → w.answered ≡ []
    → flat_map (bytes_on c) w.sends ≡ []
link_silent w shown c here before none =
    let now = now_silent (w.conns c) (subst (λ (rs : List Answered). MatchOption (w.conns c) ⊤ (SendsFront rs)) none here) in
    let old = ended_silent c w.ended (subst (λ (rs : List Answered). AllByRecursion (λ (e : Ended). SendsFront rs e.conn) w.ended) none before) in
    shown c ∙ ap (λ l. l ++ now_on (w.conns c)) old ∙ now
