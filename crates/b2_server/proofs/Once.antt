-- A script has one output.
use Rattle.std.proofs.Common.{◌≡◌, ℕ, List, [], ◌∷◌, drop, map, Option, Some, None, unwrap_or, get_or, refl, sym, ap, ◌∙◌, subst}
use Rattle.http_header.specs.FieldValue.{FieldValue}
use Rattle.outside_traits.specs.declared.link.Event.{Event}
use Rattle.outside_traits.specs.declared.link.SentPiece.{SentPiece}
use Rattle.event_script.specs.Line.{Line}
use Rattle.event_script.specs.Script.{ReadsScript, timed_of, words_of}
use Rattle.event_script.specs.Shown.{output_of}
use Rattle.rule_table.specs.declared.call.CallName.{CallName}
use Rattle.rule_table.specs.declared.call.CallName.TheVariants.{AuthorizeAccount}
use Rattle.wire_forms.specs.Basic.{IsBasic}
use Rattle.wire_forms.specs.declared.request.Request.{Request}
use Rattle.call_paths.specs.declared.routes.Route.{Route}
use Rattle.b2_types.specs.declared.call.Credentials.{Credentials}
use Rattle.b2_types.specs.declared.call.Call.{Call}
use Rattle.b2_types.specs.declared.call.Call.TheVariants as calls
use Rattle.api_json.specs.Call.{GivesPair, HasCredentials}
use Rattle.api_json.proofs.Pairs.{one_pair}
use Rattle.b2_model.specs.State.{State}
use Rattle.served_world.specs.Replies.{Reads}
use Rattle.served_world.specs.World.{Turn, World, start, Happens, Run}
use Rattle.served_world.specs.Served.{IsServed, IsShown}
use Rattle.served_world.specs.Laws.{AreOne}
use Rattle.served_world.proofs.Once.{one_run}
use Rattle.served_world.proofs.Whenever.{served}
use Rattle.served_world.proofs.Shown.{run_shown}
use Rattle.event_loop.specs.Serving.{all_taken}
use Rattle.event_loop.specs.Turns.{RunsWhole, HasRun}
use Rattle.b2_server.specs.Store.{fixed_store, opened_store}
use Rattle.b2_server.specs.Answer.{IsCallOf, reads}
use Rattle.b2_server.specs.Run.{Sends, HasOutput, IsServedOutput}

-- ---- a request is one call

some_same : {X : Type 0} (a b : X) → Some a ≡ Some b → a ≡ b
some_same a b same = ap (λ o. unwrap_or o a) same

one_given : (r : Request) (p q : Credentials) → GivesPair r p.id p.secret → GivesPair r q.id q.secret → Some p ≡ Some q
one_given r p q (value, is, basic) (other, by, also) =
    let same : other ≡ value = some_same other value (sym by ∙ is) in
    let P : FieldValue → Type 0 = λ v. IsBasic v.bytes q.id q.secret in
    let pair = one_pair value.bytes p.id p.secret q.id q.secret basic (subst P same also) in
    λ i. Some (record { id = pair.0 i; secret = pair.1 i })

one_credentials : (r : Request) (a b : Option Credentials) → HasCredentials r a → HasCredentials r b → a ≡ b
one_credentials r None None first second = refl
one_credentials r None (Some q) first second = absurd (first q.id q.secret second)
one_credentials r (Some p) None first second = absurd (second p.id p.secret first)
one_credentials r (Some p) (Some q) first second = one_given r p q first second

one_call : (name : CallName) (route : Route) (r : Request) (c d : Call) → IsCallOf name route r c → IsCallOf name route r d → c ≡ d
one_call AuthorizeAccount route r c d (credentials, has, is) (others, also, same) =
    is ∙ ap (λ k. calls.AuthorizeAccount (record { version = route.version; credentials = k })) (one_credentials r credentials others has also) ∙ sym same
one_call other route r c d first second = absurd first

pub one_request : AreOne reads
one_request = record {
  call = λ head body token other a b (none, is) (also, too). (none ∙ sym also, one_call head.route.name head.route head.request a b is too);
  upload = λ head token other a b first second. absurd first;
}

-- ---- a run by its events and readings

heads : {X : Type 0} (x y : X) (xs ys : List X) → x ∷ xs ≡ y ∷ ys → x ≡ y
heads x y xs ys same = ap (λ l. get_or l 0 x) same

rests : {X : Type 0} (x y : X) (xs ys : List X) → x ∷ xs ≡ y ∷ ys → xs ≡ ys
rests x y xs ys same = ap (drop 1) same

-- what happens at a turn happens at one that is the same
same_turn : (R : Reads) (w v : World) (t u : Turn) → t.event ≡ u.event → t.reading ≡ u.reading → t.took ≡ all_taken w t.event → u.took ≡ all_taken w u.event → Happens R u.reading u.took w u.event v
    → Happens R t.reading t.took w t.event v
same_turn R w v t u events readings took also happens =
    let took_same : u.took ≡ t.took = also ∙ ap (all_taken w) (sym events) ∙ sym took in
    let by_reading : ℕ → Type 0 = λ r. Happens R r u.took w u.event v in
    let by_took : Option ℕ → Type 0 = λ n. Happens R t.reading n w u.event v in
    let by_event : Event → Type 0 = λ e. Happens R t.reading t.took w e v in
    subst by_event (sym events) (subst by_took took_same (subst by_reading (sym readings) happens))

one_whole : (R : Reads) → AreOne R → (turns others : List Turn) (w u v : World) → RunsWhole R w turns u → RunsWhole R w others v → map (λ (t : Turn). t.event) turns ≡ map (λ (t : Turn). t.event) others
    → map (λ (t : Turn). t.reading) turns ≡ map (λ (t : Turn). t.reading) others → u ≡ v
one_whole R one [] [] w u v a b events readings = a ∙ sym b
one_whole R one [] (s ∷ others) w u v a b events readings = cc readings
one_whole R one (t ∷ turns) [] w u v a b events readings = cc readings
one_whole R one (t ∷ turns) (s ∷ others) w u v (m, took, does, rest) (n, also, likewise, later) events readings =
    let first = same_turn R w n t s (heads t.event s.event _ _ events) (heads t.reading s.reading _ _ readings) took also likewise in
    let same = one_run R one (t ∷ []) w m n (m, does, refl) (n, first, refl) in
    let P : World → Type 0 = λ x. RunsWhole R x others v in
    one_whole R one turns others m u v rest (subst P (sym same) later) (rests t.event s.event _ _ events) (rests t.reading s.reading _ _ readings)

one_sent : (R : Reads) → AreOne R → (w : World) (events : List Event) (readings : List ℕ) (a b : List SentPiece) → HasRun R w events readings a → HasRun R w events readings b → a ≡ b
one_sent R one w events readings a b (turns, u, ran, are, is) (others, v, also, they, too) =
    is ∙ ap (λ (x : World). x.sends) (one_whole R one turns others w u v ran also (are.events_are ∙ sym they.events_are) (are.readings_are ∙ sym they.readings_are)) ∙ sym too

sends_once : (words : List ℕ) (events : List Event) (readings : List ℕ) (a b : List SentPiece) → Sends words events readings a → Sends words events readings b → a ≡ b
unfolding Sends
sends_once words events readings a b first second = one_sent reads one_request (start (opened_store fixed_store) words) events readings a b first second

abbrev SendsOf : List Line → List SentPiece → Type 0
SendsOf lines sent = Sends (words_of lines) (map (λ t. t.event) (timed_of lines)) (map (λ t. t.reading) (timed_of lines)) sent

pub one_shown : ((bytes : List ℕ) (a b : List Line) → ReadsScript bytes a → ReadsScript bytes b → a ≡ b)
    → (bytes first second : List ℕ) → HasOutput bytes first → HasOutput bytes second → first ≡ second
one_shown one_list bytes first second (lines, written, (sent, is, shows)) (others, again, (other, by, also)) =
    let same : others ≡ lines = one_list bytes others lines again written in
    let by_lines : List Line → Type 0 = λ ls. SendsOf ls other in
    shows ∙ ap output_of (sends_once _ _ _ sent other is (subst by_lines same by)) ∙ sym also

-- ---- what holds of it

as_run : (R : Reads) (turns : List Turn) (w v : World) → RunsWhole R w turns v → Run R w turns v
as_run R [] w v is = is
as_run R (t ∷ turns) w v (m, took, does, rest) = (m, does, as_run R turns m v rest)

run_served : (R : Reads) (M : State (List ℕ)) (words : List ℕ) (events : List Event) (readings : List ℕ) (sent : List SentPiece) → HasRun R (start M words) events readings sent
    → (w : World) × IsServed R M words w × IsShown w × (sent ≡ w.sends)
run_served R M words events readings sent (turns, w, ran, are, is) =
    let run = as_run R turns (start M words) w ran in (w, served R M words turns w run, run_shown R M words turns w run, is)

sends_served : (words : List ℕ) (events : List Event) (readings : List ℕ) (sent : List SentPiece) → Sends words events readings sent
    → (w : World) × IsServed reads (opened_store fixed_store) words w × IsShown w × (sent ≡ w.sends)
unfolding Sends
sends_served words events readings sent is = run_served reads (opened_store fixed_store) words events readings sent is

pub output_served : (bytes output : List ℕ) → HasOutput bytes output → IsServedOutput bytes output
output_served bytes output (lines, written, (sent, is, shows)) =
    let (w, honest, shown, same) = sends_served (words_of lines) _ _ sent is in (lines, written, w, honest, shown, shows ∙ ap output_of same)
