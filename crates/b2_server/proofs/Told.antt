-- A step of the machine that is an authorize call, and the store after it.
use Rattle.std.proofs.Common.{◌≡◌, ℕ, Bool, true, false, List, drop, Some, None, refl, sym, ap, ◌∙◌, subst, if◌then◌else◌, [], nat_eq, append-nil}
use Rattle.sha2.specs.Sha256.{sha256}
use Rattle.rule_table.specs.declared.fault.FaultKind.{FaultKind}
use Rattle.rule_table.specs.declared.fault.FaultKind.TheVariants as kind
use Rattle.rule_table.specs.declared.call.CallName.{CallName}
use Rattle.rule_table.specs.declared.call.CallName.TheVariants as calls
use Rattle.b2_types.specs.declared.kinds.ApiVersion.TheVariants as version
use Rattle.b2_types.specs.declared.fault.Fault.{Fault}
use Rattle.b2_types.specs.declared.call.Credentials.{Credentials}
use Rattle.b2_types.specs.declared.call.Authorize.{Authorize}
use Rattle.b2_types.specs.declared.call.Call.{Call}
use Rattle.b2_types.specs.declared.call.Call.TheVariants.{AuthorizeAccount}
use Rattle.b2_types.specs.declared.shown.ShownAccount.{ShownAccount}
use Rattle.b2_types.specs.declared.shown.Shown.TheVariants as shown
use Rattle.b2_types.specs.declared.answer.AnswerOf.{AnswerOf}
use Rattle.b2_types.specs.declared.answer.AnswerOf.TheVariants as answer
use Rattle.b2_types.specs.Fault.{plain}
use Rattle.b2_model.specs.State.{State}
use Rattle.b2_model.specs.Plan.{new_token, no_serial}
use Rattle.b2_model.specs.Ask.{Outcome, at_moment}
use Rattle.b2_model.specs.Run.{Progress, moment, with_daily_pass, start_of}
use Rattle.wire_forms.specs.declared.request.Request.{Request}
use Rattle.call_paths.specs.declared.routes.Route.{Route}
use Rattle.http_edge.specs.declared.head.Head.{Head}
use Rattle.http_edge.specs.Reply.{reply_of}
use Rattle.api_json.specs.Call.{HasCredentials}
use Rattle.request_acts.specs.Answering.{IsAnswer, Uploads, Contents, with_content}
use Rattle.request_acts.specs.declared.replies.Reply.{Reply}
use Rattle.b2_server.specs.Store.{IsAt, IsQuiet, IsGranted, begun_at, granted, master_account}
use Rattle.b2_server.specs.Answer.{IsCallOf, IsCall, after_asking, told_to, Tells, IsTold}
use Rattle.b2_server.specs.declared.store.FirstStore.{FirstStore}
use Rattle.b2_server.proofs.FirstPath.{asked, refusal, giving, Gave, asks_none, asks_other, asks_full, asks_own}

-- ---- the closed words

told_is : (P : Progress (List ℕ)) (reading : ℕ) (c : Call) → told_to P reading c ≡ Some (asked (start_of P reading) (moment P.state reading) P.words c).answer
unfolding told_to asked
told_is P reading c = refl

state_is : (P : Progress (List ℕ)) (reading : ℕ) (c : Call) → (after_asking P reading c).state ≡ (asked (start_of P reading) (moment P.state reading) P.words c).state
unfolding after_asking asked
state_is P reading c = refl

words_are : (P : Progress (List ℕ)) (reading : ℕ) (c : Call) → (after_asking P reading c).words ≡ (asked (start_of P reading) (moment P.state reading) P.words c).words
unfolding after_asking asked
words_are P reading c = refl

-- the outcome of a step is what the store tells
tells : (s : FirstStore) (P : Progress (List ℕ)) (reading t : ℕ) (c : Call) (o : Outcome (List ℕ)) → t ≡ moment P.state reading → asked (with_daily_pass P.state t) t P.words c ≡ o → IsAt s o.state o.words
    → Tells s P reading c o.answer
tells s P reading t c o is_moment makes at =
    let same : asked (start_of P reading) (moment P.state reading) P.words c ≡ o = ap (λ (m : ℕ). asked (with_daily_pass P.state m) m P.words c) (sym is_moment) ∙ makes in
    let on_state : State (List ℕ) → Type 0 = λ N. IsAt s N o.words in
    let on_words : List ℕ → Type 0 = λ ws. IsAt s (after_asking P reading c).state ws in
    record {
      answers = told_is P reading c ∙ ap (λ (x : Outcome (List ℕ)). Some x.answer) same;
      after = subst on_words (sym (words_are P reading c ∙ ap (λ (x : Outcome (List ℕ)). x.words) same))
          (subst on_state (sym (state_is P reading c ∙ ap (λ (x : Outcome (List ℕ)). x.state) same)) at);
    }

-- ---- the state at the beginning of a step

begun_is : (M : State (List ℕ)) (t : ℕ) → begun_at M t ≡ at_moment (with_daily_pass M t) t
unfolding begun_at
begun_is M t = refl

-- the state before its moment moves
gave_before : (s : FirstStore) (M : State (List ℕ)) (words : List ℕ) (t : ℕ) → IsAt s (begun_at M t) words → Gave (with_daily_pass M t) s.settings
gave_before s M words t at =
    let N = with_daily_pass M t in record {
      now = N.now;
      kept = at.kept;
      pass_day = s.pass_day;
      serial = s.tokens.serial;
      given = at.grants;
      is = ap (λ (X : State (List ℕ)). record X { now = N.now }) (sym (begun_is M t) ∙ at.state);
    }

begun_at_moment : (s : FirstStore) (M : State (List ℕ)) (words : List ℕ) (t : ℕ) → IsAt s (begun_at M t) words → IsAt s (at_moment (with_daily_pass M t) t) words
begun_at_moment s M words t at =
    let P : State (List ℕ) → Type 0 = λ N. IsAt s N words in subst P (begun_is M t) at

-- ---- the answers

refuses : (s : FirstStore) (P : Progress (List ℕ)) (reading t : ℕ) (call : Authorize) (k : FaultKind) (f : Fault) → t ≡ moment P.state reading → IsAt s (begun_at P.state t) P.words
    → asked (with_daily_pass P.state t) t P.words (AuthorizeAccount call) ≡ refusal (with_daily_pass P.state t) t P.words k → f ≡ plain k → Tells s P reading (AuthorizeAccount call) (answer.Refused f)
refuses s P reading t call k f is_moment at makes told =
    let Q : Fault → Type 0 = λ x. Tells s P reading (AuthorizeAccount call) (answer.Refused x) in
    subst Q (sym told) (tells s P reading t (AuthorizeAccount call) (refusal (with_daily_pass P.state t) t P.words k) is_moment makes (begun_at_moment s P.state P.words t at))

pub refuses_none : (s : FirstStore) (P : Progress (List ℕ)) (reading t : ℕ) (call : Authorize) (f : Fault) → t ≡ moment P.state reading → IsAt s (begun_at P.state t) P.words → call.credentials ≡ None → f ≡ plain kind.P1
    → Tells s P reading (AuthorizeAccount call) (answer.Refused f)
refuses_none s P reading t call f is_moment at none told =
    refuses s P reading t call kind.P1 f is_moment at (asks_none (with_daily_pass P.state t) s.settings t P.words call (gave_before s P.state P.words t at) none) told

pub refuses_other : (s : FirstStore) (P : Progress (List ℕ)) (reading t : ℕ) (call : Authorize) (c : Credentials) (f : Fault) → t ≡ moment P.state reading → IsAt s (begun_at P.state t) P.words → call.credentials ≡ Some c
    → ((c.id ≡ s.settings.account) × (sha256 c.secret ≡ s.settings.secret_hash) → ⊥) → f ≡ plain kind.P2 → Tells s P reading (AuthorizeAccount call) (answer.Refused f)
refuses_other s P reading t call c f is_moment at some wrong told =
    refuses s P reading t call kind.P2 f is_moment at (asks_other (with_daily_pass P.state t) s.settings t P.words call c (gave_before s P.state P.words t at) some wrong) told

-- the serials are the same before the moment moves
serials_before : (M : State (List ℕ)) (t : ℕ) (full : Bool) → (no_serial (begun_at M t)).fails ≡ full → (no_serial (with_daily_pass M t)).fails ≡ full
serials_before M t full is = ap (λ (N : State (List ℕ)). (no_serial N).fails) (sym (begun_is M t)) ∙ is

pub refuses_full : (s : FirstStore) (P : Progress (List ℕ)) (reading t : ℕ) (call : Authorize) (c : Credentials) (f : Fault) → t ≡ moment P.state reading → IsAt s (begun_at P.state t) P.words → call.credentials ≡ Some c
    → c.id ≡ s.settings.account → sha256 c.secret ≡ s.settings.secret_hash → (no_serial (begun_at P.state t)).fails ≡ true → f ≡ plain kind.Cap → Tells s P reading (AuthorizeAccount call) (answer.Refused f)
refuses_full s P reading t call c f is_moment at some own hash full told =
    refuses s P reading t call kind.Cap f is_moment at (asks_full (with_daily_pass P.state t) s.settings t P.words call c (gave_before s P.state P.words t at) some own hash (serials_before P.state t true full)) told

granted_is : (M : State (List ℕ)) (t : ℕ) (words : List ℕ) → granted (begun_at M t) t words ≡ (giving (with_daily_pass M t) version.V3 t words).state
unfolding granted begun_at
granted_is M t words = refl

token_is : (M : State (List ℕ)) (t : ℕ) (words : List ℕ) → new_token (begun_at M t) words ≡ new_token (with_daily_pass M t) words
unfolding begun_at
token_is M t words = refl

pub gives_account : (s u : FirstStore) (P : Progress (List ℕ)) (reading t : ℕ) (call : Authorize) (c : Credentials) (text : List ℕ) (a : ShownAccount) → t ≡ moment P.state reading → IsAt s (begun_at P.state t) P.words
    → call.credentials ≡ Some c → c.id ≡ s.settings.account → sha256 c.secret ≡ s.settings.secret_hash → IsGranted t (begun_at P.state t) P.words text u → u.settings ≡ s.settings
    → a ≡ master_account call.version u.settings text → Tells u P reading (AuthorizeAccount call) (answer.Json (shown.Account a))
gives_account s u P reading t call c text a is_moment at some own hash given same is =
    let M = with_daily_pass P.state t in
    let gave = gave_before s P.state P.words t at in
    let settings : u.settings ≡ M.settings = same ∙ ap (λ (N : State (List ℕ)). N.settings) (sym gave.is) in
    let told : a ≡ master_account call.version M.settings (new_token M P.words) =
    is ∙ (λ i. master_account call.version (settings i) ((given.text_is ∙ token_is P.state t P.words) i)) in
    let on_state : State (List ℕ) → Type 0 = λ N. IsAt u N (drop 2 P.words) in
    let Q : ShownAccount → Type 0 = λ x. Tells u P reading (AuthorizeAccount call) (answer.Json (shown.Account x)) in
    subst Q (sym told) (tells u P reading t (AuthorizeAccount call) (giving M call.version t P.words) is_moment
    (asks_own M s.settings t P.words call c gave some own hash (serials_before P.state t false given.left))
    (subst on_state (granted_is P.state t P.words) given.at))

-- ---- the request

named_call : (name : CallName) (route : Route) (r : Request) (call : Authorize) → name ≡ calls.AuthorizeAccount → call.version ≡ route.version → HasCredentials r call.credentials
    → IsCallOf name route r (AuthorizeAccount call)
named_call name route r call named of_version has =
    let P : CallName → Type 0 = λ n. IsCallOf n route r (AuthorizeAccount call) in
    subst P (sym named) (call.credentials, has, λ i. AuthorizeAccount (record { version = of_version i; credentials = call.credentials }))

pub told_of : (s : FirstStore) (P : Progress (List ℕ)) (reading : ℕ) (head : Head) (call : Authorize) (told : AnswerOf (List ℕ)) → head.route.name ≡ calls.AuthorizeAccount → call.version ≡ head.route.version
    → HasCredentials head.request call.credentials → Tells s P reading (AuthorizeAccount call) told → IsTold s P reading head told
told_of s P reading head call told named of_version has answers = record {
  asked = AuthorizeAccount call;
  read = named_call head.route.name head.route head.request call named of_version has;
  tells = answers;
}

-- nothing is read after nothing was read and nothing begins to be
cases_unread : (same : Bool) (content : List ℕ) → content ≡ [] → (if same then [] else content) ≡ []
cases_unread true content none = refl
cases_unread false content none = none

pub stays_unread : (outs : Contents) (c : ℕ) → ((d : ℕ) → outs d ≡ []) → (d : ℕ) → with_content outs c [] d ≡ []
stays_unread outs c unread d = cases_unread (nat_eq c d) (outs d) (unread d)

pub is_answer : (s : FirstStore) (P : Progress (List ℕ)) (reading c : ℕ) (head : Head) (body text : List ℕ) (told : AnswerOf (List ℕ)) → IsTold s P reading head told → text ≡ reply_of told head.request.stay
    → (ups : Uploads) (outs : Contents) → ((d : ℕ) → ups d ≡ None) → ((d : ℕ) → outs d ≡ []) → IsAnswer IsCall (IsQuiet s) ups outs P reading c head body (record { text = text; len = 0 })
unfolding after_asking told_to
is_answer s P reading c head body text told is text_is ups outs none unread = record {
  token = None;
  asked = is.asked;
  told = told;
  content = [];
  read = (refl, is.read);
  answers = is.tells.answers;
  after = record { at = is.tells.after; none = none; unread = stays_unread outs c unread };
  len_is = refl;
  text_is = append-nil text ∙ text_is;
}
