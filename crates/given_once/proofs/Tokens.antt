-- The texts of the tokens that a run gives differ.
use Rattle.std.proofs.Common.{inl, inr, ◌≡◌, ℕ, ◌+◌, ◌-◌, ◌<◌, ◌≤◌, ◌==◌, ◌/◌, ◌^◌, nat_lt, Bool, true, false, ◌++◌, List, [], ◌∷◌, Option, Some, None, fold, option_and_then, unwrap_or, if◌then◌else◌, refl, sym, ap, subst, ◌∙◌, arith}
use Rattle.std.specs.Prelude.{⊤, ◌⊎◌}
use Rattle.std.specs.Option.{is_some}
use Rattle.std.proofs.lemmas.Bool.Decides.{nat_tests}
use Rattle.std.proofs.lemmas.List.Sums.{fold-append}
use Rattle.std.proofs.lemmas.Option.{none-some}
use Rattle.rule_table.specs.declared.fault.FaultKind.{FaultKind}
use Rattle.rule_table.specs.declared.fault.FaultKind.TheVariants.{NoBucket, NoFile, NoKey}
use Rattle.b2_types.specs.declared.bucket.Bucket.{Bucket}
use Rattle.b2_types.specs.declared.key.Key.{Key}
use Rattle.b2_types.specs.declared.key.Grant.{Grant}
use Rattle.b2_types.specs.declared.key.Flight.{Flight}
use Rattle.b2_types.specs.declared.fault.Fault.{Fault}
use Rattle.b2_types.specs.declared.call.Call.{Call}
use Rattle.b2_types.specs.declared.call.Call.TheVariants as call
use Rattle.b2_types.specs.declared.call.CopyFile.{CopyFile}
use Rattle.b2_types.specs.declared.call.CopyPart.{CopyPart}
use Rattle.b2_types.specs.declared.upload.UploadCall.{UploadCall}
use Rattle.b2_types.specs.declared.upload.UploadCall.TheVariants as upload
use Rattle.b2_types.specs.declared.version.VersionOf.{VersionOf}
use Rattle.b2_types.specs.declared.record.ChangeOf.{ChangeOf}
use Rattle.b2_types.specs.declared.record.ChangeOf.TheVariants as change
use Rattle.b2_model.specs.Kinds.{day}
use Rattle.b2_model.specs.Body.{Body}
use Rattle.b2_model.specs.Checks.{first_fault}
use Rattle.b2_model.specs.State.{State, Pieces, bucket_at}
use Rattle.b2_model.specs.Rows.{version_at}
use Rattle.b2_model.specs.Current.{current as newest}
use Rattle.b2_model.specs.LiveGrant.{token_text}
use Rattle.b2_model.specs.Plan.{Plan, or_absent}
use Rattle.b2_model.specs.Policy.{caller_of, key_by, bucket_named}
use Rattle.b2_model.specs.Changes.{after_record}
use Rattle.b2_model.specs.AskKeys.{authorize_plan, drop_key, key_of_id}
use Rattle.b2_model.specs.AskDownloads.{content, or_refused}
use Rattle.b2_model.specs.AskCopies.{file_copy_on, part_copy_on}
use Rattle.b2_model.specs.Ask.{plan, plan_of, shown_by, refusals_of, is_open, first_rules, at_moment, with_change, with_grant, outcome_or_refusal}
use Rattle.b2_model.specs.UploadSteps.{begin_as, begin_refusals, end, end_plan, file_end, part_end, upload_rules, without_flight, flight_of}
use Rattle.b2_model.specs.Run.{Step, asks, begins, ends, loses, passes, restarts, Progress, moment, with_pass, start_of, with_state, with_end, begin_step, answer_to, state_after, step, run}
use Rattle.machine_laws.proofs.Moments.{answer_state}
use Rattle.machine_laws.proofs.Passed.{none_in}
use Rattle.machine_laws.proofs.PassKeeps.{on_each}
use Rattle.given_once.specs.Tokens.{unless_refused, token_given}
use Rattle.sound_steps.proofs.Plans.{Pass, all_pass}
use Rattle.given_once.proofs.Numbers.{GivesNext, plan_gives, end_gives}
use Rattle.sound_steps.proofs.TokenTexts.{tells_number}

-- the second pair of numbers is not before the first
abbrev Later : ℕ → ℕ → ℕ → ℕ → Type 0
Later boot serial boot' serial' = (boot < boot') ⊎ ((boot ≡ boot') × (serial ≤ serial'))

later_more : (a s b t c u : ℕ) → Later a s b t → Later b t c u → Later a s c u
later_more a s b t c u (inl first) (inl second) = inl (omega (arith, first, second))
later_more a s b t c u (inl first) (inr second) = inl (omega (arith, first, second.0))
later_more a s b t c u (inr first) (inl second) = inl (omega (arith, first.0, second))
later_more a s b t c u (inr first) (inr second) = inr (first.0 ∙ second.0, omega (arith, first.1, second.1))

-- the serial after a token
abbrev serial_after : ℕ → Option Grant → ℕ
serial_after serial None = serial
serial_after serial (Some g) = serial + 1

module _ {C : Type 0} where
  -- the text of a token has the numbers of the state, and a serial was left
  pub record IsNext (M : State C) (g : Grant) : Type 0 where
    pub first : ℕ
    pub second : ℕ
    pub text : g.text ≡ token_text M.boot (M.serial + 1) first second
    pub left : (M.serial == 2 ^ 64 - 1) ≡ false

  abbrev pub Next : State C → Option Grant → Type 0
  Next M None = ⊤
  Next M (Some g) = IsNext M g

  abbrev Gives : State C → Plan C → Type 0
  Gives M p = Pass p.own → Next M p.grant

  there : {X : Type 0} (M : State C) (kind : FaultKind) (p : X → Plan C) (o : Option X) → ((x : X) → Gives M (p x)) → Gives M (or_absent kind p o)
  there M kind p None each = λ pass. tt
  there M kind p (Some x) each = each x

  current : (M : State C) (p : VersionOf C → Plan C) (o : Option (VersionOf C)) → ((v : VersionOf C) → Gives M (p v)) → Gives M (or_refused NoFile p o)
  current M p None each = λ pass. tt
  current M p (Some v) each = each v

  file_copied : (P : Pieces C) (M : State C) (key : Option Key) (t : ℕ) (c : CopyFile) (b : Option Bucket) (v : Option (VersionOf C)) → Gives M (file_copy_on P M key t c b v)
  file_copied P M key t c None v pass = tt
  file_copied P M key t c (Some b) None pass = tt
  file_copied P M key t c (Some b) (Some v) pass = tt

  part_copied : (P : Pieces C) (M : State C) (t : ℕ) (c : CopyPart) (v large : Option (VersionOf C)) → Gives M (part_copy_on P t c v large)
  part_copied P M t c None large pass = tt
  part_copied P M t c (Some v) None pass = tt
  part_copied P M t c (Some v) (Some large) pass = tt

  plan_token : (P : Pieces C) (M : State C) (t : ℕ) (words : List ℕ) (key : Option Key) (c : Call) → Gives M (plan P M t words key c)
  plan_token P M t words key (call.AuthorizeAccount c) =
      there M _ (authorize_plan c.version M t words) (option_and_then (key_by M) c.credentials) (λ k pass. record { first = _; second = _; text = refl; left = pass.1.0 })
  plan_token P M t words key (call.CreateBucket c) = λ pass. tt
  plan_token P M t words key (call.UpdateBucket c) = there M NoBucket _ (bucket_at M c.bucket) (λ b pass. tt)
  plan_token P M t words key (call.DeleteBucket c) = there M NoBucket _ (bucket_at M c.bucket) (λ b pass. tt)
  plan_token P M t words key (call.ListBuckets c) = λ pass. tt
  plan_token P M t words key (call.CreateKey c) = λ pass. tt
  plan_token P M t words key (call.DeleteKey c) = there M NoKey (drop_key c.version M) (key_of_id M c.key) (λ k pass. tt)
  plan_token P M t words key (call.ListKeys c) = λ pass. tt
  plan_token P M t words key (call.GetUploadUrl c) = there M NoBucket _ (bucket_at M c.bucket) (λ b pass. record { first = _; second = _; text = refl; left = pass.0 })
  plan_token P M t words key (call.StartLargeFile c) = there M NoBucket _ (bucket_at M c.bucket) (λ b pass. tt)
  plan_token P M t words key (call.GetUploadPartUrl c) = there M NoFile _ (version_at M c.bucket c.file) (λ v pass. record { first = _; second = _; text = refl; left = pass.1.0 })
  plan_token P M t words key (call.ListParts c) = there M NoFile _ (version_at M c.bucket c.file) (λ v pass. tt)
  plan_token P M t words key (call.FinishLargeFile c) = there M NoFile _ (version_at M c.bucket c.file) (λ v pass. tt)
  plan_token P M t words key (call.CancelLargeFile c) = there M NoFile _ (version_at M c.bucket c.file) (λ v pass. tt)
  plan_token P M t words key (call.ListUnfinishedLargeFiles c) = there M NoBucket _ (bucket_at M c.bucket) (λ b pass. tt)
  plan_token P M t words key (call.ListFileNames c) = there M NoBucket _ (bucket_at M c.bucket) (λ b pass. tt)
  plan_token P M t words key (call.ListFileVersions c) = there M NoBucket _ (bucket_at M c.bucket) (λ b pass. tt)
  plan_token P M t words key (call.GetFileInfo c) = there M NoFile _ (version_at M c.bucket c.file) (λ v pass. tt)
  plan_token P M t words key (call.HideFile c) = there M NoBucket _ (bucket_at M c.bucket) (λ b pass. tt)
  plan_token P M t words key (call.DeleteFileVersion c) = there M NoFile _ (version_at M c.bucket c.file) (λ v pass. tt)
  plan_token P M t words key (call.GetDownloadAuthorization c) =
      there M NoBucket _ (bucket_at M c.bucket) (λ b pass. record { first = _; second = _; text = refl; left = pass.0 })
  plan_token P M t words key (call.DownloadFileById c) = there M NoFile (content P.size M key c.range) (version_at M c.bucket c.file) (λ v pass. tt)
  plan_token P M t words key (call.DownloadFileByName c) = there M NoFile _ (bucket_named M c.bucket) (λ b. current M (content P.size M key c.range) (newest M b.num c.name) (λ v pass. tt))
  plan_token P M t words key (call.UpdateFileRetention c) = there M NoFile _ (version_at M c.bucket c.file) (λ v pass. tt)
  plan_token P M t words key (call.UpdateFileLegalHold c) = there M NoFile _ (version_at M c.bucket c.file) (λ v pass. tt)
  plan_token P M t words key (call.CopyFile c) = file_copied P M key t c (bucket_at M (unwrap_or c.bucket c.source.bucket)) (version_at M c.source.bucket c.source.num)
  plan_token P M t words key (call.CopyPart c) = part_copied P M t c (version_at M c.source.bucket c.source.num) (version_at M c.bucket c.file)
  plan_token P M t words key (call.Bad c) = λ pass. tt

  none_there : {X : Type 0} (kind : FaultKind) (p : X → Plan C) (o : Option X) → ((x : X) → (p x).grant ≡ None) → (or_absent kind p o).grant ≡ None
  none_there kind p None each = refl
  none_there kind p (Some x) each = each x

  end_token : (size : C → ℕ) (M : State C) (t : ℕ) (key : Option Key) (body : Body C) (u : UploadCall) → (end_plan size M t key body u).grant ≡ None
  end_token size M t key body (upload.File u) = none_there NoBucket (file_end size M t key body u) (bucket_at M u.bucket) (λ b. refl)
  end_token size M t key body (upload.Part u) = none_there NoFile (part_end size t body u) (version_at M u.bucket u.file) (λ v. refl)
  end_token size M t key body (upload.Bad c) = refl

  -- ---- boot numbers and serials

  -- a state with its numbers after another, and its serials within their bound
  abbrev pub After : State C → State C → Type 0
  After M N = Later M.boot M.serial N.boot N.serial × (M.serial ≤ 2 ^ 64 - 1 → N.serial ≤ 2 ^ 64 - 1)

  after_more : (M N O : State C) → After M N → After N O → After M O
  after_more M N O first second = (later_more M.boot M.serial N.boot N.serial O.boot O.serial first.0 second.0, λ bound. second.1 (first.1 bound))

  as_before : (M N : State C) → N.boot ≡ M.boot → N.serial ≡ M.serial → After M N
  as_before M N boots serials = (inr (sym boots, omega (arith, serials)), λ bound. omega (arith, serials, bound))

  -- the numbers of a state are those of another
  abbrev SameTokens : State C → State C → Type 0
  SameTokens M N = (N.boot ≡ M.boot) × (N.serial ≡ M.serial)

  passed : (M : State C) (t : ℕ) → SameTokens M (with_pass M t)
  passed M t = let others = on_each t M.buckets M in (ap (λ N. N.boot) others, ap (λ N. N.serial) others)

  recorded : (M : State C) (t : ℕ) (ch : ChangeOf C) → GivesNext M (Some ch) → SameTokens M (after_record M (record { at = t; change = ch }))
  recorded M t (change.Boot n) gives = absurd gives
  recorded M t (change.SnapState n) gives = absurd gives
  recorded M t change.Pass gives = passed M t
  recorded M t other gives = (refl, refl)

  moved_gives : (M : State C) (t : ℕ) (ch : ChangeOf C) → GivesNext M (Some ch) → GivesNext (at_moment M t) (Some ch)
  moved_gives M t (change.Settings s) gives = gives
  moved_gives M t other gives = gives

  changed : (M : State C) (t : ℕ) (o : Option (ChangeOf C)) → GivesNext M o → SameTokens M (with_change (at_moment M t) t o)
  changed M t None gives = (refl, refl)
  changed M t (Some ch) gives = recorded (at_moment M t) t ch (moved_gives M t ch gives)

  -- ---- what a call does

  granted : (N : State C) (o : Option Grant) → ((with_grant o N).boot ≡ N.boot) × ((with_grant o N).serial ≡ serial_after N.serial o)
  granted N None = (refl, refl)
  granted N (Some g) = (refl, refl)

  -- the boot number stays, and the serial rises with a token
  outcome_numbers : (M : State C) (t : ℕ) (words : List ℕ) (p : Plan C) (o : Option Fault) → GivesNext M p.change
      → ((outcome_or_refusal M t words p o).state.boot ≡ M.boot) × ((outcome_or_refusal M t words p o).state.serial ≡ serial_after M.serial (unless_refused o p.grant))
  outcome_numbers M t words p (Some fault) gives = (refl, refl)
  outcome_numbers M t words p None gives =
      let N = with_change (at_moment M t) t p.change in
      let same = changed M t p.change gives in
      let given = granted N p.grant in
      (given.0 ∙ same.0, given.1 ∙ ap (λ n. serial_after n p.grant) same.1)

  -- a token that is given has the next numbers
  unrefused : (M : State C) (o : Option Fault) (grant : Option Grant) → (o ≡ None → Next M grant) → Next M (unless_refused o grant)
  unrefused M None grant next = next refl
  unrefused M (Some fault) grant next = tt

  serials : (M N : State C) (o : Option Grant) → N.boot ≡ M.boot → N.serial ≡ serial_after M.serial o → Next M o → After M N
  serials M N None boots same next = as_before M N boots same
  serials M N (Some g) boots same next =
      let left = next.left in
      (inr (sym boots, omega (arith, same)), λ bound. let room : M.serial ≤ 2 ^ 64 - 1 - 1 = grind (arith, nat_tests, left, bound) in omega (arith, same, room))

  -- ---- steps

  started : (P : Progress C) (reading : ℕ) → SameTokens P.state (start_of P reading)
  started P reading =
      let t = moment P.state reading in
      either (nat_lt P.state.pass_day (t / day)) (with_pass P.state t) (passed P.state t)
    where
      either : (b : Bool) (N : State C) → SameTokens P.state N → SameTokens P.state (if b then N else P.state)
      either true N same = same
      either false N same = (refl, refl)

  ask_next : (K : Pieces C) (M : State C) (t : ℕ) (words : List ℕ) (token : Option (List ℕ)) (c : Call)
      → Next M (unless_refused (first_fault (refusals_of K M t words token c)) (plan_of K M t words token c).grant)
  ask_next K M t words token c =
      let p = plan_of K M t words token c in
      unrefused M (first_fault (refusals_of K M t words token c)) p.grant
      (λ none. plan_token K M t words (shown_by M token c) c (all_pass p.own (none_in (if is_open M c then p.exists else first_rules M t (caller_of M token) c p.exists) p.own none).1))

  -- of a state with the same numbers
  next_there : (M N : State C) (o : Option Grant) → SameTokens M N → Next N o → Next M o
  next_there M N None same next = tt
  next_there M N (Some g) same next = record {
    first = next.first;
    second = next.second;
    text = next.text ∙ ap (λ b. token_text b (N.serial + 1) next.first next.second) same.0 ∙ ap (λ n. token_text M.boot (n + 1) next.first next.second) same.1;
    left = ap (λ n. n == 2 ^ 64 - 1) (sym same.1) ∙ next.left;
  }

  pub given_next : (K : Pieces C) (P : Progress C) (s : Step C) → Next P.state (token_given K P s)
  given_next K P (asks reading token c) =
      next_there P.state (start_of P reading) (token_given K P (asks reading token c)) (started P reading) (ask_next K (start_of P reading) (moment P.state reading) P.words token c)
  given_next K P (begins reading conn token u) = tt
  given_next K P (ends reading conn body) = tt
  given_next K P (loses reading conn) = tt
  given_next K P (passes reading) = tt
  given_next K P (restarts reading) = tt

  -- what a step that is no opening makes of the numbers
  abbrev Numbered : (K : Pieces C) → Progress C → Step C → State C → Type 0
  Numbered K P s N = (N.boot ≡ P.state.boot) × (N.serial ≡ serial_after P.state.serial (token_given K P s))

  begun : (M : State C) (t conn : ℕ) (token : Option (List ℕ)) (u : UploadCall) (o : Option Fault) → SameTokens M (begin_as M t conn token u o).state
  begun M t conn token u (Some fault) = (refl, refl)
  begun M t conn token u None = (refl, refl)

  ended : (size : C → ℕ) (M : State C) (t : ℕ) (f : Flight) (body : Body C) (words : List ℕ) → SameTokens M (end size M t f body words).state
  ended size M t f body words =
      let N = without_flight M t f.conn in
      let who = caller_of N (Some f.token) in
      let p = end_plan size N t who.key body f.upload in
      let o = first_fault (upload_rules N t who f.upload p.exists ++ p.own) in
      let numbers = outcome_numbers N t words p o (end_gives size N t who.key body f.upload) in
      (numbers.0, numbers.1 ∙ ap (λ g. serial_after M.serial (unless_refused o g)) (end_token size N t who.key body f.upload) ∙ no_token o)
    where
      no_token : (o : Option Fault) → serial_after M.serial (unless_refused o None) ≡ M.serial
      no_token None = refl
      no_token (Some fault) = refl

  two_same : (M N O : State C) → SameTokens M N → SameTokens N O → SameTokens M O
  two_same M N O first second = (second.0 ∙ first.0, second.1 ∙ first.1)

  either_same : (b : Bool) (M : State C) (P Q : Progress C) → SameTokens M P.state → SameTokens M Q.state → SameTokens M (if b then P else Q).state
  either_same true M P Q first second = first
  either_same false M P Q first second = second

  with_end_same : (K : Pieces C) (P : Progress C) (reading : ℕ) (body : Body C) (o : Option Flight) → SameTokens P.state (with_end K P reading body o).state
  with_end_same K P reading body None = (refl, refl)
  with_end_same K P reading body (Some f) =
      two_same P.state (start_of P reading) (with_end K P reading body (Some f)).state (started P reading) (ended K.size (start_of P reading) (moment P.state reading) f body P.words)

  asked : (K : Pieces C) (P : Progress C) (reading : ℕ) (token : Option (List ℕ)) (c : Call) → Numbered K P (asks reading token c) (state_after K P (asks reading token c)).state
  asked K P reading token c =
      let M = start_of P reading in
      let t = moment P.state reading in
      let same = started P reading in
      let numbers = outcome_numbers M t P.words (plan_of K M t P.words token c) (first_fault (refusals_of K M t P.words token c)) (plan_gives K M t P.words (shown_by M token c) c) in
      (numbers.0 ∙ same.0, numbers.1 ∙ ap (λ n. serial_after n (token_given K P (asks reading token c))) same.1)

  after_step : (K : Pieces C) (P : Progress C) (s : Step C) → After P.state (state_after K P s).state
  after_step K P (asks reading token c) =
      let numbers = asked K P reading token c in
      serials P.state (state_after K P (asks reading token c)).state (token_given K P (asks reading token c)) numbers.0 numbers.1 (given_next K P (asks reading token c))
  after_step K P (begins reading conn token u) =
      let M = start_of P reading in
      let t = moment P.state reading in
      let same = either_same (is_some (flight_of P.state conn)) P.state P (with_state P (begin_step P reading conn token u).state) (refl, refl)
      (two_same P.state M (begin_step P reading conn token u).state (started P reading) (begun M t conn token u (first_fault (begin_refusals M t token u)))) in
      as_before P.state (state_after K P (begins reading conn token u)).state same.0 same.1
  after_step K P (ends reading conn body) =
      let same = with_end_same K P reading body (flight_of P.state conn) in
      as_before P.state (state_after K P (ends reading conn body)).state same.0 same.1
  after_step K P (loses reading conn) =
      let M = start_of P reading in
      let t = moment P.state reading in
      let same = either_same (is_some (flight_of P.state conn)) P.state (with_state P (without_flight M t conn)) P (started P reading) (refl, refl) in
      as_before P.state (state_after K P (loses reading conn)).state same.0 same.1
  after_step K P (passes reading) = let same = passed P.state (moment P.state reading) in as_before P.state (with_pass P.state (moment P.state reading)) same.0 same.1
  after_step K P (restarts reading) = (inl (omega arith), λ bound. omega arith)

  step_after : (K : Pieces C) (P : Progress C) (s : Step C) → After P.state (step K P s).state
  step_after K P s = subst (After P.state) (sym (answer_state (answer_to K P s) (state_after K P s))) (after_step K P s)

  run_after : (K : Pieces C) (P : Progress C) (steps : List (Step C)) → After P.state (fold (step K) P steps).state
  run_after K P [] = as_before P.state P.state refl refl
  run_after K P (s ∷ steps) = after_more P.state (step K P s).state (fold (step K) (step K P s) steps).state (step_after K P s) (run_after K (step K P s) steps)

  -- ---- a step that gives a token, and what comes later

  -- the serial has risen
  risen : (K : Pieces C) (P : Progress C) (s : Step C) (g : Grant) → token_given K P s ≡ Some g → ((step K P s).state.boot ≡ P.state.boot) × ((step K P s).state.serial ≡ P.state.serial + 1)
  risen K P (asks reading token c) g given =
      let numbers = asked K P reading token c in
      (numbers.0, numbers.1 ∙ ap (serial_after P.state.serial) given)
  risen K P (begins reading conn token u) g given = absurd (none-some g given)
  risen K P (ends reading conn body) g given = absurd (none-some g given)
  risen K P (loses reading conn) g given = absurd (none-some g given)
  risen K P (passes reading) g given = absurd (none-some g given)
  risen K P (restarts reading) g given = absurd (none-some g given)

  -- a token that is given by a state, and one by a state whose numbers are past it
  apart : (M N : State C) (g h : Grant) → IsNext M g → IsNext N h → Later M.boot (M.serial + 1) N.boot N.serial → M.serial ≤ 2 ^ 64 - 1 → N.serial ≤ 2 ^ 64 - 1 → N.boot < 2 ^ 32 → g.text ≡ h.text → ⊥
  apart M N g h one two later low high few same =
      let left = one.left in
      let left' = two.left in
      let room : M.serial + 1 < 2 ^ 64 = grind (arith, nat_tests, left, low) in
      let room' : N.serial + 1 < 2 ^ 64 = grind (arith, nat_tests, left', high) in
      let numbers = tells_number M.boot (M.serial + 1) one.first one.second N.boot (N.serial + 1) two.first two.second (few_before later) few room room' (sym one.text ∙ same ∙ two.text) in
      no_later later numbers.0 numbers.1
    where
      few_before : Later M.boot (M.serial + 1) N.boot N.serial → M.boot < 2 ^ 32
      few_before (inl before) = omega (arith, before, few)
      few_before (inr at) = omega (arith, at.0, few)

      no_later : Later M.boot (M.serial + 1) N.boot N.serial → M.boot ≡ N.boot → M.serial + 1 ≡ N.serial + 1 → ⊥
      no_later (inl before) boots serials = absurd (omega (arith, before, boots))
      no_later (inr at) boots serials = absurd (omega (arith, at.1, serials))

  pub differ : (K : Pieces C) (M : State C) (words : List ℕ) (earlier later : List (Step C)) (s u : Step C) (g h : Grant) → M.serial < 2 ^ 64 → (run K M words (earlier ++ s ∷ later)).state.boot < 2 ^ 32
      → token_given K (run K M words earlier) s ≡ Some g → token_given K (run K M words (earlier ++ s ∷ later)) u ≡ Some h → g.text ≡ h.text → ⊥
  differ K M words earlier later s u g h low few first second same =
      let start : Progress C = record { state = M; words = words; answers = [] } in
      let P = run K M words earlier in
      let Q = run K M words (earlier ++ s ∷ later) in
      let split = fold-append (step K) start earlier (s ∷ later) in
      let up = risen K P s g first in
      let rest = run_after K (step K P s) later in
      let before = run_after K start earlier in
      let low_there = before.1 (omega (arith, low)) in
      let passed_there = after_more P.state (step K P s).state (fold (step K) (step K P s) later).state (step_after K P s) rest in
      let numbers : Later P.state.boot (P.state.serial + 1) (fold (step K) (step K P s) later).state.boot (fold (step K) (step K P s) later).state.serial =
      subst (λ b. Later b (P.state.serial + 1) (fold (step K) (step K P s) later).state.boot (fold (step K) (step K P s) later).state.serial) up.0
      (subst (λ n. Later (step K P s).state.boot n (fold (step K) (step K P s) later).state.boot (fold (step K) (step K P s) later).state.serial) up.1 rest.0) in
      apart P.state Q.state g h (subst (Next P.state) first (given_next K P s)) (subst (Next Q.state) second (given_next K Q u))
      (subst (λ R. Later P.state.boot (P.state.serial + 1) R.state.boot R.state.serial) (sym split) numbers) low_there
      (subst (λ R. R.state.serial ≤ 2 ^ 64 - 1) (sym split) (passed_there.1 low_there)) few same
