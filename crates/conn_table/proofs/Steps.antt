-- The steps that give acts.
use Rattle.std.proofs.Common.{◌≡◌, ℕ, ◌+◌, ◌<◌, ◌≤◌, ◌⊎◌, inl, inr, Bool, true, false, cond, List, [], ◌∷◌, ◌++◌, length, take, drop, Option, Some, None, MatchOption, refl, sym, ap, ◌∙◌, subst, append_assoc, arith}
use Rattle.std.proofs.lemmas.Bool.{cases_lt}
use Rattle.std.proofs.lemmas.List.{length-append, take_all, take_at, drop_at}
use Rattle.rule_table.specs.declared.fault.FaultKind.{FaultKind}
use Rattle.b2_types.specs.declared.fault.Fault.{Fault}
use Rattle.b2_types.specs.Fault.{plain}
use Rattle.http_edge.specs.declared.cut.Cut.TheVariants.{Head as HeadCut, NotYet, TooLong}
use Rattle.http_edge.specs.declared.head.Head.{Head}
use Rattle.http_edge.specs.Cut.{IsCut}
use Rattle.http_edge.specs.Length.{is_upload}
use Rattle.http_edge.specs.Request.{IsRequest, IsHeadFault}
use Rattle.rule_table.specs.declared.fault.FaultKind.TheVariants.{LongHead}
use Rattle.wire_forms.specs.declared.request.Request.{Request}
use Rattle.call_paths.specs.declared.routes.Route.{Route}
use Rattle.conn_talk.specs.declared.act.Act.{Act}
use Rattle.conn_talk.specs.declared.act.Act.TheVariants as act
use Rattle.conn_table.specs.declared.incoming.Incoming.{Incoming}
use Rattle.conn_table.specs.declared.incoming.Stage.{Stage}
use Rattle.conn_table.specs.declared.incoming.Stage.TheVariants as stage
use Rattle.conn_talk.specs.Asked.{Asked, nothing, refused, begun, complete, IsRead, IsAsked, head_of, with_more}
use Rattle.conn_talk.specs.Acts.{body_acts, acts_of, acts_after}
use Rattle.conn_table.specs.Incoming.{IsGathering, IsUploading, IsHeld, IsAt, HasFlags, SameFlags, IsReading, Gives}
use Rattle.conn_talk.proofs.Came.{asks_nothing, asks_begun, asks_complete, refused_more, complete_more}
use Rattle.conn_talk.proofs.Once.{one_asked}

-- the same flags
pub flags_stay : (before : ℕ) (told : Asked) (old new : Incoming) → HasFlags before told old → SameFlags old new → HasFlags before told new
flags_stay before told old new flags same = record {
  before_is = same.before_is ∙ flags.before_is;
  stay_is = same.stay_is ∙ flags.stay_is;
  upload_is = same.upload_is ∙ flags.upload_is;
}

pub flags_more : (before : ℕ) (told : Asked) (more : List ℕ) (k : Incoming) → HasFlags before told k → HasFlags before (with_more told more) k
flags_more before nothing more k flags = flags
flags_more before (refused kind) more k flags = flags
flags_more before (begun head came) more k flags = flags
flags_more before (complete head body rest) more k flags = record { before_is = flags.before_is; stay_is = flags.stay_is; upload_is = flags.upload_is }

-- the same acts by another name
pub by_acts : (before : ℕ) (bytes : List ℕ) (told : Asked) (first acts more : List Act) (k : Incoming) → acts ≡ more → Gives before bytes told first more k → Gives before bytes told first acts k
by_acts before bytes told first acts more k same gives = subst (λ (l : List Act). Gives before bytes told first l k) (sym same) gives

-- the same bytes, and what was told
pub by_told : (before : ℕ) (bytes got : List ℕ) (told : Asked) (acts : List Act) (k : Incoming) → told ≡ nothing → got ≡ bytes → Gives before bytes nothing [] acts k → Gives before got told [] acts k
by_told before bytes got told acts k none same gives = subst (λ (a : Asked). Gives before got a [] acts k) (sym none) (subst (λ (l : List ℕ). Gives before l nothing [] acts k) (sym same) gives)

-- the head has not ended
pub gives_seeking : (before : ℕ) (bytes : List ℕ) (k : Incoming) (n : ℕ) → HasFlags before nothing k → k.stage ≡ stage.Seeking n → n ≡ length bytes → k.bytes.items ≡ bytes → k.head ≡ None → IsCut bytes NotYet → Gives before bytes nothing [] [] k
gives_seeking before bytes k n flags at size kept no_head cut =
    let none : IsCut (take n bytes) NotYet = subst (λ (l : List ℕ). IsCut l NotYet) (sym (take_all n bytes (omega (arith, size)))) cut in
    let short = cut.0 in
    let here : IsAt before bytes nothing (stage.Seeking n) k.head k.bytes.items = (refl, record { kept_is = kept; within = omega (arith, size); none = λ _. none; few = omega (arith, short) }, no_head) in
    record {
      new = nothing;
      asked = (NotYet, cut, refl);
      acts_are = refl;
      reading = record { flags = flags; at = subst (λ (s : Stage). IsAt before bytes nothing s k.head k.bytes.items) (sym at) here };
    }

-- its form is refused
pub asks_refused : (before : ℕ) (bytes front : List ℕ) (end : ℕ) (kind : FaultKind) → IsCut bytes (HeadCut end) → front ≡ take end bytes → IsHeadFault front kind → IsAsked before bytes (refused kind)
asks_refused before bytes front end kind cut same is = (HeadCut end, cut, inl (kind, subst (λ (l : List ℕ). IsHeadFault l kind) same is, refl))

pub asks_long : (before : ℕ) (bytes : List ℕ) → IsCut bytes TooLong → IsAsked before bytes (refused LongHead)
asks_long before bytes cut = (TooLong, cut, refl)

-- a head is read
pub is_read : (before : ℕ) (bytes front rest : List ℕ) (end : ℕ) (asked : Request) (route : Route) (head : Head) → IsCut bytes (HeadCut end) → front ≡ take end bytes → IsRequest front asked route → head ≡ head_of before asked route
    → rest ≡ drop end bytes → IsRead before bytes head rest
is_read before bytes front rest end asked route head cut same request is after = record {
  end = end;
  asked = asked;
  route = route;
  cut = cut;
  request = subst (λ (l : List ℕ). IsRequest l asked route) same request;
  head_is = is;
  rest_is = after;
}

pub gives_refused : (before : ℕ) (bytes : List ℕ) (k : Incoming) (fault : Fault) (kind : FaultKind) → HasFlags before nothing k → k.stage ≡ stage.Closed → k.bytes.items ≡ [] → k.head ≡ None → fault ≡ plain kind → IsAsked before bytes (refused kind)
    → Gives before bytes nothing [] (act.Refuse fault ∷ []) k
gives_refused before bytes k fault kind flags at none no_head same asked = record {
  new = refused kind;
  asked = asked;
  acts_are = ap (λ f. act.Refuse f ∷ []) same;
  reading = record {
    flags = record { before_is = flags.before_is; stay_is = flags.stay_is; upload_is = flags.upload_is };
    at = subst (λ (s : Stage). IsAt before bytes (refused kind) s k.head k.bytes.items) (sym at) (asked, tt, none, no_head);
  };
}

-- the body of a call has not come whole
pub gives_gathering : (before : ℕ) (bytes : List ℕ) (head : Head) (kept : List ℕ) (k : Incoming) → HasFlags before nothing k → k.stage ≡ stage.Gathering → k.head ≡ Some head → k.bytes.items ≡ kept → IsRead before bytes head kept
    → is_upload head.route.name ≡ false → length kept < head.request.length → Gives before bytes nothing [] [] k
gives_gathering before bytes head kept k flags at has same read call short =
    let gathering : IsGathering before bytes head kept = record { read = read; call = call; short = short } in
    let kept_so : MatchOption (Some head) ⊥ (λ h. IsGathering before bytes h k.bytes.items) = subst (λ (l : List ℕ). IsGathering before bytes head l) (sym same) gathering in
    let with_head : MatchOption k.head ⊥ (λ h. IsGathering before bytes h k.bytes.items) =
    subst (λ (o : Option Head). MatchOption o ⊥ (λ h. IsGathering before bytes h k.bytes.items)) (sym has) kept_so in
    record {
      new = nothing;
      asked = asks_nothing before bytes head kept read call short;
      acts_are = refl;
      reading = record { flags = flags; at = subst (λ (s : Stage). IsAt before bytes nothing s k.head k.bytes.items) (sym at) (refl, with_head) };
    }

-- a whole request, of whose bytes some may be held
pub at_complete : (before : ℕ) (bytes : List ℕ) (head : Head) (body rest : List ℕ) (at : Stage) (slot : Option Head) (kept : List ℕ) → IsAsked before bytes (complete head body rest) → IsHeld (complete head body rest) at kept
    → slot ≡ None → IsAt before bytes (complete head body rest) at slot kept
at_complete before bytes head body rest (stage.Complete says) slot kept asked held no_head = (asked, held, no_head)
at_complete before bytes head body rest (stage.Seeking seen) slot kept asked held no_head = absurd held
at_complete before bytes head body rest stage.Gathering slot kept asked held no_head = absurd held
at_complete before bytes head body rest (stage.Uploading left) slot kept asked held no_head = absurd held
at_complete before bytes head body rest stage.Closed slot kept asked held no_head = absurd held

asks_split : (before : ℕ) (bytes : List ℕ) (head : Head) (body rest : List ℕ) → IsRead before bytes head (body ++ rest) → length body ≡ head.request.length → IsAsked before bytes (complete head body rest)
asks_split before bytes head body rest read size =
    let need = head.request.length in
    let whole = length-append body rest in
    let asked = asks_complete before bytes head (body ++ rest) read (omega (arith, size, whole)) in
    subst (IsAsked before bytes) (λ i. complete head (take_at body rest need size i) (drop_at body rest need size i)) asked

abbrev call_acts : Head → List ℕ → Bool → List Act
call_acts head body uploads = cond uploads ((act.Begin head ∷ body_acts body) ++ act.End ∷ []) (act.Whole head body ∷ [])

pub gives_call : (before : ℕ) (bytes : List ℕ) (head : Head) (body rest : List ℕ) (k : Incoming) → IsRead before bytes head (body ++ rest) → length body ≡ head.request.length → is_upload head.route.name ≡ false → k.before ≡ before
    → k.stay ≡ head.request.stay → k.upload ≡ false → k.head ≡ None → IsHeld (complete head body rest) k.stage k.bytes.items → Gives before bytes nothing [] (act.Whole head body ∷ []) k
gives_call before bytes head body rest k read size call same stay upload no_head held =
    let asked = asks_split before bytes head body rest read size in
    record {
      new = complete head body rest;
      asked = asked;
      acts_are = ap (call_acts head body) (sym call);
      reading = record {
        flags = record { before_is = same; stay_is = stay; upload_is = upload ∙ sym call };
        at = at_complete before bytes head body rest k.stage k.head k.bytes.items asked held no_head;
      };
    }

-- ---- bytes of an upload

pub gives_part : (before : ℕ) (got : List ℕ) (head : Head) (came bytes : List ℕ) (first : List Act) (left : ℕ) (k : Incoming) → HasFlags before (begun head came) k → k.stage ≡ stage.Uploading left → k.bytes.items ≡ []
    → k.head ≡ None → IsRead before got head (came ++ bytes) → is_upload head.route.name ≡ true → length (came ++ bytes) + left ≡ head.request.length → 0 < left → Gives before got (begun head came) first (first ++ body_acts bytes) k
gives_part before got head came bytes first left k flags at none no_head read upload size short =
    let here : IsUploading before got (begun head (came ++ bytes)) left k.bytes.items = record {
      head = head;
      came = came ++ bytes;
      told_is = refl;
      read = read;
      upload = upload;
      size = size;
      short = short;
      kept_is = none;
    } in
    record {
      new = begun head (came ++ bytes);
      asked = asks_begun before got head (came ++ bytes) read upload (omega (arith, size, short));
      acts_are = ap (λ l. first ++ body_acts l) (sym (drop_at came bytes (length came) refl));
      reading = record {
        flags = record { before_is = flags.before_is; stay_is = flags.stay_is; upload_is = flags.upload_is };
        at = subst (λ (s : Stage). IsAt before got (begun head (came ++ bytes)) s k.head k.bytes.items) (sym at) (here, no_head);
      };
    }

pub gives_end : (before : ℕ) (got : List ℕ) (head : Head) (came body rest : List ℕ) (first : List Act) (k : Incoming) → HasFlags before (begun head came) k → IsRead before got head (came ++ (body ++ rest))
    → is_upload head.route.name ≡ true → length came + length body ≡ head.request.length → k.head ≡ None → IsHeld (complete head (came ++ body) rest) k.stage k.bytes.items
    → Gives before got (begun head came) first ((first ++ body_acts body) ++ act.End ∷ []) k
gives_end before got head came body rest first k flags read upload size no_head held =
    let sizes = length-append came body in
    let read_so : IsRead before got head ((came ++ body) ++ rest) = subst (IsRead before got head) (sym (append_assoc came body rest)) read in
    let asked = asks_split before got head (came ++ body) rest read_so (omega (arith, size, sizes)) in
    record {
      new = complete head (came ++ body) rest;
      asked = asked;
      acts_are = append_assoc first (body_acts body) (act.End ∷ []) ∙ ap (λ l. first ++ (body_acts l ++ act.End ∷ [])) (sym (drop_at came body (length came) refl));
      reading = record {
        flags = record { before_is = flags.before_is; stay_is = flags.stay_is; upload_is = flags.upload_is };
        at = at_complete before got head (came ++ body) rest k.stage k.head k.bytes.items asked held no_head;
      };
    }

-- the acts of an upload after that of its begin
begin_with : (head : Head) (new same : Asked) → new ≡ same → (act.Begin head ∷ []) ++ acts_after (begun head []) same ≡ acts_of same → (act.Begin head ∷ []) ++ acts_after (begun head []) new ≡ acts_of new
begin_with head new same is acts = subst (λ (n : Asked). (act.Begin head ∷ []) ++ acts_after (begun head []) n ≡ acts_of n) (sym is) acts

begin_by : (before : ℕ) (got : List ℕ) (head : Head) (rest : List ℕ) (new : Asked) → IsRead before got head rest → is_upload head.route.name ≡ true → IsAsked before got new
    → (length rest < head.request.length) ⊎ (head.request.length ≤ length rest) → (act.Begin head ∷ []) ++ acts_after (begun head []) new ≡ acts_of new
begin_by before got head rest new read upload asked (inl short) =
    begin_with head new (begun head rest) (one_asked before got new (begun head rest) asked (asks_begun before got head rest read upload short)) refl
begin_by before got head rest new read upload asked (inr fits) =
    let body = take head.request.length rest in
    let later = drop head.request.length rest in
    begin_with head new (complete head body later) (one_asked before got new (complete head body later) asked (asks_complete before got head rest read fits)) (ap (call_acts head body) (sym upload))

pub begin_first : (before : ℕ) (got : List ℕ) (head : Head) (rest : List ℕ) (acts : List Act) (k : Incoming) → IsRead before got head rest → is_upload head.route.name ≡ true → Gives before got (begun head []) (act.Begin head ∷ []) acts k
    → Gives before got nothing [] acts k
begin_first before got head rest acts k read upload gives = record {
  new = gives.new;
  asked = gives.asked;
  acts_are = gives.acts_are ∙ begin_by before got head rest gives.new read upload gives.asked (cases_lt (length rest) head.request.length);
  reading = gives.reading;
}

-- ---- bytes after a request

pub gives_held : (before : ℕ) (got more : List ℕ) (told : Asked) (says : Bool) (slot : Option Head) (kept : List ℕ) (k : Incoming) → HasFlags before told k → IsAsked before got told → IsHeld told (stage.Complete says) kept
    → k.head ≡ None → IsHeld (with_more told more) k.stage k.bytes.items → Gives before (got ++ more) told [] [] k
gives_held before got more nothing says slot kept k flags asked held no_head after = absurd held
gives_held before got more (refused kind) says slot kept k flags asked held no_head after = absurd held
gives_held before got more (begun head came) says slot kept k flags asked held no_head after = absurd held
gives_held before got more (complete head body rest) says slot kept k flags asked held no_head after =
    let further = complete_more before got more head body rest asked in
    record {
      new = complete head body (rest ++ more);
      asked = further;
      acts_are = refl;
      reading = record {
        flags = record { before_is = flags.before_is; stay_is = flags.stay_is; upload_is = flags.upload_is };
        at = at_complete before (got ++ more) head body (rest ++ more) k.stage k.head k.bytes.items further after no_head;
      };
    }

pub gives_closed : (before : ℕ) (got more : List ℕ) (told : Asked) (k : Incoming) → IsReading before got told k → k.stage ≡ stage.Closed → Gives before (got ++ more) told [] [] k
gives_closed before got more told k reading at = closed told reading.flags (subst (λ (s : Stage). IsAt before got told s k.head k.bytes.items) at reading.at)
  where
    closed : (a : Asked) → HasFlags before a k → IsAt before got a stage.Closed k.head k.bytes.items → Gives before (got ++ more) a [] [] k
    closed nothing flags is = absurd is.1
    closed (begun head came) flags is = absurd is.1
    closed (complete head body rest) flags is = absurd is.1
    closed (refused kind) flags is =
        let further = refused_more before got more kind is.0 in
        record {
          new = refused kind;
          asked = further;
          acts_are = refl;
          reading = record { flags = flags; at = subst (λ (s : Stage). IsAt before (got ++ more) (refused kind) s k.head k.bytes.items) (sym at) (further, tt, is.2, is.3) };
        }
