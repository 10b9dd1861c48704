-- The acts of a piece make what its bytes ask for.
use Rattle.std.proofs.Common.{◌≡◌, ℕ, inl, inr, Bool, true, false, cond, List, [], ◌∷◌, ◌++◌, length, take, drop, Option, Some, None, option_map, MatchOption, refl, sym, ap, ◌∙◌, subst, append-nil}
use Rattle.std.proofs.lemmas.Bool.{eq-eqb}
use Rattle.std.proofs.lemmas.List.{drop_at, take-append-drop}
use Rattle.rule_table.specs.declared.fault.FaultKind.{FaultKind}
use Rattle.b2_types.specs.declared.upload.UploadCall.{UploadCall}
use Rattle.b2_types.specs.declared.answer.AnswerOf.{AnswerOf}
use Rattle.b2_types.specs.Fault.{plain}
use Rattle.b2_model.specs.Body.{body_of}
use Rattle.b2_model.specs.Run.{Progress, Step, begins, ends, answer_to, of_bytes}
use Rattle.http_edge.specs.declared.head.Head.{Head}
use Rattle.http_edge.specs.Length.{is_upload}
use Rattle.conn_talk.specs.declared.act.Act.{Act}
use Rattle.conn_talk.specs.declared.act.Act.TheVariants as act
use Rattle.conn_talk.specs.Asked.{Asked, nothing, refused, begun, complete, IsAsked, stay_of}
use Rattle.conn_talk.specs.Acts.{body_acts, acts_after}
use Rattle.conn_talk.proofs.Once.{Follows, follows, open_upload}
use Rattle.served_world.specs.Replies.{Reads, Reply, told as told_by, form, Outcome, made, Begins, BeginsOnce, Ends, IsCarriedOut, Makes}
use Rattle.request_acts.specs.Answering.{Upload, Uploads, Contents, with_bytes, with_piece, whole_of, begun_on, uploads_after}
use Rattle.request_acts.specs.Doing.{Doing, Does, DoesEnd, DoesAll, IsUnderWay, Awaits}
use Rattle.request_acts.proofs.Heads.{body_size}
use Rattle.request_acts.proofs.Numbers.{Keeps, updated_others, updated_here, content_others}

-- ---- acts behind a reply, and acts in two lists

pub behind_reply : (R : Reads) (reading c : ℕ) (stay : Bool) (acts : List Act) (d e : Doing) (r : Reply) → d.outcome.reply ≡ Some r → DoesAll R reading c stay acts d e → e ≡ d
behind_reply R reading c stay [] d e r some is = is
behind_reply R reading c stay (a ∷ acts) d e r some (m, first, rest) =
    let same : m ≡ d = subst (λ x. MatchOption x (Does R reading c stay a d m) (λ _. m ≡ d)) some first in
    behind_reply R reading c stay acts m e r (ap (λ (x : Doing). x.outcome.reply) same ∙ some) rest ∙ same

does_first : (R : Reads) (reading c : ℕ) (stay : Bool) (a : Act) (d m : Doing) → d.outcome.reply ≡ None → MatchOption d.outcome.reply (Does R reading c stay a d m) (λ _. m ≡ d) → Does R reading c stay a d m
does_first R reading c stay a d m none first = subst (λ x. MatchOption x (Does R reading c stay a d m) (λ _. m ≡ d)) none first

two_lists : (R : Reads) (reading c : ℕ) (stay : Bool) (acts more : List Act) (d e : Doing) → DoesAll R reading c stay (acts ++ more) d e → (m : Doing) × DoesAll R reading c stay acts d m × DoesAll R reading c stay more m e
two_lists R reading c stay [] more d e all = (d, refl, all)
two_lists R reading c stay (a ∷ acts) more d e (m, first, rest) =
    let (n, front, back) = two_lists R reading c stay acts more m e rest in (n, (m, first, front), back)

-- ---- the bytes of a body

-- nothing but these bytes of the upload came
record IsPieceOn (c : ℕ) (bytes : List ℕ) (d e : Doing) : Type 0 where
  outcome : e.outcome ≡ d.outcome
  contents : e.contents ≡ d.contents
  kept : Keeps c d.uploads e.uploads
  here : e.uploads c ≡ with_bytes bytes (d.uploads c)

no_bytes : (up : Option Upload) → up ≡ with_bytes [] up
no_bytes None = refl
no_bytes (Some u) = ap (λ (xs : List ℕ). Some (record u { came = xs })) (sym (append-nil u.came))

body_comes : (R : Reads) (reading c : ℕ) (stay : Bool) (bytes : List ℕ) (d e : Doing) → d.outcome.reply ≡ None → DoesAll R reading c stay (body_acts bytes) d e → IsPieceOn c bytes d e
body_comes R reading c stay [] d e none is =
    record { outcome = ap (λ (x : Doing). x.outcome) is; contents = ap (λ (x : Doing). x.contents) is; kept = λ n apart. ap (λ (x : Doing). x.uploads n) is; here = ap (λ (x : Doing). x.uploads c) is ∙ no_bytes (d.uploads c) }
body_comes R reading c stay (b ∷ bytes) d e none (m, first, is) =
    let does : m ≡ record d { uploads = with_piece d.uploads c (b ∷ bytes) } = does_first R reading c stay (act.Body (b ∷ bytes)) d m none first in
    let same : e ≡ record d { uploads = with_piece d.uploads c (b ∷ bytes) } = is ∙ does in
    let up = with_bytes (b ∷ bytes) (d.uploads c) in
    record {
      outcome = ap (λ (x : Doing). x.outcome) same;
      contents = ap (λ (x : Doing). x.contents) same;
      kept = λ n apart. ap (λ (x : Doing). x.uploads n) same ∙ updated_others d.uploads c up n apart;
      here = ap (λ (x : Doing). x.uploads c) same ∙ updated_here d.uploads c up;
    }

-- ---- what is made of bytes that ask for something

pub record IsMade (R : Reads) (reading c before : ℕ) (got : List ℕ) (told new : Asked) (d e : Doing) : Type 0 where
  pub makes : Makes R reading c told new d.outcome e.outcome
  pub kept : Keeps c d.uploads e.uploads
  pub read : Keeps c d.contents e.contents
  pub idle : MatchOption e.outcome.reply (Awaits R before got (e.uploads c) new) (λ _. e.uploads c ≡ None)

-- where it changed nothing
same_doing : (R : Reads) (reading c before : ℕ) (got : List ℕ) (told new : Asked) (d e : Doing) → e ≡ d → IsMade R reading c before got told new d d → IsMade R reading c before got told new d e
same_doing R reading c before got told new d e is made_so = subst (IsMade R reading c before got told new d) (sym is) made_so

-- where it has a reply
replied : (o : Outcome) (r : Reply) (X : Type 0) (Y : Type 0) → o.reply ≡ Some r → Y → MatchOption o.reply X (λ _. Y)
replied o r X Y some y = subst (λ x. MatchOption x X (λ _. Y)) (sym some) y

unreplied : (o : Outcome) (X : Type 0) (Y : Type 0) → o.reply ≡ None → X → MatchOption o.reply X (λ _. Y)
unreplied o X Y none x = subst (λ r. MatchOption r X (λ _. Y)) (sym none) x

-- nothing was made yet
abbrev pub first_doing : Progress (List ℕ) → List (Step (List ℕ)) → Uploads → Contents → Doing
first_doing P steps ups outs = record { outcome = record { machine = P; steps = steps; reply = None }; uploads = ups; contents = outs }

-- all contents stay
all_stay : (c : ℕ) (f g : Contents) → g ≡ f → Keeps c f g
all_stay c f g same n apart = ap (λ (h : Contents). h n) same

abbrev Made : Reads → ℕ → ℕ → ℕ → List ℕ → Bool → Progress (List ℕ) → List (Step (List ℕ)) → Uploads → Contents → Asked → Asked → Doing → Type 0
Made R reading c before got stay P steps ups outs told new e = IsMade R reading c before got told new (first_doing P steps ups outs) e

module _ (R : Reads) (reading c before : ℕ) (got : List ℕ) (stay : Bool) (P : Progress (List ℕ)) (steps : List (Step (List ℕ))) (ups : Uploads) (outs : Contents) where
  refused_form : (kind : FaultKind) (e : Doing) → ups c ≡ None → DoesAll R reading c stay (act.Refuse (plain kind) ∷ []) (first_doing P steps ups outs) e → Made R reading c before got stay P steps ups outs nothing (refused kind) e
  refused_form kind e none (m, does, is) =
      let same = is ∙ does in
      record { makes = ap (λ (x : Doing). x.outcome) same; kept = λ n apart. ap (λ (x : Doing). x.uploads n) same; read = all_stay c outs e.contents (ap (λ (x : Doing). x.contents) same); idle = replied e.outcome (form kind) (Awaits R before got (e.uploads c) (refused kind)) (e.uploads c ≡ None) (ap (λ (x : Doing). x.outcome.reply) same) (ap (λ (x : Doing). x.uploads c) same ∙ none) }

  whole_call : (head : Head) (body rest : List ℕ) (e : Doing) → is_upload head.route.name ≡ false → ups c ≡ None → DoesAll R reading c stay (act.Whole head body ∷ []) (first_doing P steps ups outs) e
      → Made R reading c before got stay P steps ups outs nothing (complete head body rest) e
  whole_call head body rest e plain_call none (m, (token, call, content, read, does), is) =
      let same = is ∙ does in
      let o = (first_doing P steps ups outs).outcome in
      record {
        makes = subst (λ b. IsCarriedOut R reading c b false head body o e.outcome) (sym plain_call) (token, call, read, ap (λ (x : Doing). x.outcome) same);
        kept = λ n apart. ap (λ (x : Doing). x.uploads n) same;
        read = λ n apart. ap (λ (x : Doing). x.contents n) same ∙ content_others outs c content n apart;
        idle = replied e.outcome _ (Awaits R before got (e.uploads c) (complete head body rest)) (e.uploads c ≡ None) (ap (λ (x : Doing). x.outcome.reply) same) (ap (λ (x : Doing). x.uploads c) same ∙ none);
      }

  -- an upload that begins
  record HasBegun (head : Head) (m : Doing) : Type 0 where
    token : Option (List ℕ)
    call : UploadCall
    read : R.upload head token call
    is : m ≡ record { outcome = made false (begins reading c token call) (first_doing P steps ups outs).outcome; uploads = uploads_after ups c head.request.length call (answer_to of_bytes P (begins reading c token call)); contents = outs }

  begins_so : (head : Head) (m : Doing) → HasBegun head m → Begins R reading c head (first_doing P steps ups outs).outcome m.outcome
  begins_so head m h = (h.token, h.call, h.read, ap (λ (x : Doing). x.outcome) h.is)

  -- it was refused: acts behind its reply do nothing
  refused_begin : (head : Head) (more : List Act) (m e : Doing) (answer : AnswerOf (List ℕ)) (h : HasBegun head m) → answer_to of_bytes P (begins reading c h.token h.call) ≡ Some answer → ups c ≡ None → DoesAll R reading c stay more m e
      → (e ≡ m) × (m.outcome.reply ≡ Some (told_by answer false)) × (m.uploads c ≡ None)
  refused_begin head more m e answer h answers none rest =
      let reply = ap (λ (x : Doing). x.outcome.reply) h.is ∙ ap (λ a. option_map (λ x. told_by x false) a) answers in
      let gone = ap (λ (x : Doing). x.uploads c) h.is ∙ updated_here ups c (begun_on (ups c) head.request.length h.call (answer_to of_bytes P (begins reading c h.token h.call)))
      ∙ ap (λ up. begun_on up head.request.length h.call (answer_to of_bytes P (begins reading c h.token h.call))) none ∙ ap (begun_on None head.request.length h.call) answers in
      (behind_reply R reading c stay more m e (told_by answer false) reply rest, reply, gone)

  begun_read : (head : Head) (m : Doing) (h : HasBegun head m) → m.contents ≡ outs
  begun_read head m h = ap (λ (x : Doing). x.contents) h.is

  begun_kept : (head : Head) (m : Doing) (h : HasBegun head m) → Keeps c ups m.uploads
  begun_kept head m h n apart = ap (λ (x : Doing). x.uploads n) h.is ∙ updated_others ups c (begun_on (ups c) head.request.length h.call (answer_to of_bytes P (begins reading c h.token h.call))) n apart

  -- it is under way
  under_way : (head : Head) (m : Doing) (h : HasBegun head m) → answer_to of_bytes P (begins reading c h.token h.call) ≡ None → ups c ≡ None
      → (m.outcome.reply ≡ None) × (m.uploads c ≡ Some (record { call = h.call; came = []; length = head.request.length }))
  under_way head m h answers none = (
    ap (λ (x : Doing). x.outcome.reply) h.is ∙ ap (λ a. option_map (λ x. told_by x false) a) answers,
    ap (λ (x : Doing). x.uploads c) h.is ∙ updated_here ups c (begun_on (ups c) head.request.length h.call (answer_to of_bytes P (begins reading c h.token h.call)))
        ∙ ap (λ up. begun_on up head.request.length h.call (answer_to of_bytes P (begins reading c h.token h.call))) none ∙ ap (begun_on None head.request.length h.call) answers,
  )

  begun_by : (head : Head) (came : List ℕ) (m e : Doing) (h : HasBegun head m) (answer : Option (AnswerOf (List ℕ))) → answer_to of_bytes P (begins reading c h.token h.call) ≡ answer → ups c ≡ None → IsAsked before got (begun head came)
      → DoesAll R reading c stay (body_acts came) m e → Made R reading c before got stay P steps ups outs nothing (begun head came) e
  begun_by head came m e h (Some answer) answers none asked rest =
      let (same, reply, gone) = refused_begin head (body_acts came) m e answer h answers none rest in
      record {
        makes = subst (Begins R reading c head (first_doing P steps ups outs).outcome) (ap (λ (x : Doing). x.outcome) (sym same)) (begins_so head m h);
        kept = λ n apart. ap (λ (x : Doing). x.uploads n) same ∙ begun_kept head m h n apart;
        read = all_stay c outs e.contents (ap (λ (x : Doing). x.contents) same ∙ begun_read head m h);
        idle = replied e.outcome (told_by answer false) (Awaits R before got (e.uploads c) (begun head came)) (e.uploads c ≡ None) (ap (λ (x : Doing). x.outcome.reply) same ∙ reply) (ap (λ (x : Doing). x.uploads c) same ∙ gone);
      }
  begun_by head came m e h None answers none asked rest =
      let (reply, here) = under_way head m h answers none in
      let b = body_comes R reading c stay came m e reply rest in
      let up = b.here ∙ ap (with_bytes came) here in
      record {
        makes = subst (Begins R reading c head (first_doing P steps ups outs).outcome) (sym b.outcome) (begins_so head m h);
        kept = λ n apart. b.kept n apart ∙ begun_kept head m h n apart;
        read = all_stay c outs e.contents (b.contents ∙ begun_read head m h);
        idle = unreplied e.outcome (Awaits R before got (e.uploads c) (begun head came)) (e.uploads c ≡ None) (ap (λ (o : Outcome). o.reply) b.outcome ∙ reply)
            (asked, subst (λ x. MatchOption x ⊥ (IsUnderWay R head came)) (sym up) (record { token = h.token; read = h.read; came_is = refl; length_is = refl }));
      }

  -- the upload that is under way on the connection ends, once its body came whole
  record HasEnded (body : List ℕ) (u : Upload) (d e : Doing) : Type 0 where
    outcome : e.outcome ≡ made stay (ends reading c (body_of u.call body)) d.outcome
    kept : Keeps c d.uploads e.uploads
    contents : e.contents ≡ d.contents
    gone : e.uploads c ≡ None
    reply : Reply
    some : e.outcome.reply ≡ Some reply

  came_whole : (u : Upload) → length u.came ≡ u.length → whole_of (Some u) ≡ Some u
  came_whole u size = ap (λ b. cond b (Some u) None) (eq-eqb (length u.came) u.length size)

  ends_so : (body : List ℕ) (u : Upload) (d e : Doing) → d.uploads c ≡ Some u → u.came ≡ body → length body ≡ u.length → DoesEnd reading c stay d (whole_of (d.uploads c)) e → HasEnded body u d e
  ends_so body u d e under came size does =
      let whole : whole_of (d.uploads c) ≡ Some u = ap whole_of under ∙ came_whole u (ap length came ∙ size) in
      let (answer, answers, same) = subst (λ x. DoesEnd reading c stay d x e) whole does in
      record {
        outcome = ap (λ (x : Doing). x.outcome) same ∙ ap (λ xs. made stay (ends reading c (body_of u.call xs)) d.outcome) came;
        kept = λ n apart. ap (λ (x : Doing). x.uploads n) same ∙ updated_others d.uploads c None n apart;
        contents = ap (λ (x : Doing). x.contents) same;
        gone = ap (λ (x : Doing). x.uploads c) same ∙ updated_here d.uploads c None;
        reply = told_by answer stay;
        some = ap (λ (x : Doing). x.outcome.reply) same ∙ ap (λ a. option_map (λ x. told_by x stay) a) answers;
      }

  abbrev ends_with : UploadCall → List ℕ → Step (List ℕ)
  ends_with u body = ends reading c (body_of u body)

  -- a whole upload, which begins and ends at once
  complete_by : (head : Head) (body rest : List ℕ) (m e : Doing) (h : HasBegun head m) (answer : Option (AnswerOf (List ℕ))) → answer_to of_bytes P (begins reading c h.token h.call) ≡ answer → ups c ≡ None → is_upload head.route.name ≡ true → stay ≡ head.request.stay → length body ≡ head.request.length
      → DoesAll R reading c stay (body_acts body ++ act.End ∷ []) m e → Made R reading c before got stay P steps ups outs nothing (complete head body rest) e
  complete_by head body rest m e h (Some answer) answers none upload stays size all =
      let (same, reply, gone) = refused_begin head (body_acts body ++ act.End ∷ []) m e answer h answers none all in
      let o = (first_doing P steps ups outs).outcome in
      record {
        makes = subst (λ b. IsCarriedOut R reading c b false head body o e.outcome) (sym upload)
            (m.outcome, begins_so head m h, subst (λ x. MatchOption x (Ends R reading c head body m.outcome e.outcome) (λ _. e.outcome ≡ m.outcome)) (sym reply) (ap (λ (x : Doing). x.outcome) same));
        kept = λ n apart. ap (λ (x : Doing). x.uploads n) same ∙ begun_kept head m h n apart;
        read = all_stay c outs e.contents (ap (λ (x : Doing). x.contents) same ∙ begun_read head m h);
        idle = replied e.outcome (told_by answer false) (Awaits R before got (e.uploads c) (complete head body rest)) (e.uploads c ≡ None) (ap (λ (x : Doing). x.outcome.reply) same ∙ reply) (ap (λ (x : Doing). x.uploads c) same ∙ gone);
      }
  complete_by head body rest m e h None answers none upload stays size all =
      let (reply, here) = under_way head m h answers none in
      let (x, front, (y, last, is)) = two_lists R reading c stay (body_acts body) (act.End ∷ []) m e all in
      let b = body_comes R reading c stay body m x reply front in
      let o = (first_doing P steps ups outs).outcome in
      let u : Upload = record { call = h.call; came = body; length = head.request.length } in
      let up : x.uploads c ≡ Some u = b.here ∙ ap (with_bytes body) here in
      let unanswered = ap (λ (z : Outcome). z.reply) b.outcome ∙ reply in
      let n = ends_so body u x y up refl size (does_first R reading c stay act.End x y unanswered last) in
      let outcome : e.outcome ≡ made head.request.stay (ends_with h.call body) m.outcome = ap (λ (z : Doing). z.outcome) is ∙ n.outcome ∙ ap (made stay (ends_with h.call body)) b.outcome ∙ ap (λ t. made t (ends_with h.call body) m.outcome) stays in
      record {
        makes = subst (λ t. IsCarriedOut R reading c t false head body o e.outcome) (sym upload)
            (m.outcome, begins_so head m h, subst (λ z. MatchOption z (Ends R reading c head body m.outcome e.outcome) (λ _. e.outcome ≡ m.outcome)) (sym reply) (h.token, h.call, h.read, outcome));
        kept = λ d apart. ap (λ (z : Doing). z.uploads d) is ∙ n.kept d apart ∙ b.kept d apart ∙ begun_kept head m h d apart;
        read = all_stay c outs e.contents (ap (λ (z : Doing). z.contents) is ∙ n.contents ∙ b.contents ∙ begun_read head m h);
        idle = replied e.outcome n.reply (Awaits R before got (e.uploads c) (complete head body rest)) (e.uploads c ≡ None) (ap (λ (z : Doing). z.outcome.reply) is ∙ n.some) (ap (λ (z : Doing). z.uploads c) is ∙ n.gone);
      }

  -- more of a body comes
  more_by : (head : Head) (came more : List ℕ) (u : Upload) (e : Doing) → ups c ≡ Some u → IsUnderWay R head came u → IsAsked before got (begun head (came ++ more)) → DoesAll R reading c stay (body_acts (drop (length came) (came ++ more))) (first_doing P steps ups outs) e
      → Made R reading c before got stay P steps ups outs (begun head came) (begun head (came ++ more)) e
  more_by head came more u e here way asked all =
      let d = first_doing P steps ups outs in
      let next = drop (length came) (came ++ more) in
      let b = body_comes R reading c stay next d e refl all in
      let up : e.uploads c ≡ Some (record u { came = u.came ++ next }) = b.here ∙ ap (with_bytes next) here in
      let whole : u.came ++ next ≡ came ++ more = ap (λ xs. u.came ++ xs) (drop_at came more (length came) refl) ∙ ap (λ xs. xs ++ more) way.came_is in
      record {
        makes = subst (λ t. BeginsOnce R reading c t head d.outcome e.outcome) (sym (open_upload before got head (came ++ more) asked).upload) b.outcome;
        kept = b.kept;
        read = all_stay c outs e.contents b.contents;
        idle = unreplied e.outcome (Awaits R before got (e.uploads c) (begun head (came ++ more))) (e.uploads c ≡ None) (ap (λ (o : Outcome). o.reply) b.outcome)
            (asked, subst (λ x. MatchOption x ⊥ (IsUnderWay R head (came ++ more))) (sym up) (record { token = way.token; read = way.read; came_is = whole; length_is = way.length_is }));
      }

  -- the rest of it comes
  rest_by : (head : Head) (came body rest : List ℕ) (u : Upload) (e : Doing) → ups c ≡ Some u → IsUnderWay R head came u → is_upload head.route.name ≡ true → take (length came) body ≡ came → stay ≡ head.request.stay → length body ≡ head.request.length
      → DoesAll R reading c stay (body_acts (drop (length came) body) ++ act.End ∷ []) (first_doing P steps ups outs) e → Made R reading c before got stay P steps ups outs (begun head came) (complete head body rest) e
  rest_by head came body rest u e here way upload front stays size all =
      let d = first_doing P steps ups outs in
      let next = drop (length came) body in
      let (x, first, (y, last, is)) = two_lists R reading c stay (body_acts next) (act.End ∷ []) d e all in
      let b = body_comes R reading c stay next d x refl first in
      let v : Upload = record u { came = u.came ++ next } in
      let up : x.uploads c ≡ Some v = b.here ∙ ap (with_bytes next) here in
      let whole : u.came ++ next ≡ body = ap (λ xs. xs ++ next) (way.came_is ∙ sym front) ∙ take-append-drop (length came) body in
      let unanswered = ap (λ (z : Outcome). z.reply) b.outcome in
      let n = ends_so body v x y up whole (size ∙ sym way.length_is) (does_first R reading c stay act.End x y unanswered last) in
      let outcome : e.outcome ≡ made head.request.stay (ends_with u.call body) d.outcome = ap (λ (z : Doing). z.outcome) is ∙ n.outcome ∙ ap (made stay (ends_with u.call body)) b.outcome ∙ ap (λ t. made t (ends_with u.call body) d.outcome) stays in
      record {
        makes = subst (λ t. IsCarriedOut R reading c t t head body d.outcome e.outcome) (sym upload) (d.outcome, refl, (way.token, u.call, way.read, outcome));
        kept = λ d apart. ap (λ (z : Doing). z.uploads d) is ∙ n.kept d apart ∙ b.kept d apart;
        read = all_stay c outs e.contents (ap (λ (z : Doing). z.contents) is ∙ n.contents ∙ b.contents);
        idle = replied e.outcome n.reply (Awaits R before got (e.uploads c) (complete head body rest)) (e.uploads c ≡ None) (ap (λ (z : Doing). z.outcome.reply) is ∙ n.some) (ap (λ (z : Doing). z.uploads c) is ∙ n.gone);
      }

  by_call : (head : Head) (body rest : List ℕ) (e : Doing) (upload : Bool) → is_upload head.route.name ≡ upload → ups c ≡ None → stay ≡ head.request.stay → length body ≡ head.request.length
      → DoesAll R reading c stay (cond upload ((act.Begin head ∷ body_acts body) ++ act.End ∷ []) (act.Whole head body ∷ [])) (first_doing P steps ups outs) e → Made R reading c before got stay P steps ups outs nothing (complete head body rest) e
  by_call head body rest e true is none stays size (m, (token, u, read, same), all) =
      complete_by head body rest m e (record { token = token; call = u; read = read; is = same }) (answer_to of_bytes P (begins reading c token u)) refl none is stays size all
  by_call head body rest e false is none stays size all = whole_call head body rest e is none all

  -- all that a piece brings, of a request of which these bytes came before it
  pub all_made : (old bytes : List ℕ) (told new : Asked) (e : Doing) → got ≡ old ++ bytes → Awaits R before old (ups c) told → IsAsked before got new → stay_of new ≡ stay → DoesAll R reading c stay (acts_after told new) (first_doing P steps ups outs) e
      → Made R reading c before got stay P steps ups outs told new e
  all_made old bytes nothing nothing e is none asked stays all =
      record { makes = ap (λ (z : Doing). z.outcome) all; kept = λ n apart. ap (λ (z : Doing). z.uploads n) all; read = all_stay c outs e.contents (ap (λ (z : Doing). z.contents) all); idle = unreplied e.outcome (Awaits R before got (e.uploads c) nothing) (e.uploads c ≡ None) (ap (λ (z : Doing). z.outcome.reply) all) (ap (λ (z : Doing). z.uploads c) all ∙ none) }
  all_made old bytes nothing (refused kind) e is none asked stays all = refused_form kind e none all
  all_made old bytes nothing (begun head came) e is none asked stays (m, (token, u, read, same), all) =
      begun_by head came m e (record { token = token; call = u; read = read; is = same }) (answer_to of_bytes P (begins reading c token u)) refl none asked all
  all_made old bytes nothing (complete head body rest) e is none asked stays all = by_call head body rest e (is_upload head.route.name) refl none (sym stays) (body_size before got head body rest asked) all
  all_made old bytes (refused kind) new e is more asked stays all = absurd more
  all_made old bytes (begun head came) new e is (first, up) asked stays all = by_way (ups c) refl up
    where
      by_way : (x : Option Upload) → ups c ≡ x → MatchOption x ⊥ (IsUnderWay R head came) → Made R reading c before got stay P steps ups outs (begun head came) new e
      by_way None at under = absurd under
      by_way (Some u) at way = by_follow (follows before old bytes (begun head came) new first (subst (λ xs. IsAsked before xs new) is asked))
        where
          by_follow : Follows (begun head came) new → Made R reading c before got stay P steps ups outs (begun head came) new e
          by_follow (upload, inl (more, same)) =
              subst (λ n. Made R reading c before got stay P steps ups outs (begun head came) n e) (sym same)
              (more_by head came more u e at way (subst (IsAsked before got) same asked) (subst (λ n. DoesAll R reading c stay (acts_after (begun head came) n) (first_doing P steps ups outs) e) same all))
          by_follow (upload, inr (body, rest, front, same)) =
              subst (λ n. Made R reading c before got stay P steps ups outs (begun head came) n e) (sym same)
              (rest_by head came body rest u e at way upload front (sym stays ∙ ap stay_of same) (body_size before got head body rest (subst (IsAsked before got) same asked)) (subst (λ n. DoesAll R reading c stay (acts_after (begun head came) n) (first_doing P steps ups outs) e) same all))
  all_made old bytes (complete head body rest) new e is more asked stays all = absurd more
