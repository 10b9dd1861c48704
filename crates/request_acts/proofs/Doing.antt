-- One act after the other.
use Rattle.std.proofs.Common.{◌≡◌, ℕ, nat_eq, Bool, false, List, [], ◌∷◌, ◌++◌, length, Option, Some, None, option_map, MatchOption, refl, sym, ap, ◌∙◌, subst, append-nil}
use Rattle.std.specs.Map.{update}
use Rattle.b2_types.specs.declared.fault.Fault.{Fault}
use Rattle.b2_types.specs.declared.answer.AnswerOf.{AnswerOf}
use Rattle.b2_types.specs.declared.answer.AnswerOf.TheVariants as answer
use Rattle.b2_types.specs.Fault.{plain}
use Rattle.b2_model.specs.Body.{body_of}
use Rattle.b2_model.specs.Run.{asks, ends}
use Rattle.http_edge.specs.declared.head.Head.{Head}
use Rattle.http_edge.specs.Reply.{reply_of}
use Rattle.conn_talk.specs.declared.act.Act.{Act}
use Rattle.conn_talk.specs.declared.act.Act.TheVariants as act
use Rattle.conn_talk.specs.declared.pending.Pending.{Pending}
use Rattle.served_world.specs.Replies.{Reads, Reply, form, told as told_by, made}
use Rattle.served_world.specs.World.{pending_of}
use Rattle.request_acts.specs.Answering.{ReadsCall, ReadsUpload, reads, At, Upload, with_content, IsAnswer, IsEnded, pending, with_piece, whole_of}
use Rattle.request_acts.specs.declared.replies.Reply.{Reply as Answered}
use Rattle.request_acts.specs.Doing.{Doing, Does, DoesEnd, DoesAll, IsThere, joined, IsReplied, IsUnreplied, Carries, HasDone}
use Rattle.request_acts.proofs.Numbers.{content_here}

-- an act more
pub does_more : (R : Reads) (reading c : ℕ) (stay : Bool) (acts : List Act) (a : Act) (d e f : Doing) → DoesAll R reading c stay acts d e → MatchOption e.outcome.reply (Does R reading c stay a e f) (λ _. f ≡ e)
    → DoesAll R reading c stay (acts ++ a ∷ []) d f
does_more R reading c stay [] a d e f is does = subst (λ x. DoesAll R reading c stay (a ∷ []) x f) is (f, does, refl)
does_more R reading c stay (b ∷ acts) a d e f (m, first, rest) does = (m, first, does_more R reading c stay acts a m e f rest does)

-- ---- an act is carried out

-- what an act makes of one doing
abbrev pub CarriesTo : Reads → ℕ → ℕ → Bool → Act → At → Doing → Option (Pending (List ℕ)) → Type 0
CarriesTo R reading c stay a now d reply = (e : Doing) × Does R reading c stay a d e × IsThere now e × IsReplied (e.contents c) reply e.outcome.reply

-- nothing is read, and no reply is kept
no_reply : (content : List ℕ) (told : Option Reply) → content ≡ [] → told ≡ None → IsReplied content None told
no_reply content told nothing none = record { content_is = nothing; reply_is = ap (option_map pending_of) (sym none) }

-- a text is kept alone
text_reply : (content text : List ℕ) (stay : Bool) (told : Option Reply) (r : Reply) → content ≡ [] → told ≡ Some r → pending_of r ≡ pending text 0 stay → IsReplied content (Some (pending text 0 stay)) told
text_reply content text stay told r nothing some is = record {
  content_is = ap length (sym nothing);
  reply_is = ap (λ xs. Some (joined xs (pending text 0 stay))) nothing ∙ ap (λ t. Some (pending t 0 stay)) (append-nil text) ∙ ap Some (sym is) ∙ ap (option_map pending_of) (sym some);
}

-- a text and the content behind it
content_reply : (content text : List ℕ) (len : ℕ) (stay : Bool) (r : AnswerOf (List ℕ)) (told : Option Reply) (p : Pending (List ℕ)) → p ≡ pending text len stay → len ≡ length content → text ++ content ≡ reply_of r stay → told ≡ Some (told_by r stay)
    → IsReplied content (Some p) told
content_reply content text len stay r told p same size whole some = record {
  content_is = ap (λ (q : Pending (List ℕ)). q.len) same ∙ size;
  reply_is = ap (λ q. Some (joined content q)) same ∙ ap (λ t. Some (pending t 0 stay)) whole ∙ ap (option_map pending_of) (sym some);
}

pub call_carried : (call : ReadsCall) (upload : ReadsUpload) (reading c : ℕ) (stay : Bool) (now : At) (a : Act) (d : Doing) (head : Head) (body : List ℕ) (reply : Answered) (p : Pending (List ℕ)) → a ≡ act.Whole head body
    → IsAnswer call now d.uploads d.contents d.outcome.machine reading c head body reply → p ≡ pending reply.text reply.len head.request.stay → CarriesTo (reads call upload) reading c stay a now d (Some p)
call_carried call upload reading c stay now a d head body reply p is n same =
    let s = head.request.stay in
    let contents = with_content d.contents c n.content in
    let o = made s (asks reading n.token n.asked) d.outcome in
    let some : o.reply ≡ Some (told_by n.told s) = ap (λ x. option_map (λ r. told_by r s) x) n.answers in
    subst (λ x. CarriesTo (reads call upload) reading c stay x now d (Some p)) (sym is) (
      record d { outcome = o; contents = contents },
      (n.token, n.asked, n.content, n.read, refl),
      n.after,
      subst (λ xs. IsReplied xs (Some p) o.reply) (sym (content_here d.contents c n.content)) (content_reply n.content reply.text reply.len s n.told o.reply p same n.len_is n.text_is some),
    )

pub body_carried : (R : Reads) (reading c : ℕ) (stay : Bool) (now : At) (a : Act) (d : Doing) (bytes : List ℕ) → a ≡ act.Body bytes → IsUnreplied c d → now d.outcome.machine.state d.outcome.machine.words (with_piece d.uploads c bytes) d.contents
    → CarriesTo R reading c stay a now d None
body_carried R reading c stay now a d bytes is none at =
    subst (λ x. CarriesTo R reading c stay x now d None) (sym is) (record d { uploads = with_piece d.uploads c bytes }, refl, at, no_reply (d.contents c) d.outcome.reply none.content none.reply)

end_by : (R : Reads) (reading c : ℕ) (stay : Bool) (now : At) (d : Doing) (text : Option (List ℕ)) (up : Option Upload) → whole_of (d.uploads c) ≡ up → IsUnreplied c d
    → MatchOption up (now d.outcome.machine.state d.outcome.machine.words d.uploads d.contents × (text ≡ None)) (IsEnded now d.uploads d.contents d.outcome.machine reading c stay text)
    → CarriesTo R reading c stay act.End now d (option_map (λ t. pending t 0 stay) text)
end_by R reading c stay now d text None at none (stays, is) = (
  d,
  subst (λ x. DoesEnd reading c stay d x d) (sym at) refl,
  stays,
  subst (λ x. IsReplied (d.contents c) (option_map (λ t. pending t 0 stay) x) d.outcome.reply) (sym is) (no_reply (d.contents c) d.outcome.reply none.content none.reply),
)
end_by R reading c stay now d text (Some u) at none n =
    let o = made stay (ends reading c (body_of u.call u.came)) d.outcome in
    let e : Doing = record d { outcome = o; uploads = update nat_eq d.uploads c None } in
    let some : o.reply ≡ Some (told_by n.told stay) = ap (λ x. option_map (λ r. told_by r stay) x) n.answers in (
      e,
      subst (λ x. DoesEnd reading c stay d x e) (sym at) (n.told, n.answers, refl),
      n.after,
      subst (λ x. IsReplied (d.contents c) (option_map (λ t. pending t 0 stay) x) o.reply) (sym n.text_is) (text_reply (d.contents c) (reply_of n.told stay) stay o.reply (told_by n.told stay) none.content some refl),
    )

pub end_carried : (R : Reads) (reading c : ℕ) (stay : Bool) (now : At) (a : Act) (d : Doing) (text : Option (List ℕ)) (p : Option (Pending (List ℕ))) → a ≡ act.End → IsUnreplied c d
    → MatchOption (whole_of (d.uploads c)) (now d.outcome.machine.state d.outcome.machine.words d.uploads d.contents × (text ≡ None)) (IsEnded now d.uploads d.contents d.outcome.machine reading c stay text)
    → p ≡ option_map (λ t. pending t 0 stay) text → CarriesTo R reading c stay a now d p
end_carried R reading c stay now a d text p is none at same =
    subst (λ x. CarriesTo R reading c stay x now d p) (sym is) (subst (CarriesTo R reading c stay act.End now d) (sym same) (end_by R reading c stay now d text (whole_of (d.uploads c)) refl none at))

pub refusal_carried : (R : Reads) (reading c : ℕ) (stay : Bool) (now : At) (a : Act) (d : Doing) (fault other : Fault) (text : List ℕ) (p : Pending (List ℕ)) → a ≡ act.Refuse fault → IsThere now d → IsUnreplied c d → other ≡ plain fault.kind
    → text ≡ reply_of (answer.Refused other) false → p ≡ pending text 0 false → CarriesTo R reading c stay a now d (Some p)
refusal_carried R reading c stay now a d fault other text p is at none other_is text_is same =
    let o = record d.outcome { reply = Some (form fault.kind) } in
    let whole : text ≡ reply_of (answer.Refused (plain fault.kind)) false = text_is ∙ ap (λ f. reply_of (answer.Refused f) false) other_is in
    subst (λ x. CarriesTo R reading c stay x now d (Some p)) (sym is) (
      record d { outcome = o },
      refl,
      at,
      subst (λ x. IsReplied (d.contents c) (Some x) (Some (form fault.kind))) (sym same) (text_reply (d.contents c) text false (Some (form fault.kind)) (form fault.kind) none.content refl (ap (λ t. pending t 0 false) (sym whole))),
    )

-- ---- the loop over the acts

-- a reply that is not kept was not told
none_told : (told : Option Reply) → None ≡ option_map pending_of told → told ≡ None
none_told None same = refl
none_told (Some r) same = absurd (cc same)

some_told : (told : Option Reply) (p : Pending (List ℕ)) → Some p ≡ option_map pending_of told → (r : Reply) × (told ≡ Some r)
some_told None p same = absurd (cc same)
some_told (Some r) p same = (r, refl)

-- one act more
pub done_more : (R : Reads) (reading c : ℕ) (stay : Bool) (was now later : At) (acts : List Act) (a : Act) (next : Option (Pending (List ℕ))) → HasDone R reading c stay was acts now None → Carries R reading c stay now a later next
    → HasDone R reading c stay was (acts ++ a ∷ []) later next
done_more R reading c stay was now later acts a next done carried d at first =
    let (e, does, there, none) = done d at first in
    let unreplied = none_told e.outcome.reply none.reply_is in
    let (f, more, after, so) = carried e there (record { reply = unreplied; content = none.content_is }) in
    (f, does_more R reading c stay acts a d e f does (subst (λ x. MatchOption x (Does R reading c stay a e f) (λ _. f ≡ e)) (sym unreplied) more), after, so)

behind : (R : Reads) (reading c : ℕ) (stay : Bool) (front acts : List Act) (d e : Doing) (r : Reply) → e.outcome.reply ≡ Some r → DoesAll R reading c stay front d e → DoesAll R reading c stay (front ++ acts) d e
behind R reading c stay [] [] d e r some is = is
behind R reading c stay [] (a ∷ acts) d e r some is =
    let replied = ap (λ (x : Doing). x.outcome.reply) (sym is) ∙ some in
    (d, subst (λ x. MatchOption x (Does R reading c stay a d d) (λ _. d ≡ d)) (sym replied) refl, behind R reading c stay [] acts d e r some is)
behind R reading c stay (a ∷ front) acts d e r some (m, first, rest) = (m, first, behind R reading c stay front acts m e r some rest)

-- the acts behind a reply do nothing
pub done_all : (R : Reads) (reading c : ℕ) (stay : Bool) (was now : At) (front acts : List Act) (p : Pending (List ℕ)) → HasDone R reading c stay was front now (Some p) → HasDone R reading c stay was (front ++ acts) now (Some p)
done_all R reading c stay was now front acts p done d at first =
    let (e, does, there, so) = done d at first in
    let (r, replied) = some_told e.outcome.reply (joined (e.contents c) p) so.reply_is in
    (e, behind R reading c stay front acts d e r replied does, there, so)
