-- The cut of a request into pieces changes no act.
use Rattle.std.proofs.Common.{◌≡◌, ℕ, inl, inr, Bool, true, false, cond, List, [], ◌∷◌, ◌++◌, length, take, drop, refl, sym, ap, ◌∙◌, subst, append_assoc}
use Rattle.std.specs.List.{concat}
use Rattle.std.proofs.lemmas.List.{append-nil, drop_at, take-append-drop}
use Rattle.b2_types.specs.Fault.{plain}
use Rattle.http_edge.specs.declared.head.Head.{Head}
use Rattle.http_edge.specs.Length.{is_upload}
use Rattle.conn_talk.specs.declared.act.Act.{Act}
use Rattle.conn_talk.specs.declared.act.Act.TheVariants as act
use Rattle.conn_talk.specs.Asked.{Asked, nothing, refused, begun, complete, IsAsked}
use Rattle.conn_talk.specs.Acts.{body_acts, acts_of, acts_after, with_body_first, joined}
use Rattle.conn_talk.specs.Pieces.{AreRead}
use Rattle.conn_talk.proofs.Once.{one_asked, Follows, follows}

first_joined : (xs ys : List ℕ) (acts : List Act) → with_body_first xs (with_body_first ys acts) ≡ with_body_first (xs ++ ys) acts
first_joined xs ys [] = refl
first_joined xs ys (act.Body more ∷ acts) = ap (λ l. act.Body l ∷ acts) (sym (append_assoc xs ys more))
first_joined xs ys (other ∷ acts) = refl

body_joined : (xs ys : List ℕ) (later : List Act) → joined (body_acts xs ++ (body_acts ys ++ later)) ≡ joined (body_acts (xs ++ ys) ++ later)
body_joined [] ys later = refl
body_joined (x ∷ xs) [] later = ap (λ l. joined (body_acts l ++ later)) (sym (append-nil (x ∷ xs)))
body_joined (x ∷ xs) (y ∷ ys) later = first_joined (x ∷ xs) (y ∷ ys) (joined later)

-- the acts of an upload, whose head is of one
abbrev upload_acts : Head → List ℕ → Bool → List Act
upload_acts head body uploads = cond uploads ((act.Begin head ∷ body_acts body) ++ act.End ∷ []) (act.Whole head body ∷ [])

more_joined : (head : Head) (came more : List ℕ) (later : List Act)
    → joined ((act.Begin head ∷ body_acts came) ++ (body_acts (drop (length came) (came ++ more)) ++ later)) ≡ joined ((act.Begin head ∷ body_acts (came ++ more)) ++ later)
more_joined head came more later =
    ap (λ l. act.Begin head ∷ joined (body_acts came ++ (body_acts l ++ later))) (drop_at came more (length came) refl) ∙ ap (λ l. act.Begin head ∷ l) (body_joined came more later)

end_joined : (head : Head) (came body : List ℕ) (later : List Act) → take (length came) body ≡ came
    → joined ((act.Begin head ∷ body_acts came) ++ ((body_acts (drop (length came) body) ++ act.End ∷ []) ++ later)) ≡ joined (((act.Begin head ∷ body_acts body) ++ act.End ∷ []) ++ later)
end_joined head came body later front =
    let rest = drop (length came) body in
    let whole : came ++ rest ≡ body = ap (λ l. l ++ rest) (sym front) ∙ take-append-drop (length came) body in
    ap (λ l. act.Begin head ∷ joined (body_acts came ++ l)) (append_assoc (body_acts rest) (act.End ∷ []) later)
    ∙ ap (λ l. act.Begin head ∷ l) (body_joined came rest (act.End ∷ later))
    ∙ ap (λ l. act.Begin head ∷ joined (body_acts l ++ act.End ∷ later)) whole
    ∙ ap (λ l. act.Begin head ∷ joined l) (sym (append_assoc (body_acts body) (act.End ∷ []) later))

upload_joined : (head : Head) (came : List ℕ) (new : Asked) (later : List Act) → Follows (begun head came) new
    → joined (acts_of (begun head came) ++ (acts_after (begun head came) new ++ later)) ≡ joined (acts_of new ++ later)
upload_joined head came new later (upload, inl (more, is)) =
    subst (λ (n : Asked). joined (acts_of (begun head came) ++ (acts_after (begun head came) n ++ later)) ≡ joined (acts_of n ++ later)) (sym is) (more_joined head came more later)
upload_joined head came new later (upload, inr (body, rest, front, is)) =
    subst (λ (n : Asked). joined (acts_of (begun head came) ++ (acts_after (begun head came) n ++ later)) ≡ joined (acts_of n ++ later)) (sym is)
    (end_joined head came body later front ∙ ap (λ t. joined (upload_acts head body t ++ later)) (sym upload))

acts_joined : (told new : Asked) (later : List Act) → Follows told new → joined (acts_of told ++ (acts_after told new ++ later)) ≡ joined (acts_of new ++ later)
acts_joined nothing new later is = refl
acts_joined (refused kind) new later is = subst (λ (n : Asked). joined (act.Refuse (plain kind) ∷ later) ≡ joined (acts_of n ++ later)) (sym is) refl
acts_joined (begun head came) new later is = upload_joined head came new later is
acts_joined (complete head body rest) new later (more, is) =
    subst (λ (n : Asked). joined (acts_of (complete head body rest) ++ later) ≡ joined (acts_of n ++ later)) (sym is) refl

pub record IsReadAll (before : ℕ) (bytes : List ℕ) (first acts : List Act) (last : Asked) : Type 0 where
  pub asked : IsAsked before bytes last
  pub acts_are : joined (first ++ acts) ≡ joined (acts_of last)

pub all_read : (before : ℕ) (got : List ℕ) (told : Asked) (pieces : List (List ℕ)) (acts : List Act) (last : Asked) → IsAsked before got told → AreRead before got told pieces acts last
    → IsReadAll before (got ++ concat pieces) (acts_of told) acts last
all_read before got told [] acts last is (none, same) = record {
  asked = subst (IsAsked before (got ++ [])) (sym same) (subst (λ (l : List ℕ). IsAsked before l told) (sym (append-nil got)) is);
  acts_are = ap (λ l. joined (acts_of told ++ l)) none ∙ ap joined (append-nil (acts_of told)) ∙ ap (λ x. joined (acts_of x)) (sym same);
}
all_read before got told (piece ∷ pieces) acts last is (new, later, asked, acts_are, read) =
    let rest = all_read before (got ++ piece) new pieces later last asked read in
    record {
      asked = subst (λ (l : List ℕ). IsAsked before l last) (append_assoc got piece (concat pieces)) rest.asked;
      acts_are = ap (λ l. joined (acts_of told ++ l)) acts_are ∙ acts_joined told new later (follows before got piece told new is asked) ∙ rest.acts_are;
    }

-- the acts that bytes bring at once are joined already
end_last : (head : Head) (body : List ℕ) → joined ((act.Begin head ∷ body_acts body) ++ act.End ∷ []) ≡ (act.Begin head ∷ body_acts body) ++ act.End ∷ []
end_last head [] = refl
end_last head (byte ∷ body) = refl

whole_joined : (head : Head) (body : List ℕ) (uploads : Bool) → joined (upload_acts head body uploads) ≡ upload_acts head body uploads
whole_joined head body true = end_last head body
whole_joined head body false = refl

begun_joined : (head : Head) (came : List ℕ) → joined (act.Begin head ∷ body_acts came) ≡ act.Begin head ∷ body_acts came
begun_joined head [] = refl
begun_joined head (byte ∷ came) = refl

joined_once : (a : Asked) → joined (acts_of a) ≡ acts_of a
joined_once nothing = refl
joined_once (refused kind) = refl
joined_once (begun head came) = begun_joined head came
joined_once (complete head body rest) = whole_joined head body (is_upload head.route.name)

-- ---- of a request from its first byte on

pub from_first : (before : ℕ) (got piece : List ℕ) (pieces : List (List ℕ)) (acts : List Act) (last : Asked) → AreRead before got nothing (piece ∷ pieces) acts last
    → IsAsked before (got ++ (piece ++ concat pieces)) last × (joined acts ≡ acts_of last)
from_first before got piece pieces acts last (new, later, asked, acts_are, read) =
    let all = all_read before (got ++ piece) new pieces later last asked read in
    (subst (λ (l : List ℕ). IsAsked before l last) (append_assoc got piece (concat pieces)) all.asked, ap joined acts_are ∙ all.acts_are ∙ joined_once last)

pub same_by_bytes : (before : ℕ) (got piece other : List ℕ) (pieces others : List (List ℕ)) (acts more : List Act) (last end : Asked) → AreRead before got nothing (piece ∷ pieces) acts last
    → AreRead before got nothing (other ∷ others) more end → piece ++ concat pieces ≡ other ++ concat others → (last ≡ end) × (joined acts ≡ joined more)
same_by_bytes before got piece other pieces others acts more last end one two same =
    let a = from_first before got piece pieces acts last one in
    let b = from_first before got other others more end two in
    let asked : last ≡ end = one_asked before (got ++ (other ++ concat others)) last end (subst (λ (l : List ℕ). IsAsked before (got ++ l) last) same a.0) b.0 in
    (asked, a.1 ∙ ap acts_of asked ∙ sym b.1)
