-- The bytes of a reply that are handed to the link next: those of its text, and then those of its content.
use Rattle.std.proofs.Common.{◌≡◌, ◌≤◌, ◌<◌, ◌⊎◌, ◌==◌, ℕ, ◌+◌, ◌-◌, not, ◌&&◌, List, [], ◌∷◌, ◌++◌, length, take, drop, min, inl, inr, sym, ap, ◌∙◌, append-nil, arith}
use Rattle.std.proofs.lemmas.Bool.{cases_lt}
use Rattle.std.proofs.lemmas.List.{length-append, length-drop, length-take, take-append-le, drop-append-le, take_all, drop_all, take_min}
use Rattle.std.proofs.Math.Seq.{take-append-add, drop-append-add}
use Rattle.outside_traits.specs.declared.link.SentPiece.{SentPiece}
use Rattle.outside_traits.specs.Links.{front_sent}
use Rattle.conn_talk.specs.declared.pending.Pending.{Pending}
use Rattle.conn_talk.specs.Talk.{size_of}
use Rattle.served_world.specs.World.{handed}
use Rattle.request_acts.specs.Doing.{joined}
use Rattle.event_loop.specs.Serving.{HasBounds, IsHanded, sent_of}
use Rattle.event_loop.proofs.Sending.{joined_size}

-- ---- two lists, one behind the other

take_both : (n : ℕ) (xs ys : List ℕ) → take n (xs ++ ys) ≡ take n xs ++ take (n - length (take n xs)) ys
take_both n xs ys = by (cases_lt n (length xs))
  where
    by : (n < length xs) ⊎ (length xs ≤ n) → take n (xs ++ ys) ≡ take n xs ++ take (n - length (take n xs)) ys
    by (inl short) =
        let size = length-take n xs in
        let none : 0 ≡ n - length (take n xs) = omega (arith, size, short) in
        take-append-le n xs ys (omega (arith, short)) ∙ sym (append-nil (take n xs)) ∙ ap (λ m. take n xs ++ take m ys) none
    by (inr long) =
        let all = take_all n xs long in
        let size = ap length all in
        let split : n ≡ length xs + (n - length (take n xs)) = omega (arith, size, long) in
        ap (λ m. take m (xs ++ ys)) split ∙ take-append-add xs ys (n - length (take n xs)) ∙ ap (λ zs. zs ++ take (n - length (take n xs)) ys) (sym all)

drop_both : (n : ℕ) (xs ys : List ℕ) → drop n (xs ++ ys) ≡ drop n xs ++ drop (n - length xs) ys
drop_both n xs ys = by (cases_lt n (length xs))
  where
    by : (n < length xs) ⊎ (length xs ≤ n) → drop n (xs ++ ys) ≡ drop n xs ++ drop (n - length xs) ys
    by (inl short) =
        let none : 0 ≡ n - length xs = omega (arith, short) in
        drop-append-le n xs ys (omega (arith, short)) ∙ ap (λ m. drop n xs ++ drop m ys) none
    by (inr long) =
        let split : n ≡ length xs + (n - length xs) = omega (arith, long) in
        ap (λ m. drop m (xs ++ ys)) split ∙ drop-append-add xs ys (n - length xs) ∙ ap (λ zs. zs ++ drop (n - length xs) ys) (sym (drop_all n xs long))

-- a front that is cut at no less than all
front_as : (n m : ℕ) (ys : List ℕ) → min n (length ys) ≡ min m (length ys) → take n ys ≡ take m ys
front_as n m ys same = sym (take_min n ys) ∙ ap (λ k. take k ys) same ∙ take_min m ys

-- ---- of a text, and of a text with a content

-- what is handed of the text is within the reply
pub part_within : (q : Pending (List ℕ)) (bytes : List ℕ) → HasBounds q → bytes ≡ handed q → q.sent + length bytes ≤ size_of q
part_within q bytes b is =
    let all = ap length is in
    let left = length-drop q.sent q.text in
    let taken = length-take 65536 (drop q.sent q.text) in
    let room = b.left in
    omega (arith, all, left, taken, room)

pub part_few : (q : Pending (List ℕ)) (bytes : List ℕ) → bytes ≡ handed q → length bytes ≤ 65536
part_few q bytes is =
    let all = ap length is in
    let taken = length-take 65536 (drop q.sent q.text) in omega (arith, all, taken)

fits : (most at text len part left : ℕ) → part ≡ min most (text - at) → left ≡ len - (at - text) → at < text + len → min (min (most - part) (text + len - at - part)) left ≡ min (most - part) left
fits most at text len part left is_part is_left room = omega (arith, is_part, is_left, room)

-- the rest of the text, and what is read of the content behind it
pub front_read : (q : Pending (List ℕ)) (content part more bytes : List ℕ) (wanted from : ℕ) → HasBounds q → q.len ≡ length content → part ≡ handed q → wanted ≡ min (65536 - length part) (size_of q - q.sent - length part) → from ≡ q.sent - length q.text → more ≡ take wanted (drop from content)
    → bytes ≡ part ++ more → bytes ≡ handed (joined content q)
front_read q content part more bytes wanted from b size is_part is_wanted is_from is_more is =
    let rest = drop (q.sent - length q.text) content in
    let part_size = ap length is_part ∙ length-take 65536 (drop q.sent q.text) ∙ ap (λ m. min 65536 m) (length-drop q.sent q.text) in
    let left = length-drop (q.sent - length q.text) content ∙ ap (λ m. m - (q.sent - length q.text)) (sym size) in
    let same : min wanted (length rest) ≡ min (65536 - length part) (length rest) = ap (λ m. min m (length rest)) is_wanted ∙ fits 65536 q.sent (length q.text) q.len (length part) (length rest) part_size left b.left in
    let read : more ≡ take (65536 - length part) rest = is_more ∙ ap (λ m. take wanted (drop m content)) is_from ∙ front_as wanted (65536 - length part) rest same in
    let both : handed (joined content q) ≡ handed q ++ take (65536 - length (handed q)) rest = ap (take 65536) (drop_both q.sent q.text content) ∙ take_both 65536 (drop q.sent q.text) rest in
    is ∙ ap (λ xs. part ++ xs) read ∙ ap (λ xs. xs ++ take (65536 - length xs) rest) is_part ∙ sym both

-- and it is within the reply, however much was read
pub read_within : (q : Pending (List ℕ)) (part more bytes : List ℕ) (wanted : ℕ) → HasBounds q → part ≡ handed q → wanted ≡ min (65536 - length part) (size_of q - q.sent - length part) → length more ≤ wanted → bytes ≡ part ++ more → q.sent + length bytes ≤ size_of q
read_within q part more bytes wanted b is_part is_wanted few is =
    let within = part_within q part b is_part in
    let all = ap length is ∙ length-append part more in
    omega (arith, within, all, is_wanted, few)

-- a reply without a content
pub text_alone : (content : List ℕ) (q : Pending (List ℕ)) → q.len ≡ 0 → q.len ≡ length content → handed q ≡ handed (joined content q)
text_alone content q none size = by content (sym size ∙ none)
  where
    by : (xs : List ℕ) → length xs ≡ 0 → handed q ≡ handed (joined xs q)
    by [] same = ap (λ t. take 65536 (drop q.sent t)) (sym (append-nil q.text))
    by (x ∷ xs) same = absurd (omega (arith, same))

-- the send is that of the whole reply
pub handed_as : (c : ℕ) (content : List ℕ) (q : Pending (List ℕ)) (bytes : List ℕ) (n : ℕ) (before after : List SentPiece) → q.len ≡ length content → bytes ≡ handed (joined content q) → n ≡ length bytes → after ≡ before ++ sent_of c q bytes ∷ []
    → IsHanded c (joined content q) n before after
handed_as c content q bytes n before after size is count grows = record {
  count = count ∙ ap length is;
  grows = grows ∙ ap (λ xs. before ++ sent_of c q xs ∷ []) is
      ∙ ap (λ (m : ℕ). before ++ front_sent c (handed (joined content q)) ((q.sent + length (handed (joined content q)) == m) && not q.stay) (length (handed (joined content q))) ∷ []) (sym (joined_size content q size));
}
