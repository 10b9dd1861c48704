-- Which requests stay.
use Rattle.std.proofs.Common.{◌≡◌, ℕ, ◌≤◌, nat_le, nat_lt, Bool, true, false, ◌&&◌, List, ◌++◌, length, refl, sym, ap, ◌∙◌, arith}
use Rattle.std.proofs.lemmas.Bool.{false≢true, leb-true, le-leb, le-ltb}
use Rattle.std.proofs.lemmas.List.{length-append}
use Rattle.http_edge.specs.declared.head.Head.{Head}
use Rattle.conn_talk.specs.Asked.{Asked, nothing, refused, begun, complete, IsAsked, stay_of, goes_on, with_more}

pub both_true : (s t : Bool) → true ≡ s && t → (s ≡ true) × (t ≡ true)
both_true true t is = (refl, sym is)
both_true false t is = absurd (false≢true (sym is))

-- what is told goes on only where it went on before more bytes came
pub still_goes : (told : Asked) (more : List ℕ) → goes_on (with_more told more) ≡ true → goes_on told ≡ true
still_goes nothing more is = is
still_goes (refused kind) more is = is
still_goes (begun head came) more is = is
still_goes (complete head body rest) more is =
    let both = both_true head.request.stay (nat_le (length (rest ++ more)) 65536) (sym is) in
    let few = leb-true (length (rest ++ more)) 65536 both.1 in
    let size = length-append rest more in
    ap (λ t. t && nat_le (length rest) 65536) both.0 ∙ le-leb (length rest) 65536 (omega (arith, few, size))

-- none stays after the last one
no_stay : (s : Bool) (before : ℕ) → 999 ≤ before → s && nat_lt before 999 ≡ false
no_stay false before late = refl
no_stay true before late = le-ltb before 999 late

pub last_leaves : (before : ℕ) (bytes : List ℕ) (a : Asked) → 999 ≤ before → IsAsked before bytes a → stay_of a ≡ false
last_leaves before bytes nothing late asked = refl
last_leaves before bytes (refused kind) late asked = refl
last_leaves before bytes (begun head came) late (r, route, received, is, after) = ap (λ (h : Head). h.request.stay) is ∙ no_stay r.stay before late
last_leaves before bytes (complete head body rest) late (r, route, received, is, after) = ap (λ (h : Head). h.request.stay) is ∙ no_stay r.stay before late
