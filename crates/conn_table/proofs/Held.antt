-- Which bytes after a request are held.
use Rattle.std.proofs.Common.{◌≡◌, ℕ, ◌-◌, ◌<◌, ◌≤◌, nat_le, Bool, true, false, ◌&&◌, List, [], ◌++◌, length, refl, sym, ap, ◌∙◌, arith}
use Rattle.std.proofs.lemmas.Bool.{false≢true, leb-true, leb-false, le-leb, lt-leb}
use Rattle.std.proofs.lemmas.List.{length-append}
use Rattle.http_edge.specs.declared.head.Head.{Head}
use Rattle.conn_table.specs.declared.incoming.Stage.{Stage}
use Rattle.conn_table.specs.declared.incoming.Stage.TheVariants as stage
use Rattle.conn_talk.specs.Asked.{Asked, nothing, refused, begun, complete, goes_on, with_more}
use Rattle.conn_table.specs.Incoming.{IsHeld, holds_bytes}
use Rattle.conn_talk.proofs.Stays.{both_true}

-- a request that stays and few bytes after it
abbrev pub may_hold : Bool → ℕ → Bool
may_hold stay n = stay && nat_le n 65536

no_more : (stay : Bool) (n m : ℕ) → n ≤ m → false ≡ may_hold stay n → false ≡ may_hold stay m
no_more true n m less is = sym (lt-leb m 65536 (omega (arith, less, high)))
  where
    high : 65536 < n
    high = leb-false n 65536 (sym is)
no_more false n m less is = refl

-- the bytes that came after the request are held, or they aren't any more
pub held_not : (told : Asked) (at : Stage) (kept more : List ℕ) → holds_bytes at ≡ false → IsHeld told at kept → IsHeld (with_more told more) at kept
held_not nothing at kept more none is = is
held_not (refused kind) at kept more none is = is
held_not (begun head came) at kept more none is = is
held_not (complete head body rest) (stage.Complete true) kept more none is = absurd (false≢true (sym none))
held_not (complete head body rest) (stage.Complete false) kept more none is =
    let size = length-append rest more in (no_more head.request.stay (length rest) (length (rest ++ more)) (omega (arith, size)) is.0, is.1)
held_not (complete head body rest) (stage.Seeking seen) kept more none is = absurd is
held_not (complete head body rest) stage.Gathering kept more none is = absurd is
held_not (complete head body rest) (stage.Uploading left) kept more none is = absurd is
held_not (complete head body rest) stage.Closed kept more none is = absurd is

pub held_full : (told : Asked) (at : Stage) (kept more : List ℕ) → holds_bytes at ≡ true → 65536 - length kept < length more → IsHeld told at kept → IsHeld (with_more told more) (stage.Complete false) []
held_full told (stage.Seeking seen) kept more some over is = absurd (false≢true some)
held_full told stage.Gathering kept more some over is = absurd (false≢true some)
held_full told (stage.Uploading left) kept more some over is = absurd (false≢true some)
held_full told stage.Closed kept more some over is = absurd (false≢true some)
held_full told (stage.Complete false) kept more some over is = absurd (false≢true some)
held_full nothing (stage.Complete true) kept more some over is = absurd is
held_full (refused kind) (stage.Complete true) kept more some over is = absurd is
held_full (begun head came) (stage.Complete true) kept more some over is = absurd is
held_full (complete head body rest) (stage.Complete true) kept more some over is =
    let both = both_true head.request.stay (nat_le (length rest) 65536) is.0 in
    let size = length-append rest more in
    let same = ap length is.1 in
    let late : nat_le (length (rest ++ more)) 65536 ≡ false = lt-leb (length (rest ++ more)) 65536 (omega (arith, size, same, over)) in
    (sym (ap (λ t. t && nat_le (length (rest ++ more)) 65536) both.0 ∙ late), refl)

pub held_more : (told : Asked) (at : Stage) (kept more : List ℕ) → holds_bytes at ≡ true → length more ≤ 65536 - length kept → IsHeld told at kept → IsHeld (with_more told more) at (kept ++ more)
held_more told (stage.Seeking seen) kept more some fits is = absurd (false≢true some)
held_more told stage.Gathering kept more some fits is = absurd (false≢true some)
held_more told (stage.Uploading left) kept more some fits is = absurd (false≢true some)
held_more told stage.Closed kept more some fits is = absurd (false≢true some)
held_more told (stage.Complete false) kept more some fits is = absurd (false≢true some)
held_more nothing (stage.Complete true) kept more some fits is = absurd is
held_more (refused kind) (stage.Complete true) kept more some fits is = absurd is
held_more (begun head came) (stage.Complete true) kept more some fits is = absurd is
held_more (complete head body rest) (stage.Complete true) kept more some fits is =
    let both = both_true head.request.stay (nat_le (length rest) 65536) is.0 in
    let few = leb-true (length rest) 65536 both.1 in
    let size = length-append rest more in
    let same = ap length is.1 in
    let in_time : nat_le (length (rest ++ more)) 65536 ≡ true = le-leb (length (rest ++ more)) 65536 (omega (arith, size, same, few, fits)) in
    (sym (ap (λ t. t && nat_le (length (rest ++ more)) 65536) both.0 ∙ in_time), ap (λ l. l ++ more) is.1)

-- whether they are is what the stage says
pub held_says : (told : Asked) (at : Stage) (kept : List ℕ) → IsHeld told at kept → holds_bytes at ≡ goes_on told
held_says (complete head body rest) (stage.Complete says) kept is = is.0
held_says (complete head body rest) (stage.Seeking seen) kept is = absurd is
held_says (complete head body rest) stage.Gathering kept is = absurd is
held_says (complete head body rest) (stage.Uploading left) kept is = absurd is
held_says (complete head body rest) stage.Closed kept is = absurd is
held_says nothing (stage.Complete says) kept is = absurd is
held_says nothing (stage.Seeking seen) kept is = refl
held_says nothing stage.Gathering kept is = refl
held_says nothing (stage.Uploading left) kept is = refl
held_says nothing stage.Closed kept is = refl
held_says (refused kind) (stage.Complete says) kept is = absurd is
held_says (refused kind) (stage.Seeking seen) kept is = refl
held_says (refused kind) stage.Gathering kept is = refl
held_says (refused kind) (stage.Uploading left) kept is = refl
held_says (refused kind) stage.Closed kept is = refl
held_says (begun head came) (stage.Complete says) kept is = absurd is
held_says (begun head came) (stage.Seeking seen) kept is = refl
held_says (begun head came) stage.Gathering kept is = refl
held_says (begun head came) (stage.Uploading left) kept is = refl
held_says (begun head came) stage.Closed kept is = refl

-- nothing came after it yet
pub held_first : (head : Head) (body : List ℕ) (stay : Bool) (kept : List ℕ) → stay ≡ head.request.stay → kept ≡ [] → IsHeld (complete head body []) (stage.Complete stay) kept
held_first head body true kept is none = (ap (λ t. may_hold t 0) is, none)
held_first head body false kept is none = (ap (λ t. may_hold t 0) is, none)
