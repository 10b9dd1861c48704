-- What is read comes under the same number.
use Rattle.std.proofs.Common.{◌≡◌, ◌+◌, ◌-◌, ◌≤◌, ℕ, min, nat_eq, List, [], ◌++◌, length, take, drop, if◌then◌else◌, Option, Some, None, refl, sym, ap, ◌∙◌, subst, arith, length-take}
use Rattle.std.specs.Map.{update}
use Rattle.std.proofs.lemmas.Bool.{eq-eqb}
use Rattle.std.proofs.lemmas.List.{take-take, take_all, take_min, take-append-drop, drop-take}
use Rattle.sha1.specs.Sha1.{sha1}
use Rattle.disk_model.specs.State.{DiskState}
use Rattle.stored_contents.specs.declared.contents.Contents.{Contents}
use Rattle.stored_contents.specs.declared.uploads.Whole.{Whole}
use Rattle.stored_contents.specs.Held.{Coming, Holding, IsHeld, with_bytes, with_read}
use Rattle.stored_contents.specs.Sealed.{HasCopied, HasSealed, IsCopied, IsSealed}
use Rattle.stored_contents.proofs.Updates.{updated_here, updated_twice}
use Rattle.stored_contents.proofs.Holdings.{held_came}
use Rattle.stored_contents.proofs.Starting.{held_reads, read_twice}

take_both : (n m : ℕ) (xs : List ℕ) → take n xs ++ take m (drop n xs) ≡ take (n + m) xs
take_both n m xs =
    ap (λ l. l ++ take m (drop n xs)) (sym (take-take n (n + m) xs (omega arith)))
    ∙ ap (λ l. take n (take (n + m) xs) ++ l) (sym (drop-take n m xs))
    ∙ take-append-drop n (take (n + m) xs)

-- a front, and so many of those behind it
pub front_and_more : (n m : ℕ) (xs bytes : List ℕ) → bytes ≡ take m (drop n xs) → take n xs ++ bytes ≡ take (n + length bytes) xs
front_and_more n m xs bytes is =
    ap (λ l. take n xs ++ l) (is ∙ sym (take_min m (drop n xs)) ∙ ap (λ k. take k (drop n xs)) (sym long))
    ∙ take_both n (length bytes) xs
  where
    long : length bytes ≡ min m (length (drop n xs))
    long = ap length is ∙ length-take m (drop n xs)

-- no more than are taken
pub at_most : (n count : ℕ) (xs : List ℕ) → count ≡ length (take n xs) → count ≤ n
at_most n count xs is = omega (arith, is, length-take n xs)

-- so many bytes of the number's reader have come under it
abbrev pub has_come : Holding → ℕ → ℕ → ℕ → Holding
has_come h c len count = record h { came = update nat_eq h.came c (Some (record { len = len; bytes = take count (h.read c) })) }

-- as many more
pub comes_more : (t : Contents) (d : DiskState) (h : Holding) (c len left most : ℕ) (bytes : List ℕ)
    → left ≤ len → length bytes ≤ left → bytes ≡ take most (drop (len - left) (h.read c))
    → IsHeld t d (record (has_come h c len (len - left)) { came = update nat_eq (has_come h c len (len - left)).came c (with_bytes bytes ((has_come h c len (len - left)).came c)) })
    → IsHeld t d (has_come h c len (len - (left - length bytes)))
comes_more t d h c len left most bytes within less got held =
    held_came t d (record h { came = update nat_eq (update nat_eq h.came c (Some before)) c (with_bytes bytes (update nat_eq h.came c (Some before) c)) })
    (update nat_eq h.came c (Some after)) same held
  where
    before : Coming
    before = record { len = len; bytes = take (len - left) (h.read c) }

    after : Coming
    after = record { len = len; bytes = take (len - (left - length bytes)) (h.read c) }

    count : len - left + length bytes ≡ len - (left - length bytes)
    count = omega (arith, within, less)

    joined : with_bytes bytes (update nat_eq h.came c (Some before) c) ≡ Some after
    joined =
        ap (with_bytes bytes) (updated_here h.came c (Some before))
        ∙ ap (λ l. Some (record { len = len; bytes = l })) (front_and_more (len - left) most (h.read c) bytes got ∙ ap (λ k. take k (h.read c)) count)

    same : (q : ℕ) → update nat_eq h.came c (Some after) q ≡ update nat_eq (update nat_eq h.came c (Some before)) c (with_bytes bytes (update nat_eq h.came c (Some before) c)) q
    same q = updated_twice h.came c (Some before) (Some after) q ∙ ap (λ o. update nat_eq (update nat_eq h.came c (Some before)) c o q) (sym joined)

-- ---- the copy is stored

module _ (t : Contents) (e : DiskState) (h : Holding) (c len : ℕ) (size : length (h.read c) ≡ len) where
  abbrev none_yet : Coming
  none_yet = record { len = len; bytes = [] }

  abbrev all_of_it : Coming
  all_of_it = record { len = len; bytes = h.read c }

  abbrev came_all : ℕ → Option Coming
  came_all = update nat_eq (update nat_eq h.came c (Some none_yet)) c (Some all_of_it)

  abbrev before_seal : Holding
  before_seal = record h { came = came_all; read = with_read h.read c [] }

  copied_by : (w : Option Whole) → IsSealed t e before_seal c (Some all_of_it) w → IsCopied t e h c (h.read c) w
  copied_by None short = absurd (omega (arith, short.0, size))
  copied_by (Some w) sealed = (k, has, held)
    where
      s : Holding
      s = sealed.0

      told : HasSealed before_seal c all_of_it w s
      told = sealed.1

      k : Holding
      k = record s { came = update nat_eq h.came c None; read = with_read h.read c [] }

      came_same : (q : ℕ) → update nat_eq h.came c None q ≡ s.came q
      came_same q =
          updated_twice h.came c (Some none_yet) None q
          ∙ updated_twice (update nat_eq h.came c (Some none_yet)) c (Some all_of_it) None q
          ∙ ap (λ f. f q) (sym told.came)

      held : IsHeld t e k
      held = held_reads t e (record s { came = update nat_eq h.came c None }) (with_read h.read c []) (λ q. ap (λ f. f q) (sym told.read))
          (held_came t e s (update nat_eq h.came c None) came_same sealed.2)

      has : HasCopied h c (h.read c) w k
      has = record {
        stored = record {
          owned = told.stored.owned;
          agrees = told.stored.agrees;
          content_is = told.stored.content_is ∙ whole;
          digest = told.stored.digest ∙ ap sha1 whole;
        };
        came = refl;
        read = refl;
      }
        where
          whole : take len (h.read c) ≡ h.read c
          whole = take_all len (h.read c) (omega (arith, size))

  pub is_copied : (w : Option Whole) → IsSealed t e before_seal c (came_all c) w → IsCopied t e h c (h.read c) w
  is_copied w sealed = copied_by w (subst (λ o. IsSealed t e before_seal c o w) (updated_here (update nat_eq h.came c (Some none_yet)) c (Some all_of_it)) sealed)

-- the reader of the copy was started for it
module _ (t : Contents) (e : DiskState) (h : Holding) (c : ℕ) (bytes : List ℕ) where
  abbrev started : Holding
  started = record h { read = with_read h.read c bytes }

  pub read_here : started.read c ≡ bytes
  read_here = ap (λ b. if b then bytes else h.read c) (eq-eqb c c refl)

  pub copied_of : (w : Option Whole) → IsCopied t e started c (started.read c) w → IsCopied t e h c bytes w
  copied_of None none = none
  copied_of (Some w) copied = (k, has, held)
    where
      s : Holding
      s = copied.0

      told : HasCopied started c (started.read c) w s
      told = copied.1

      k : Holding
      k = record s { read = with_read h.read c [] }

      held : IsHeld t e k
      held = held_reads t e s (with_read h.read c []) (λ q. read_twice h.read c bytes [] q ∙ ap (λ f. f q) (sym told.read)) copied.2

      has : HasCopied h c bytes w k
      has = record {
        stored = record {
          owned = told.stored.owned;
          agrees = told.stored.agrees;
          content_is = told.stored.content_is ∙ read_here;
          digest = told.stored.digest ∙ ap sha1 read_here;
        };
        came = told.came;
        read = refl;
      }
