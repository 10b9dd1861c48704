-- Rows in listing order, and those of one name among them.
use Rattle.std.proofs.Common.{◌≡◌, ◌≢◌, ℕ, Bool, true, false, not, cond, ◌==◌, nat_lt, nat_eq, List, [], ◌∷◌, Option, All, bytes_eq, if◌then◌else◌, refl, sym, ap, ◌∙◌}
use Rattle.std.specs.Prelude.{filter, fold}
use Rattle.std.specs.declared.cmp.Ordering.{Ordering}
use Rattle.std.specs.declared.cmp.Ordering.TheVariants.{Less, Equal, Greater}
use Rattle.std.specs.Ordering.{nat_cmp, match_ordering, ordering_reverse, ordering_then, is_lt, is_gt}
use Rattle.std.specs.Cmp.Lexicographic.{slice_cmp, nat_list_cmp_total}
use Rattle.std.specs.Cmp.{IsTotalOrder, back_total, nat_cmp_total, on_total, then_total}
use Rattle.std.proofs.lemmas.Cmp.{upto, alike_right}
use Rattle.std.proofs.lemmas.Slice.Eq.{bytes_eq-Decides}
use Rattle.std.proofs.lemmas.Bool.{and_parts}
use Rattle.std.proofs.lemmas.List.Elements.{All-nil, All-cons, All-head, All-weaker, All-filter, All-contains_itself}
use Rattle.std.specs.List.{Contains}
use Rattle.b2_types.specs.declared.bucket.Rule.{Rule}
use Rattle.b2_types.specs.declared.version.VersionOf.{VersionOf}
use Rattle.b2_model.specs.State.{State}
use Rattle.b2_model.specs.Rows.{is_before, put_row, listing_order}
use Rattle.b2_model.specs.Pass.{pass_on}
use Rattle.lifecycle_pass.specs.Names.{is_of, others, AreNumbered, rows_of}
use Rattle.lifecycle_pass.proofs.OtherNames.{row_all, filter_within, others_stay}
use Rattle.lifecycle_pass.proofs.PlanPass.{filter_twice}

less_is : (a b : ℕ) → nat_lt a b ≡ is_lt (nat_cmp a b)
less_is a b = by_case (nat_lt a b) (nat_eq a b)
  where
    by_case : (lt eq : Bool) → lt ≡ is_lt (cond lt Less (cond eq Equal Greater))
    by_case true eq = refl
    by_case false true = refl
    by_case false false = refl

lt_less : (o : Ordering) → is_lt o ≡ true → o ≡ Less
lt_less Less is = refl
lt_less Equal is = absurd (cc)
lt_less Greater is = absurd (cc)

not_greater : (o p : Ordering) → p ≡ ordering_reverse o → is_lt o ≡ false → is_gt p ≡ false
not_greater Less p is lt = absurd (cc)
not_greater Equal p is lt = ap is_gt is
not_greater Greater p is lt = ap is_gt is

module _ {C : Type 0} where
  abbrev row_cmp : VersionOf C → VersionOf C → Ordering
  row_cmp v w = ordering_then (slice_cmp nat_cmp v.name w.name) (nat_cmp w.num v.num)

  row_total : IsTotalOrder row_cmp
  row_total = then_total (on_total (λ (v : VersionOf C). v.name) nat_list_cmp_total) (back_total (on_total (λ (v : VersionOf C). v.num) nat_cmp_total))

  before_is : (v w : VersionOf C) → is_before v w ≡ is_lt (row_cmp v w)
  before_is v w = by_case (slice_cmp nat_cmp v.name w.name)
    where
      by_case : (o : Ordering) → match_ordering o true (nat_lt w.num v.num) false ≡ is_lt (ordering_then o (nat_cmp w.num v.num))
      by_case Less = refl
      by_case Equal = less_is w.num v.num
      by_case Greater = refl

  -- not after
  abbrev UpTo : VersionOf C → VersionOf C → Type 0
  UpTo v w = is_gt (row_cmp v w) ≡ false

  before_upto : (v w : VersionOf C) → is_before v w ≡ true → UpTo v w
  before_upto v w before = ap is_gt (lt_less (row_cmp v w) (sym (before_is v w) ∙ before))

  after_upto : (v w : VersionOf C) → is_before v w ≡ false → UpTo w v
  after_upto v w after = not_greater (row_cmp v w) (row_cmp w v) (row_total.antisymm w v) (sym (before_is v w) ∙ after)

  before_later : (v w u : VersionOf C) → is_before v w ≡ true → UpTo w u → is_before v u ≡ true
  before_later v w u before later = by_case (row_cmp w u) refl later
    where
      less : row_cmp v w ≡ Less
      less = lt_less (row_cmp v w) (sym (before_is v w) ∙ before)

      by_case : (o : Ordering) → row_cmp w u ≡ o → is_gt o ≡ false → is_before v u ≡ true
      by_case Less is up = before_is v u ∙ ap is_lt (row_total.trans v w u less is)
      by_case Equal is up = before_is v u ∙ ap is_lt (sym (alike_right row_total w u v is) ∙ less)
      by_case Greater is up = absurd (cc)

  -- each row stands before those that follow, or is as one of them
  abbrev Up : List (VersionOf C) → Type 0
  Up [] = Unit {0}
  Up (w ∷ ws) = All (UpTo w) ws × Up ws

  put_up : (v : VersionOf C) (ws : List (VersionOf C)) → Up ws → Up (put_row v ws)
  put_up v [] up = (All-nil (UpTo v), tt)
  put_up v (w ∷ ws) up = by_case (is_before v w) refl (put_up v ws up.1)
    where
      by_case : (b : Bool) → is_before v w ≡ b → Up (put_row v ws) → Up (if b then v ∷ w ∷ ws else w ∷ put_row v ws)
      by_case true before rest = (All-cons (UpTo v) w ws (before_upto v w before) (All-weaker (UpTo w) (UpTo v) (λ u later. upto row_total v w u (before_upto v w before) later) ws up.0), up)
      by_case false after rest = (row_all (UpTo w) v ws (after_upto v w after) up.0, rest)

  put_front : (v : VersionOf C) (us : List (VersionOf C)) → All (λ u. is_before v u ≡ true) us → put_row v us ≡ v ∷ us
  put_front v [] all = refl
  put_front v (u ∷ us) all = ap (λ b. if b then v ∷ u ∷ us else u ∷ put_row v us) (All-head (λ u. is_before v u ≡ true) u us all)

  module _ (q : VersionOf C → Bool) where
    put_seen : (v : VersionOf C) (ws : List (VersionOf C)) → q v ≡ true → Up ws → filter q (put_row v ws) ≡ put_row v (filter q ws)
    put_seen v [] seen up = ap (λ b. cond b (v ∷ []) []) seen
    put_seen v (w ∷ ws) seen up = by_case (is_before v w) (q w) refl (put_seen v ws seen up.1)
      where
        by_case : (b a : Bool) → is_before v w ≡ b → filter q (put_row v ws) ≡ put_row v (filter q ws)
            → filter q (if b then v ∷ w ∷ ws else w ∷ put_row v ws) ≡ put_row v (filter q (w ∷ ws))
        by_case b a is rest = by_seen b (q w) is refl rest
          where
            by_seen : (b a : Bool) → is_before v w ≡ b → q w ≡ a → filter q (put_row v ws) ≡ put_row v (filter q ws)
                → filter q (if b then v ∷ w ∷ ws else w ∷ put_row v ws) ≡ put_row v (filter q (w ∷ ws))
            by_seen true true is here rest =
                ap (λ c. cond c (v ∷ filter q (w ∷ ws)) (filter q (w ∷ ws))) seen
                ∙ ap (λ c. v ∷ cond c (w ∷ filter q ws) (filter q ws)) here
                ∙ sym (ap (λ c. put_row v (cond c (w ∷ filter q ws) (filter q ws))) here ∙ ap (λ c. if c then v ∷ w ∷ filter q ws else w ∷ put_row v (filter q ws)) is)
            by_seen true false is here rest =
                ap (λ c. cond c (v ∷ filter q (w ∷ ws)) (filter q (w ∷ ws))) seen
                ∙ ap (λ c. v ∷ cond c (w ∷ filter q ws) (filter q ws)) here
                ∙ sym (ap (λ c. put_row v (cond c (w ∷ filter q ws) (filter q ws))) here ∙ put_front v (filter q ws) (All-filter q (λ u. is_before v u ≡ true) ws (All-weaker (UpTo w) (λ u. is_before v u ≡ true) (λ u later. before_later v w u is later) ws up.0)))
            by_seen false true is here rest =
                ap (λ c. cond c (w ∷ filter q (put_row v ws)) (filter q (put_row v ws))) here
                ∙ ap (λ l. w ∷ l) rest
                ∙ sym (ap (λ c. put_row v (cond c (w ∷ filter q ws) (filter q ws))) here ∙ ap (λ c. if c then v ∷ w ∷ filter q ws else w ∷ put_row v (filter q ws)) is)
            by_seen false false is here rest =
                ap (λ c. cond c (w ∷ filter q (put_row v ws)) (filter q (put_row v ws))) here
                ∙ rest
                ∙ sym (ap (λ c. put_row v (cond c (w ∷ filter q ws) (filter q ws))) here)

    put_hidden : (v : VersionOf C) (ws : List (VersionOf C)) → q v ≡ false → filter q (put_row v ws) ≡ filter q ws
    put_hidden v [] hidden = ap (λ b. cond b (v ∷ []) []) hidden
    put_hidden v (w ∷ ws) hidden = by_case (is_before v w) (put_hidden v ws hidden)
      where
        by_case : (b : Bool) → filter q (put_row v ws) ≡ filter q ws → filter q (if b then v ∷ w ∷ ws else w ∷ put_row v ws) ≡ filter q (w ∷ ws)
        by_case true rest = ap (λ b. cond b (v ∷ filter q (w ∷ ws)) (filter q (w ∷ ws))) hidden
        by_case false rest = ap (λ l. cond (q w) (w ∷ l) l) rest

    order_seen : (vs done : List (VersionOf C)) → Up done → filter q (fold (λ ws v. put_row v ws) done vs) ≡ fold (λ ws v. put_row v ws) (filter q done) (filter q vs)
    order_seen [] done up = refl
    order_seen (v ∷ vs) done up = by_case (q v) refl (order_seen vs (put_row v done) (put_up v done up))
      where
        by_case : (b : Bool) → q v ≡ b → filter q (fold (λ ws v. put_row v ws) (put_row v done) vs) ≡ fold (λ ws v. put_row v ws) (filter q (put_row v done)) (filter q vs)
            → filter q (fold (λ ws v. put_row v ws) (put_row v done) vs) ≡ fold (λ ws v. put_row v ws) (filter q done) (cond b (v ∷ filter q vs) (filter q vs))
        by_case true is rest = rest ∙ ap (λ l. fold (λ ws v. put_row v ws) l (filter q vs)) (put_seen v done is up)
        by_case false is rest = rest ∙ ap (λ l. fold (λ ws v. put_row v ws) l (filter q vs)) (put_hidden v done is)

  -- the rows of a name are its versions in listing order
  rows_are : (M : State C) (bucket : ℕ) (name : List ℕ) → rows_of M bucket name ≡ listing_order (filter (is_of bucket name) M.versions)
  rows_are M bucket name =
      order_seen (λ v. bytes_eq v.name name) (filter (λ v. v.bucket == bucket) M.versions) [] tt
      ∙ ap listing_order (filter_twice (λ v. v.bucket == bucket) (λ v. bytes_eq v.name name) M.versions)

  seen_with_others : (bucket : ℕ) (name other : List ℕ) → name ≢ other → (vs : List (VersionOf C)) → filter (is_of bucket name) (others bucket other vs) ≡ filter (is_of bucket name) vs
  seen_with_others bucket name other apart vs =
      filter_within (is_of bucket name) (λ v. not (is_of bucket other v)) vs (All-weaker (Contains vs) (λ v. is_of bucket name v ≡ true → not (is_of bucket other v) ≡ true) (λ v stands. each v) vs (All-contains_itself vs))
    where
      each : (v : VersionOf C) → is_of bucket name v ≡ true → not (is_of bucket other v) ≡ true
      each v is = by_case (is_of bucket other v) refl
        where
          by_case : (b : Bool) → is_of bucket other v ≡ b → not b ≡ true
          by_case false so = refl
          by_case true so =
              let one : v.name ≡ name = (bytes_eq-Decides v.name name).0 (and_parts (v.bucket == bucket) (bytes_eq v.name name) is).1 in
              let two : v.name ≡ other = (bytes_eq-Decides v.name other).0 (and_parts (v.bucket == bucket) (bytes_eq v.name other) so).1 in
              absurd (apart (sym one ∙ two))

  pub seen_still : (t bucket : ℕ) (name other : List ℕ) (rule : Option Rule) (M : State C) → AreNumbered M → name ≢ other → rows_of (pass_on t bucket other rule M) bucket name ≡ rows_of M bucket name
  seen_still t bucket name other rule M numbered apart =
      let P = pass_on t bucket other rule M in
      rows_are P bucket name
      ∙ ap listing_order (sym (seen_with_others bucket name other apart P.versions) ∙ ap (filter (is_of bucket name)) (others_stay t bucket other rule M numbered) ∙ seen_with_others bucket name other apart M.versions)
      ∙ sym (rows_are M bucket name)
