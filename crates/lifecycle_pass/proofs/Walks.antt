-- The versions of a name, walked one by one.
use Rattle.std.proofs.Common.{◌≡◌, ℕ, ◌+◌, ◌<◌, ◌≤◌, suc, Bool, true, false, not, cond, ◌&&◌, List, [], ◌∷◌, ◌++◌, length, take, drop, map, get_or, refl, sym, ap, ◌∙◌, subst, arith, append_assoc, take-append-drop, length-drop, ◌-◌}
use Rattle.std.specs.Prelude.{filter, if◌then◌else◌}
use Rattle.std.proofs.lemmas.List.{drop_more, take_all, get_or-map, append-nil, drop-map}
use Rattle.std.proofs.lemmas.List.Elements.{filter_more, filter-append}
use Rattle.b2_base.specs.declared.extent.Extent.{Extent}
use Rattle.b2_types.specs.declared.bucket.Rule.{Rule}
use Rattle.b2_types.specs.declared.version.VersionOf.{VersionOf}
use Rattle.b2_model.specs.Kinds.{is_start}
use Rattle.b2_model.specs.Locks.{is_protected}
use Rattle.b2_model.specs.Pass.{has_aged, goes_under, lower_drops, all_go}
use Rattle.lifecycle_pass.specs.declared.plans.Face.{Face}
use Rattle.lifecycle_pass.specs.Plans.{face_of, files, numbers, is_stale, IsNewest}

abbrev V : Type 0
V = VersionOf Extent

-- the last of them, where the first stands above all
abbrev pub last_of : V → List V → V
last_of top [] = top
last_of top (v ∷ vs) = last_of v vs

pub last_of-push : (top : V) (vs : List V) (v : V) → last_of top (vs ++ v ∷ []) ≡ v
last_of-push top [] v = refl
last_of-push top (w ∷ vs) v = last_of-push w vs v

length-map : {X Y : Type 0} (f : X → Y) (l : List X) → length (map f l) ≡ length l
length-map f [] = refl
length-map f (x ∷ xs) = ap suc (length-map f xs)

pub looks : (t : ℕ) (vs : List V) (faces : List Face) → map (face_of t) vs ≡ faces → length vs ≡ length faces
looks t vs faces look = sym (length-map (face_of t) vs) ∙ ap length look

numbers-append : (xs ys : List V) → numbers (xs ++ ys) ≡ numbers xs ++ numbers ys
numbers-append [] ys = refl
numbers-append (x ∷ xs) ys = ap (λ l. x.num ∷ l) (numbers-append xs ys)

-- the version at this place looks so
pub look_at : (t : ℕ) (vs : List V) (faces : List Face) (i : ℕ) (face : Face) (d : V) → map (face_of t) vs ≡ faces → i < length faces → face ≡ get_or faces i face
    → (i < length vs) × (face ≡ face_of t (get_or vs i d))
look_at t vs faces i face d look inside is =
    let within : i < length vs = omega (arith, looks t vs faces look) in
    (within, is ∙ ap (λ l. get_or l i face) (sym look) ∙ get_or-map (face_of t) vs i d face within)

module _ (vs : List V) (i : ℕ) (d : V) (within : i < length vs) where
  abbrev here : V
  here = get_or vs i d

  pub split : vs ≡ take i vs ++ (here ∷ drop (i + 1) vs)
  split = sym (take-append-drop i vs) ∙ ap (λ l. take i vs ++ l) (drop_more vs i d within)

  pub files_past : is_start here.action ≡ true → files (take (i + 1) vs) ≡ files (take i vs)
  files_past start =
      filter_more (λ v. not (is_start v.action)) vs i d within
      ∙ ap (λ b. files (take i vs) ++ cond (not b) (here ∷ []) []) start
      ∙ append-nil (files (take i vs))

  pub files_with : is_start here.action ≡ false → files (take (i + 1) vs) ≡ files (take i vs) ++ here ∷ []
  files_with none =
      filter_more (λ v. not (is_start v.action)) vs i d within
      ∙ ap (λ b. files (take i vs) ++ cond (not b) (here ∷ []) []) none

  pub files_split : is_start here.action ≡ false → files vs ≡ files (take i vs) ++ (here ∷ files (drop (i + 1) vs))
  files_split none =
      ap files split
      ∙ filter-append (λ v. not (is_start v.action)) (take i vs) (here ∷ drop (i + 1) vs)
      ∙ ap (λ b. files (take i vs) ++ cond (not b) (here ∷ files (drop (i + 1) vs)) (files (drop (i + 1) vs))) none

module _ (t : ℕ) (rule : Rule) where
  pub all_go-append : (top : V) (xs ys : List V) → all_go t rule top xs ≡ true → all_go t rule top (xs ++ ys) ≡ all_go t rule (last_of top xs) ys
  all_go-append top [] ys go = refl
  all_go-append top (x ∷ xs) ys go = by_case (goes_under t rule top x) (all_go-append x xs ys) go
    where
      by_case : (b : Bool) → (all_go t rule x xs ≡ true → all_go t rule x (xs ++ ys) ≡ all_go t rule (last_of x xs) ys)
          → (b && all_go t rule x xs) ≡ true → (b && all_go t rule x (xs ++ ys)) ≡ all_go t rule (last_of x xs) ys
      by_case true rest go = rest go
      by_case false rest go = absurd (cc)

  pub lower_drops-append : (top : V) (xs ys : List V) → lower_drops t rule top (xs ++ ys) ≡ lower_drops t rule top xs ++ lower_drops t rule (last_of top xs) ys
  lower_drops-append top [] ys = refl
  lower_drops-append top (x ∷ xs) ys = by_case (goes_under t rule top x) (lower_drops-append x xs ys)
    where
      by_case : (b : Bool) → lower_drops t rule x (xs ++ ys) ≡ lower_drops t rule x xs ++ lower_drops t rule (last_of x xs) ys
          → (if b then x ∷ lower_drops t rule x (xs ++ ys) else lower_drops t rule x (xs ++ ys))
          ≡ (if b then x ∷ lower_drops t rule x xs else lower_drops t rule x xs) ++ lower_drops t rule (last_of x xs) ys
      by_case true rest = ap (λ l. x ∷ l) rest
      by_case false rest = rest

  -- whether a version goes is seen of its look, and of the moment of what stands above it
  goes_is : (top v : V) (above : ℕ) (face : Face) → top.stamp ≡ above → face ≡ face_of t v → goes_under t rule top v ≡ (has_aged t above rule.delete_days && not face.protected)
  goes_is top v above face stamp look =
      ap (λ s. has_aged t s rule.delete_days && not (is_protected t v)) stamp ∙ ap (λ p. has_aged t above rule.delete_days && not p) (sym (ap (λ (f : Face). f.protected) look))

  -- all of the first i go, and the last of them is of the moment `above`
  abbrev pub AllGone : List Face → ℕ → ℕ → ℕ → Type 0
  AllGone faces first above i = (top : V) (vs : List V) → top.stamp ≡ first → map (face_of t) vs ≡ faces
      → (all_go t rule top (files (take i vs)) ≡ true) × ((last_of top (files (take i vs))).stamp ≡ above)

  module _ (faces : List Face) (first above i : ℕ) (face : Face) (inside : i < length faces) (is : face ≡ get_or faces i face) where
    pub gone_past : is_start face.action ≡ true → AllGone faces first above i → AllGone faces first above (i + 1)
    gone_past start so_far top vs stamp look =
        let at = look_at t vs faces i face top look inside is in
        let was = so_far top vs stamp look in
        let same = files_past vs i top at.0 (sym (ap (λ (f : Face). is_start f.action) at.1) ∙ start) in
        (ap (all_go t rule top) same ∙ was.0, ap (λ l. (last_of top l).stamp) same ∙ was.1)

    pub gone_too : is_start face.action ≡ false → (has_aged t above rule.delete_days && not face.protected) ≡ true → AllGone faces first above i → AllGone faces first face.stamp (i + 1)
    gone_too none goes so_far top vs stamp look =
        let at = look_at t vs faces i face top look inside is in
        let was = so_far top vs stamp look in
        let v : V = get_or vs i top in
        let before : List V = files (take i vs) in
        let with : files (take (i + 1) vs) ≡ before ++ v ∷ [] = files_with vs i top at.0 (sym (ap (λ (f : Face). is_start f.action) at.1) ∙ none) in
        let test : goes_under t rule (last_of top before) v ≡ true = goes_is (last_of top before) v above face was.1 at.1 ∙ goes in
        (ap (all_go t rule top) with ∙ all_go-append top before (v ∷ []) was.0 ∙ ap (λ b. b && true) test, ap (λ l. (last_of top l).stamp) with ∙ ap (λ (w : V). w.stamp) (last_of-push top before v) ∙ sym (ap (λ (f : Face). f.stamp) at.1))

    pub stays : is_start face.action ≡ false → (has_aged t above rule.delete_days && not face.protected) ≡ false → AllGone faces first above i
        → (top : V) (vs : List V) → top.stamp ≡ first → map (face_of t) vs ≡ faces → false ≡ all_go t rule top (files vs)
    stays none goes so_far top vs stamp look =
        let at = look_at t vs faces i face top look inside is in
        let was = so_far top vs stamp look in
        let v : V = get_or vs i top in
        let before : List V = files (take i vs) in
        let rest : List V = files (drop (i + 1) vs) in
        let parts : files vs ≡ before ++ (v ∷ rest) = files_split vs i top at.0 (sym (ap (λ (f : Face). is_start f.action) at.1) ∙ none) in
        let test : goes_under t rule (last_of top before) v ≡ false = goes_is (last_of top before) v above face was.1 at.1 ∙ goes in
        sym (ap (all_go t rule top) parts ∙ all_go-append top before (v ∷ rest) was.0 ∙ ap (λ b. b && all_go t rule v rest) test)

  pub all_gone : (faces : List Face) (first above i : ℕ) → length faces ≤ i → AllGone faces first above i
      → (top : V) (vs : List V) → top.stamp ≡ first → map (face_of t) vs ≡ faces → true ≡ all_go t rule top (files vs)
  all_gone faces first above i all so_far top vs stamp look =
      sym (ap (λ l. all_go t rule top (files l)) (sym (take_all i vs (omega (arith, looks t vs faces look)))) ∙ (so_far top vs stamp look).0)

  -- the numbers of those of the first i that go, after others
  abbrev pub Pushed : List Face → ℕ → List ℕ → ℕ → ℕ → List ℕ → Type 0
  Pushed faces first old above i items = (top : V) (vs : List V) → top.stamp ≡ first → map (face_of t) vs ≡ faces
      → (items ≡ old ++ numbers (lower_drops t rule top (files (take i vs)))) × ((last_of top (files (take i vs))).stamp ≡ above)

  module _ (faces : List Face) (first : ℕ) (old : List ℕ) (above i : ℕ) (items : List ℕ) (face : Face) (inside : i < length faces) (is : face ≡ get_or faces i face) where
    pub pushed_past : is_start face.action ≡ true → Pushed faces first old above i items → Pushed faces first old above (i + 1) items
    pushed_past start so_far top vs stamp look =
        let at = look_at t vs faces i face top look inside is in
        let was = so_far top vs stamp look in
        let same = files_past vs i top at.0 (sym (ap (λ (f : Face). is_start f.action) at.1) ∙ start) in
        (was.0 ∙ ap (λ l. old ++ numbers (lower_drops t rule top l)) (sym same), ap (λ l. (last_of top l).stamp) same ∙ was.1)

    -- one more, which goes or stays
    pub pushed_more : (goes : Bool) → is_start face.action ≡ false → (has_aged t above rule.delete_days && not face.protected) ≡ goes → Pushed faces first old above i items
        → Pushed faces first old face.stamp (i + 1) (items ++ cond goes (face.num ∷ []) [])
    pushed_more goes none test so_far top vs stamp look =
        let at = look_at t vs faces i face top look inside is in
        let was = so_far top vs stamp look in
        let v : V = get_or vs i top in
        let before : List V = files (take i vs) in
        let with : files (take (i + 1) vs) ≡ before ++ v ∷ [] = files_with vs i top at.0 (sym (ap (λ (f : Face). is_start f.action) at.1) ∙ none) in
        let last : goes_under t rule (last_of top before) v ≡ goes = goes_is (last_of top before) v above face was.1 at.1 ∙ test in
        let num : face.num ≡ v.num = ap (λ (f : Face). f.num) at.1 in (
          ap (λ l. l ++ cond goes (face.num ∷ []) []) was.0
              ∙ append_assoc old (numbers (lower_drops t rule top before)) (cond goes (face.num ∷ []) [])
              ∙ ap (λ l. old ++ (numbers (lower_drops t rule top before) ++ l)) (ap (λ n. cond goes (n ∷ []) []) num ∙ one_more goes v last)
              ∙ ap (λ l. old ++ l) (sym (numbers-append (lower_drops t rule top before) (lower_drops t rule (last_of top before) (v ∷ []))))
              ∙ ap (λ l. old ++ numbers l) (sym (lower_drops-append top before (v ∷ [])) ∙ ap (lower_drops t rule top) (sym with)),
          ap (λ l. (last_of top l).stamp) with ∙ ap (λ (w : V). w.stamp) (last_of-push top before v) ∙ sym (ap (λ (f : Face). f.stamp) at.1),
        )
      where
        one_more : (goes : Bool) (v : V) → goes_under t rule (last_of top (files (take i vs))) v ≡ goes → cond goes (v.num ∷ []) [] ≡ numbers (lower_drops t rule (last_of top (files (take i vs))) (v ∷ []))
        one_more goes v is = by_case goes is
          where
            by_case : (b : Bool) → goes_under t rule (last_of top (files (take i vs))) v ≡ b → cond b (v.num ∷ []) [] ≡ numbers (if goes_under t rule (last_of top (files (take i vs))) v then v ∷ [] else [])
            by_case b is = rw is (picked b)
              where
                picked : (b : Bool) → cond b (v.num ∷ []) [] ≡ numbers (if b then v ∷ [] else [])
                picked true = refl
                picked false = refl

  pub all_pushed : (faces : List Face) (first : ℕ) (old : List ℕ) (above i : ℕ) (items : List ℕ) → length faces ≤ i → Pushed faces first old above i items
      → (top : V) (vs : List V) → top.stamp ≡ first → map (face_of t) vs ≡ faces → items ≡ old ++ numbers (lower_drops t rule top (files vs))
  all_pushed faces first old above i items all so_far top vs stamp look =
      (so_far top vs stamp look).0 ∙ ap (λ l. old ++ numbers (lower_drops t rule top (files l))) (take_all i vs (omega (arith, looks t vs faces look)))

-- the steps of a loop, with what it holds named anew
module _ (t : ℕ) (rule : Rule) (faces : List Face) (first : ℕ) (old : List ℕ) (above i : ℕ) (items : List ℕ) (face : Face) (inside : i < length faces) (is : face ≡ get_or faces i face) where
  pub step_past : true ≡ is_start face.action → (above' : ℕ) (items' : List ℕ) → items' ≡ items → above' ≡ above → Pushed t rule faces first old above i items → Pushed t rule faces first old above' (i + 1) items'
  step_past test above' items' same still so_far =
      let past = pushed_past t rule faces first old above i items face inside is (sym test) so_far in
      subst (λ a. Pushed t rule faces first old a (i + 1) items') (sym still) (subst (λ l. Pushed t rule faces first old above (i + 1) l) (sym same) past)

  pub step_more : false ≡ is_start face.action → (goes : Bool) → (has_aged t above rule.delete_days && not face.protected) ≡ goes → (above' : ℕ) (items' : List ℕ) → items' ≡ items ++ cond goes (face.num ∷ []) [] → above' ≡ face.stamp
      → Pushed t rule faces first old above i items → Pushed t rule faces first old above' (i + 1) items'
  step_more test goes same_goes above' items' same still so_far =
      let more = pushed_more t rule faces first old above i items face inside is goes (sym test) same_goes so_far in
      subst (λ a. Pushed t rule faces first old a (i + 1) items') (sym still) (subst (λ l. Pushed t rule faces first old face.stamp (i + 1) l) (sym same) more)

  pub gone_step_past : true ≡ is_start face.action → (above' : ℕ) → above' ≡ above → AllGone t rule faces first above i → AllGone t rule faces first above' (i + 1)
  gone_step_past test above' still so_far =
      subst (λ a. AllGone t rule faces first a (i + 1)) (sym still) (gone_past t rule faces first above i face inside is (sym test) so_far)

  pub gone_step : false ≡ is_start face.action → (has_aged t above rule.delete_days && not face.protected) ≡ true → (above' : ℕ) → above' ≡ face.stamp → AllGone t rule faces first above i → AllGone t rule faces first above' (i + 1)
  gone_step test goes above' still so_far =
      subst (λ a. AllGone t rule faces first a (i + 1)) (sym still) (gone_too t rule faces first above i face inside is (sym test) goes so_far)

  pub gone_stop : false ≡ is_start face.action → (has_aged t above rule.delete_days && not face.protected) ≡ false → AllGone t rule faces first above i
      → (top : V) (vs : List V) → top.stamp ≡ first → map (face_of t) vs ≡ faces → false ≡ all_go t rule top (files vs)
  gone_stop test goes so_far = stays t rule faces first above i face inside is (sym test) goes so_far

-- the first of them that is no start
abbrev pub NoFile : List Face → ℕ → Type 0
NoFile faces i = (t : ℕ) (vs : List V) → map (face_of t) vs ≡ faces → files (take i vs) ≡ []

some_default : (vs : List V) (i : ℕ) → i < length vs → V
some_default [] i inside = absurd (omega (arith, inside))
some_default (v ∷ vs) i inside = v

module _ (faces : List Face) (i : ℕ) (face : Face) (inside : i < length faces) (is : face ≡ get_or faces i face) where
  pub no_file_past : true ≡ is_start face.action → NoFile faces i → NoFile faces (i + 1)
  no_file_past test so_far t vs look =
      let d = some_default vs i (omega (arith, looks t vs faces look)) in
      let at = look_at t vs faces i face d look inside is in
      files_past vs i d at.0 (sym (ap (λ (f : Face). is_start f.action) at.1) ∙ sym test) ∙ so_far t vs look

  pub newest_here : false ≡ is_start face.action → NoFile faces i → (lower : List Face) → lower ≡ drop (i + 1) faces → (t : ℕ) (vs : List V) → map (face_of t) vs ≡ faces → IsNewest t vs face lower
  newest_here test so_far lower rest t vs look =
      let d = some_default vs i (omega (arith, looks t vs faces look)) in
      let at = look_at t vs faces i face d look inside is in
      record {
        version = get_or vs i d;
        below = drop (i + 1) vs;
        split = files_split vs i d at.0 (sym (ap (λ (f : Face). is_start f.action) at.1) ∙ sym test) ∙ ap (λ l. l ++ (get_or vs i d ∷ files (drop (i + 1) vs))) (so_far t vs look);
        looks = sym at.1;
        look = sym (drop-map (face_of t) (i + 1) vs) ∙ ap (drop (i + 1)) look ∙ sym rest;
      }

pub slice_rest : {X : Type 0} (xs : List X) (k : ℕ) → take (length xs - k) (drop k xs) ≡ drop k xs
slice_rest xs k = take_all (length xs - k) (drop k xs) (omega (arith, length-drop k xs))

pub none_newest : (faces : List Face) (i : ℕ) → length faces ≤ i → NoFile faces i → (t : ℕ) (vs : List V) → map (face_of t) vs ≡ faces → files vs ≡ []
none_newest faces i all so_far t vs look = ap files (sym (take_all i vs (omega (arith, looks t vs faces look)))) ∙ so_far t vs look

-- starts by their looks
pub stale_numbers : (t : ℕ) (rule : Rule) (vs : List V) (faces : List Face) → map (face_of t) vs ≡ faces
    → map (λ (f : Face). f.num) (filter (λ f. is_start f.action && has_aged t f.stamp rule.cancel_days) faces) ≡ numbers (filter (is_stale t rule) vs)
stale_numbers t rule vs faces look = ap (λ l. map (λ (f : Face). f.num) (filter (λ f. is_start f.action && has_aged t f.stamp rule.cancel_days) l)) (sym look) ∙ each vs
  where
    each : (vs : List V) → map (λ (f : Face). f.num) (filter (λ f. is_start f.action && has_aged t f.stamp rule.cancel_days) (map (face_of t) vs)) ≡ numbers (filter (is_stale t rule) vs)
    each [] = refl
    each (v ∷ vs) = by_case (is_stale t rule v) (each vs)
      where
        by_case : (b : Bool) → map (λ (f : Face). f.num) (filter (λ f. is_start f.action && has_aged t f.stamp rule.cancel_days) (map (face_of t) vs)) ≡ numbers (filter (is_stale t rule) vs)
            → map (λ (f : Face). f.num) (cond b (face_of t v ∷ filter (λ f. is_start f.action && has_aged t f.stamp rule.cancel_days) (map (face_of t) vs)) (filter (λ f. is_start f.action && has_aged t f.stamp rule.cancel_days) (map (face_of t) vs)))
            ≡ numbers (cond b (v ∷ filter (is_stale t rule) vs) (filter (is_stale t rule) vs))
        by_case true rest = ap (λ l. v.num ∷ l) rest
        by_case false rest = rest
