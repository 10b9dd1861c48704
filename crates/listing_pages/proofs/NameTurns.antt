-- The rows of a page of names, one turn after the other.
use Rattle.std.proofs.Common.{◌≡◌, ℕ, zero, suc, ◌+◌, ◌<◌, ◌≤◌, ◌&&◌, Bool, true, false, not, cond, List, [], ◌∷◌, ◌++◌, Option, None, Some, length, filter, find, map, subst, sym, ap, ◌∙◌, ⊎_elim, refl, arith, is_lt, Less, Equal, Greater, append_assoc, append-nil}
use Rattle.std.specs.Option.{option_to_list}
use Rattle.std.specs.Prelude.{bytes_eq}
use Rattle.std.specs.declared.cmp.Ordering.{Ordering}
use Rattle.std.specs.List.{AllByRecursion}
use Rattle.std.proofs.lemmas.Bool.{and_right, cases_Bool, false≢true}
use Rattle.std.proofs.lemmas.List.{length-append}
use Rattle.std.proofs.lemmas.Map.Lookups.{exact_bytes}
use Rattle.b2_base.specs.declared.numbers.TheConstants.{LAST_VERSION}
use Rattle.b2_types.specs.declared.kinds.Action.{Action}
use Rattle.b2_types.specs.declared.kinds.Action.TheVariants as action
use Rattle.b2_types.specs.declared.version.VersionOf.{VersionOf}
use Rattle.b2_model.specs.Current.{current_in}
use Rattle.b2_model.specs.Kinds.{is_start, is_upload}
use Rattle.b2_model.specs.Pages.{Row, file, folder, is_current, visible_versions}
use Rattle.b2_model.specs.Rows.{is_before}
use Rattle.name_rules.specs.Folder.{begins_with}
use Rattle.version_index.specs.declared.spot.Spot.{Spot}
use Rattle.listing_pages.specs.declared.ask.Ask.{Ask}
use Rattle.listing_pages.specs.declared.page.PageRow.{PageRow}
use Rattle.listing_pages.specs.NameRows.{StartsBefore, is_late, is_visible, next_by, row_by, upload_row}
use Rattle.listing_pages.specs.PageOf.{IsDelimiter, asked_rows, folder_of_name, listing_of, page_row}
use Rattle.listing_pages.specs.Places.{after_folder, after_name, after_row, after_version, at_or_after, begin_at, first_of_name, in_folder, raised}
use Rattle.listing_pages.proofs.Currents.{current_is, first_starts, older_hidden, starts_after, visible_is}
use Rattle.listing_pages.proofs.Gather.{IsFromPrefix, Stands, begin_bucket, begin_from, folder_from, name_from, still, version_from}
use Rattle.listing_pages.proofs.InFolders.{are_folders}
use Rattle.listing_pages.proofs.Late.{counts, late_row, whole_names}
use Rattle.listing_pages.proofs.Left.{after_its_version, file_turn, folder_turn, pass_left}
use Rattle.listing_pages.proofs.Names.{at_folder, at_name, at_version, begins_upto, cmp}
use Rattle.listing_pages.proofs.Shown.{InOrder, all_from, filter_same, filter_twice, shown}
use Rattle.listing_pages.proofs.Turns.{AreLow, before_by_name, from_place, past_after}

pub fewer : {X : Type 0} (p q : X → Bool) (xs : List X) → AllByRecursion (λ x. p x ≡ true → q x ≡ true) xs → length (filter p xs) ≤ length (filter q xs)
fewer p q [] all = omega arith
fewer p q (x ∷ xs) all = ⊎_elim
    (λ (is : p x ≡ true). rw (is, all.0 is) (let rest = fewer p q xs all.1 in omega arith))
    (λ (out : p x ≡ false). ⊎_elim
    (λ (yes : q x ≡ true). rw (out, yes) (let rest = fewer p q xs all.1 in omega arith))
    (λ (no_q : q x ≡ false). rw (out, no_q) (fewer p q xs all.1))
    (cases_Bool (q x)))
    (cases_Bool (p x))

version_bucket : (bucket : ℕ) (name : List ℕ) (n : ℕ) → (after_version bucket name n).bucket ≡ bucket
version_bucket bucket name zero = refl
version_bucket bucket name (suc n) = refl

module _ {C : Type 0} (R : List (VersionOf C)) (ask : Ask) where
  -- what is left to turn
  abbrev pub turns_at : Spot → ℕ
  turns_at s = length (filter (at_or_after s) R)

  -- how a listing of names stands at a place
  pub record StandsFor (all items : List PageRow) (place : Spot) : Type 0 where
    pub stands : Stands (counts R ask) R ask all items place
    pub starts : StartsBefore place R

module _ {C : Type 0} (R : List (VersionOf C)) (up : InOrder R) (low : AreLow R) (ask : Ask) (given : IsDelimiter ask.delimiter) where
  pub names_begin : StandsFor R ask (map page_row (asked_rows (listing_of ask) (visible_versions R))) [] (begin_at ask None)
  names_begin = record {
    stands = record {
      bucket = begin_bucket ask None;
      from = begin_from ask.prefix ask.delimiter given ask.bucket ask.start None;
      split = ap (map page_row) (sym (whole_names R up low ask given));
    };
    starts = begin_starts;
  } where
    first_starts_at : (b : Bool) (o : Option (List ℕ)) → StartsBefore (cond b (first_of_name ask.bucket ask.prefix) (in_folder ask.bucket ask.start None o)) R
    first_starts_at true o = first_starts ask.bucket ask.prefix R low
    first_starts_at false None = first_starts ask.bucket ask.start R low
    first_starts_at false (Some f) = ⊎_elim
        (λ (same : bytes_eq f ask.start ≡ true). rw same (first_starts ask.bucket ask.start R low))
        (λ (other : bytes_eq f ask.start ≡ false). rw other (first_starts ask.bucket (raised f) R low))
        (cases_Bool (bytes_eq f ask.start))

    begin_starts : StartsBefore (begin_at ask None) R
    begin_starts = first_starts_at (is_lt (cmp ask.start ask.prefix)) (folder_of_name ask.prefix ask.delimiter ask.start)

  -- after the current version of a name its others are passed by one place
  same_left : (bucket : ℕ) (r : VersionOf C) → current_in R r.name ≡ Some r → (w : VersionOf C) → w.num ≤ LAST_VERSION → (is_before r w && counts R ask w) ≡ (at_or_after (after_name bucket r.name) w && counts R ask w)
  same_left bucket r current w is = by (cmp r.name w.name) refl ∙ ap (λ b. b && counts R ask w) (sym (at_name bucket r.name w is)) where
    by : (o : Ordering) → cmp r.name w.name ≡ o → (is_before r w && counts R ask w) ≡ (is_lt (cmp r.name w.name) && counts R ask w)
    by Less e = rw e refl
    by Equal e = ap (λ b. b && counts R ask w) refl ∙ ⊎_elim
        (λ (before : is_before r w ≡ true). ap (λ b. is_before r w && (b && not (late_row R ask (folder_of_name ask.prefix ask.delimiter w.name) w))) (older_hidden R r w current before (exact_bytes r.name w.name e)) ∙ and_right (is_before r w) false refl)
        (λ (other : is_before r w ≡ false). ap (λ b. b && counts R ask w) other)
        (cases_Bool (is_before r w))
        ∙ sym (ap (λ o. is_lt o && counts R ask w) e)
    by Greater e = rw e refl

  after_its_name : (bucket : ℕ) (r : VersionOf C) → current_in R r.name ≡ Some r → filter (counts R ask) (filter (is_before r) R) ≡ filter (counts R ask) (filter (at_or_after (after_name bucket r.name)) R)
  after_its_name bucket r current =
      filter_twice (counts R ask) (is_before r) R
      ∙ filter_same (λ w. is_before r w && counts R ask w) (λ w. at_or_after (after_name bucket r.name) w && counts R ask w) R (all_from (λ w. w.num ≤ LAST_VERSION) (λ w. (is_before r w && counts R ask w) ≡ (at_or_after (after_name bucket r.name) w && counts R ask w)) (same_left bucket r current) R low)
      ∙ sym (filter_twice (counts R ask) (at_or_after (after_name bucket r.name)) R)

  module _ (all items : List PageRow) (place : Spot) (standing : StandsFor R ask all items place) (r : VersionOf C) (found : find (at_or_after place) R ≡ Some r) (begins : begins_with ask.prefix r.name ≡ true) where
    -- a turn that leaves fewer
    abbrev Turned : Option PageRow → Spot → Type 0
    Turned row next = StandsFor R ask all (items ++ option_to_list row) next × (turns_at R ask next < turns_at R ask place)

    falls : (next : Spot) → ((w : VersionOf C) → w.num ≤ LAST_VERSION → at_or_after next w ≡ true → is_before r w ≡ true) → turns_at R ask next < turns_at R ask place
    falls next later =
        let less = fewer (at_or_after next) (is_before r) R (all_from (λ w. w.num ≤ LAST_VERSION) (λ w. at_or_after next w ≡ true → is_before r w ≡ true) later R low) in
        let now = ap length (from_place place R r up found) in
        omega (arith, less, now)

    passed : (next : Spot) → shown ask.prefix ask.delimiter (filter (counts R ask) (filter (at_or_after place) R)) ≡ shown ask.prefix ask.delimiter (filter (counts R ask) (filter (at_or_after next) R)) → next.bucket ≡ ask.bucket → IsFromPrefix ask.prefix next → StartsBefore next R → StandsFor R ask all (items ++ []) next
    passed next same bucket from starts = record {
      stands = record {
        bucket = bucket;
        from = from;
        split = ap (λ l. l ++ still (counts R ask) R ask next) (append-nil items) ∙ ap (λ l. items ++ map page_row l) (sym same) ∙ standing.stands.split;
      };
      starts = starts;
    }

    shown_one : (row : Row C) (next : Spot) → shown ask.prefix ask.delimiter (filter (counts R ask) (filter (at_or_after place) R)) ≡ row ∷ shown ask.prefix ask.delimiter (filter (counts R ask) (filter (at_or_after next) R)) → next.bucket ≡ ask.bucket → IsFromPrefix ask.prefix next → StartsBefore next R → StandsFor R ask all (items ++ page_row row ∷ []) next
    shown_one row next same bucket from starts = record {
      stands = record {
        bucket = bucket;
        from = from;
        split = append_assoc items (page_row row ∷ []) (still (counts R ask) R ask next) ∙ ap (λ l. items ++ map page_row l) (sym same) ∙ standing.stands.split;
      };
      starts = starts;
    }

    start_turn : r.action ≡ action.Start → Turned None (after_version ask.bucket r.name r.num)
    start_turn is =
        let hidden : counts R ask r ≡ false = ap (λ a. (is_upload a && is_current R r) && not (late_row R ask (folder_of_name ask.prefix ask.delimiter r.name) r)) is in (
          passed (after_version ask.bucket r.name r.num)
              (ap (shown ask.prefix ask.delimiter) (pass_left ask.prefix ask.delimiter given (counts R ask) R up low place r found hidden ∙ after_its_version ask.prefix ask.delimiter given (counts R ask) R up low ask.bucket r))
              (version_bucket ask.bucket r.name r.num) (version_from ask.prefix ask.bucket r.name r.num begins)
              (starts_after ask.bucket place R r up low standing.starts found (ap is_start is)),
          falls (after_version ask.bucket r.name r.num) (λ w l at_it. sym (at_version ask.bucket r w l) ∙ at_it),
        )

    name_falls : turns_at R ask (after_name ask.bucket r.name) < turns_at R ask place
    name_falls = falls (after_name ask.bucket r.name) (λ w l at_it. before_by_name r w (lt_is (cmp r.name w.name) (sym (at_name ask.bucket r.name w l) ∙ at_it))) where
      lt_is : (o : Ordering) → is_lt o ≡ true → o ≡ Less
      lt_is Less x = refl
      lt_is Equal x = absurd (false≢true x)
      lt_is Greater x = absurd (false≢true x)

    -- the current version of its name has no row
    hidden_turn : current_in R r.name ≡ Some r → counts R ask r ≡ false → Turned None (after_name ask.bucket r.name)
    hidden_turn current hidden = (
      passed (after_name ask.bucket r.name)
          (ap (shown ask.prefix ask.delimiter) (pass_left ask.prefix ask.delimiter given (counts R ask) R up low place r found hidden ∙ after_its_name ask.bucket r current))
          refl (name_from ask.prefix ask.bucket r.name begins) (first_starts ask.bucket (r.name ++ 0 ∷ []) R low),
      name_falls,
    )

    upload_turn : current_in R r.name ≡ Some r → r.action ≡ action.Upload → (o : Option (List ℕ)) → folder_of_name ask.prefix ask.delimiter r.name ≡ o → Turned (upload_row ask o r) (after_row ask.bucket o (after_name ask.bucket r.name))
    upload_turn current is None in_it = ⊎_elim
        (λ (late : is_late ask r ≡ true). rw late (hidden_turn current (ap (λ o. is_visible R r && not (late_row R ask o r)) in_it ∙ ap (λ b. is_visible R r && not b) late ∙ and_right (is_visible R r) false refl)))
        (λ (in_time : is_late ask r ≡ false). rw in_time (
          shown_one (file r) (after_name ask.bucket r.name)
              (file_turn ask.prefix ask.delimiter given (counts R ask) R up low place r found (shows in_time) begins in_it ∙ ap (λ l. file r ∷ shown ask.prefix ask.delimiter l) (after_its_name ask.bucket r current))
              refl (name_from ask.prefix ask.bucket r.name begins) (first_starts ask.bucket (r.name ++ 0 ∷ []) R low),
          name_falls,
        ))
        (cases_Bool (is_late ask r))
      where
        shows : is_late ask r ≡ false → counts R ask r ≡ true
        shows in_time = ap (λ o. is_visible R r && not (late_row R ask o r)) in_it ∙ ap (λ b. is_visible R r && not b) in_time ∙ ap (λ b. b && true) (visible_is R r current ∙ ap is_upload is)
    upload_turn current is (Some f) in_it =
        let shows : counts R ask r ≡ true = ap (λ o. is_visible R r && not (late_row R ask o r)) in_it ∙ ap (λ b. b && true) (visible_is R r current ∙ ap is_upload is) in
        let are = are_folders ask.prefix ask.delimiter given in (
          shown_one (folder f) (after_folder ask.bucket f)
              (folder_turn ask.prefix ask.delimiter given (counts R ask) R up low ask.bucket place r f found shows begins in_it)
              refl (folder_from ask.prefix ask.delimiter given ask.bucket r.name f (begins_upto ask.prefix r.name begins) in_it) (first_starts ask.bucket (raised f) R low),
          falls (after_folder ask.bucket f) (λ w l at_it. past_after ask.prefix ask.delimiter given r f (are.begins r.name f in_it) w (sym (at_folder ask.bucket f w l (are.some r.name f in_it)) ∙ at_it)),
        )

    by_action : (a : Action) → r.action ≡ a → Turned (row_by a ask r) (next_by a ask r)
    by_action action.Upload is = upload_turn (current_is place R r standing.starts found (ap is_start is)) is (folder_of_name ask.prefix ask.delimiter r.name) refl
    by_action action.Hide is =
        let current = current_is place R r standing.starts found (ap is_start is) in
        hidden_turn current (ap (λ b. b && not (late_row R ask (folder_of_name ask.prefix ask.delimiter r.name) r)) (visible_is R r current ∙ ap is_upload is))
    by_action action.Start is = start_turn is

    -- a turn, with its row and where it goes on
    pub named : (row : Option PageRow) (next : Spot) (more : List PageRow) → row ≡ row_by r.action ask r → next ≡ next_by r.action ask r → more ≡ items ++ option_to_list row
        → StandsFor R ask all more next × (turns_at R ask next < turns_at R ask place)
    named row next more row_is next_is more_is =
        subst (λ s. StandsFor R ask all more s × (turns_at R ask s < turns_at R ask place)) (sym next_is)
        (subst (λ l. StandsFor R ask all l (next_by r.action ask r) × (turns_at R ask (next_by r.action ask r) < turns_at R ask place)) (ap (λ x. items ++ option_to_list x) (sym row_is) ∙ sym more_is)
        (by_action r.action refl))

pub few_more : {X : Type 0} (items more : List X) (row : Option X) → more ≡ items ++ option_to_list row → length more ≤ length items + 1
few_more items more None is = omega (arith, ap length is, ap length (append-nil items))
few_more items more (Some x) is = omega (arith, ap length is, length-append items (x ∷ []))
