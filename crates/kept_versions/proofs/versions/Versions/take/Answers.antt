use Rattle.std.proofs.Common.{◌≡◌, ◌==◌, ◌&&◌, not, None, Some, find, filter, subst, sym, ap, ◌∙◌}
use Rattle.std.specs.Map.{lookup, remove_entry}
use Rattle.std.specs.BTreeMap.{is_at}
use Rattle.std.specs.Ordering.{nat_cmp}
use Rattle.version_index.specs.Rows.{value_at, without}
use Rattle.index_rows.specs.OwnRows.{by_number}
use Rattle.kept_versions.proofs.Spots.{none_mapped}
use Rattle.kept_versions.proofs.Steps.{none_gone, not_both, took}
use Rattle.kept_versions.proofs.versions.Versions.take.Goals as goal

pub returns-in_default-clause-left : goal.returns-in_default-clause-left
returns-in_default-clause-left c =
    let none = none_mapped (find (λ v. v.bucket == c.args.bucket && v.num == c.args.num) (by_number c.self.inside.index)) (c.in_default.ensures (by_number c.self.inside.index) c.self.invariant.are_spots c.self.invariant.numbered) in
    subst (λ vs. vs ≡ filter (λ v. not (v.bucket == c.args.bucket && v.num == c.args.num)) vs) c.self.view_is (none_gone (λ v. v.bucket == c.args.bucket && v.num == c.args.num) (by_number c.self.inside.index) none)

pub returns-in_default-remove-clause-value : goal.returns-in_default-remove-clause-value
returns-in_default-remove-clause-value c =
    let some = c.in-Some.ensures (by_number c.self.inside.index) c.self.invariant.are_spots c.self.invariant.numbered in
    let none = subst (λ n. lookup (is_at (nat_cmp n)) c.self.inside.spots.entries ≡ None) c.get.ensures.value (sym c.in_default-remove.ensures.value) in
    absurd (not_both c.args.bucket c.args.num (by_number c.self.inside.index) c.self.inside.spots.entries c.in-Some.field-0.now c.self.invariant.are_spots none some)

pub returns-in_default-remove-clause-left : goal.returns-in_default-remove-clause-left
returns-in_default-remove-clause-left c =
    let some = c.in-Some.ensures (by_number c.self.inside.index) c.self.invariant.are_spots c.self.invariant.numbered in
    let none = subst (λ n. lookup (is_at (nat_cmp n)) c.self.inside.spots.entries ≡ None) c.get.ensures.value (sym c.in_default-remove.ensures.value) in
    absurd (not_both c.args.bucket c.args.num (by_number c.self.inside.index) c.self.inside.spots.entries c.in-Some.field-0.now c.self.invariant.are_spots none some)

pub invariant_of-self-2 : goal.invariant_of-self-2
invariant_of-self-2 c =
    let some = c.in-Some.ensures (by_number c.self.inside.index) c.self.invariant.are_spots c.self.invariant.numbered in
    let is = subst (λ n. lookup (is_at (nat_cmp n)) c.self.inside.spots.entries ≡ Some c.in-Some-remove.spot) c.get.ensures.value (sym c.in-Some-remove.ensures.value) in
    let gone = subst (λ n. c.remove.new.self.entries ≡ remove_entry (is_at (nat_cmp n)) c.self.inside.spots.entries) c.get.ensures.value c.in-Some-remove.ensures.entries in
    let start = subst (λ s. c.remove-2.new.self ≡ without s c.self.inside.starts) c.start_place-place.ensures c.remove-2.ensures.rows in
    (took c.args.bucket c.args.num (by_number c.self.inside.index) c.self.inside.index c.self.inside.spots.entries c.self.inside.starts c.self.invariant
    c.in-Some-remove.spot c.in-Some.field-0.now is some c.remove-3.new.self c.remove.new.self.entries c.remove-2.new.self c.remove-3.result c.remove-3.ensures.rows gone start c.remove-3.ensures.value).kept

pub returns-clause-value : goal.returns-clause-value
returns-clause-value c =
    let some = c.in-Some.ensures (by_number c.self.inside.index) c.self.invariant.are_spots c.self.invariant.numbered in
    let is = subst (λ n. lookup (is_at (nat_cmp n)) c.self.inside.spots.entries ≡ Some c.in-Some-remove.spot) c.get.ensures.value (sym c.in-Some-remove.ensures.value) in
    let gone = subst (λ n. c.remove.new.self.entries ≡ remove_entry (is_at (nat_cmp n)) c.self.inside.spots.entries) c.get.ensures.value c.in-Some-remove.ensures.entries in
    let start = subst (λ s. c.remove-2.new.self ≡ without s c.self.inside.starts) c.start_place-place.ensures c.remove-2.ensures.rows in
    (took c.args.bucket c.args.num (by_number c.self.inside.index) c.self.inside.index c.self.inside.spots.entries c.self.inside.starts c.self.invariant
    c.in-Some-remove.spot c.in-Some.field-0.now is some c.remove-3.new.self c.remove.new.self.entries c.remove-2.new.self c.remove-3.result c.remove-3.ensures.rows gone start c.remove-3.ensures.value).value
    ∙ ap (find (λ v. v.bucket == c.args.bucket && v.num == c.args.num)) c.self.view_is

pub returns-clause-left : goal.returns-clause-left
returns-clause-left c =
    let some = c.in-Some.ensures (by_number c.self.inside.index) c.self.invariant.are_spots c.self.invariant.numbered in
    let is = subst (λ n. lookup (is_at (nat_cmp n)) c.self.inside.spots.entries ≡ Some c.in-Some-remove.spot) c.get.ensures.value (sym c.in-Some-remove.ensures.value) in
    let gone = subst (λ n. c.remove.new.self.entries ≡ remove_entry (is_at (nat_cmp n)) c.self.inside.spots.entries) c.get.ensures.value c.in-Some-remove.ensures.entries in
    let start = subst (λ s. c.remove-2.new.self ≡ without s c.self.inside.starts) c.start_place-place.ensures c.remove-2.ensures.rows in
    (took c.args.bucket c.args.num (by_number c.self.inside.index) c.self.inside.index c.self.inside.spots.entries c.self.inside.starts c.self.invariant
    c.in-Some-remove.spot c.in-Some.field-0.now is some c.remove-3.new.self c.remove.new.self.entries c.remove-2.new.self c.remove-3.result c.remove-3.ensures.rows gone start c.remove-3.ensures.value).left
    ∙ ap (filter (λ v. not (v.bucket == c.args.bucket && v.num == c.args.num))) c.self.view_is
