use Rattle.std.proofs.Common.{◌≡◌, ◌≢◌, ◌==◌, ◌≤◌, false, subst, sym, ap, ◌∙◌}
use Rattle.std.specs.List.{list_any}
use Rattle.b2_base.specs.declared.numbers.TheConstants.{LAST_VERSION}
use Rattle.b2_model.specs.Lists.{put_by}
use Rattle.index_rows.specs.OwnRows.{by_number}
use Rattle.index_rows.proofs.Places.{free}
use Rattle.kept_versions.proofs.Starts.{start_free}
use Rattle.kept_versions.proofs.Steps.{apart_from, put_in}
use Rattle.kept_versions.proofs.versions.Versions.put.Goals as goal

pub add_start-requires : goal.add_start-requires
add_start-requires c =
    let low = subst (λ n. n ≤ LAST_VERSION) c.get-num.ensures.value c.get-num.ensures.in_range in
    let none = subst (λ vs. list_any (λ v. v.num == c.args.version.num) vs ≡ false) (sym c.self.view_is) c.requires.free in
    record {
      free = start_free (by_number c.self.inside.index) c.self.inside.starts c.args.version c.self.invariant.are_starts c.self.invariant.in_range low (apart_from (by_number c.self.inside.index) c.args.version.num none);
    }

pub insert-requires-2 : goal.insert-requires-2
insert-requires-2 c =
    let none = subst (λ vs. list_any (λ v. v.num == c.args.version.num) vs ≡ false) (sym c.self.view_is) c.requires.free in
    record {
      free = free (by_number c.self.inside.index) c.self.inside.index c.in_ok-spot-2.spot c.self.invariant.are_rows (λ w a same. apart_from (by_number c.self.inside.index) c.args.version.num none w a (same ∙ ap (λ s. s.num) c.in_ok-spot-2.ensures));
    }

pub invariant_of-result : goal.invariant_of-result
invariant_of-result c =
    let low = subst (λ n. n ≤ LAST_VERSION) c.get-num.ensures.value c.get-num.ensures.in_range in
    let none = subst (λ vs. list_any (λ v. v.num == c.args.version.num) vs ≡ false) (sym c.self.view_is) c.requires.free in
    (put_in c.args.version (by_number c.self.inside.index) c.self.inside.index c.self.inside.spots.entries c.self.inside.starts c.self.invariant low none
    c.in_ok-spot-2.spot c.in_ok-spot.spot c.get-num.result c.in_ok-spot-2.ensures c.in_ok-spot.ensures c.get-num.ensures.value
    c.insert-2.new.self c.insert.new.self.entries c.add_start.new.starts c.in-Ok.ensures.ok c.in_ok-insert.ensures.entries c.in_ok-add_start.ensures).kept

pub returns : goal.returns
returns c =
    let low = subst (λ n. n ≤ LAST_VERSION) c.get-num.ensures.value c.get-num.ensures.in_range in
    let none = subst (λ vs. list_any (λ v. v.num == c.args.version.num) vs ≡ false) (sym c.self.view_is) c.requires.free in
    (put_in c.args.version (by_number c.self.inside.index) c.self.inside.index c.self.inside.spots.entries c.self.inside.starts c.self.invariant low none
    c.in_ok-spot-2.spot c.in_ok-spot.spot c.get-num.result c.in_ok-spot-2.ensures c.in_ok-spot.ensures c.get-num.ensures.value
    c.insert-2.new.self c.insert.new.self.entries c.add_start.new.starts c.in-Ok.ensures.ok c.in_ok-insert.ensures.entries c.in_ok-add_start.ensures).versions
    ∙ ap (put_by (λ v. v.num) c.args.version) c.self.view_is
