use Rattle.std.proofs.Common.{◌≡◌, ◌==◌, None, Some, true, false, sym, ap, subst, ◌∙◌}
use Rattle.std.specs.Map.{lookup}
use Rattle.std.specs.BTreeMap.{is_at}
use Rattle.std.specs.Ordering.{nat_cmp}
use Rattle.version_index.proofs.Seeks.{with_true}
use Rattle.kept_versions.proofs.Spots.{spot_none, spot_other, spot_some}
use Rattle.kept_versions.proofs.versions.spot_in.Goals as goal

pub returns-in_err-spot : goal.returns-in_err-spot
returns-in_err-spot c = λ versions is up.
    let none = subst (λ n. lookup (is_at (nat_cmp n)) c.args.spots.now.entries ≡ None) c.get.ensures.value (sym c.in_err-spot.ensures.value) in
    rw c.from_residual.ensures (spot_none c.args.bucket c.args.num versions (ap (lookup (is_at (nat_cmp c.args.num))) (sym is) ∙ none))

pub returns-then-eq : goal.returns-then-eq
returns-then-eq c = λ versions is up.
    let some = subst (λ n. lookup (is_at (nat_cmp n)) c.args.spots.now.entries ≡ Some c.in_ok-spot.spot.now) c.get.ensures.value (sym c.in_ok-spot.ensures.value) in
    let bucket : (c.in_ok-spot.spot.now.bucket == c.args.bucket) ≡ true = sym (with_true _) ∙ sym c.eq.ensures ∙ c.if-eq.true in
    spot_some c.args.bucket c.args.num versions c.in_ok-spot.spot.now (ap (lookup (is_at (nat_cmp c.args.num))) (sym is) ∙ some) bucket

pub returns-else-eq : goal.returns-else-eq
returns-else-eq c = λ versions is up.
    let some = subst (λ n. lookup (is_at (nat_cmp n)) c.args.spots.now.entries ≡ Some c.in_ok-spot.spot.now) c.get.ensures.value (sym c.in_ok-spot.ensures.value) in
    let bucket : (c.in_ok-spot.spot.now.bucket == c.args.bucket) ≡ false = sym (with_true _) ∙ sym c.eq.ensures ∙ c.if-eq.false in
    spot_other c.args.bucket c.args.num versions c.in_ok-spot.spot.now up (ap (lookup (is_at (nat_cmp c.args.num))) (sym is) ∙ some) bucket
