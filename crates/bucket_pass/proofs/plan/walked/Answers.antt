use Rattle.std.proofs.Common.{◌≡◌, ◌==◌, Bool, true, false, not, nat_le, ◌∷◌, subst, sym, ap, ◌∙◌, refl}
use Rattle.std.proofs.lemmas.Bool.{false≢true, not-true}
use Rattle.b2_base.specs.declared.extent.Extent.{Extent}
use Rattle.b2_types.specs.declared.version.VersionOf.{VersionOf}
use Rattle.version_index.specs.declared.spot.Spot.{Spot}
use Rattle.version_index.specs.Rows.{AreAscending}
use Rattle.version_index.proofs.Seeks.{with_true}
use Rattle.index_rows.specs.OwnRows.{of_bucket}
use Rattle.index_rows.proofs.Listed.{some_order}
use Rattle.listing_pages.proofs.Sought.{bucket_order}
use Rattle.bucket_pass.proofs.Steps.{begin_as, left_as}
use Rattle.bucket_pass.proofs.Order.{by_name}
use Rattle.bucket_pass.proofs.Rows.{AreFrom, from_rows, none_left, one_more, rest_up, same_rows}
use Rattle.bucket_pass.proofs.plan.walked.Goals as goal

not_false : (b : Bool) → not b ≡ false → b ≡ true
not_false true is = refl
not_false false is = absurd (false≢true (sym is))

pub loop-spot-init : goal.loop-spot-init
loop-spot-init c =
    let b = c.args.bucket.now.num in
    let rows = c.args.index.now in
    let rest = c.into_iter-spot-iterator.ensures.into_iter_gives ∙ c.from_bucket-spot-items.ensures.rest in
    let up = c.from_bucket-spot-items.ensures.ascending in
    let order = by_name (of_bucket b rows) (bucket_order b rows up c.requires.own) in
    record {
      stands = begin_as c.args.t c.args.bucket.now c.args.last c.args.next (of_bucket b rows) _ _ _ _ _ order (ap (of_bucket b) rest ∙ same_rows b rows) c.new-walk.ensures.name c.new-walk.ensures.faces c.new-walk.ensures.next c.new-walk.ensures.changes;
      up = subst AreAscending (sym rest) (some_order (λ r. nat_le b r.0.bucket) rows up);
      from = subst (AreFrom b) (sym rest) (from_rows b rows);
    }

pub returns-then-ne : goal.returns-then-ne
returns-then-ne c =
    let b = c.args.bucket.now.num in
    let w = c.loop-spot.walk in
    let i = c.loop-spot.invariant in
    let r : Spot × VersionOf Extent = (c.in-Some.spot.now, c.in-Some.version.now) in
    let steps = c.in-Some.ensures.steps in
    let other : (r.0.bucket == b) ≡ false = sym (with_true (r.0.bucket == b)) ∙ not-true _ (sym c.ne.ensures ∙ c.if-ne.true) in
    let none = ap (of_bucket b) steps ∙ none_left b r c.next.new.self (subst AreAscending steps i.up) (subst (AreFrom b) steps i.from).0 other in
    left_as c.args.t c.args.bucket.now c.args.last c.args.next (of_bucket b c.args.index.now) _ w.faces.items w.next w.changes.items _ _ none i.stands

pub loop-spot-preserved : goal.loop-spot-preserved
loop-spot-preserved c =
    let b = c.args.bucket.now.num in
    let w = c.loop-spot.walk in
    let i = c.loop-spot.invariant in
    let r : Spot × VersionOf Extent = (c.in-Some.spot.now, c.in-Some.version.now) in
    let steps = c.in-Some.ensures.steps in
    let all = of_bucket b c.args.index.now in
    let is : (r.0.bucket == b) ≡ true = sym (with_true (r.0.bucket == b)) ∙ not_false _ (sym c.ne.ensures ∙ c.if-ne.false) in
    let front = ap (of_bucket b) steps ∙ one_more b r c.next.new.self is in
    record {
      stands = c.in_ok-step.ensures.stands c.args.next all (of_bucket b c.next.new.self) (left_as c.args.t c.args.bucket.now c.args.last c.args.next all _ w.faces.items w.next w.changes.items _ _ front i.stands);
      up = rest_up r c.next.new.self (subst AreAscending steps i.up);
      from = (subst (AreFrom b) steps i.from).1;
    }

pub returns : goal.returns
returns c =
    let b = c.args.bucket.now.num in
    let w = c.loop-spot.walk in
    left_as c.args.t c.args.bucket.now c.args.last c.args.next (of_bucket b c.args.index.now) _ w.faces.items w.next w.changes.items _ _ (ap (of_bucket b) c.in-None.ensures.steps.0) c.loop-spot.invariant.stands
