use Rattle.std.proofs.Common.{◌≡◌, true, List, subst, sym, ap, refl}
use Rattle.b2_base.specs.declared.extent.Extent.{Extent}
use Rattle.b2_types.specs.declared.bucket.Bucket.{Bucket}
use Rattle.b2_types.specs.declared.record.ChangeOf.TheVariants as change
use Rattle.b2_model.specs.State.{State}
use Rattle.b2_model.specs.Stored.{applies_change}
use Rattle.core_state.specs.View.{state_of}
use Rattle.core_state.proofs.Whole.{whole_after}
use Rattle.core_state.proofs.state.Core.drop_bucket.Goals as goal

pub invariant_of-self : goal.invariant_of-self
invariant_of-self c =
    let p = c.self.inside.parts in
    let t = c.args.t in
    let with_buckets : List Bucket → State Extent = λ bs. record (state_of p) { now = t; kept = t; buckets = bs } in
    whole_after p (record p { now = t; kept = t; buckets = c.remove.new.buckets }) (record { at = t; change = change.BucketDrop c.args.num }) c.self.invariant
    (subst (λ M. applies_change M (change.BucketDrop c.args.num) ≡ true) (sym c.self.view_is) c.requires.applies) tt
    (ap with_buckets c.remove.ensures) refl refl refl
