use Rattle.std.proofs.Common.{◌≡◌, true, List, subst, sym, ap, refl}
use Rattle.b2_base.specs.declared.extent.Extent.{Extent}
use Rattle.b2_types.specs.declared.bucket.Bucket.{Bucket}
use Rattle.b2_types.specs.declared.record.ChangeOf.TheVariants as change
use Rattle.b2_model.specs.State.{State}
use Rattle.b2_model.specs.Stored.{applies_change}
use Rattle.core_state.specs.View.{state_of}
use Rattle.core_state.proofs.Whole.{whole_after}
use Rattle.core_state.proofs.state.Core.update_bucket.Goals as goal

pub replace-requires : goal.replace-requires
replace-requires c = record { order = c.self.invariant.sound.buckets.order }

pub invariant_of-self : goal.invariant_of-self
invariant_of-self c =
    let p = c.self.inside.parts in
    let t = c.args.t in
    let with_buckets : List Bucket → State Extent = λ bs. record (state_of p) { now = t; kept = t; buckets = bs } in
    whole_after p (record p { now = t; kept = t; buckets = c.replace.new.buckets }) (record { at = t; change = change.BucketUpdate c.args.bucket }) c.self.invariant
    (subst (λ M. applies_change M (change.BucketUpdate c.args.bucket) ≡ true) (sym c.self.view_is) c.requires.applies) tt
    (ap with_buckets c.replace.ensures) refl refl refl
