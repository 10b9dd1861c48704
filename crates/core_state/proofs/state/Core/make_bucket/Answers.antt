use Rattle.std.proofs.Common.{rules, ◌≡◌, ℕ, ◌+◌, max, true, List, subst, sym, ap, refl, ◌∙◌}
use Rattle.b2_base.specs.declared.extent.Extent.{Extent}
use Rattle.b2_types.specs.declared.bucket.Bucket.{Bucket}
use Rattle.b2_types.specs.declared.record.ChangeOf.TheVariants as change
use Rattle.b2_model.specs.Lists.{put_by}
use Rattle.b2_model.specs.State.{State}
use Rattle.b2_model.specs.Stored.{applies_change}
use Rattle.core_state.specs.View.{state_of}
use Rattle.core_state.proofs.Whole.{whole_after}
use Rattle.core_state.proofs.state.Core.make_bucket.Goals as goal

pub invariant_of-result : goal.invariant_of-result
invariant_of-result c =
    let p = c.self.inside.parts in
    let t = c.args.t in
    let next : c.unwrap-parts.result ≡ max p.next_bucket (c.args.bucket.num + 1) = search rules in
    let buckets : c.add.new.buckets.items ≡ put_by (λ b. b.num) c.args.bucket p.buckets.items = c.in_ok-add.ensures in
    let with_buckets : List Bucket → State Extent = λ bs. record (state_of p) { now = t; kept = t; next_bucket = c.unwrap-parts.result; buckets = bs } in
    let with_next : ℕ → State Extent = λ n. record (state_of p) { now = t; kept = t; next_bucket = n; buckets = put_by (λ b. b.num) c.args.bucket p.buckets.items } in
    whole_after p (record p { now = t; kept = t; next_bucket = c.unwrap-parts.result; buckets = c.add.new.buckets }) (record { at = t; change = change.BucketMake c.args.bucket }) c.self.invariant
    (subst (λ M. applies_change M (change.BucketMake c.args.bucket) ≡ true) (sym c.self.view_is) c.requires.applies) tt
    (ap with_buckets buckets ∙ ap with_next next) refl refl refl
