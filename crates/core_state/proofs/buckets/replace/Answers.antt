use Rattle.std.proofs.Common.{◌≡◌, ◌==◌, None, Some, set, sym, ap, ◌∙◌}
use Rattle.std.specs.Prelude.{position}
use Rattle.b2_types.specs.declared.bucket.Bucket.{Bucket}
use Rattle.core_state.proofs.Places.{found_within, none_at, none_within, set_at}
use Rattle.core_state.proofs.buckets.replace.Goals as goal

pub returns-in-Some : goal.returns-in-Some
returns-in-Some c =
    let all = c.args.buckets.now.items in
    let found : Some c.in-Some.place ≡ position (λ (b : Bucket). b.num == c.args.bucket.num) all = c.in-Some.ensures ∙ ap (position (λ (b : Bucket). b.num == c.args.bucket.num)) c.deref.ensures.value in
    let at = found_within (λ (b : Bucket). b.num == c.args.bucket.num) all c.in-Some.place (sym found) in
    ap (λ i. set all i c.args.bucket) (sym at.1) ∙ set_at (λ (b : Bucket). b.num) c.args.bucket all c.requires.order at.0

pub returns-in_default : goal.returns-in_default
returns-in_default c =
    let all = c.args.buckets.now.items in
    let none : None ≡ position (λ (b : Bucket). b.num == c.args.bucket.num) all = c.in_default.ensures ∙ ap (position (λ (b : Bucket). b.num == c.args.bucket.num)) c.deref.ensures.value in
    sym (none_at (λ (b : Bucket). b.num) c.args.bucket all (none_within (λ (b : Bucket). b.num == c.args.bucket.num) all (sym none)))
