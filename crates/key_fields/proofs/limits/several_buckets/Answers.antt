use Rattle.std.proofs.Common.{codes, Err, sym, ap, ◌∙◌}
use Rattle.serde_json.specs.View.{view}
use Rattle.field_kinds.specs.Kinds.{bucket_id, list_of}
use Rattle.field_kinds.specs.Reader.{or_wrong, given}
use Rattle.key_fields.specs.Limits.{limits_of}
use Rattle.key_fields.proofs.Narrow.{optional_some}
use Rattle.key_fields.proofs.limits.several_buckets.Goals as goal

pub returns : goal.returns
returns c =
    let found = rw c.in-Some.is at c.in_ok-found.ensures in
    let read = optional_some (codes "bucketIds") (list_of bucket_id) limits_of (view c.args.body.now) c.in-Some.numbers found in
    let none = rw c.in-None.is at c.in_ok-limits.ensures in
    read ∙ ap (λ o. given (or_wrong (codes "bucketIds") o)) (ap limits_of (sym c.get.ensures) ∙ sym none) ∙ ap Err (sym c.in_ok-wrong-in-None.ensures)
