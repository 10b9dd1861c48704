use Rattle.std.proofs.Common.{◌≡◌, map, take}
use Rattle.std.specs.Option.{option_copied}
use Rattle.b2_model.specs.Shown.{shown_bucket}
use Rattle.core_listings.proofs.buckets.show_buckets.Given as goal

abbrev pub invariant-loop-bucket : goal.invariant-loop-bucket
invariant-loop-bucket l = l.rows.items ≡ map (shown_bucket l.settings (option_copied l.key)) (map (λ b. b.now) (take l.bucket-index l.buckets))
