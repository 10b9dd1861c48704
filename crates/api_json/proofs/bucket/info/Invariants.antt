use Rattle.std.proofs.Common.{◌≡◌, map, take}
use Rattle.serde_json.specs.Data.{string, no_members}
use Rattle.serde_json.specs.View.{members_view}
use Rattle.api_json.specs.Put.{put_all}
use Rattle.api_json.proofs.bucket.info.Given as goal

abbrev pub invariant-loop-key : goal.invariant-loop-key
invariant-loop-key l = members_view l.map.entries ≡ put_all no_members (map (λ pair. (pair.0, string pair.1)) (take l.key-index l.pairs))
