use Rattle.std.proofs.Common.{◌≡◌, map, take, filter}
use Rattle.serde_json.specs.Data.{string}
use Rattle.serde_json.specs.View.{view}
use Rattle.rule_table.specs.CapSet.{has}
use Rattle.wire_forms.specs.Body.{cap_name}
use Rattle.api_json.proofs.capabilities.CapSetToJson.to_json.Given as goal

abbrev pub invariant-loop-cap : goal.invariant-loop-cap
invariant-loop-cap l = map view l.names.items ≡ map (λ c. string (cap_name c)) (filter (has l.self) (take l.cap-index l.cap-items))
