use Rattle.std.proofs.Common.{◌≡◌, ◌++◌, map, filter}
use Rattle.name_rules.specs.Folder.{begins_with}
use Rattle.upload_heads.specs.Information.{info_front, info_names}
use Rattle.upload_heads.proofs.information.info_names.Given as goal

abbrev pub invariant-loop-name : goal.invariant-loop-name
invariant-loop-name l = map (λ name. name.now) l.names.items ++ filter (begins_with info_front) l.name-iterator ≡ info_names l.headers
