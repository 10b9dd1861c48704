use Rattle.std.proofs.Common.{◌≡◌}
use Rattle.std.specs.List.{list_any}
use Rattle.http_header.specs.HeaderMap.{keys}
use Rattle.name_rules.specs.Folder.{begins_with}
use Rattle.upload_heads.specs.Upload.{encryption_front}
use Rattle.upload_heads.proofs.upload.is_encrypted.Given as goal

abbrev pub invariant-loop-name : goal.invariant-loop-name
invariant-loop-name l = list_any (begins_with encryption_front) l.name-iterator ≡ list_any (begins_with encryption_front) (keys l.headers)
