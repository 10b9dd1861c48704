-- What is judged of an upload.
use Rattle.std.proofs.Common.{◌≡◌, List, ◌++◌, refl}
use Rattle.rule_table.specs.declared.cap.Cap.{Cap}
use Rattle.b2_types.specs.declared.kinds.TokenKind.{TokenKind}
use Rattle.b2_types.specs.declared.need_table.Thing.{Thing}
use Rattle.b2_types.specs.Need.{Need}
use Rattle.b2_types.specs.Naming.{Named}
use Rattle.b2_model.specs.Policy.{Judged}

-- a row of the table, part by part
abbrev pub judged_by : List TokenKind → List Cap → List Thing → List Cap → Named → Judged
judged_by tokens caps things more fields = record { row = record { tokens = tokens; caps = caps; things = things }; caps = caps ++ more; fields = fields }

pub same_judged : (tokens : List TokenKind) (caps : List Cap) (things : List Thing) (more others : List Cap) (fields named : Named) (row : Need)
    → tokens ≡ row.tokens → caps ≡ row.caps → things ≡ row.things → more ≡ others → fields ≡ named → judged_by tokens caps things more fields ≡ judged_by row.tokens row.caps row.things others named
same_judged tokens caps things more others fields named row is_tokens is_caps is_things is_more is_fields = rw (is_tokens, is_caps, is_things, is_more, is_fields) refl
