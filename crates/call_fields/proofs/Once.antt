-- A body is one call.
use Rattle.std.proofs.Common.{◌≡◌, ◌⊎◌, inl, inr, ℕ, List, None, Option, Err, sym, ap, ◌∙◌, subst}
use Rattle.std.specs.Prelude.{unwrap_or, codes}
use Rattle.serde_json.specs.Data.{Data, null}
use Rattle.serde_json.specs.Read.{read}
use Rattle.json_shape.specs.Fields.{field}
use Rattle.json_shape.specs.Object.{Reads, IsObject, ReadsObject, IsShapeFault}
use Rattle.json_shape.specs.declared.body.ShapeFault.{ShapeFault}
use Rattle.json_shape.specs.declared.body.ShapeFault.TheVariants.{NotJson, NotObject}
use Rattle.rule_table.specs.declared.call.CallName.{CallName}
use Rattle.rule_table.specs.declared.call.CallName.TheVariants as calls
use Rattle.b2_types.specs.declared.kinds.ApiVersion.{ApiVersion}
use Rattle.b2_types.specs.declared.call.Call.{Call}
use Rattle.field_kinds.specs.Info.{Pairs}
use Rattle.call_fields.specs.Information.{IsInfoOf}
use Rattle.call_fields.specs.Call.{fields, or_bad, IsCallOf, IsCall}
use Rattle.call_fields.proofs.Arranged.{one_info}

-- bytes read as one value
same_data : (bytes : List ℕ) (a b : Data) → Reads bytes a → Reads bytes b → a ≡ b
same_data bytes a b first second = ap (λ o. unwrap_or o null) (sym first.is ∙ second.is)

pub no_object : (bytes : List ℕ) (f : ShapeFault) → IsShapeFault bytes f → (d : Data) → ReadsObject bytes d → ⊥
no_object bytes NotJson fault d reads = fault d reads.0
no_object bytes NotObject fault d reads = fault.2 (subst IsObject (same_data bytes d fault.0 reads.0 fault.1) reads.1)

-- an object gives a call one information
one_given : (name : CallName) (d : Data) (a b : Option Pairs) → IsInfoOf name d a → IsInfoOf name d b → a ≡ b
one_given calls.CreateBucket d a b first second = one_info (field (codes "bucketInfo") d) a b first second
one_given calls.UpdateBucket d a b first second = one_info (field (codes "bucketInfo") d) a b first second
one_given calls.StartLargeFile d a b first second = one_info (field (codes "fileInfo") d) a b first second
one_given calls.CopyFile d a b first second = one_info (field (codes "fileInfo") d) a b first second
one_given other d a b first second = first ∙ sym second

one_of : (name : CallName) (version : ApiVersion) (a b : Call) (d : Data) → IsCallOf name version d a → IsCallOf name version d b → a ≡ b
one_of name version a b d first second =
    first.2 ∙ ap (λ info. or_bad name (fields name version info d)) (one_given name d first.0 second.0 first.1 second.1) ∙ sym second.2

pub one_call : (name : CallName) (version : ApiVersion) (body : List ℕ) (a b : Call) → IsCall name version body a → IsCall name version body b → a ≡ b
one_call name version body a b (inl first) (inl second) =
    one_of name version a b second.0 (subst (λ d. IsCallOf name version d a) (same_data body first.0 second.0 first.1.0 second.1.0) first.2) second.2
one_call name version body a b (inl first) (inr second) = absurd (second.0 first.0 first.1)
one_call name version body a b (inr first) (inl second) = absurd (first.0 second.0 second.1)
one_call name version body a b (inr first) (inr second) = first.1 ∙ sym second.1
