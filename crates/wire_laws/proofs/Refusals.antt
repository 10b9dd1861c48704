-- The body of a refusal tells its kind, and what it tells beside it.
use Rattle.std.proofs.Common.{◌≡◌, ℕ, ◌<◌, List, [], ◌∷◌, ◌++◌, drop, get_or, map, slice_get, sym, ap, ◌∙◌, refl}
use Rattle.std.specs.Prelude.{codes, ◌==◌, if◌then◌else◌, unwrap_or}
use Rattle.std.proofs.lemmas.Fmt.{decimal_injective}
use Rattle.std.proofs.lemmas.List.{append_cancel_left, get_or-map}
use Rattle.std.proofs.lemmas.Option.{get_or_from_slice_get, slice_get_within}
use Rattle.json_shape.specs.Fields.{field}
use Rattle.rule_table.specs.declared.fault.FaultKind.{FaultKind}
use Rattle.rule_table.specs.declared.fault.FaultKind.TheVariants.{BadHead}
use Rattle.rule_table.specs.FaultKind.{fault_order, fault_place, fault_there}
use Rattle.b2_types.specs.declared.fault.Detail.{Detail}
use Rattle.b2_types.specs.declared.fault.Detail.TheVariants as detail
use Rattle.b2_types.specs.declared.fault.Fault.{Fault}
use Rattle.b2_types.specs.FaultTable.{fault_entry, telling}
use Rattle.b2_types.specs.Fault.{told_after, telling_of, message}
use Rattle.wire_forms.specs.Body.{refusal_json}
use Rattle.wire_laws.specs.Told.{IsDetail, IsRefusal}
use Rattle.wire_laws.proofs.Plain.{text, one_place}

-- ---- the kind: what stands before the first colon is its own

abbrev before_colon : List ℕ → List ℕ
before_colon [] = []
before_colon (c ∷ cs) = if c == 58 then [] else c ∷ before_colon cs

same_front : (t : List ℕ) (d : Detail) → before_colon (t ++ told_after d) ≡ before_colon t
same_front [] detail.Nothing = refl
same_front [] (detail.Word word) = refl
same_front [] (detail.Number number) = refl
same_front (c ∷ t) d = ap (λ cs. if c == 58 then [] else c ∷ cs) (same_front t d)

abbrev front_of : FaultKind → List ℕ
front_of kind = before_colon (fault_entry kind).text

abbrev fronts : List (List ℕ)
fronts = map front_of fault_order

place_within : (kind : FaultKind) → fault_place kind < 50
place_within kind = slice_get_within fault_order (fault_place kind) kind (fault_there kind)

front_at : (kind : FaultKind) → get_or fronts (fault_place kind) [] ≡ front_of kind
front_at kind =
    get_or-map front_of fault_order (fault_place kind) BadHead [] (place_within kind)
    ∙ ap front_of (get_or_from_slice_get fault_order (fault_place kind) kind BadHead (fault_there kind))

same_kind : (f g : Fault) → message f ≡ message g → f.kind ≡ g.kind
same_kind f g same =
    let alike : front_of f.kind ≡ front_of g.kind = sym (same_front (fault_entry f.kind).text f.detail) ∙ ap before_colon same ∙ same_front (fault_entry g.kind).text g.detail in
    let place : fault_place f.kind ≡ fault_place g.kind =
    one_place fronts refl (fault_place f.kind) (fault_place g.kind) (place_within f.kind) (place_within g.kind) (front_at f.kind ∙ alike ∙ sym (front_at g.kind)) in
    ap (λ o. unwrap_or o f.kind) (sym (fault_there f.kind) ∙ ap (slice_get fault_order) place ∙ fault_there g.kind)

-- ---- what is told beside it

same_detail : (d e : Detail) → IsDetail d → IsDetail e → telling_of d ≡ telling_of e → told_after d ≡ told_after e → d ≡ e
same_detail detail.Nothing detail.Nothing first second tells same = refl
same_detail (detail.Word v) (detail.Word w) first second tells same = ap (λ t. detail.Word (drop 2 t)) same
same_detail (detail.Number m) (detail.Number n) first second tells same = ap (λ k. detail.Number k) (decimal_injective m n first second (ap (drop 2) same))
same_detail detail.Nothing (detail.Word w) first second tells same = absurd (cc tells)
same_detail detail.Nothing (detail.Number n) first second tells same = absurd (cc tells)
same_detail (detail.Word v) detail.Nothing first second tells same = absurd (cc tells)
same_detail (detail.Word v) (detail.Number n) first second tells same = absurd (cc tells)
same_detail (detail.Number m) detail.Nothing first second tells same = absurd (cc tells)
same_detail (detail.Number m) (detail.Word w) first second tells same = absurd (cc tells)

pub tells_refusal : (f g : Fault) → IsRefusal f → IsRefusal g → refusal_json f ≡ refusal_json g → f ≡ g
tells_refusal f g first second same =
    let alike : message f ≡ message g = ap (λ d. text (field (codes "message") d)) same in
    let kind : f.kind ≡ g.kind = same_kind f g alike in
    let tells : telling_of f.detail ≡ telling_of g.detail = first.0 ∙ ap telling kind ∙ sym second.0 in
    let rest : (fault_entry g.kind).text ++ told_after f.detail ≡ message g = ap (λ k. (fault_entry k).text ++ told_after f.detail) (sym kind) ∙ alike in
    let detail : f.detail ≡ g.detail = same_detail f.detail g.detail first.1 second.1 tells (append_cancel_left (fault_entry g.kind).text (told_after f.detail) (told_after g.detail) rest) in
    λ i. record { kind = kind i; detail = detail i }
