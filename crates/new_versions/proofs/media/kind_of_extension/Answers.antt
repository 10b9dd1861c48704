use Rattle.std.proofs.Common.{◌≡◌, ◌≤◌, map, slice_get, false, sym, ap, ◌∙◌, arith}
use Rattle.std.specs.Char.{to_ascii_lowercase}
use Rattle.rule_table.specs.Rows.{texts}
use Rattle.rule_table.specs.FileKind.{kind_names, kind_order}
use Rattle.std.proofs.lemmas.Bool.{false≢true}
use Rattle.new_versions.proofs.Extensions.{kind_found, sixteen_names, has_name, has_other_name, none_more}
use Rattle.new_versions.proofs.media.kind_of_extension.Goals as goal

pub returns-then-eq_ignore_ascii_case : goal.returns-then-eq_ignore_ascii_case
returns-then-eq_ignore_ascii_case c =
    let names : texts c.names-names.result.now ≡ kind_names = c.names-names.ensures ∙ c.types.ensures in
    let few : c.kinds.at ≤ 16 = omega (arith, c.kinds.invariant.within, sixteen_names c.names-names.result.now names) in
    c.at.ensures
    ∙ sym (kind_found (map to_ascii_lowercase c.args.extension.now) c.kinds.at few c.kinds.invariant.none
    (λ below. has_name c.names-names.result.now c.kinds.at _ c.as_bytes.result.now c.args.extension.now names c.kinds-test.true c.as_bytes.ensures.value
    (c.eq_ignore_ascii_case.ensures.test.0 c.if-eq_ignore_ascii_case.true)))

pub kinds-preserved : goal.kinds-preserved
kinds-preserved c =
    let names : texts c.names-names.result.now ≡ kind_names = c.names-names.ensures ∙ c.types.ensures in
    record {
      within = omega (arith, c.kinds-test.true);
      none = none_more (map to_ascii_lowercase c.args.extension.now) c.kinds.at c.kinds.invariant.none
          (has_other_name c.names-names.result.now c.kinds.at _ c.as_bytes.result.now c.args.extension.now names c.kinds-test.true c.as_bytes.ensures.value
          (λ same. false≢true (sym c.if-eq_ignore_ascii_case.false ∙ c.eq_ignore_ascii_case.ensures.test.1 same)));
    }

pub returns : goal.returns
returns c =
    let names : texts c.names-names.result.now ≡ kind_names = c.names-names.ensures ∙ c.types.ensures in
    let all : c.kinds.at ≡ 16 = omega (arith, c.kinds.invariant.within, c.kinds-test.false, sixteen_names c.names-names.result.now names) in
    ap (slice_get kind_order) (sym all)
    ∙ sym (kind_found (map to_ascii_lowercase c.args.extension.now) c.kinds.at (omega (arith, all)) c.kinds.invariant.none (λ below. absurd (omega (arith, below, all))))
