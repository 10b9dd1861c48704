use Rattle.std.proofs.Common.{Some, sym, ap, ◌∙◌, arith}
use Rattle.std.proofs.lemmas.Slice.Eq.{bytes_eq-Decides}
use Rattle.std.proofs.lemmas.Bool.{false≢true, cases_lt}
use Rattle.rule_table.proofs.Rows.{texts_at, no_row, none_row}
use Rattle.rule_table.proofs.table.place_in.Goals as goal

pub rows-init : goal.rows-init
rows-init c = record { within = omega arith; before = λ i low row. absurd (omega (arith, low)) }

pub returns-then-eq : goal.returns-then-eq
returns-then-eq c =
    texts_at c.args.names.now c.rows.at _ c.rows-test.true
    ∙ ap Some (sym c.as_bytes.ensures.value ∙ (bytes_eq-Decides c.as_bytes.result.now c.args.name.now).0 (sym c.if-eq.ensures))

pub rows-preserved : goal.rows-preserved
rows-preserved c = record {
  within = omega (arith, c.rows-test.true);
  before = λ i low row. no_row c.args.names.now c.rows.at i _ c.args.name.now c.rows-test.true
      (λ same. false≢true (c.if-eq.ensures ∙ (bytes_eq-Decides c.as_bytes.result.now c.args.name.now).1 (c.as_bytes.ensures.value ∙ same)))
      c.rows.invariant.before low (cases_lt i c.rows.at) row;
}

pub returns : goal.returns
returns c = λ i row. none_row c.args.names.now c.rows.at i c.args.name.now c.rows-test.false c.rows.invariant.before (cases_lt i c.rows.at) row
