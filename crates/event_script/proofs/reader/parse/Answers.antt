use Rattle.std.proofs.Common.{refl, arith}
use Rattle.std.proofs.lemmas.Bool.{false≢true}
use Rattle.event_script.proofs.Ends.{fewer_lines, wrong_line, wrong_end, whole}
use Rattle.event_script.proofs.Pushes.{says_lines}
use Rattle.event_script.proofs.reader.parse.Goals as goal

pub returns-in-Err-Fault-clause-wrong : goal.returns-in-Err-Fault-clause-wrong
returns-in-Err-Fault-clause-wrong c =
    let before = c.lines.invariant.0 in
    let stands = c.lines.invariant.1 in
    let refused = rw c.in-Err-Fault.field-0-is at c.in-Err-Fault.ensures.wrong in (
      before,
      c.lines.rest.now,
      wrong_line c.args.bytes.now before c.lines.reader c.lines.rest.now c.lines.number c.in-Some.text.now c.in-Some.behind.now stands c.in-Some.ensures
          (refused before stands.progress),
    )

pub overflow_add-number : goal.overflow_add-number
overflow_add-number c = omega (arith, fewer_lines c.lines.invariant.0, c.lines.invariant.1.number_is, c.lines.invariant.1.progress.beginning.size)

pub returns-then-is_done-clause-script : goal.returns-then-is_done-clause-script
returns-then-is_done-clause-script c =
    let before = c.lines.invariant.0 in
    let stands = c.lines.invariant.1 in
    let done = c.if-is_done.ensures.0 refl in
    let script = whole c.args.bytes.now before c.lines.reader c.lines.rest.now c.lines.number stands done.0 done.1 in
    (before, script, says_lines before c.lines.reader stands.progress)

pub returns-else-is_done-clause-wrong : goal.returns-else-is_done-clause-wrong
returns-else-is_done-clause-wrong c =
    let before = c.lines.invariant.0 in
    let stands = c.lines.invariant.1 in (
      before,
      c.lines.rest.now,
      wrong_end c.args.bytes.now before c.lines.reader c.lines.rest.now c.lines.number stands c.in_default.ensures
          (λ none end. false≢true (c.if-is_done.ensures.1 (none, end))),
    )
