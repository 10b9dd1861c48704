use Rattle.std.proofs.Common.{ℕ, List, subst}
use Rattle.event_script.specs.Script.{ReadsScript, HasFirstWrong}
use Rattle.event_script.proofs.Limits.{wrong_of_source, script_of_source}
use Rattle.event_script.proofs.Fronts.{no_script, one_wrong, not_wrong}
use Rattle.event_script.proofs.read.read_script.Goals as goal

pub returns-in-Err-Fault-parse-clause-script : goal.returns-in-Err-Fault-parse-clause-script
returns-in-Err-Fault-parse-clause-script g c =
    let wrong = rw c.in-Err-Fault-parse.field-0-is at c.in-Err-Fault-parse.ensures.wrong in
    let at : List ℕ → Type 0 = λ xs. HasFirstWrong xs c.in-Err-Fault-parse.bad.number in
    wrong_of_source (g.S.Source.left c.args.source.now) (g.S.Source.left c.read_bytes.new.source) c.in-Ok.bytes.items c.in-Err-Fault-parse.bad.number
    c.in-Ok.ensures.bytes c.in-Ok.ensures.end (subst at c.deref.ensures.value wrong)

pub returns-in-Err-Fault-parse-clause-whole : goal.returns-in-Err-Fault-parse-clause-whole
returns-in-Err-Fault-parse-clause-whole g c =
    no_script (g.S.Source.left c.args.source.now) c.in-Err-Fault-parse.bad.number (returns-in-Err-Fault-parse-clause-script g c)

pub returns-in-Err-Fault-parse-clause-wrong : goal.returns-in-Err-Fault-parse-clause-wrong
returns-in-Err-Fault-parse-clause-wrong g c =
    one_wrong (g.S.Source.left c.args.source.now) c.in-Err-Fault-parse.bad.number (returns-in-Err-Fault-parse-clause-script g c)

pub returns-clause-wrong : goal.returns-clause-wrong
returns-clause-wrong g c =
    let found = c.in-Ok-parse.ensures.script in
    let at : List ℕ → Type 0 = λ xs. ReadsScript xs found.0 in
    not_wrong (g.S.Source.left c.args.source.now) found.0
    (script_of_source (g.S.Source.left c.args.source.now) (g.S.Source.left c.read_bytes.new.source) c.in-Ok.bytes.items found.0
    c.in-Ok.ensures.bytes c.in-Ok.ensures.end (subst at c.deref.ensures.value found.1))
