use Rattle.std.proofs.Common.{◌≢◌, ◌∙◌, sym, refl, codes}
use Rattle.std.proofs.lemmas.Slice.Eq.{bytes_eq-Decides}
use Rattle.event_script.specs.Line.{stop}
use Rattle.event_script.proofs.Cuts.{all_behind}
use Rattle.event_script.proofs.line.read_line.Goals as goal

pub written-requires : goal.written-requires
written-requires c = all_behind (λ b. b ≢ 10) (codes "line ") c.in-Some-behind-4.rest.now c.args.text.now c.in-Some-behind-4.ensures c.requires

pub returns-then-eq : goal.returns-then-eq
returns-then-eq c = (stop, tt, (bytes_eq-Decides c.args.text.now c.as_slice.result.now).0 (sym c.if-eq.ensures) ∙ c.as_slice.ensures, refl)
