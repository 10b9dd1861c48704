use Rattle.std.proofs.Common.{sym, subst}
use Rattle.std.specs.List.{All}
use Rattle.std.proofs.lemmas.List.Elements.{All-map}
use Rattle.outside_traits.specs.Links.{IsShort}
use Rattle.event_script.proofs.script.Script.link.Goals as goal

pub new-requires-3 : goal.new-requires-3
new-requires-3 c = subst (All IsShort) (sym c.in_ok-events.ensures) (All-map IsShort (λ t. t.event) c.args.self.now.timed.items c.args.self.now.short)
