use Rattle.std.proofs.Common.{option_copied, sym, ap, ◌∙◌}
use Rattle.core_uploads.proofs.Ends.{never_bad}
use Rattle.core_uploads.proofs.end.decided.Goals as goal

pub unreachable-requires-in-Bad : goal.unreachable-requires-in-Bad
unreachable-requires-in-Bad c = never_bad c.args.core.now c.args.conn _ _ c.is_sound.ensures.sound (ap option_copied (sym c.in-Some.is) ∙ c.flight.ensures) c.in-Bad.is
