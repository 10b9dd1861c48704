use Rattle.std.proofs.Common.{◌≡◌, map, take}
use Rattle.b2_model.specs.Shown.{shown_key}
use Rattle.core_keys.proofs.pages.show_keys.Given as goal

abbrev pub invariant-loop-key : goal.invariant-loop-key
invariant-loop-key l = l.rows.items ≡ map (λ k. shown_key l.version l.settings k.now) (take l.key-index l.keys)
