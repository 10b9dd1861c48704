use Rattle.std.proofs.Common.{◌∙◌, List, ℕ, ◌-◌, subst, drop, length, arith, length-take, length-drop}
use Rattle.std.specs.Io.KnownBytes.{Appends}
use Rattle.std.proofs.KnownBytes.{Appends-trans}
use Rattle.outside_traits.proofs.Fronts.{front_more}
use Rattle.outside_traits.proofs.sink.write_all.Goals as goal

pub writes-preserved : goal.writes-preserved
writes-preserved g c =
    let bytes = c.args.bytes.now in
    let at = c.writes.at in
    let n = c.in_ok-at.field-0 in
    let grown : List ℕ → Type 0 = Appends (g.K.Sink.contents c.args.sink.now) (g.K.Sink.contents c.write.new.self) in
    record {
      within = omega (arith, c.in_ok-at.ensures.bound, length-take (length bytes - at) (drop at bytes), length-drop at bytes, c.writes.invariant.within);
      taken = subst grown (front_more at n bytes) (Appends-trans _ _ _ _ _ c.writes.invariant.taken c.in_ok-at.ensures.bytes);
      kept = c.in_ok-at.ensures.cause.kept ∙ c.writes.invariant.kept;
    }
