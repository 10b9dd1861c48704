use Rattle.std.proofs.Common.{subst, sym, arith}
use Rattle.std.proofs.lemmas.Bool.{leb-true, le-leb, false≢true}
use Rattle.extent_space.specs.Room.{IsTaken}
use Rattle.extent_space.proofs.Told.{in_use, told}
use Rattle.extent_space.proofs.space.Space.is_taken.Goals as goal

pub returns-then-free-e : goal.returns-then-free-e
returns-then-free-e c = let m = c.self.inside in (
  λ is. absurd (false≢true is),
  λ taken. let t = told m.holes c.self.invariant.0 m.end m.limit c.self.invariant.1 c.args.e c.free_from-free.result c.free_from-free.ensures (subst (λ r. IsTaken r c.args.e) (sym c.self.view_is) taken) (omega (arith, c.if-e-eq0.false)) in
      absurd (omega (arith, t.1, c.if-free-e.true)),
)

pub returns : goal.returns
returns c = let m = c.self.inside in (
  λ is. subst (λ r. IsTaken r c.args.e) c.self.view_is (in_use m.holes c.self.invariant.0 m.end m.limit c.self.invariant.1 c.args.e c.free_from-free.result c.free_from-free.ensures (omega (arith, c.if-e-ne0.false)) (omega (arith, c.if-free-e.false)) (leb-true _ _ is)),
  λ taken. let t = told m.holes c.self.invariant.0 m.end m.limit c.self.invariant.1 c.args.e c.free_from-free.result c.free_from-free.ensures (subst (λ r. IsTaken r c.args.e) (sym c.self.view_is) taken) (omega (arith, c.if-e-eq0.false)) in
      le-leb _ _ t.2,
)
