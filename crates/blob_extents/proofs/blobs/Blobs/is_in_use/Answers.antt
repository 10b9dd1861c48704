use Rattle.std.proofs.Common.{subst, sym, ap, arith}
use Rattle.extent_space.specs.Room.{IsTaken}
use Rattle.blob_extents.specs.Uses.{Uses}
use Rattle.blob_extents.proofs.blobs.Blobs.is_in_use.Goals as goal

pub returns-then-e-gt0 : goal.returns-then-e-gt0
returns-then-e-gt0 c = let room = ap (λ (u : Uses). u.room) c.self.view_is in (
  λ is. record {
    taken = subst (λ r. IsTaken r c.args.e) room (c.is_taken.ensures.0 is);
    none = λ empty. absurd (omega (arith, empty, c.if-e-gt0.true));
  },
  λ used. c.is_taken.ensures.1 (subst (λ r. IsTaken r c.args.e) (sym room) used.taken),
)
