use Rattle.std.proofs.Common.{◌≡◌, ap, sym, subst}
use Rattle.extent_space.specs.Room.{Apart, IsTaken}
use Rattle.blob_extents.specs.Uses.{Uses}
use Rattle.blob_extents.specs.States.{kept_extent}
use Rattle.blob_extents.proofs.blobs.Blobs.release.Goals as goal

pub returns-then-contains-clause-others : goal.returns-then-contains-clause-others
returns-then-contains-clause-others c e apart used =
    let room : c.self.inside.space ≡ c.args.self.now.room = ap (λ (u : Uses). u.room) c.self.view_is in
    record { taken = subst (λ r. IsTaken r e) (sym room) used.taken; none = used.none }

pub give_back-requires : goal.give_back-requires
give_back-requires c =
    let room : c.self.inside.space ≡ c.args.self.now.room = ap (λ (u : Uses). u.room) c.self.view_is in
    record { taken = rw c.place-extent.ensures (subst (λ r. IsTaken r (kept_extent c.args.k)) (sym room) c.requires.taken) }

pub returns-clause-others : goal.returns-clause-others
returns-clause-others c e apart used =
    let room : c.self.inside.space ≡ c.args.self.now.room = ap (λ (u : Uses). u.room) c.self.view_is in
    record {
      taken = c.in_ok-give_back.ensures.others e (subst (λ x. Apart x e) (sym c.place-extent.ensures) apart) (subst (λ r. IsTaken r e) (sym room) used.taken);
      none = used.none;
    }
