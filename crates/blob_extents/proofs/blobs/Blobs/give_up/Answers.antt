use Rattle.std.proofs.Common.{◌≡◌, ap, sym, subst}
use Rattle.extent_space.specs.Room.{Apart, IsTaken}
use Rattle.blob_extents.specs.Uses.{Uses}
use Rattle.blob_extents.specs.States.{spent_extent}
use Rattle.blob_extents.proofs.blobs.Blobs.give_up.Goals as goal

pub give_back-requires : goal.give_back-requires
give_back-requires c =
    let room : c.self.inside.space ≡ c.args.self.now.room = ap (λ (u : Uses). u.room) c.self.view_is in
    record { taken = rw c.place.ensures (subst (λ r. IsTaken r (spent_extent c.args.s)) (sym room) c.requires.taken) }

pub returns-clause-others : goal.returns-clause-others
returns-clause-others c e apart used =
    let room : c.self.inside.space ≡ c.args.self.now.room = ap (λ (u : Uses). u.room) c.self.view_is in
    record {
      taken = c.in_ok-give_back.ensures.others e (subst (λ x. Apart x e) (sym c.place.ensures) apart) (subst (λ r. IsTaken r e) (sym room) used.taken);
      none = used.none;
    }
