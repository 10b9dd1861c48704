use Rattle.std.proofs.Common.{◌≡◌, Contains, rules, ap, sym, subst}
use Rattle.extent_space.specs.Room.{Apart, IsTaken}
use Rattle.blob_extents.specs.Uses.{Uses}
use Rattle.blob_extents.specs.States.{pin_extent}
use Rattle.blob_extents.proofs.blobs.Blobs.unpin.Goals as goal

pub returns-then-contains-clause-back : goal.returns-then-contains-clause-back
returns-then-contains-clause-back c absent released =
    let has : Contains c.take_out.new.extents.items (pin_extent c.args.p) = search rules in
    absurd (absent has)

pub returns-then-contains-clause-others : goal.returns-then-contains-clause-others
returns-then-contains-clause-others c e apart used =
    let room : c.self.inside.space ≡ c.args.self.now.room = ap (λ (u : Uses). u.room) c.self.view_is in
    record { taken = subst (λ r. IsTaken r e) (sym room) used.taken; none = used.none }

pub give_back-requires : goal.give_back-requires
give_back-requires c =
    let room : c.self.inside.space ≡ c.args.self.now.room = ap (λ (u : Uses). u.room) c.self.view_is in
    record { taken = rw c.place-extent.ensures (subst (λ r. IsTaken r (pin_extent c.args.p)) (sym room) c.requires.in_use.taken) }

pub returns-in_ok-give_back-clause-others : goal.returns-in_ok-give_back-clause-others
returns-in_ok-give_back-clause-others c e apart used =
    let room : c.self.inside.space ≡ c.args.self.now.room = ap (λ (u : Uses). u.room) c.self.view_is in
    record {
      taken = c.in_ok-give_back.ensures.others e (subst (λ x. Apart x e) (sym c.place-extent.ensures) apart) (subst (λ r. IsTaken r e) (sym room) used.taken);
      none = used.none;
    }

pub returns-else-take_out-clause-others : goal.returns-else-take_out-clause-others
returns-else-take_out-clause-others c e apart used =
    let room : c.self.inside.space ≡ c.args.self.now.room = ap (λ (u : Uses). u.room) c.self.view_is in
    record { taken = subst (λ r. IsTaken r e) (sym room) used.taken; none = used.none }
