use Rattle.std.proofs.Common.{◌≡◌, arith, ap, sym, subst}
use Rattle.extent_space.specs.Room.{IsTaken}
use Rattle.blob_extents.specs.Uses.{Uses}
use Rattle.blob_extents.proofs.Places.{ends_before, none_at_front, apart_of}
use Rattle.blob_extents.proofs.blobs.Blobs.begin.Goals as goal

pub new-requires : goal.new-requires
new-requires c =
    let last = ends_before c.take.new.self c.in_ok-extent.extent c.in_ok-extent.ensures.ok.tidy c.in_ok-extent.ensures.taken (none_at_front c.self.inside.space c.args.len c.in_ok-extent.extent c.in_ok-extent.ensures.place) in
    omega (arith, last, c.in_ok-extent.ensures.ok.same_limit, c.self.invariant)

pub returns-clause-in_use : goal.returns-clause-in_use
returns-clause-in_use c = rw c.new.ensures.extent (record {
  taken = c.in_ok-extent.ensures.taken;
  none = none_at_front c.self.inside.space c.args.len c.in_ok-extent.extent c.in_ok-extent.ensures.place;
})

pub returns-clause-apart : goal.returns-clause-apart
returns-clause-apart c e used =
    let room : c.self.inside.space ≡ c.args.self.now.room = ap (λ (u : Uses). u.room) c.self.view_is in
    rw c.new.ensures.extent (apart_of c.in_ok-extent.extent e (λ some. c.in_ok-extent.ensures.apart e some (subst (λ r. IsTaken r e) (sym room) used.taken)) used.none)

pub returns-clause-others : goal.returns-clause-others
returns-clause-others c e used =
    let room : c.self.inside.space ≡ c.args.self.now.room = ap (λ (u : Uses). u.room) c.self.view_is in
    record { taken = c.in_ok-extent.ensures.others e (subst (λ r. IsTaken r e) (sym room) used.taken); none = used.none }
