use Rattle.bench_blobs.proofs.room.with_holes.Goals as goal

pub give_back-requires : goal.give_back-requires
give_back-requires c = record { taken = c.in-Ok-take.ensures.others c.in-Ok.hole c.in-Ok.ensures.taken }
