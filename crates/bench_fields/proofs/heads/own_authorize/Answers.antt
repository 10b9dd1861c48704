use Rattle.bench_fields.proofs.Routed.{routed}
use Rattle.bench_fields.proofs.heads.own_authorize.Goals as goal

pub asked-requires : goal.asked-requires
asked-requires c = routed _ _ _ c.in-Ok.ensures.request
