use Rattle.isolation_laws.proofs.Refused.{refused_outside}
use Rattle.isolation_laws.proofs.other_buckets_are_refused.Goals as goal

pub returns : goal.returns
returns g c P M t words token asked bucket looks limited none = refused_outside P M t words token asked bucket looks limited.0 limited.1 none
