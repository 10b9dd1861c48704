use Rattle.isolation_laws.proofs.Refused.{refused_both}
use Rattle.isolation_laws.proofs.other_buckets_are_refused_alike.Goals as goal

pub returns : goal.returns
returns g c P M N t words token asked bucket caller settings looks limited =
    refused_both P M N t words token asked bucket caller settings looks limited.0 limited.1
