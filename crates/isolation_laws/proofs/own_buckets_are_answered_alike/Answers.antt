use Rattle.isolation_laws.proofs.Alike.{buckets_known_alike}
use Rattle.isolation_laws.proofs.own_buckets_are_answered_alike.Goals as goal

pub returns : goal.returns
returns g c P M N t words token asked caller sound_m sound_n agree look within =
    buckets_known_alike P M N t words token caller sound_m sound_n asked agree look within
