use Rattle.isolation_laws.proofs.Alike.{names_known_alike}
use Rattle.isolation_laws.proofs.own_names_are_answered_alike.Goals as goal

pub returns : goal.returns
returns g c P M N t words token asked caller sound_m sound_n agree look within under =
    names_known_alike P M N t words token caller sound_m sound_n asked agree look within under
