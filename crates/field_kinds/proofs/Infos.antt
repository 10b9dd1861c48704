-- Pairs that are refused are no information.
use Rattle.std.proofs.Common.{◌≡◌, ◌<◌, ◌≤◌, ℕ, List, Option, Some, None, MatchOption, length, ap, subst, arith}
use Rattle.serde_json.specs.Data.{Data, null}
use Rattle.name_rules.specs.InfoPairs.{size, AreInfo, IsInfoFault, IsArranged}
use Rattle.name_rules.specs.declared.info.InfoFault.{InfoFault}
use Rattle.name_rules.specs.declared.info.InfoFault.TheVariants.{TooMany, Key, Repeat, Size}
use Rattle.field_kinds.specs.Info.{Pairs, pairs_of, IsInfo}

pub not_info : (pairs : Pairs) (f : InfoFault) → IsInfoFault pairs f → AreInfo pairs → ⊥
not_info pairs TooMany fault info = let few = info.few in omega (arith, fault, few)
not_info pairs (Key at) fault info = fault.1.other (info.keys at fault.1.within)
not_info pairs (Repeat at) fault info = fault.2.other (info.apart at fault.2.within)
not_info pairs (Size bytes) fault info = let small = info.small in let large = fault.3 in omega (arith, small, large)

pub info_from : (d : Data) (pairs : Pairs) (o : Option Pairs) → pairs_of d ≡ Some pairs → MatchOption o (AreInfo pairs → ⊥) (λ i. AreInfo pairs × IsArranged pairs i) → IsInfo d o
info_from d pairs None is none = λ others same kept. (let one : others ≡ pairs = cc in none (subst AreInfo one kept))
info_from d pairs (Some i) is some = (pairs, is, some.0, some.1)

pub no_pairs : (d : Data) → pairs_of d ≡ None → IsInfo d None
no_pairs d is = λ others same kept. absurd (cc)
