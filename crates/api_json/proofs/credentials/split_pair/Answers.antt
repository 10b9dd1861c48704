use Rattle.std.proofs.Common.{arith}
use Rattle.std.proofs.lemmas.Str.Pattern.{split_parts}
use Rattle.api_json.proofs.Pairs.{pair_along}
use Rattle.api_json.proofs.credentials.split_pair.Goals as goal

pub returns : goal.returns
returns c =
    let parts = split_parts 58 c.in-Ok.text.now c.split_once.result c.split_once.ensures.cases (omega arith) in
    pair_along c.in-Ok.text.now c.args.bytes.now c.in-Ok.ensures.cases.0 c.split_once.result parts c.in-Ok.ensures.cases.1
