use Rattle.std.proofs.Common.{codes, Some, List, ℕ, subst, rules}
use Rattle.std.proofs.lemmas.Bool.Decides.{Decides-eqb}
use Rattle.std.proofs.lemmas.Slice.Eq.{strip_prefix_is}
use Rattle.api_json.specs.Basic.{IsPair}
use Rattle.api_json.proofs.Pairs.{basic_of, one_pair}
use Rattle.api_json.proofs.credentials.basic.Goals as goal

pub returns-clause-pair : goal.returns-clause-pair
returns-clause-pair c =
    let front = strip_prefix_is Decides-eqb c.args.value.now (codes "Basic ") (Some c.in-Some.encoded) c.in-Some.ensures.cases in
    let at : List ℕ → Type 0 = λ xs. IsPair xs c.in-Some-split_pair.id.now c.in-Some-split_pair.secret.now in
    basic_of c.args.value.now c.in-Some.encoded.now c.in-Ok.bytes.items c.in-Some-split_pair.id.now c.in-Some-split_pair.secret.now c.in_ok-id.id c.in_ok-secret.secret
    front (c.in-Ok.ensures.exact (search rules)) c.in-Ok.ensures.bytes (subst at c.deref.ensures.value c.in-Some-split_pair.ensures) c.in_ok-id.ensures c.in_ok-secret.ensures

pub returns-clause-only : goal.returns-clause-only
returns-clause-only c = λ id secret basic. one_pair c.args.value.now id secret c.in_ok-id.id c.in_ok-secret.secret basic (returns-clause-pair c)
