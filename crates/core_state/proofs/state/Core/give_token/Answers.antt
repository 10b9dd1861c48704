use Rattle.std.proofs.Common.{◌≤◌, sym, subst, refl}
use Rattle.core_state.specs.GivenTokens.{HasGiven, MayHave}
use Rattle.core_state.specs.View.{state_of}
use Rattle.core_state.proofs.GivenTokens.{given_one}
use Rattle.core_state.proofs.state.Core.give_token.Goals as goal

pub invariant_of-result-2 : goal.invariant_of-result-2
invariant_of-result-2 g c =
    let p = c.self.inside.parts in
    let given = c.in-Ok.ensures.given in
    let later = subst (λ M. M.now ≤ c.args.t) (sym c.self.view_is) c.requires.later in
    let may = subst (λ M. MayHave M c.args.terms) (sym c.self.view_is) c.requires.may in
    (given_one p (record p { now = c.args.t; tokens = c.grant.new.self }) c.args.t c.args.terms c.in-Ok.text given.first given.second c.grant.new.self
    c.self.invariant later may (c.in-Ok.ensures.left (state_of p) refl) given.text_is given.tokens refl).whole

pub returns : goal.returns
returns g c =
    let p = c.self.inside.parts in
    let given = c.in-Ok.ensures.given in
    let later = subst (λ M. M.now ≤ c.args.t) (sym c.self.view_is) c.requires.later in
    let may = subst (λ M. MayHave M c.args.terms) (sym c.self.view_is) c.requires.may in
    let q = record p { now = c.args.t; tokens = c.grant.new.self } in
    let whole = given_one p q c.args.t c.args.terms c.in-Ok.text given.first given.second c.grant.new.self
    c.self.invariant later may (c.in-Ok.ensures.left (state_of p) refl) given.text_is given.tokens refl in
    subst (λ M. HasGiven M c.args.t c.args.terms (g.W.Words.ahead c.args.luck.now) (g.W.Words.ahead c.grant.new.luck) (state_of q) c.in-Ok.text) c.self.view_is
    (record {
      serial = c.in-Ok.ensures.left (state_of p) refl;
      first = given.first;
      second = given.second;
      words = given.words;
      text_is = given.text_is;
      state = whole.state;
    })
