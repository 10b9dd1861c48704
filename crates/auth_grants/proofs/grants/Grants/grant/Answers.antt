use Rattle.std.proofs.Common.{rules, ◌≡◌, ◌+◌, ◌<◌, ◌^◌, sym, ap, ◌∙◌, arith}
use Rattle.b2_model.specs.LiveGrant.{token_text}
use Rattle.auth_grants.specs.Tokens.{serial_digits, with_token, new_held}
use Rattle.auth_grants.proofs.Serials.{tells_serial}
use Rattle.auth_grants.proofs.Machine.{given_more, view_more, two_words}
use Rattle.auth_grants.proofs.grants.Grants.grant.Goals as goal

pub invariant_of-self-2 : goal.invariant_of-self-2
invariant_of-self-2 g c =
    let small : c.self.inside.serial + 1 < 2 ^ 64 = grind arith in
    given_more c.self.inside.serial c.held_for.result c.self.inside.held.entries c.insert.new.self.entries c.self.invariant small
    (ap (λ h. serial_digits h.grant.text) c.held_for.ensures ∙ ap serial_digits c.in_ok-text.ensures
    ∙ tells_serial c.args.boot (c.self.inside.serial + 1) c.next-first.result c.next-second.result)
    c.insert.ensures.ordered c.in_ok-insert.ensures.entries

pub returns-clause-given : goal.returns-clause-given
returns-clause-given g c =
    let same : c.in_ok-told.told ≡ c.in_ok-text.text = search rules in
    record {
      first = c.next-first.result;
      second = c.next-second.result;
      words = two_words _ _ _ _ _ c.next-first.ensures c.next-second.ensures;
      text_is = same ∙ c.in_ok-text.ensures ∙ ap (λ T. token_text c.args.boot (T.serial + 1) c.next-first.result c.next-second.result) c.self.view_is;
      tokens = view_more c.self.inside.serial c.held_for.result c.self.inside.held.entries c.insert.new.self.entries c.self.invariant c.in_ok-insert.ensures.entries
          ∙ ap (with_token c.held_for.result) c.self.view_is
          ∙ ap (λ h. with_token h c.args.self.now) (c.held_for.ensures ∙ ap (λ text. new_held text c.args.terms) (sym same));
    }
