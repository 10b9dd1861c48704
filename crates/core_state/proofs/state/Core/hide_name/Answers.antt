use Rattle.std.proofs.Common.{rules, ◌≡◌, IsSome, subst, sym, ap, ◌∙◌, refl}
use Rattle.b2_model.specs.State.{bucket_at}
use Rattle.b2_model.specs.Version.{marker, with_version}
use Rattle.core_state.proofs.PassSteps.{hidden, its_number_free}
use Rattle.core_state.proofs.state.Core.hide_name.Goals as goal

pub with_version-requires : goal.with_version-requires
with_version-requires c =
    let p = c.self.inside.parts in
    let next : c.unwrap-num.result ≡ p.next_version = search rules in
    record { free = its_number_free p c.args.bucket c.unwrap-num.result c.args.t c.args.name c.in_ok-version.version c.self.invariant next c.in_ok-version.ensures }

pub invariant_of-result : goal.invariant_of-result
invariant_of-result c =
    let p = c.self.inside.parts in
    let m = c.in_ok-parts.parts in
    let next : c.unwrap-num.result ≡ p.next_version = search rules in
    (hidden p m (record m { now = p.now; kept = p.kept }) c.args.t c.args.bucket c.unwrap-num.result c.args.name c.in_ok-version.version c.self.invariant
    (subst (λ M. IsSome (bucket_at M c.args.bucket)) (sym c.self.view_is) c.requires.stands) next c.in_ok-version.ensures c.in_ok-parts.ensures refl).whole

pub returns : goal.returns
returns c =
    let p = c.self.inside.parts in
    let m = c.in_ok-parts.parts in
    let next : c.unwrap-num.result ≡ p.next_version = search rules in
    (hidden p m (record m { now = p.now; kept = p.kept }) c.args.t c.args.bucket c.unwrap-num.result c.args.name c.in_ok-version.version c.self.invariant
    (subst (λ M. IsSome (bucket_at M c.args.bucket)) (sym c.self.view_is) c.requires.stands) next c.in_ok-version.ensures c.in_ok-parts.ensures refl).state
    ∙ ap (λ M. with_version (marker c.args.bucket M.next_version c.args.name c.args.t) M) c.self.view_is
