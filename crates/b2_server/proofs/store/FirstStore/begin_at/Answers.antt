use Rattle.std.proofs.Common.{ℕ, ◌/◌, ◌<◌, ◌≤◌, refl, ap, subst}
use Rattle.std.proofs.lemmas.Bool.{le-ltb, lt-ltb}
use Rattle.b2_model.specs.Kinds.{day}
use Rattle.b2_server.proofs.Begun.{begun_same, begun_later}
use Rattle.b2_server.proofs.store.FirstStore.begin_at.Goals as goal

pub returns-then-day-self : goal.returns-then-day-self
returns-then-day-self c = λ M words at.
    let P : ℕ → Type 0 = λ n. n / day ≤ c.args.self.now.pass_day in
    begun_same c.args.self.now _ M words c.args.t refl refl refl refl refl (le-ltb c.args.self.now.pass_day (c.args.t / day) (subst P c.get-day.ensures.value c.if-day-self.true)) at

pub returns : goal.returns
returns c = λ M words at.
    let P : ℕ → Type 0 = λ n. c.args.self.now.pass_day < n / day in
    begun_later c.args.self.now _ M words c.args.t refl refl (ap (λ (n : ℕ). n / day) c.get-day.ensures.value) refl c.sweep.ensures (lt-ltb c.args.self.now.pass_day (c.args.t / day) (subst P c.get-day.ensures.value c.if-day-self.false)) at
