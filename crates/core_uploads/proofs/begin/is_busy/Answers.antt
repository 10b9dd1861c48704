use Rattle.std.proofs.Common.{option_copied, sym, ap, ◌∙◌}
use Rattle.std.specs.Option.{is_some}
use Rattle.b2_model.specs.UploadSteps.{busy}
use Rattle.auth_grants.specs.Tokens.{flight_at}
use Rattle.core_uploads.proofs.Begins.{busy_as, none_busy}
use Rattle.core_uploads.proofs.begin.is_busy.Goals as goal

pub returns-in-Some : goal.returns-in-Some
returns-in-Some c =
    let M = c.args.core.now in
    let text = c.in-Some.text.now in
    c.is_some.ensures ∙ ap is_some (c.flight.ensures ∙ ap (λ T. flight_at T text) c.tokens.ensures) ∙ busy_as M text c.is_sound.ensures.sound
    ∙ ap (λ o. (busy M (option_copied o)).fails) (sym c.in-Some.is)

pub returns-in-None : goal.returns-in-None
returns-in-None c = sym (none_busy c.args.core.now.flights) ∙ ap (λ o. (busy c.args.core.now (option_copied o)).fails) (sym c.in-None.is)
