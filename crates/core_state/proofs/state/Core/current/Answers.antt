use Rattle.std.proofs.Common.{◌≡◌, ap, ◌∙◌}
use Rattle.std.proofs.lemmas.Result.{IfOk-weaker}
use Rattle.std.specs.Option.{option_copied}
use Rattle.b2_model.specs.Current.{current, current_in}
use Rattle.index_rows.specs.OwnRows.{of_bucket}
use Rattle.core_state.proofs.state.Core.current.Goals as goal

pub returns : goal.returns
returns c = IfOk-weaker c.current_of.result (λ v. option_copied v ≡ current_in (of_bucket c.args.bucket c.index.result.now) c.args.name.now) (λ v. option_copied v ≡ current c.args.self.now c.args.bucket c.args.name.now)
    (λ v is. is ∙ ap (λ rows. current_in rows c.args.name.now) (c.index.ensures.listed c.args.bucket)) c.current_of.ensures
