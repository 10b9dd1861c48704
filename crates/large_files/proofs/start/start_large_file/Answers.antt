use Rattle.std.proofs.Common.{◌≡◌, [], ◌∷◌, None, Some, false, option_map, unwrap_or, refl, ap, sym, ◌∙◌}
use Rattle.b2_types.specs.declared.record.ChangeOf.TheVariants as change
use Rattle.b2_model.specs.Checks.{first_fault}
use Rattle.b2_model.specs.Plan.{bad_until, lock_off, no_version}
use Rattle.b2_model.specs.AskLarge.{start_large_file}
use Rattle.new_versions.specs.Decided.{extent_len}
use Rattle.new_versions.specs.Refusals.{lock_fault}
use Rattle.new_versions.proofs.Decisions.{number_is, number_left, three_pass}
use Rattle.large_files.proofs.start.start_large_file.Goals as goal

pub returns : goal.returns
returns c = λ M key bucket next.
    let call = c.args.call.now in
    let lock = lock_off call.retention (unwrap_or call.hold false) c.args.bucket.now.lock in
    let num = next ∙ c.in-Some-next.is in
    let version = c.in_ok-version.ensures M (number_is M c.in-Some-next.num num) in
    let two : None ≡ first_fault (lock ∷ bad_until c.args.t call.retention ∷ []) =
    ap (option_map lock_fault) (sym c.in_default.is) ∙ c.lock_rules.ensures
    ∙ ap (λ hold. first_fault (lock_off call.retention hold c.args.bucket.now.lock ∷ bad_until c.args.t call.retention ∷ [])) c.unwrap_or-hold.ensures in
    let none : None ≡ first_fault (start_large_file extent_len M key c.args.t call).own =
    rw bucket (three_pass lock (bad_until c.args.t call.retention) (no_version M) two (number_left M c.in-Some-next.num num)) in
    (none, (refl, rw bucket (ap (λ v. Some (change.Start v)) version)))
