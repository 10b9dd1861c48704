use Rattle.std.proofs.Common.{◌≡◌, [], None, subst, sym, ap, ◌∙◌}
use Rattle.b2_model.specs.Rows.{rows}
use Rattle.b2_model.specs.Pass.{names_in, pass_names}
use Rattle.index_rows.specs.OwnRows.{of_bucket}
use Rattle.bucket_pass.specs.Changes.{AreChanges, after_changes}
use Rattle.bucket_pass.specs.Walked.{Stands}
use Rattle.bucket_pass.proofs.Steps.{done, none_past}
use Rattle.bucket_pass.proofs.Machine.{are_changes, whole_pass}
use Rattle.bucket_pass.proofs.plan.plan_bucket.Goals as goal

pub returns : goal.returns
returns c =
    let t = c.args.t in
    let bucket = c.args.bucket.now in
    let w = c.end_name.new.self in
    let all = of_bucket bucket.num c.args.index.now in
    let stands = c.in_ok-end_name.ensures.stands c.args.next all [] (none_past _) c.in_ok-walk.ensures in
    let ended = subst (λ n. Stands t bucket c.args.last c.args.next all [] n w.faces.items w.next w.changes.items) c.in_ok-end_name.ensures.name stands in
    let planned = done t bucket c.args.last c.args.next all w.faces.items w.next w.changes.items ended in
    let is = sym (c.of.ensures ∙ ap (λ v. v.items) c.changes.ensures) in
    record {
      changes = λ M last rows_are. subst (λ l. AreChanges t bucket M c.args.next l) is (are_changes t bucket M c.args.last all last rows_are c.args.next w.changes.items planned);
      pass = λ M numbered at last rows_are. subst (λ l. pass_names t bucket (names_in (rows M bucket.num)) M ≡ after_changes t bucket.num l M) is
          (whole_pass t bucket M c.args.next w.changes.items numbered at (are_changes t bucket M c.args.last all last rows_are c.args.next w.changes.items planned));
    }
