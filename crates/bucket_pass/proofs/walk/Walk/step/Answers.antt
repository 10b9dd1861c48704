use Rattle.std.proofs.Common.{◌≡◌, Some, [], ◌∷◌, ◌++◌, subst, sym, ap, ◌∙◌}
use Rattle.bucket_pass.specs.Walked.{Stands}
use Rattle.bucket_pass.proofs.Steps.{read}
use Rattle.bucket_pass.proofs.walk.Walk.step.Goals as goal

pub returns : goal.returns
returns c = record {
  stands = λ first all rest s.
      let v = c.args.version.now in
      let w = c.turn.new.self in
      let faces : c.push.new.self.items ≡ w.faces.items ++ _ ∷ [] = c.in_ok-push.ensures.items ∙ ap (λ f. w.faces.items ++ f ∷ []) c.face.ensures in
      subst (λ l. Stands c.args.t c.args.bucket.now c.args.last first all rest (Some v.name) l w.next w.changes.items) (sym faces)
      (read c.args.t c.args.bucket.now c.args.last first all v rest _ w.faces.items w.next w.changes.items c.in_ok-turn.ensures.name (c.in_ok-turn.ensures.stands first all rest s));
}
