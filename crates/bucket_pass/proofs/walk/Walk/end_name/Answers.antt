use Rattle.std.proofs.Common.{◌≡◌, ◌≤◌, List, None, Some, map, subst, sym, ap, ◌∙◌, refl, nat_le}
use Rattle.std.specs.Prelude.{option_map}
use Rattle.std.proofs.lemmas.List.{append-nil}
use Rattle.b2_base.specs.declared.numbers.TheConstants.{LAST_VERSION}
use Rattle.b2_model.specs.Pass.{rule_for}
use Rattle.lifecycle_pass.specs.Plans.{face_of}
use Rattle.bucket_pass.specs.Changes.{IsPlanFor}
use Rattle.bucket_pass.specs.Walked.{V}
use Rattle.bucket_pass.proofs.Steps.{ended_as, next_is}
use Rattle.bucket_pass.proofs.walk.Walk.end_name.Goals as goal

pub returns-in_ok-add-in-Some-plan-clause-stands : goal.returns-in_ok-add-in-Some-plan-clause-stands
returns-in_ok-add-in-Some-plan-clause-stands c first all rest past s =
    let w = c.args.self.now in
    let name = c.in-Some.name.now in
    let plan = c.in-Some-plan.plan in
    let added = c.in_ok-add-in-Some-plan.ensures in
    let drawn : (versions : List V) → map (face_of c.args.t) versions ≡ w.faces.items → IsPlanFor c.args.t (rule_for c.args.bucket.now name) (nat_le w.next c.args.last) versions (Some plan) =
    λ versions looks. rw (c.get-2.ensures.0, c.get.ensures.value, c.in-Some-plan.is) at (c.in_ok-plan.ensures versions (looks ∙ sym c.deref.ensures.value)) in
    let within : c.args.last ≤ LAST_VERSION = subst (λ n. n ≤ LAST_VERSION) c.get.ensures.value c.get.ensures.in_range in
    ended_as c.args.t c.args.bucket.now c.args.last first all _ name rest w.faces.items w.next w.changes.items (Some plan) (ap (option_map (λ n. n.now)) c.in-Some.is) past drawn s _ _ _ _
    (ap (option_map (λ n. n.now)) added.name)
    (ap (λ v. v.items) added.faces ∙ c.clear.ensures.items)
    (added.next ∙ next_is c.args.t c.args.bucket.now c.args.last first all _ name rest w.faces.items w.next w.changes.items plan within drawn s)
    added.changes

pub returns-in-None-clause-stands : goal.returns-in-None-clause-stands
returns-in-None-clause-stands c first all rest past s =
    let w = c.args.self.now in
    let name = c.in-Some.name.now in
    let drawn : (versions : List V) → map (face_of c.args.t) versions ≡ w.faces.items → IsPlanFor c.args.t (rule_for c.args.bucket.now name) (nat_le w.next c.args.last) versions None =
    λ versions looks. rw (c.get-2.ensures.0, c.get.ensures.value, c.in-None.is) at (c.in_ok-plan.ensures versions (looks ∙ sym c.deref.ensures.value)) in
    ended_as c.args.t c.args.bucket.now c.args.last first all _ name rest w.faces.items w.next w.changes.items None (ap (option_map (λ n. n.now)) c.in-Some.is) past drawn s _ _ _ _
    refl c.clear.ensures.items refl (sym (append-nil w.changes.items))
