use Rattle.std.proofs.Common.{◌+◌, subst, sym, ap, ◌∙◌, arith}
use Rattle.std.specs.BTreeMap.{get}
use Rattle.std.specs.Ordering.{nat_cmp}
use Rattle.extent_space.specs.Room.{GivesBack, IsTaken, IsTidy}
use Rattle.extent_space.specs.Holes.{IsEndOfFree}
use Rattle.extent_space.proofs.Returns.{end_given, end_given_holes, hole_given, hole_given_holes, nothing_given}
use Rattle.extent_space.proofs.Rooms.{room_of, same_holes}
use Rattle.extent_space.proofs.Runs.{left_taken}
use Rattle.extent_space.proofs.Views.{tidy_by_map}
use Rattle.extent_space.proofs.space.Space.give_back.Goals as goal

pub returns-then-e-eq0-clause-ok : goal.returns-then-e-eq0-clause-ok
returns-then-e-eq0-clause-ok c = let m = c.self.inside in
    nothing_given c.args.self.now c.args.e (subst IsTidy c.self.view_is (tidy_by_map m.holes c.self.invariant.0 m.end m.limit c.self.invariant.1)) c.if-e-eq0.true

pub invariant_of-self : goal.invariant_of-self
invariant_of-self c = let m = c.self.inside in
    (c.remove.ensures.ordered, end_given_holes m.holes c.self.invariant.0 m.end m.limit c.self.invariant.1 c.args.e (omega (arith, c.if-e-eq0.false)) (subst (λ r. IsTaken r c.args.e) (sym c.self.view_is) c.requires.taken) c.start_of_free-from.result c.start_of_free-from.ensures c.remove.new.self c.remove.ensures.ordered (ap (λ n. c.args.e.at + n) (sym c.rounded.ensures) ∙ c.if-to-self.true) c.remove.ensures.updates)

pub returns-then-to-self-clause-ok : goal.returns-then-to-self-clause-ok
returns-then-to-self-clause-ok c = let m = c.self.inside in
    subst (λ r. GivesBack r c.args.e (room_of c.remove.new.self c.start_of_free-from.result m.limit)) c.self.view_is (end_given m.holes c.self.invariant.0 m.end m.limit c.self.invariant.1 c.args.e (omega (arith, c.if-e-eq0.false)) (subst (λ r. IsTaken r c.args.e) (sym c.self.view_is) c.requires.taken) c.start_of_free-from.result c.start_of_free-from.ensures c.remove.new.self c.remove.ensures.ordered (ap (λ n. c.args.e.at + n) (sym c.rounded.ensures) ∙ c.if-to-self.true) c.remove.ensures.updates)

pub invariant_of-self-in_err-insert : goal.invariant_of-self-in_err-insert
invariant_of-self-in_err-insert c = let e = c.in_err-insert.ensures in (e.ordered, same_holes c.self.inside.holes c.insert.new.self _ _ e.err c.self.invariant.1)

pub invariant_of-self-2 : goal.invariant_of-self-2
invariant_of-self-2 c = let m = c.self.inside in
    (c.remove-2.ensures.ordered, hole_given_holes m.holes c.self.invariant.0 m.end m.limit c.self.invariant.1 c.args.e (omega (arith, c.if-e-eq0.false)) (subst (λ r. IsTaken r c.args.e) (sym c.self.view_is) c.requires.taken) c.start_of_free-from.result c.start_of_free-from.ensures c.insert.new.self c.remove-2.new.self c.remove-2.ensures.ordered (λ same. c.if-to-self.false (ap (λ n. c.args.e.at + n) c.rounded.ensures ∙ same)) c.end_of_free-last.result (subst (λ n. IsEndOfFree (get nat_cmp m.holes) (c.args.e.at + n) c.end_of_free-last.result) c.rounded.ensures c.end_of_free-last.ensures) c.in_ok-insert.ensures.updates c.remove-2.ensures.updates)

pub returns-clause-ok : goal.returns-clause-ok
returns-clause-ok c = let m = c.self.inside in
    subst (λ r. GivesBack r c.args.e (room_of c.remove-2.new.self m.end m.limit)) c.self.view_is (hole_given m.holes c.self.invariant.0 m.end m.limit c.self.invariant.1 c.args.e (omega (arith, c.if-e-eq0.false)) (subst (λ r. IsTaken r c.args.e) (sym c.self.view_is) c.requires.taken) c.start_of_free-from.result c.start_of_free-from.ensures c.insert.new.self c.remove-2.new.self c.remove-2.ensures.ordered (λ same. c.if-to-self.false (ap (λ n. c.args.e.at + n) c.rounded.ensures ∙ same)) c.end_of_free-last.result (subst (λ n. IsEndOfFree (get nat_cmp m.holes) (c.args.e.at + n) c.end_of_free-last.result) c.rounded.ensures c.end_of_free-last.ensures) c.in_ok-insert.ensures.updates c.remove-2.ensures.updates)

pub returns-then-to-self-clause-others : goal.returns-then-to-self-clause-others
returns-then-to-self-clause-others c f = left_taken c.args.self.now _ c.args.e f (returns-then-to-self-clause-ok c)

pub returns-clause-others : goal.returns-clause-others
returns-clause-others c f = left_taken c.args.self.now _ c.args.e f (returns-clause-ok c)
