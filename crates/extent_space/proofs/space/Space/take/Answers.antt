use Rattle.std.proofs.Common.{◌≡◌, ◌+◌, None, subst, arith}
use Rattle.extent_space.specs.Room.{IsFilled, IsFree, IsTidy, extent_for}
use Rattle.extent_space.proofs.Takes.{free_is_apart, is_taken, nothing_taken, too_long}
use Rattle.extent_space.proofs.Runs.{stays_taken}
use Rattle.extent_space.proofs.Views.{tidy_by_map}
use Rattle.extent_space.proofs.space.Space.take.Goals as goal

pub returns-then-len-eq0-clause-ok : goal.returns-then-len-eq0-clause-ok
returns-then-len-eq0-clause-ok c = let m = c.self.inside in
    nothing_taken _ (subst IsTidy c.self.view_is (tidy_by_map m.holes c.self.invariant.0 m.end m.limit c.self.invariant.1))

pub returns-then-len-clause-full : goal.returns-then-len-clause-full
returns-then-len-clause-full c = let m = c.self.inside in
    subst (λ r. extent_for r c.args.len ≡ None) c.self.view_is (too_long _ c.args.len (tidy_by_map m.holes c.self.invariant.0 m.end m.limit c.self.invariant.1) (omega (arith, c.self.ranges)) (omega (arith, c.if-len.true)))

pub returns-clause-taken : goal.returns-clause-taken
returns-clause-taken c = is_taken c.args.self.now c.occupy.new.self c.in-Some.at c.args.len c.in-Some.ensures.free.whole (subst (λ n. IsFilled c.args.self.now c.in-Some.at (c.in-Some.at + n) c.occupy.new.self) c.rounded-room.ensures c.in_ok-occupy.ensures.ok)

pub returns-clause-apart : goal.returns-clause-apart
returns-clause-apart c = free_is_apart c.args.self.now c.in-Some.at c.args.len (omega (arith, c.if-len-eq0.false)) (subst (λ n. IsFree c.args.self.now c.in-Some.at (c.in-Some.at + n)) c.rounded-room.ensures c.in-Some.ensures.free.free)

pub returns-clause-others : goal.returns-clause-others
returns-clause-others c f = stays_taken c.args.self.now c.occupy.new.self (record { at = c.in-Some.at; len = c.args.len }) f (subst (λ n. IsFilled c.args.self.now c.in-Some.at (c.in-Some.at + n) c.occupy.new.self) c.rounded-room.ensures c.in_ok-occupy.ensures.ok)
