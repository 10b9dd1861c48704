use Rattle.std.proofs.Common.{◌≡◌, ◌∙◌, subst, sym, Some, None, arith}
use Rattle.extent_space.specs.Room.{HasFree, first_fit}
use Rattle.extent_space.proofs.Fits.{fit_at_end, fit_in_hole, has_free, no_fit}
use Rattle.extent_space.proofs.Views.{tidy_by_map}
use Rattle.extent_space.proofs.space.Space.first_fit.Goals as goal

pub returns-in-Some-clause-value : goal.returns-in-Some-clause-value
returns-in-Some-clause-value c = let m = c.self.inside in subst (λ r. Some c.in-Some.from ≡ first_fit r c.args.room) c.self.view_is (fit_in_hole m.holes m.end m.limit c.args.room c.in-Some.from (sym c.front_of.ensures ∙ c.in-Some.is))

pub returns-in-None-clause-value : goal.returns-in-None-clause-value
returns-in-None-clause-value c = let m = c.self.inside in subst (λ r. Some m.end ≡ first_fit r c.args.room) c.self.view_is (fit_at_end m.holes m.end m.limit c.args.room (sym c.front_of.ensures ∙ c.in-None.is) (omega (arith, c.if-room-self.true, c.self.invariant.1.within)))

pub returns-in-None-2-clause-value : goal.returns-in-None-2-clause-value
returns-in-None-2-clause-value c = let m = c.self.inside in subst (λ r. None ≡ first_fit r c.args.room) c.self.view_is (no_fit m.holes m.end m.limit c.args.room (sym c.front_of.ensures ∙ c.in-None.is) (omega (arith, c.if-room-self.false, c.self.invariant.1.within)))

pub returns-in-Some-clause-free : goal.returns-in-Some-clause-free
returns-in-Some-clause-free c = let m = c.self.inside in subst (λ r. HasFree r c.args.room c.in-Some.from) c.self.view_is (has_free _ c.args.room c.in-Some.from (tidy_by_map m.holes c.self.invariant.0 m.end m.limit c.self.invariant.1) (sym (fit_in_hole m.holes m.end m.limit c.args.room c.in-Some.from (sym c.front_of.ensures ∙ c.in-Some.is))))
