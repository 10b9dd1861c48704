use Rattle.std.proofs.Common.{◌≤◌, subst, sym, ap}
use Rattle.extent_space.specs.Room.{IsFilled, IsFree}
use Rattle.extent_space.proofs.Rooms.{cut_is_tidy, filled_end, filled_hole, hole_has_all, raise_is_tidy, room_of, same_holes}
use Rattle.extent_space.proofs.space.Space.occupy.Goals as goal

pub cut_out-requires-clause-inside : goal.cut_out-requires-clause-inside
cut_out-requires-clause-inside c = let m = c.self.inside in let h = c.in-Some.ensures in
    hole_has_all m.holes m.holes c.self.invariant.0 c.self.invariant.0 m.end m.limit c.args.from c.args.to c.self.invariant.1 c.requires.order (subst (λ r. IsFree r c.args.from c.args.to) (sym c.self.view_is) c.requires.free) c.in-Some.hole.1 c.in-Some.hole.0 h.0 h.1 h.2

pub invariant_of-self : goal.invariant_of-self
invariant_of-self c = let m = c.self.inside in let h = c.in-Some.ensures in let e = c.in_ok-cut_out-in-Some.ensures in
    (e.ordered, cut_is_tidy m.holes c.cut_out.new.holes c.self.invariant.0 e.ordered m.end m.limit c.args.from c.args.to c.self.invariant.1 c.requires.order (subst (λ r. IsFree r c.args.from c.args.to) (sym c.self.view_is) c.requires.free) c.in-Some.hole.1 c.in-Some.hole.0 h.0 h.1 h.2 e.ok c.requires.whole.0 c.requires.whole.1)

pub invariant_of-self-in_err-cut_out-in-Some : goal.invariant_of-self-in_err-cut_out-in-Some
invariant_of-self-in_err-cut_out-in-Some c = let e = c.in_err-cut_out-in-Some.ensures in (e.ordered, same_holes c.self.inside.holes c.cut_out.new.holes _ _ e.err c.self.invariant.1)

pub invariant_of-self-in_err-add_hole-in-None : goal.invariant_of-self-in_err-add_hole-in-None
invariant_of-self-in_err-add_hole-in-None c = let e = c.in_err-add_hole-in-None.ensures in (e.ordered, same_holes c.self.inside.holes c.add_hole.new.holes _ _ e.err c.self.invariant.1)

pub invariant_of-self-in-None : goal.invariant_of-self-in-None
invariant_of-self-in-None c = let m = c.self.inside in let e = c.in_ok-add_hole-in-None.ensures in
    (e.ordered, raise_is_tidy m.holes c.add_hole.new.holes c.self.invariant.0 e.ordered m.end m.limit c.args.from c.args.to c.self.invariant.1 c.requires.order (subst (λ r. IsFree r c.args.from c.args.to) (sym c.self.view_is) c.requires.free) c.in-None.ensures (subst (λ n. c.args.to ≤ n) (sym (ap (λ r. r.limit) c.self.view_is)) c.requires.within) e.ok c.requires.whole.0 c.requires.whole.1)

pub returns-in_ok-cut_out-in-Some-clause-ok : goal.returns-in_ok-cut_out-in-Some-clause-ok
returns-in_ok-cut_out-in-Some-clause-ok c = let m = c.self.inside in let h = c.in-Some.ensures in let e = c.in_ok-cut_out-in-Some.ensures in
    subst (λ r. IsFilled r c.args.from c.args.to (room_of c.cut_out.new.holes m.end m.limit)) c.self.view_is (filled_hole m.holes c.cut_out.new.holes c.self.invariant.0 e.ordered m.end m.limit c.args.from c.args.to c.self.invariant.1 c.requires.order (subst (λ r. IsFree r c.args.from c.args.to) (sym c.self.view_is) c.requires.free) c.in-Some.hole.1 c.in-Some.hole.0 h.0 h.1 h.2 e.ok c.requires.whole.0 c.requires.whole.1)

pub returns-in_ok-add_hole-in-None-clause-ok : goal.returns-in_ok-add_hole-in-None-clause-ok
returns-in_ok-add_hole-in-None-clause-ok c = let m = c.self.inside in let e = c.in_ok-add_hole-in-None.ensures in
    subst (λ r. IsFilled r c.args.from c.args.to (room_of c.add_hole.new.holes c.args.to m.limit)) c.self.view_is (filled_end m.holes c.add_hole.new.holes c.self.invariant.0 e.ordered m.end m.limit c.args.from c.args.to c.self.invariant.1 c.requires.order (subst (λ r. IsFree r c.args.from c.args.to) (sym c.self.view_is) c.requires.free) c.in-None.ensures (subst (λ n. c.args.to ≤ n) (sym (ap (λ r. r.limit) c.self.view_is)) c.requires.within) e.ok c.requires.whole.0 c.requires.whole.1)
