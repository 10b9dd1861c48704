use Rattle.std.proofs.Common.{ℕ, ◌∙◌, ap, rules, tests}
use Rattle.std.specs.Option.{option_map}
use Rattle.std.proofs.lemmas.Iterator.Search.{find_from_yields_List}
use Rattle.std.proofs.lemmas.Iterator.Consumers.{YieldsList-from_rest}
use Rattle.extent_space.specs.Room.{has_room}
use Rattle.extent_space.specs.Holes.{hole_of}
use Rattle.extent_space.proofs.space.front_of.Goals as goal

pub returns-in_err-from : goal.returns-in_err-from
returns-in_err-from c = let h = find_from_yields_List (λ e. has_room c.args.room (hole_of e)) _ _ c.find.result c.find.ensures.ran (YieldsList-from_rest c.args.holes.now.entries c.iter.ensures.rest) (λ x b q k. search (rules, tests)) in
    c.from_residual.ensures ∙ ap (option_map {T = ℕ × ℕ} {U = ℕ} (λ e. e.1)) (rw c.in_err-from.was at h)

pub returns : goal.returns
returns c = let h = find_from_yields_List (λ e. has_room c.args.room (hole_of e)) _ _ c.find.result c.find.ensures.ran (YieldsList-from_rest c.args.holes.now.entries c.iter.ensures.rest) (λ x b q k. search (rules, tests)) in
    ap (option_map {T = ℕ × ℕ} {U = ℕ} (λ e. e.1)) (rw c.in_ok-from.was at h)
