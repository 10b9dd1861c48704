-- What holds at every moment of a run, call by call.
use Rattle.std.proofs.Common.{inl, inr, ⊎_elim, arith}
use Rattle.disk_model.specs.declared.area.DiskImage.{DiskImage}
use Rattle.disk_model.specs.State.{DiskState, Elapses, Rests, Changes, After, LeavesOnly}

-- before the first call
pub started : (old : DiskState) (P : DiskImage → Type 0) → ((c : DiskImage) → old.may_leave c → P c) → LeavesOnly old old P
started old P here = record {
  later = omega arith;
  each = λ c left. here c (old.only_now c left);
  before = λ t c le left. inl left;
}

-- one call more, after which a crash leaves what has P
pub goes_on : (old mid new : DiskState) (P : DiskImage → Type 0) → LeavesOnly old mid P → Elapses mid new → ((c : DiskImage) → new.may_leave c → P c) → LeavesOnly old new P
goes_on old mid new P so_far time here = record {
  later = omega (arith, so_far.later, time.later);
  each = λ c left. ⊎_elim (so_far.each c) (here c) (time.nothing_else old.moment c so_far.later left);
  before = λ t c le left. ⊎_elim (so_far.before t c le) (λ now. inr (here c now)) (time.nothing_else t c (omega (arith, le, so_far.later)) left);
}

-- a whole run more
pub joins : (old mid new : DiskState) (P : DiskImage → Type 0) → LeavesOnly old mid P → LeavesOnly mid new P → LeavesOnly old new P
joins old mid new P first second = record {
  later = omega (arith, first.later, second.later);
  each = λ c left. ⊎_elim (first.each c) (λ p. p) (second.before old.moment c first.later left);
  before = λ t c le left. ⊎_elim (first.before t c le) (λ p. inr p) (second.before t c (omega (arith, le, first.later)) left);
}

-- less is said
pub weakens : (old new : DiskState) (P Q : DiskImage → Type 0) → LeavesOnly old new P → ((c : DiskImage) → P c → Q c) → LeavesOnly old new Q
weakens old new P Q run less = record {
  later = run.later;
  each = λ c left. less c (run.each c left);
  before = λ t c le left. ⊎_elim (λ was. inl was) (λ p. inr (less c p)) (run.before t c le left);
}

-- what may be left now
pub now_has : (old new : DiskState) (P : DiskImage → Type 0) → LeavesOnly old new P → (c : DiskImage) → new.may_leave c → P c
now_has old new P run c now = run.each c (new.counts_now old.moment c run.later now)

-- a call that changes nothing
pub rested : (old mid new : DiskState) (P : DiskImage → Type 0) → LeavesOnly old mid P → Rests mid new → LeavesOnly old new P
rested old mid new P so_far rests = goes_on old mid new P so_far rests.time (λ c now. now_has old mid P so_far c (rests.crash c now))

-- one step, which may not have been made
pub stepped : (step : DiskImage → DiskImage → Type 0) → ((c : DiskImage) → step c c) → (old new : DiskState) → Changes step old new → LeavesOnly old new (After old step)
stepped step not_made old new changes =
    goes_on old old new (After old step) (started old (After old step) (λ c now. (c, now, not_made c))) changes.time changes.crash
