use Rattle.std.proofs.Common.{◌≡◌, ◌<◌, ◌≤◌, [], ◌∷◌, ◌++◌, List, ℕ, length, take, drop, Some, refl, sym, ap, ◌∙◌, subst, arith}
use Rattle.std.proofs.lemmas.List.{take-append-drop, length-take-le}
use Rattle.conn_talk.specs.declared.act.Act.TheVariants as act
use Rattle.conn_talk.specs.Asked.{IsRead, nothing, complete}
use Rattle.conn_table.specs.declared.incoming.Incoming.{Incoming}
use Rattle.conn_table.specs.declared.incoming.Stage.TheVariants as stage
use Rattle.conn_table.specs.Incoming.{IsHeld}
use Rattle.conn_table.proofs.Steps.{by_acts, gives_gathering, gives_call}
use Rattle.conn_table.proofs.incoming.Incoming.gather.Goals as goal

pub returns-then-len-need : goal.returns-then-len-need
returns-then-len-need c = λ before got flags no_head read call.
    let old = c.args.self.now in
    let k : Incoming = record { before = old.before; stage = stage.Gathering; bytes = old.bytes; head = Some c.args.head; stay = old.stay; upload = old.upload } in
    let short : length old.bytes.items < c.args.head.request.length = omega (arith, c.if-len-need.true, c.len.ensures) in
    by_acts before got nothing [] c.new.result.items [] k c.new.ensures.items
    (gives_gathering before got c.args.head old.bytes.items k (record { before_is = flags.before_is; stay_is = flags.stay_is; upload_is = flags.upload_is }) refl refl refl read call short)

pub returns : goal.returns
returns c = λ before got flags no_head read call.
    let head = c.args.head in
    let kept = c.args.self.now.bytes.items in
    let need = head.request.length in
    let fits : need ≤ length kept = omega (arith, c.if-len-need.false, c.len.ensures) in
    let body_is : c.of.result ≡ take need kept = c.of.ensures ∙ c.truncate.ensures.items ∙ ap (λ v. take need v.items) c.replace-body.ensures.value in
    let rest_is : c.deref-2.result.now ≡ drop need kept = c.deref-2.ensures.value ∙ c.in_ok-rest.ensures ∙ ap (drop need) c.deref.ensures.value in
    let none : c.replace-body.new.dest.items ≡ [] = ap (λ v. v.items) c.replace-body.ensures.after ∙ c.new-2.ensures.items in
    let held = subst (λ (l : List ℕ). IsHeld (complete head (take need kept) l) c.complete.new.self.stage c.complete.new.self.bytes.items) rest_is (c.in_ok-complete.ensures.held head (take need kept) none refl) in
    let read_so : IsRead before got head (take need kept ++ drop need kept) = subst (IsRead before got head) (sym (take-append-drop need kept)) read in
    let same = c.complete.ensures.flags in
    by_acts before got nothing [] c.in_ok-vec.field-0.items (act.Whole head (take need kept) ∷ []) c.complete.new.self (c.in_ok-vec.ensures.items ∙ ap (λ (l : List ℕ). act.Whole head l ∷ []) body_is)
    (gives_call before got head (take need kept) (drop need kept) c.complete.new.self read_so (length-take-le need kept fits) call (same.before_is ∙ flags.before_is) same.stay_is (same.upload_is ∙ flags.upload_is) (same.head_is ∙ no_head) held)
