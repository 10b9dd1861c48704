use Rattle.std.proofs.Common.{◌++◌, ◌≡◌, sym, subst, Option, Some, MatchOption}
use Rattle.http_edge.specs.declared.head.Head.{Head}
use Rattle.conn_talk.specs.Asked.{IsRead}
use Rattle.conn_talk.proofs.Came.{read_more}
use Rattle.conn_table.specs.Incoming.{IsGathering}
use Rattle.conn_table.proofs.incoming.Incoming.gather_more.Goals as goal

pub returns : goal.returns
returns c = λ before got flags gathering.
    let head = c.in-Some.head in
    let kept = c.args.self.now.bytes.items in
    let more = c.args.bytes.now in
    let has : c.args.self.now.head ≡ Some head = sym c.in-Some.ensures.value in
    let here : IsGathering before got head kept = subst (λ (o : Option Head). MatchOption o ⊥ (λ h. IsGathering before got h kept)) has gathering in
    let read : IsRead before (got ++ more) head c.extend_from_slice.new.self.items = subst (IsRead before (got ++ more) head) (sym c.in_ok-extend_from_slice.ensures.items) (read_more before got more head kept here.read) in
    c.gather.ensures before (got ++ more) (record { before_is = flags.before_is; stay_is = flags.stay_is; upload_is = flags.upload_is }) c.replace.ensures.after read here.call
