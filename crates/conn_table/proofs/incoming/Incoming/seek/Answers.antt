use Rattle.std.proofs.Common.{◌≡◌, ◌∙◌, ◌++◌, [], refl, sym, ap, subst, List, ℕ, length, take, IfOk, arith}
use Rattle.std.proofs.lemmas.List.{take-append-le}
use Rattle.http_edge.specs.declared.cut.Cut.TheVariants.{Head as HeadCut, NotYet, TooLong}
use Rattle.http_edge.specs.Cut.{IsCut}
use Rattle.rule_table.specs.declared.fault.FaultKind.TheVariants.{LongHead}
use Rattle.conn_talk.specs.Asked.{nothing}
use Rattle.conn_table.specs.declared.incoming.Incoming.{Incoming}
use Rattle.conn_table.specs.declared.incoming.Stage.TheVariants as stage
use Rattle.conn_table.specs.Incoming.{Gives}
use Rattle.conn_table.proofs.Steps.{gives_seeking, by_acts, asks_long}
use Rattle.conn_table.proofs.incoming.Incoming.seek.Goals as goal

pub cut_head-requires-clause-none : goal.cut_head-requires-clause-none
cut_head-requires-clause-none c = λ some.
    let seen = c.args.seen in
    let old = c.args.self.now.bytes.items in
    let more = c.args.bytes.now in
    let all : c.deref.result.now ≡ old ++ more = c.deref.ensures.value ∙ c.in_ok-extend_from_slice.ensures.items in
    let same : take seen c.deref.result.now ≡ take seen old = ap (take seen) all ∙ take-append-le seen old more c.requires.0 in
    subst (λ (l : List ℕ). IsCut l NotYet) (sym same) (c.requires.1 some)

pub read-requires : goal.read-requires
read-requires c = subst (λ (l : List ℕ). IsCut l (HeadCut c.in-Head.end)) c.deref.ensures.value c.in-Head.ensures

pub returns-in-Head : goal.returns-in-Head
returns-in-Head c = λ before flags no_head.
    subst (λ (l : List ℕ). IfOk c.read.result (λ acts. Gives before l nothing [] acts.items c.read.new.self)) c.in_ok-extend_from_slice.ensures.items (c.read.ensures before (record { before_is = flags.before_is; stay_is = flags.stay_is; upload_is = flags.upload_is }) no_head)

pub returns-in-NotYet : goal.returns-in-NotYet
returns-in-NotYet c = λ before flags no_head.
    let old = c.args.self.now in
    let bytes = old.bytes.items ++ c.args.bytes.now in
    let k : Incoming = record { before = old.before; stage = stage.Seeking c.len.result; bytes = c.extend_from_slice.new.self; head = old.head; stay = old.stay; upload = old.upload } in
    let all : c.deref.result.now ≡ bytes = c.deref.ensures.value ∙ c.in_ok-extend_from_slice.ensures.items in
    let long = ap length c.in_ok-extend_from_slice.ensures.items in
    let size : c.len.result ≡ length bytes = omega (arith, long, c.len.ensures) in
    by_acts before bytes nothing [] c.new.result.items [] k c.new.ensures.items
    (gives_seeking before bytes k c.len.result (record { before_is = flags.before_is; stay_is = flags.stay_is; upload_is = flags.upload_is }) refl size c.in_ok-extend_from_slice.ensures.items no_head (subst (λ (l : List ℕ). IsCut l NotYet) all c.in-NotYet.ensures))

pub returns-in-TooLong : goal.returns-in-TooLong
returns-in-TooLong c = λ before flags no_head.
    let bytes = c.args.self.now.bytes.items ++ c.args.bytes.now in
    let all : c.deref.result.now ≡ bytes = c.deref.ensures.value ∙ c.in_ok-extend_from_slice.ensures.items in
    c.refuse.ensures before bytes LongHead (record { before_is = flags.before_is; stay_is = flags.stay_is; upload_is = flags.upload_is }) no_head c.plain.ensures (asks_long before bytes (subst (λ (l : List ℕ). IsCut l TooLong) all c.in-TooLong.ensures))
