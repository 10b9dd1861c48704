use Rattle.std.proofs.Common.{◌≡◌, refl, ap, sym, ◌∙◌, subst}
use Rattle.std.proofs.lemmas.Bool.{false≢true}
use Rattle.b2_server.specs.Store.{IsAt, begun_at}
use Rattle.b2_server.specs.declared.store.FirstStore.{FirstStore}
use Rattle.b2_server.proofs.Told.{refuses_none, refuses_other, refuses_full, gives_account}
use Rattle.b2_server.proofs.store.FirstStore.authorize.Goals as goal

pub returns-in_default-clause-refused : goal.returns-in_default-clause-refused
returns-in_default-clause-refused c = λ P at.
    refuses_none c.begin-t.new.self P c.args.reading c.begin-t.result c.args.call.now c.plain.result (c.begin-t.ensures.moment P.state P.words at) (c.begin-t.ensures.begun P.state P.words at) c.in_default.is c.plain.ensures

pub returns-then-not-is_master-clause-refused : goal.returns-then-not-is_master-clause-refused
returns-then-not-is_master-clause-refused c = λ P at.
    refuses_other c.begin-t.new.self P c.args.reading c.begin-t.result c.args.call.now c.in-Some.credentials c.plain-then-not-is_master.result (c.begin-t.ensures.moment P.state P.words at) (c.begin-t.ensures.begun P.state P.words at)
    c.in-Some.is (λ same. false≢true (c.if-not-is_master.ensures.1 same)) c.plain-then-not-is_master.ensures

pub returns-in-Err-Fault-clause-refused : goal.returns-in-Err-Fault-clause-refused
returns-in-Err-Fault-clause-refused c = λ P at.
    let own = c.if-not-is_master.ensures.0 refl in
    let begun = c.begin-t.ensures.begun P.state P.words at in
    let same : c.new_token.new.self ≡ c.begin-t.new.self = rw c.in-Err-Fault.field-0-is at c.in-Err-Fault.ensures.unchanged in
    let full = (rw c.in-Err-Fault.field-0-is at c.in-Err-Fault.ensures.end) (begun_at P.state c.begin-t.result) P.words begun in
    let Q : FirstStore → Type 0 = λ s. IsAt s (begun_at P.state c.begin-t.result) P.words in
    refuses_full c.new_token.new.self P c.args.reading c.begin-t.result c.args.call.now c.in-Some.credentials c.plain-in-Err-Fault.result (c.begin-t.ensures.moment P.state P.words at) (subst Q (sym same) begun)
    c.in-Some.is (own.0 ∙ ap (λ (s : FirstStore). s.settings.account) (sym same)) (own.1 ∙ ap (λ (s : FirstStore). s.settings.secret_hash) (sym same)) full c.plain-in-Err-Fault.ensures

pub returns-clause-given : goal.returns-clause-given
returns-clause-given c = λ P at.
    let own = c.if-not-is_master.ensures.0 refl in
    let begun = c.begin-t.ensures.begun P.state P.words at in
    gives_account c.begin-t.new.self c.new_token.new.self P c.args.reading c.begin-t.result c.args.call.now c.in-Some.credentials c.in-Ok.token c.in_ok-account.account (c.begin-t.ensures.moment P.state P.words at) begun
    c.in-Some.is own.0 own.1 (c.in-Ok.ensures.given (begun_at P.state c.begin-t.result) P.words begun) c.in-Ok.ensures.settings c.in_ok-account.ensures
