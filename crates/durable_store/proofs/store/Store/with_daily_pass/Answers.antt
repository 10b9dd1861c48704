use Rattle.durable_store.proofs.store.Store.with_daily_pass.Goals as goal

pub returns-clause-held : goal.returns-clause-held
returns-clause-held g c = λ h others owned held. c.in_ok-store.ensures.held h others owned held
