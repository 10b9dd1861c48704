use Rattle.sound_states.proofs.Made.{new_store_sound}
use Rattle.b2_model.specs.Changes.{new_store}
use Rattle.sound_steps.proofs.Outcomes.{run_sound}
use Rattle.given_once.proofs.TokenLaws.{stands_last}
use Rattle.given_once.proofs.tokens_stand_by_text.Goals as goal

pub returns-clause-run : goal.returns-clause-run
returns-clause-run g c K settings t words steps fit = (run_sound K (new_store settings t) words steps (new_store_sound settings t) fit).tokens.order

pub returns-clause-last : goal.returns-clause-last
returns-clause-last g c K P s token sound given = stands_last K P s token sound given
