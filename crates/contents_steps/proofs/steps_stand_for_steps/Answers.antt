use Rattle.contents_steps.proofs.Stands.{other_stands, step_stands, answer_stands, turns_stand, turns_answer}
use Rattle.contents_steps.proofs.steps_stand_for_steps.Goals as goal

pub returns-clause-step : goal.returns-clause-step
returns-clause-step g c f P Q R S s sizes copies stands = step_stands f P Q sizes R S s copies stands

pub returns-clause-answer : goal.returns-clause-answer
returns-clause-answer g c f P Q R S s sizes copies stands = answer_stands f P Q sizes R S s copies stands

pub returns-clause-other : goal.returns-clause-other
returns-clause-other g c f h R S agree stands = other_stands f h R S agree stands

pub returns-clause-run : goal.returns-clause-run
returns-clause-run g c f Q R S us are stands = turns_stand Q f R S us are stands

pub returns-clause-answers : goal.returns-clause-answers
returns-clause-answers g c f Q R S us are stands = turns_answer Q f R S us are stands
