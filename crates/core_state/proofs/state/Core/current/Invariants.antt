use Rattle.core_state.proofs.state.Core.current.Given as goal

abbrev pub ghosts-current_of : goal.ghosts-current_of
ghosts-current_of a = record { name = a.blank.name; parts = a.blank.parts }
