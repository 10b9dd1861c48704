use Rattle.storage_tests.proofs.pages.pages_of_unfinished.Given as goal

abbrev pub ghosts-unfinished : goal.ghosts-unfinished
ghosts-unfinished g a = record { name = a.blank.name; parts = a.blank.parts }
