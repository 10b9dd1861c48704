use Rattle.storage_tests.proofs.index.newest_rows.Given as goal

abbrev pub ghosts-newest : goal.ghosts-newest
ghosts-newest g a = record { name = a.blank.name; parts = a.blank.parts }
