use Rattle.bench_index.proofs.paged.Given as goal

abbrev pub ghosts-pages : goal.ghosts-pages
ghosts-pages a = record { name = a.blank.name; parts = a.blank.parts }
