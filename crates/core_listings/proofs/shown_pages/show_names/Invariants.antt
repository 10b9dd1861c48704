use Rattle.core_listings.proofs.shown_pages.show_names.Given as goal

abbrev pub ghosts-page_of_names : goal.ghosts-page_of_names
ghosts-page_of_names a = record { name = a.blank.name; parts = a.blank.parts }
