use Rattle.core_listings.proofs.shown_pages.show_starts.Given as goal

abbrev pub ghosts-page_of_starts : goal.ghosts-page_of_starts
ghosts-page_of_starts a = record { name = a.blank.name; parts = a.blank.parts }
