use Rattle.core_listings.proofs.shown_pages.show_versions.Given as goal

abbrev pub ghosts-page_of_versions : goal.ghosts-page_of_versions
ghosts-page_of_versions a = record { name = a.blank.name; parts = a.blank.parts }
