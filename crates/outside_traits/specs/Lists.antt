-- What the list forms of clocks and words are still to give.
use Rattle.std.specs.Prelude.{ℕ, List, drop}
use Rattle.outside_traits.specs.declared.clock.ListClock.{ListClock}
use Rattle.outside_traits.specs.declared.words.ListWords.{ListWords}

abbrev pub clock_ahead : ListClock → List ℕ
clock_ahead c = drop c.at c.readings.items

-- the reading that was given last: 0 before the first
abbrev pub clock_last : ListClock → ℕ
clock_last c = c.last

abbrev pub words_ahead : ListWords → List ℕ
words_ahead w = drop w.at w.words.items
