-- What the reader has of a script so far: words for its own clauses.
use Rattle.std.specs.Prelude.{◌≡◌, ◌≢◌, ℕ, ◌+◌, ◌<◌, ◌^◌, List, [], ◌∷◌, ◌++◌, length, map, fold, Bool, true, false, ◌||◌, Result, Ok, Err, decimal}
use Rattle.hex.specs.Hex.{encode_lower}
use Rattle.b2_base.specs.declared.failure.Or.{Or}
use Rattle.b2_base.specs.declared.failure.Or.TheVariants as or
use Rattle.outside_traits.specs.Links.{IsShort}
use Rattle.event_script.specs.Line.{Line, says, IsPiece, ReadsAs, IsNoLine}
use Rattle.event_script.specs.Script.{text_of, ready_lines, reading_after, timed_part, timed_of, word_part, words_of, IsBeginning}
use Rattle.event_script.specs.declared.line.Said.{Said}
use Rattle.event_script.specs.declared.line.Said.TheVariants as said
use Rattle.event_script.specs.declared.line.WrongLine.{WrongLine}
use Rattle.event_script.specs.declared.reader.Reader.{Reader}

-- the text is a line that says this, or no line
abbrev pub Reads : List ℕ → Result Said (Or WrongLine) → Type 0
Reads text (Ok what) = ReadsAs text what
Reads text (Err or.Memory) = Unit {0}
Reads text (Err (or.Fault wrong)) = IsNoLine text

-- the text is the number of a connection, a space, and this
abbrev pub IsOnConn : List ℕ → ℕ → List ℕ → Type 0
IsOnConn text conn rest = (conn < 2 ^ 32) × (text ≡ decimal conn ++ 32 ∷ rest)

-- the digits are those of a piece, and these are its bytes; or they are those of none
abbrev pub ReadsDigits : List ℕ → Result (List ℕ) (Or WrongLine) → Type 0
ReadsDigits digits (Ok bytes) = IsPiece bytes × (digits ≡ encode_lower bytes)
ReadsDigits digits (Err or.Memory) = Unit {0}
ReadsDigits digits (Err (or.Fault wrong)) = (bytes : List ℕ) → IsPiece bytes → digits ≢ encode_lower bytes

-- an event that is said is short
abbrev pub IsShortSaid : Said → Type 0
IsShortSaid (said.Happens e) = IsShort e
IsShortSaid what = Unit {0}

abbrev pub is_stop : Said → Bool
is_stop said.Stop = true
is_stop what = false

-- one of the lines is stop
abbrev pub is_ended : List Line → Bool
is_ended [] = false
is_ended (line ∷ lines) = is_stop (says line) || is_ended lines

-- the clock's reading after the lines
abbrev pub now_of : List Line → ℕ
now_of lines = fold reading_after 0 (map says lines)

-- a reader took what a line says
pub record AddsSaid (what : Said) (old new : Reader) : Type 0 where
  pub now : new.reading ≡ reading_after old.reading what
  pub timed : new.script.timed.items ≡ old.script.timed.items ++ timed_part old.reading what
  pub words : new.script.words.items ≡ old.script.words.items ++ word_part what
  pub ended : new.is_ended ≡ (old.is_ended || is_stop what)
  pub ready : new.ready ≡ old.ready
  pub size : new.size ≡ old.size

-- these lines were read, and no others
pub record Progress (lines : List Line) (reader : Reader) : Type 0 where
  pub beginning : IsBeginning lines
  pub now : reader.reading ≡ now_of lines
  pub timed : reader.script.timed.items ≡ timed_of lines
  pub words : reader.script.words.items ≡ words_of lines
  pub ended : reader.is_ended ≡ is_ended lines
  pub ready : reader.ready ≡ ready_lines lines
  pub size : reader.size ≡ length (text_of lines)

-- the reader took these lines of the bytes, and comes to the line of this number, where rest stands
pub record Stands (bytes : List ℕ) (lines : List Line) (reader : Reader) (rest : List ℕ) (number : ℕ) : Type 0 where
  pub progress : Progress lines reader
  pub bytes_are : bytes ≡ text_of lines ++ rest
  pub number_is : number ≡ length lines + 1
