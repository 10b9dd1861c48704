-- A script: its lines in order, its limits, and what the lines say together.
use Rattle.std.specs.Prelude.{◌≡◌, ℕ, ◌+◌, ◌≤◌, List, [], ◌∷◌, ◌++◌, length, map, filter, Bool, true, false, Result, Ok, Err}
use Rattle.std.specs.List.{flat_map, AllByRecursion}
use Rattle.b2_base.specs.declared.failure.Or.{Or}
use Rattle.b2_base.specs.declared.failure.Or.TheVariants as or
use Rattle.outside_traits.specs.Causes.{Rose}
use Rattle.outside_traits.specs.declared.link.Event.{Event}
use Rattle.outside_traits.specs.declared.link.Event.TheVariants as event
use Rattle.event_script.specs.declared.script.Timed.{Timed}
use Rattle.event_script.specs.declared.script.Script.{Script}
use Rattle.event_script.specs.declared.script.ScriptFault.{ScriptFault}
use Rattle.event_script.specs.declared.script.ScriptFault.TheVariants as fault
use Rattle.event_script.specs.declared.line.Said.{Said}
use Rattle.event_script.specs.declared.line.Said.TheVariants as said
use Rattle.event_script.specs.Line.{Line, stop, line_text, Fits, says}

-- the lines as they are written, each ended by a line feed
abbrev pub text_of : List Line → List ℕ
text_of lines = flat_map (λ line. line_text line ++ 10 ∷ []) lines

-- behind stop stands nothing
abbrev pub StopsOnce : List Line → Type 0
StopsOnce [] = Unit {0}
StopsOnce (line ∷ lines) = (line ≡ stop → lines ≡ []) × StopsOnce lines

abbrev pub is_ready : Said → Bool
is_ready (said.Happens (event.Ready conn)) = true
is_ready what = false

-- how many of the lines say that a connection can take bytes
abbrev pub ready_lines : List Line → ℕ
ready_lines lines = length (filter is_ready (map says lines))

-- the lines begin a script: so far they are in order, and within its limits
pub record IsBeginning (lines : List Line) : Type 0 where
  pub each : AllByRecursion Fits lines
  pub order : StopsOnce lines
  pub ready : ready_lines lines ≤ 16384
  pub size : length (text_of lines) ≤ 67108864

-- the lines are a script: they begin one, and the last is stop
pub record IsScript (lines : List Line) : Type 0 where
  pub beginning : IsBeginning lines
  pub ended : (before : List Line) × (lines ≡ before ++ stop ∷ [])

-- the bytes are a script of these lines
abbrev pub ReadsScript : List ℕ → List Line → Type 0
ReadsScript bytes lines = IsScript lines × (bytes ≡ text_of lines)

-- The line of this number, counted from 1, is the first that is wrong: the lines before it begin a
-- script and aren't a whole one with nothing after it, and no line at its place goes on with them.
pub record IsFirstWrong (bytes : List ℕ) (number : ℕ) (before : List Line) (rest : List ℕ) : Type 0 where
  pub beginning : IsBeginning before
  pub bytes_are : bytes ≡ text_of before ++ rest
  pub number_is : number ≡ length before + 1
  pub unfinished : IsScript before → rest ≡ [] → ⊥
  pub wrong : (line : Line) (more : List ℕ) → rest ≡ line_text line ++ 10 ∷ more → IsBeginning (before ++ line ∷ []) → ⊥

abbrev pub HasFirstWrong : List ℕ → ℕ → Type 0
HasFirstWrong bytes number = (before : List Line) × (rest : List ℕ) × IsFirstWrong bytes number before rest

-- the clock's reading after a line, from that before it
abbrev pub reading_after : ℕ → Said → ℕ
reading_after now (said.Reading time) = time
reading_after now what = now

-- the event of a line, with the reading at it
abbrev pub timed_part : ℕ → Said → List Timed
timed_part now (said.Happens e) = record { reading = now; event = e } ∷ []
timed_part now what = []

-- the events from a reading on, each with the reading at it
abbrev pub timed_from : ℕ → List Said → List Timed
timed_from now [] = []
timed_from now (what ∷ rest) = timed_part now what ++ timed_from (reading_after now what) rest

-- what happens, each event with the reading of the last line before it that gives one, or 0
abbrev pub timed_of : List Line → List Timed
timed_of lines = timed_from 0 (map says lines)

abbrev pub word_part : Said → List ℕ
word_part (said.Random word) = word ∷ []
word_part what = []

-- the random words, in the order of their lines
abbrev pub words_of : List Line → List ℕ
words_of lines = flat_map word_part (map says lines)

-- what a script holds: its events, the clock's reading at each of them, and the random words
abbrev pub script_events : Script → List Event
script_events s = map (λ t. t.event) s.timed.items

abbrev pub script_readings : Script → List ℕ
script_readings s = map (λ t. t.reading) s.timed.items

abbrev pub script_words : Script → List ℕ
script_words s = s.words.items

-- the script says what its lines say
pub record Says (script : Script) (lines : List Line) : Type 0 where
  pub events : script_events script ≡ map (λ t. t.event) (timed_of lines)
  pub readings : script_readings script ≡ map (λ t. t.reading) (timed_of lines)
  pub words : script_words script ≡ words_of lines

-- What a reader of the bytes answers: the script that they are, or their first wrong line. Want of
-- memory and a fault of the source say nothing of the bytes.
abbrev pub GivesScript : List ℕ → Result Script (Or ScriptFault) → Type 0
GivesScript bytes (Ok script) = (lines : List Line) × ReadsScript bytes lines × Says script lines
GivesScript bytes (Err or.Memory) = Unit {0}
GivesScript bytes (Err (or.Fault fault.SourceFault)) = Unit {0}
GivesScript bytes (Err (or.Fault (fault.BadLine number))) = HasFirstWrong bytes number

-- the source's count rose exactly where its fault is answered
abbrev pub HasSourceCause : ℕ → ℕ → Result Script (Or ScriptFault) → Type 0
HasSourceCause before now (Ok script) = now ≡ before
HasSourceCause before now (Err or.Memory) = now ≡ before
HasSourceCause before now (Err (or.Fault fault.SourceFault)) = Rose before now
HasSourceCause before now (Err (or.Fault (fault.BadLine number))) = now ≡ before

-- no line is called wrong
abbrev pub CallsNoLineWrong : Result Script (Or ScriptFault) → Type 0
CallsNoLineWrong (Ok script) = Unit {0}
CallsNoLineWrong (Err or.Memory) = Unit {0}
CallsNoLineWrong (Err (or.Fault fault.SourceFault)) = Unit {0}
CallsNoLineWrong (Err (or.Fault (fault.BadLine number))) = ⊥

-- the line of this number is called wrong, and no other
abbrev pub CallsWrong : ℕ → Result Script (Or ScriptFault) → Type 0
CallsWrong number (Ok script) = ⊥
CallsWrong number (Err or.Memory) = Unit {0}
CallsWrong number (Err (or.Fault fault.SourceFault)) = Unit {0}
CallsWrong number (Err (or.Fault (fault.BadLine called))) = called ≡ number
