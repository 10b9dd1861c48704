-- The lines of a script, each with its one spelling, and what each says.
use Rattle.std.specs.Prelude.{◌≡◌, ◌≢◌, ℕ, ◌<◌, ◌≤◌, ◌^◌, List, [], ◌∷◌, ◌++◌, length, All, codes, decimal}
use Rattle.hex.specs.Hex.{encode_lower, IsBytes}
use Rattle.b2_base.specs.Digits.{sixteen_digits}
use Rattle.outside_traits.specs.declared.link.Event.TheVariants as event
use Rattle.event_script.specs.declared.line.Said.{Said}
use Rattle.event_script.specs.declared.line.Said.TheVariants as said

pub data Line : Type 0 where
  -- the clock's reading, in milliseconds
  reading : ℕ → Line
  -- the next random word
  random : ℕ → Line
  -- a connection opens
  opening : ℕ → Line
  -- bytes come on a connection, written as hex digits
  piece : ℕ → List ℕ → Line
  -- a text comes on a connection, with CR and LF behind it
  written : ℕ → List ℕ → Line
  -- a connection can take bytes
  ready : ℕ → Line
  -- a connection is lost
  gone : ℕ → Line
  stop : Line

-- the line as it is written, without its line feed
abbrev pub line_text : Line → List ℕ
line_text (reading time) = codes "at " ++ decimal time
line_text (random word) = codes "word " ++ sixteen_digits word
line_text (opening conn) = codes "open " ++ decimal conn
line_text (piece conn bytes) = codes "piece " ++ decimal conn ++ 32 ∷ encode_lower bytes
line_text (written conn text) = codes "line " ++ decimal conn ++ 32 ∷ text
line_text (ready conn) = codes "ready " ++ decimal conn
line_text (gone conn) = codes "gone " ++ decimal conn
line_text stop = codes "stop"

-- 1 to 65,536 bytes, which are 2 to 131,072 digits
pub record IsPiece (bytes : List ℕ) : Type 0 where
  pub each : IsBytes bytes
  pub some : 0 < length bytes
  pub most : length bytes ≤ 65536

-- a text of one line, which with CR and LF is a piece
pub record IsText (text : List ℕ) : Type 0 where
  pub each : All (λ byte. byte ≢ 10) text
  pub most : length text ≤ 65534

-- its numbers are in their ranges, and what comes has a length that may come
abbrev pub Fits : Line → Type 0
Fits (reading time) = time < 2 ^ 64
Fits (random word) = word < 2 ^ 64
Fits (opening conn) = conn < 2 ^ 32
Fits (piece conn bytes) = (conn < 2 ^ 32) × IsPiece bytes
Fits (written conn text) = (conn < 2 ^ 32) × IsText text
Fits (ready conn) = conn < 2 ^ 32
Fits (gone conn) = conn < 2 ^ 32
Fits stop = Unit {0}

-- what it says: a piece may be written in two ways
abbrev pub says : Line → Said
says (reading time) = said.Reading time
says (random word) = said.Random word
says (opening conn) = said.Happens (event.Open conn)
says (piece conn bytes) = said.Happens (event.Piece conn bytes)
says (written conn text) = said.Happens (event.Piece conn (text ++ 13 ∷ 10 ∷ []))
says (ready conn) = said.Happens (event.Ready conn)
says (gone conn) = said.Happens (event.Gone conn)
says stop = said.Stop

-- the text is a line that says this
abbrev pub ReadsAs : List ℕ → Said → Type 0
ReadsAs text what = (line : Line) × Fits line × (text ≡ line_text line) × (says line ≡ what)

-- the text is no line
abbrev pub IsNoLine : List ℕ → Type 0
IsNoLine text = (line : Line) → Fits line → text ≢ line_text line
