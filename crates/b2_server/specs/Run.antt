-- What a run of the program does, from the script's bytes to the output's bytes.
use Rattle.std.specs.Prelude.{◌≡◌, ℕ, List, [], ◌∷◌, Option, map, codes}
use Rattle.std.specs.Io.KnownBytes.{Appends}
use Rattle.outside_traits.specs.Causes.{Rose}
use Rattle.outside_traits.specs.Bytes.{AppendsFront}
use Rattle.outside_traits.specs.declared.link.Event.{Event}
use Rattle.outside_traits.specs.declared.link.SentPiece.{SentPiece}
use Rattle.event_script.specs.Line.{Line}
use Rattle.event_script.specs.Script.{ReadsScript, HasFirstWrong, timed_of, words_of}
use Rattle.event_script.specs.Shown.{output_of}
use Rattle.served_world.specs.World.{World, start}
use Rattle.served_world.specs.Served.{IsServed, IsShown}
use Rattle.event_loop.specs.Turns.{HasRun}
use Rattle.b2_server.specs.Answer.{reads}
use Rattle.b2_server.specs.Store.{fixed_store, opened_store}
use Rattle.b2_server.specs.declared.run.Status.{Status}
use Rattle.b2_server.specs.declared.run.Status.TheVariants as status

-- the words of the command line are `replay` and no others
abbrev pub IsReplay : List (List ℕ) → Type 0
IsReplay words = words ≡ codes "replay" ∷ []

-- The server begins with the store that was opened once, and is given these random words: the events, each at
-- its reading, are a run in which this is sent. (This word does not unfold by itself.)
unfoldable pub Sends : List ℕ → List Event → List ℕ → List SentPiece → Type 0
Sends words events readings sent = HasRun reads (start (opened_store fixed_store) words) events readings sent

-- this is sent for a script of these lines
abbrev pub SendsFor : List Line → List SentPiece → Type 0
SendsFor lines sent = Sends (words_of lines) (map (λ t. t.event) (timed_of lines)) (map (λ t. t.reading) (timed_of lines)) sent

-- the output for it shows what is sent
abbrev pub IsOutput : List Line → List ℕ → Type 0
IsOutput lines output = (sent : List SentPiece) × SendsFor lines sent × (output ≡ output_of sent)

-- the bytes are a script, and this is the output for it
abbrev pub HasOutput : List ℕ → List ℕ → Type 0
HasOutput bytes output = (lines : List Line) × ReadsScript bytes lines × IsOutput lines output

-- what is sent is what a server sends, by the statement that knows nothing of events
abbrev pub IsServedOutput : List ℕ → List ℕ → Type 0
IsServedOutput bytes output =
    (lines : List Line) × ReadsScript bytes lines × (w : World) × IsServed reads (opened_store fixed_store) (words_of lines) w × IsShown w × (output ≡ output_of w.sends)

-- What a run that ends so says of the script's bytes, and of what the sink held before and holds now.
abbrev pub Leaves : List ℕ → Option (List ℕ) → Option (List ℕ) → Status → Type 0
-- the sink took the output
Leaves bytes old new status.Ok = (output : List ℕ) × HasOutput bytes output × Appends old new output
-- it took a front of it
Leaves bytes old new status.SinkFault = (output : List ℕ) × HasOutput bytes output × AppendsFront old new output
-- the first wrong line has this number
Leaves bytes old new (status.BadLine number) = HasFirstWrong bytes number
Leaves bytes old new status.Usage = Unit {0}
Leaves bytes old new status.Memory = Unit {0}
Leaves bytes old new status.SourceFault = Unit {0}

-- the source's count rose exactly where its fault is answered
abbrev pub SourceCause : ℕ → ℕ → Status → Type 0
SourceCause before now status.SourceFault = Rose before now
SourceCause before now _ = now ≡ before

-- the sink's count rose exactly where its fault is answered
abbrev pub SinkCause : ℕ → ℕ → Status → Type 0
SinkCause before now status.SinkFault = Rose before now
SinkCause before now _ = now ≡ before

-- nothing was written: that is so but at Ok and at a fault of the sink
abbrev pub Quiet : {K : Type 0} → K → K → Status → Type 0
Quiet old new status.Ok = Unit {0}
Quiet old new status.SinkFault = Unit {0}
Quiet old new _ = new ≡ old

-- the run ended well, or for want of memory
abbrev pub IsOkOrMemory : Status → Type 0
IsOkOrMemory status.Ok = Unit {0}
IsOkOrMemory status.Memory = Unit {0}
IsOkOrMemory _ = ⊥

-- the words are those of a run
abbrev pub IsNotUsage : Status → Type 0
IsNotUsage status.Usage = ⊥
IsNotUsage _ = Unit {0}

-- no line is called wrong
abbrev pub IsNotBadLine : Status → Type 0
IsNotBadLine (status.BadLine number) = ⊥
IsNotBadLine _ = Unit {0}

-- the line of this number is called wrong, and no other; or the script wasn't read
abbrev pub CallsWrong : ℕ → Status → Type 0
CallsWrong number status.Ok = ⊥
CallsWrong number status.Usage = ⊥
CallsWrong number status.Memory = Unit {0}
CallsWrong number status.SourceFault = Unit {0}
CallsWrong number status.SinkFault = ⊥
CallsWrong number (status.BadLine called) = called ≡ number
