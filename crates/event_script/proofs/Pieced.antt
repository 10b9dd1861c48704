-- The lines that bring bytes, and texts that are no such line.
use Rattle.std.proofs.Common.{◌≡◌, ◌≢◌, ℕ, ◌<◌, ◌≤◌, List, [], ◌∷◌, ◌++◌, length, codes, decimal, sym, ap, ◌∙◌, arith, append_assoc}
use Rattle.std.specs.List.{All}
use Rattle.hex.specs.Hex.{encode_lower}
use Rattle.outside_traits.specs.declared.link.Event.TheVariants as event
use Rattle.event_script.specs.declared.line.Said.TheVariants as said
use Rattle.event_script.specs.Line.{piece, written, IsPiece, ReadsAs, IsNoLine}
use Rattle.event_script.specs.Reading.{IsOnConn}
use Rattle.event_script.proofs.Cuts.{all_behind, same_conn}
use Rattle.event_script.proofs.Keywords.{behind_piece, behind_line}

pub reads_piece : (rest digits bytes : List ℕ) (number conn : ℕ) → IsOnConn rest number digits → conn ≡ number → IsPiece bytes × (digits ≡ encode_lower bytes)
    → ReadsAs (codes "piece " ++ rest) (said.Happens (event.Piece conn bytes))
reads_piece rest digits bytes number conn on same are = (
  piece number bytes,
  (on.0, are.0),
  ap (λ (r : List ℕ). codes "piece " ++ r) (on.1 ∙ ap (λ d. decimal number ++ 32 ∷ d) are.1),
  ap (λ n. said.Happens (event.Piece n bytes)) (sym same),
)

pub no_piece : (rest digits : List ℕ) (number : ℕ) → IsOnConn rest number digits → ((bytes : List ℕ) → IsPiece bytes → digits ≢ encode_lower bytes)
    → IsNoLine (codes "piece " ++ rest)
no_piece rest digits number on wrong line fits is =
    let found = behind_piece rest line fits is in
    wrong found.1 found.4 (same_conn number found.0 digits (encode_lower found.1) on.0 found.3 (sym on.1 ∙ found.5)).1

pub reads_text : (rest text bytes : List ℕ) (number conn : ℕ) → IsOnConn rest number text → conn ≡ number → All (λ c. c ≢ 10) rest → length text ≤ 65534
    → bytes ≡ text ++ 13 ∷ 10 ∷ [] → ReadsAs (codes "line " ++ rest) (said.Happens (event.Piece conn bytes))
reads_text rest text bytes number conn on same clean short are =
    let apart : rest ≡ (decimal number ++ 32 ∷ []) ++ text = on.1 ∙ sym (append_assoc (decimal number) (32 ∷ []) text) in (
      written number text,
      (on.0, record { each = all_behind (λ c. c ≢ 10) (decimal number ++ 32 ∷ []) text rest apart clean; most = short }),
      ap (λ (r : List ℕ). codes "line " ++ r) on.1,
      ap (λ n. said.Happens (event.Piece n (text ++ 13 ∷ 10 ∷ []))) (sym same) ∙ ap (λ b. said.Happens (event.Piece conn b)) (sym are),
    )

pub no_text : (rest text : List ℕ) (number : ℕ) → IsOnConn rest number text → 65534 < length text → IsNoLine (codes "line " ++ rest)
no_text rest text number on long line fits is =
    let found = behind_line rest line fits is in
    let same = same_conn number found.0 text found.1 on.0 found.3 (sym on.1 ∙ found.5) in
    absurd (omega (arith, long, ap length same.1, found.4.most))
