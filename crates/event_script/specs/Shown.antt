-- What is given of a script, and what is shown of what was sent.
use Rattle.std.specs.Prelude.{◌≡◌, ℕ, List, [], ◌∷◌, ◌++◌, length, Bool, true, false, codes, decimal}
use Rattle.std.specs.List.{flat_map}
use Rattle.outside_traits.specs.Memory.{link_sent, link_calls, link_gone, link_losses}
use Rattle.outside_traits.specs.declared.link.MemLink.{MemLink}
use Rattle.outside_traits.specs.declared.link.SentPiece.{SentPiece}

-- nothing was asked of the link and nothing was sent; none of its calls is to fail, and no send to be
-- lost: each send takes all its bytes
pub record IsFresh (link : MemLink) : Type 0 where
  pub sent : link_sent link ≡ []
  pub made : (link_calls link).made ≡ 0
  pub faults : (link_calls link).faults ≡ 0
  pub short : (link_calls link).short ≡ 0
  pub losses : link_losses link ≡ 0
  pub fails : (link_calls link).fails.items ≡ []
  pub gone : link_gone link ≡ []

-- the bytes that went to a connection, with how many they are: nothing where there are none
abbrev pub shown_bytes : ℕ → List ℕ → List ℕ
shown_bytes conn [] = []
shown_bytes conn (byte ∷ bytes) = codes "sent " ++ decimal conn ++ 32 ∷ decimal (length (byte ∷ bytes)) ++ 10 ∷ byte ∷ bytes ++ 10 ∷ []

-- whether the connection was closed
abbrev pub shown_end : ℕ → Bool → List ℕ
shown_end conn true = codes "close " ++ decimal conn ++ 10 ∷ []
shown_end conn false = []

-- one send: the last of a reply, or of a connection that was refused, closed its connection
abbrev pub shown : SentPiece → List ℕ
shown s = shown_bytes s.conn s.bytes ++ shown_end s.conn s.last

-- what was sent, in order
abbrev pub output_of : List SentPiece → List ℕ
output_of sends = flat_map shown sends
