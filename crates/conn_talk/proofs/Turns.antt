-- What a piece makes of a talk.
use Rattle.std.proofs.Common.{◌≡◌, ℕ, List, ◌++◌, Option, Some, None, sym, ap, ◌∙◌}
use Rattle.conn_talk.specs.declared.act.Act.{Act}
use Rattle.conn_talk.specs.declared.pending.Pending.{Pending}
use Rattle.conn_talk.specs.Asked.{Asked}
use Rattle.conn_talk.specs.Acts.{acts_after}
use Rattle.conn_talk.specs.Talk.{Talk, TakesPiece}
use Rattle.conn_talk.proofs.Once.{one_asked}

module _ {B : Type 0} where
  abbrev talk : ℕ → List ℕ → Asked → Option (Pending B) → Talk B
  talk before got told reply = record { before = before; got = got; told = told; reply = reply }

  by_reply : (before : ℕ) (got : List ℕ) (told : Asked) (o : Option (Pending B)) (bytes : List ℕ) (acts more : List Act) (b c : Talk B) → TakesPiece (talk before got told o) bytes acts b → TakesPiece (talk before got told o) bytes more c
      → (acts ≡ more) × (b ≡ c)
  by_reply before got told None bytes acts more b c (new, asked, acts_are, is) (other, also, more_are, same) =
      let one : new ≡ other = one_asked before (got ++ bytes) new other asked also in
      (acts_are ∙ ap (acts_after told) one ∙ sym more_are, is ∙ ap (λ (x : Asked). talk before (got ++ bytes) x None) one ∙ sym same)
  by_reply before got told (Some p) bytes acts more b c one two = (one.0 ∙ sym two.0, one.1 ∙ sym two.1)

  pub one_turn : (a : Talk B) (bytes : List ℕ) (acts more : List Act) (b c : Talk B) → TakesPiece a bytes acts b → TakesPiece a bytes more c → (acts ≡ more) × (b ≡ c)
  one_turn a bytes acts more b c one two = by_reply a.before a.got a.told a.reply bytes acts more b c one two
