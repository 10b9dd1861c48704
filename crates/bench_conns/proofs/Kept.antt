-- What one connection does leaves the table in order.
use Rattle.std.proofs.Common.{◌≡◌, ◌⊎◌, inl, inr, ℕ, true, Option, Some, None, sym, subst}
use Rattle.std.specs.Option.{is_some}
use Rattle.std.proofs.lemmas.Bool.{false≢true, cases_eq}
use Rattle.conn_talk.specs.Talk.{Talk}
use Rattle.conn_table.specs.declared.conn.Conn.{Conn}
use Rattle.conn_table.specs.declared.table.Conns.{Conns}
use Rattle.conn_table.specs.Table.{conn_at, IsIn, IsTalk, KeepsOthers}
use Rattle.bench_conns.specs.Sound.{IsSound}

module _ {B : Type 0} where
  pub kept : (c : ℕ) (old new : Conns B) (a : Option (Talk B)) → IsSound old → KeepsOthers c old new → IsTalk new c a → IsSound new
  kept c old new a sound others here d = by (cases_eq d c)
    where
      by : (d ≡ c) ⊎ (d ≡ c → ⊥) → (b : Option (Talk B)) × IsTalk new d b
      by (inl same) = (a, subst (λ n. IsTalk new n a) (sym same) here)
      by (inr apart) =
          let old_one = sound d in
          let P : Option (Conn B) → Type 0 = IsIn old_one.0 in (old_one.0, subst P (sym (others d apart)) old_one.1)

  -- one that is open has a talk
  pub has_talk : (c : ℕ) (t : Conns B) → IsSound t → is_some (conn_at t c) ≡ true → (a : Talk B) × IsTalk t c (Some a)
  has_talk c t sound there = by (sound c).0 (conn_at t c) (sound c).1 there
    where
      by : (a : Option (Talk B)) (o : Option (Conn B)) → IsIn a o → is_some o ≡ true → (b : Talk B) × IsIn (Some b) o
      by None None is some = absurd (false≢true some)
      by None (Some k) is some = absurd is
      by (Some a) None is some = absurd is
      by (Some a) (Some k) is some = (a, is)

  pub none_there : (c : ℕ) (t : Conns B) → conn_at t c ≡ None → IsTalk t c None
  none_there c t none = let P : Option (Conn B) → Type 0 = IsIn None in subst P (sym none) tt
