-- What one connection does leaves the table in order.
use Rattle.std.proofs.Common.{◌≡◌, ◌⊎◌, inl, inr, ℕ, true, Option, Some, None, option_and_then, MatchOption, sym, ap, ◌∙◌, subst}
use Rattle.std.specs.Map.{lookup}
use Rattle.std.specs.BTreeMap.{is_at}
use Rattle.std.specs.Ordering.{nat_cmp}
use Rattle.std.specs.Option.{is_some}
use Rattle.std.proofs.lemmas.Bool.{false≢true, cases_eq}
use Rattle.conn_talk.specs.declared.pending.Pending.{Pending}
use Rattle.conn_talk.specs.Talk.{Talk}
use Rattle.conn_table.specs.declared.conn.Conn.{Conn}
use Rattle.conn_table.specs.declared.table.Conns.{Conns}
use Rattle.conn_table.specs.Table.{conn_at, pending_at, IsIn, IsConn, IsTalk, KeepsOthers}
use Rattle.edge_tests.specs.Sound.{IsSound}

module _ {B : Type 0} where
  pub kept : (c : ℕ) (old new : Conns B) (a : Option (Talk B)) → IsSound old → KeepsOthers c old new → IsTalk new c a → IsSound new
  kept c old new a sound others here d = by (cases_eq d c)
    where
      by : (d ≡ c) ⊎ (d ≡ c → ⊥) → (b : Option (Talk B)) × IsTalk new d b
      by (inl same) = (a, subst (λ n. IsTalk new n a) (sym same) here)
      by (inr apart) =
          let old_one = sound d in
          let P : Option (Conn B) → Type 0 = IsIn old_one.0 in (old_one.0, subst P (sym (others d apart)) old_one.1)

  -- the same entries
  pub same_kept : (old new : Conns B) → IsSound old → new.conns.entries ≡ old.conns.entries → IsSound new
  same_kept old new sound same d =
      let old_one = sound d in
      let P : Option (Conn B) → Type 0 = IsIn old_one.0 in
      let at : conn_at new d ≡ conn_at old d = ap (lookup (is_at (nat_cmp d))) same in (old_one.0, subst P (sym at) old_one.1)

  pub none_there : (c : ℕ) (t : Conns B) → conn_at t c ≡ None → IsTalk t c None
  none_there c t none = let P : Option (Conn B) → Type 0 = IsIn None in subst P (sym none) tt

  pub new_sound : (t : Conns B) → ((c : ℕ) → conn_at t c ≡ None) → IsSound t
  new_sound t none c = (None, none_there c t (none c))

  -- one that is open has a talk
  pub has_talk : (c : ℕ) (t : Conns B) → IsSound t → is_some (conn_at t c) ≡ true → (a : Talk B) × IsTalk t c (Some a)
  has_talk c t sound there = by (sound c).0 (conn_at t c) (sound c).1 there
    where
      by : (a : Option (Talk B)) (o : Option (Conn B)) → IsIn a o → is_some o ≡ true → (b : Talk B) × IsIn (Some b) o
      by None None is some = absurd (false≢true some)
      by None (Some k) is some = absurd is
      by (Some a) None is some = absurd is
      by (Some a) (Some k) is some = (a, is)

  -- a reply that is pending is that of a talk
  pub record HasReply (t : Conns B) (c : ℕ) : Type 0 where
    pub talk : Talk B
    pub reply : Pending B
    pub is_talk : IsTalk t c (Some talk)
    pub has : talk.reply ≡ Some reply

  pub has_reply : (c : ℕ) (t : Conns B) (q : Pending B) → IsSound t → pending_at t c ≡ Some q → HasReply t c
  has_reply c t q sound pending = by (sound c).0 (conn_at t c) refl_at (sound c).1 pending
    where
      refl_at : conn_at t c ≡ conn_at t c
      refl_at = λ i. conn_at t c

      replied : (a : Talk B) (k : Conn B) (o : Option (Pending B)) → a.reply ≡ o → IsConn a k → k.reply ≡ Some q → (p : Pending B) × (a.reply ≡ Some p)
      replied a k (Some p) is conn some = (p, is)
      replied a k None is conn some =
          let idle = subst (λ (x : Option (Pending B)). IsConn (record { before = a.before; got = a.got; told = a.told; reply = x }) k) is conn in absurd (cc (idle.reply_is, some))

      by : (a : Option (Talk B)) (o : Option (Conn B)) → conn_at t c ≡ o → IsIn a o → option_and_then (λ (k : Conn B). k.reply) o ≡ Some q → HasReply t c
      by a None at is some = absurd (cc some)
      by None (Some k) at is some = absurd is
      by (Some a) (Some k) at is some =
          let P : Option (Conn B) → Type 0 = IsIn (Some a) in
          let found = replied a k a.reply (λ i. a.reply) is some in
          record { talk = a; reply = found.0; is_talk = subst P (sym at) is; has = found.1 }

  pub has_reply_by : (c : ℕ) (t : Conns B) (P : Pending B → Type 0) → IsSound t → MatchOption (pending_at t c) ⊥ P → HasReply t c
  has_reply_by c t P sound is = by (pending_at t c) (λ i. pending_at t c) is
    where
      by : (o : Option (Pending B)) → pending_at t c ≡ o → MatchOption o ⊥ P → HasReply t c
      by None at none = absurd none
      by (Some q) at some = has_reply c t q sound at
