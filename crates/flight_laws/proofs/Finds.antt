-- Finding an upload, where one is put or taken out.
use Rattle.std.proofs.Common.{◌≡◌, ℕ, ◌==◌, nat_lt, Bool, true, false, not, List, [], ◌∷◌, Option, Some, None, find, filter, if◌then◌else◌, refl, sym, ap, ◌∙◌}
use Rattle.std.proofs.lemmas.Bool.{eqb-true, eq-eqb, ne_eqb}
use Rattle.b2_types.specs.declared.key.Flight.{Flight}
use Rattle.b2_model.specs.Lists.{put_by}

-- which is found, where this is known of the first
abbrev found_by : (Flight → Bool) → Flight → List Flight → Bool → Option Flight
found_by p f flights t = if t then Some f else find p flights

-- ---- one is put in

pub put_found : (p : Flight → Bool) (f : Flight) (flights : List Flight) → p f ≡ true → find p flights ≡ None → find p (put_by (λ (g : Flight). g.conn) f flights) ≡ Some f
put_found p f [] is none = ap (found_by p f []) is
put_found p f (g ∷ flights) is none = by (nat_lt f.conn g.conn) (put_found p f flights is)
  where
    rest : List Flight
    rest = put_by (λ (h : Flight). h.conn) f flights

    -- the first that is there is another
    first : (t : Bool) → found_by p g flights t ≡ None → (find p flights ≡ None → find p rest ≡ Some f) → found_by p g rest t ≡ Some f
    first true free later = absurd (cc free)
    first false free later = later free

    by : (b : Bool) → (find p flights ≡ None → find p rest ≡ Some f) → find p (if b then f ∷ g ∷ flights else g ∷ rest) ≡ Some f
    by true later = ap (found_by p f (g ∷ flights)) is
    by false later = first (p g) none later

pub put_other : (p : Flight → Bool) (f : Flight) (flights : List Flight) → p f ≡ false → find p (put_by (λ (g : Flight). g.conn) f flights) ≡ find p flights
put_other p f [] is = ap (found_by p f []) is
put_other p f (g ∷ flights) is = by (nat_lt f.conn g.conn) (put_other p f flights is)
  where
    rest : List Flight
    rest = put_by (λ (h : Flight). h.conn) f flights

    or_later : find p rest ≡ find p flights → (t : Bool) → found_by p g rest t ≡ found_by p g flights t
    or_later later true = refl
    or_later later false = later

    by : (b : Bool) → find p rest ≡ find p flights → find p (if b then f ∷ g ∷ flights else g ∷ rest) ≡ find p (g ∷ flights)
    by true later = ap (found_by p f (g ∷ flights)) is
    by false later = or_later later (p g)

-- ---- by their connections

-- the upload of the connection
abbrev pub upload_on : List Flight → ℕ → Option Flight
upload_on flights d = find (λ (f : Flight). f.conn == d) flights

pub put_at : (f : Flight) (d : ℕ) (flights : List Flight) → f.conn ≡ d → upload_on flights d ≡ None → upload_on (put_by (λ (g : Flight). g.conn) f flights) d ≡ Some f
put_at f d flights same none = put_found (λ (g : Flight). g.conn == d) f flights (eq-eqb f.conn d same) none

pub put_beside : (f : Flight) (d : ℕ) (flights : List Flight) → (f.conn ≡ d → ⊥) → upload_on (put_by (λ (g : Flight). g.conn) f flights) d ≡ upload_on flights d
put_beside f d flights other = put_other (λ (g : Flight). g.conn == d) f flights (ne_eqb f.conn d other)

pub none_again : (c : ℕ) (flights : List Flight) → upload_on (filter (λ (f : Flight). not (f.conn == c)) flights) c ≡ None
none_again c [] = refl
none_again c (f ∷ flights) = by (f.conn == c) refl (none_again c flights)
  where
    rest : List Flight
    rest = filter (λ (g : Flight). not (g.conn == c)) flights

    by : (b : Bool) → (f.conn == c) ≡ b → upload_on rest c ≡ None → upload_on (if not b then f ∷ rest else rest) c ≡ None
    by true is later = later
    by false is later = ap (found_by (λ (g : Flight). g.conn == c) f rest) is ∙ later

pub others_again : (c d : ℕ) → (c ≡ d → ⊥) → (flights : List Flight) → upload_on (filter (λ (f : Flight). not (f.conn == c)) flights) d ≡ upload_on flights d
others_again c d apart [] = refl
others_again c d apart (f ∷ flights) = by (f.conn == c) refl (others_again c d apart flights)
  where
    rest : List Flight
    rest = filter (λ (g : Flight). not (g.conn == c)) flights

    found_at : List Flight → Bool → Option Flight
    found_at fs t = found_by (λ (g : Flight). g.conn == d) f fs t

    both : upload_on rest d ≡ upload_on flights d → (t : Bool) → found_at rest t ≡ found_at flights t
    both later true = refl
    both later false = later

    by : (b : Bool) → (f.conn == c) ≡ b → upload_on rest d ≡ upload_on flights d → upload_on (if not b then f ∷ rest else rest) d ≡ upload_on (f ∷ flights) d
    by false is later = both later (f.conn == d)
    by true is later = later ∙ sym (ap (found_at flights) (ne_eqb f.conn d (λ same. apart (sym (eqb-true f.conn c is) ∙ same))))

-- the connection of the one that is found
pub found_conn : (d : ℕ) (flights : List Flight) (f : Flight) → upload_on flights d ≡ Some f → f.conn ≡ d
found_conn d [] f is = absurd (cc is)
found_conn d (g ∷ flights) f is = by (g.conn == d) refl is (λ later. found_conn d flights f later)
  where
    by : (b : Bool) → (g.conn == d) ≡ b → (if b then Some g else upload_on flights d) ≡ Some f → (upload_on flights d ≡ Some f → f.conn ≡ d) → f.conn ≡ d
    by true same at rest = let one : g ≡ f = cc at in ap (λ (h : Flight). h.conn) (sym one) ∙ eqb-true g.conn d same
    by false other at rest = rest at
