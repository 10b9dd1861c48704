-- The range of a text ends where it begins, or after it.
use Rattle.std.proofs.Common.{◌≡◌, ℕ, Bool, true, false, List, [], ◌∷◌, Option, Some, None, if◌then◌else◌, refl}
use Rattle.std.specs.Prelude.{nat_le, option_map, option_and_then}
use Rattle.std.proofs.lemmas.Bool.{leb-true}
use Rattle.b2_types.specs.declared.call.ByteRange.TheVariants.{Between, From, Last}
use Rattle.machine_laws.specs.Ranges.{IsInOrder}
use Rattle.byte_ranges.specs.Ranges.{unit, number, after, halves, in_order, range_at, range_of}

between : (a b : ℕ) (o : Bool) → nat_le a b ≡ o → IsInOrder (if o then Some (Between a b) else None)
between a b true is = leb-true a b is
between a b false is = tt

up_to : (a : ℕ) (last : Option ℕ) → IsInOrder (option_and_then (in_order a) last)
up_to a None = tt
up_to a (Some b) = between a b (nat_le a b) refl

both : (first last : Option ℕ) → IsInOrder (option_and_then (λ a. option_and_then (in_order a) last) first)
both None last = tt
both (Some a) last = up_to a last

from : (o : Option ℕ) → IsInOrder (option_map From o)
from None = tt
from (Some a) = tt

last : (o : Option ℕ) → IsInOrder (option_map Last o)
last None = tt
last (Some n) = tt

at : (first after : List ℕ) → IsInOrder (range_at first after)
at [] text = last (number text)
at (b ∷ bs) [] = from (number (b ∷ bs))
at (b ∷ bs) (c ∷ cs) = both (number (b ∷ bs)) (number (c ∷ cs))

cut : (o : Option (List ℕ × List ℕ)) → IsInOrder (option_and_then (λ p. range_at p.0 p.1) o)
cut None = tt
cut (Some p) = at p.0 p.1

behind : (o : Option (List ℕ)) → IsInOrder (option_and_then (λ rest. option_and_then (λ p. range_at p.0 p.1) (halves rest)) o)
behind None = tt
behind (Some rest) = cut (halves rest)

pub range_in_order : (text : List ℕ) → IsInOrder (range_of text)
range_in_order text = behind (after unit text)

pub asked_in_order : {V : Type 0} (bytes : V → List ℕ) (o : Option V) → IsInOrder (option_and_then (λ value. range_of (bytes value)) o)
asked_in_order bytes None = tt
asked_in_order bytes (Some value) = range_in_order (bytes value)
