-- What a slice lends at a place, copied.
use Rattle.std.proofs.Common.{◌≡◌, ℕ, List, Option, None, Some, slice_get, Bor, refl, sym}
use Rattle.std.specs.Option.{option_copied}
use Rattle.std.specs.Slice.{IsItemAt}
use Rattle.std.proofs.lemmas.Option.{slice_get_read, slice_get_past}

pub copied_at : {T : Type 0} (items : List T) (i : ℕ) (r : Option (Bor T)) → IsItemAt items i r → option_copied r ≡ slice_get items i
copied_at items i None found = sym (slice_get_past items i found.3)
copied_at items i (Some x) found = sym (slice_get_read items _ i x.now refl found.3.0 found.1)
