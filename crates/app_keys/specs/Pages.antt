-- Pages of keys that stand under their numbers.
use Rattle.std.specs.Prelude.{◌≡◌, ℕ, List, All, map}
use Rattle.std.specs.Option.{option_copied}
use Rattle.b2_types.specs.declared.key.Key.{Key}
use Rattle.b2_model.specs.Pages.{Page}
use Rattle.app_keys.specs.declared.page.KeyPage.{KeyPage}

-- each key stands under its number
abbrev pub AreByNumber : List (ℕ × Key) → Type 0
AreByNumber entries = All (λ e. e.0 ≡ e.1.num) entries

-- the page, as the machine has it
abbrev pub page : KeyPage → Page Key
page p = record { rows = map (λ k. k.now) p.rows.items; next = option_copied p.next }
