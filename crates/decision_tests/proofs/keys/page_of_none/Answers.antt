use Rattle.std.proofs.Common.{sym, subst, arith}
use Rattle.app_keys.specs.Pages.{AreByNumber}
use Rattle.decision_tests.proofs.keys.page_of_none.Goals as goal

pub keys_page-requires : goal.keys_page-requires
keys_page-requires c = subst AreByNumber (sym c.new-keys.ensures.empty) (λ i d within. absurd (omega (arith, within)))
