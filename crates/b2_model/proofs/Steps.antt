-- Laws of the machine over every state.
use Rattle.std.proofs.Common.{◌≡◌, true, false, Bool, List, [], ◌∷◌, Some, unwrap_or, refl, sym, ap, ◌∙◌}
use Rattle.std.proofs.lemmas.Option.{none-some}
use Rattle.std.proofs.lemmas.List.Elements.{All-nil, All-cons}
use Rattle.b2_types.specs.declared.fault.Fault.{Fault}
use Rattle.b2_model.specs.Checks.{Check, first_fault, IsFirstFailing}

-- ---- the first rule that fails

told_at : (c : Check) (cs : List Check) → c.fails ≡ true → first_fault (c ∷ cs) ≡ Some c.fault
told_at c cs is = rw is refl

told_after : (c : Check) (cs : List Check) → c.fails ≡ false → first_fault (c ∷ cs) ≡ first_fault cs
told_after c cs is = rw is refl

first_at : (c : Check) (cs : List Check) (fault : Fault) (fails : Bool) → c.fails ≡ fails → (first_fault cs ≡ Some fault → IsFirstFailing cs fault)
    → first_fault (c ∷ cs) ≡ Some fault → IsFirstFailing (c ∷ cs) fault
first_at c cs fault true is rest found = record {
  before = [];
  at = c;
  after = cs;
  is = refl;
  pass = All-nil (λ c. c.fails ≡ false);
  fails = is;
  told = ap (λ o. unwrap_or o fault) (sym (told_at c cs is) ∙ found);
}
first_at c cs fault false is rest found =
    let tail = rest (sym (told_after c cs is) ∙ found) in
    record {
      before = c ∷ tail.before;
      at = tail.at;
      after = tail.after;
      is = ap (λ xs. c ∷ xs) tail.is;
      pass = All-cons (λ c. c.fails ≡ false) c tail.before is tail.pass;
      fails = tail.fails;
      told = tail.told;
    }

pub first_failing : (checks : List Check) (fault : Fault) → first_fault checks ≡ Some fault → IsFirstFailing checks fault
first_failing [] fault found = absurd (none-some fault found)
first_failing (c ∷ cs) fault found = first_at c cs fault c.fails refl (first_failing cs fault) found
