use Rattle.std.proofs.Common.{◌≡◌, ◌≤◌, Bor, None, Some, length, map, slice_get, rules, ap, sym, ◌∙◌, arith}
use Rattle.std.specs.Option.{option_copied}
use Rattle.std.specs.Map.{values_of}
use Rattle.std.proofs.lemmas.List.{length-map}
use Rattle.b2_types.specs.declared.key.Key.{Key}
use Rattle.app_keys.proofs.Pages.{last_page, full_page, first_left}
use Rattle.app_keys.proofs.page.first_of.Goals as goal
use Rattle.app_keys.proofs.page.first_of.Goals.{in-Some-next, in-None}

pub returns-in_default : goal.returns-in_default
returns-in_default c =
    let rows = map (λ (k : Bor Key). k.now) c.rows.rows.items in
    let few : length rows ≤ c.args.size = omega (arith, length-map c.rows.rows.items (λ (k : Bor Key). k.now), c.rows.invariant.few) in
    last_page c.args.size rows (values_of c.rows.left) (values_of c.args.left) c.rows.invariant.so_far (ap values_of c.in_default.ensures.steps.0) few

pub returns : goal.returns
returns c =
    let rows = map (λ (k : Bor Key). k.now) c.rows.rows.items in
    let all : length rows ≡ c.args.size = omega (arith, length-map c.rows.rows.items (λ (k : Bor Key). k.now), c.rows.invariant.few, c.rows-test.false, c.len.ensures) in
    elim c.match-next-2.branch [
      | in-Some-next w ↦
          full_page c.args.size rows (values_of c.rows.left) (values_of c.args.left) (option_copied c.match-next-2.next) c.rows.invariant.so_far all
          (ap option_copied w.next-is ∙ first_left c.rows.left c.next-2.new.self w.in-Some-next.field-0-0.now w.in-Some-next.key.now w.in-Some-next.ensures.steps)
      | in-None w ↦
          full_page c.args.size rows (values_of c.rows.left) (values_of c.args.left) (option_copied c.match-next-2.next) c.rows.invariant.so_far all
          (ap option_copied w.next-is ∙ sym (ap (λ es. slice_get (values_of es) 0) w.in-None.ensures.steps.0))
    ]
