use Rattle.std.proofs.Common.{rules, ◌≡◌, ◌∙◌, ◌==◌, max, not, nat_le, filter, Ok, IfOk, subst, ap, sym}
use Rattle.std.specs.Ordering.{nat_cmp, is_le}
use Rattle.std.specs.Map.{values_of}
use Rattle.b2_model.specs.Pages.{keys_page, most_rows, page_of, page_size}
use Rattle.app_keys.specs.Pages.{page}
use Rattle.app_keys.proofs.Pages.{rows_from}
use Rattle.app_keys.proofs.page.keys_page.Goals as goal

pub returns : goal.returns
returns c = λ M is.
    let from : c.max-from.result ≡ max c.args.start 1 = search rules in
    let range = c.range.ensures.between tt in
    let kept : values_of c.range.result ≡ filter (λ k. nat_le c.args.start k.num) (filter (λ k. not (k.num == 0)) M.keys) =
    ap values_of (rw from at range) ∙ rows_from c.args.start c.args.keys.now.entries c.requires
    ∙ ap (λ ks. filter (λ k. nat_le c.args.start k.num) (filter (λ k. not (k.num == 0)) ks)) (sym is) in
    let same : page_of c.page_size.result (values_of c.range.result) ≡ keys_page M c.args.start c.args.asked =
    ap (λ n. page_of n (values_of c.range.result)) c.page_size.ensures ∙ ap (page_of (page_size most_rows c.args.asked)) kept in
    subst (λ q. IfOk c.first_of.result (λ p. page p ≡ q)) same c.first_of.ensures
