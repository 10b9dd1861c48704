-- The listing order is a total order.
use Rattle.std.specs.Cmp.{IsTotalOrder, back_total, nat_cmp_total, on_total, then_total}
use Rattle.std.specs.Cmp.Lexicographic.{nat_list_cmp_total}
use Rattle.version_index.specs.Rows.{listing_cmp}

pub listing_total : IsTotalOrder listing_cmp
listing_total =
    then_total (on_total (λ s. s.bucket) nat_cmp_total)
    (then_total (on_total (λ s. s.name) nat_list_cmp_total)
    (back_total (on_total (λ s. s.num) nat_cmp_total)))
