use Rattle.std.proofs.Common.{ℕ, refl, ap, nat_eq, arith}
use Rattle.std.specs.Map.{update}
use Rattle.stored_contents.specs.Held.{with_bytes}
use Rattle.durable_store.specs.Uploads.{with_more}
use Rattle.durable_store.proofs.UnderWay.{more_came, upload_set}
use Rattle.durable_store.proofs.store.Store.piece.Goals as goal

pub returns : goal.returns
returns g c = λ M came read is.
    let h = is.holding in
    let number = c.args.c in
    let bytes = c.args.bytes.now in
    upload_set c.args.self _ (g.D.Disk.state c.args.disk.now) (g.D.Disk.state c.piece.new.disk) M M came read number (with_bytes bytes (h.came number)) (with_more bytes (came number)) _ is
    (record { held = c.in_ok-piece.ensures.held h is.kept.held; owned = is.kept.owned }) is.state (λ e. refl)
    (record {
      came = λ e. ap (λ (n : ℕ). update nat_eq h.came n (with_bytes bytes (h.came n)) e) c.get.ensures;
      others = λ e apart. refl;
      here = more_came _ _ _ bytes (is.uploads number (omega (arith, c.get.type_inv, c.get.ensures)));
    })
