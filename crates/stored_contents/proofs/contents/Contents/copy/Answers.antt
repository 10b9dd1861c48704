use Rattle.std.proofs.Common.{◌≡◌, ℕ, List, length, take, drop, flat_map, ap, ◌∙◌, arith, length-take, length-drop}
use Rattle.stored_contents.specs.Held.{with_read}
use Rattle.stored_contents.specs.declared.copies.TheConstants.{COPYING}
use Rattle.stored_contents.proofs.Copying.{copied_of, read_here}
use Rattle.stored_contents.proofs.contents.Contents.copy.Goals as goal

pub returns-clause-room : goal.returns-clause-room
returns-clause-room g c owned room pieces = c.in_ok-whole.ensures.room owned (c.in_ok-start_reading.ensures.room owned room pieces)

pub returns-clause-held : goal.returns-clause-held
returns-clause-held g c h held pieces enough =
    let all = flat_map h.meaning c.args.pieces.now in
    let bytes = take c.args.len (drop c.args.at all) in
    let long : length bytes ≡ c.args.len = omega (arith, enough, length-take c.args.len (drop c.args.at all), length-drop c.args.at all) in
    let reads = c.in_ok-start_reading.ensures.held h held pieces in
    copied_of c.copied.new.self (g.D.Disk.state c.copied.new.disk) h COPYING bytes c.in_ok-whole.whole
    (c.in_ok-whole.ensures.held (record h { read = with_read h.read COPYING bytes }) reads
    (ap (λ (l : List ℕ). length l) (read_here c.copied.new.self (g.D.Disk.state c.copied.new.disk) h COPYING bytes) ∙ long))

pub returns-in_err-whole-clause-spares : goal.returns-in_err-whole-clause-spares
returns-in_err-whole-clause-spares g c owned room pieces = c.copied.ensures.spares owned (c.in_ok-start_reading.ensures.room owned room pieces)

pub returns-clause-spares : goal.returns-clause-spares
returns-clause-spares g c owned room pieces = c.copied.ensures.spares owned (c.in_ok-start_reading.ensures.room owned room pieces)
