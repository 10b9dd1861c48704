use Rattle.std.proofs.Common.{◌≡◌, ◌==◌, ◌∙◌, Some, get_or, length, sym, ap}
use Rattle.stored_contents.specs.Held.{bytes_of, read_by}
use Rattle.stored_contents.specs.Reads.{outgoing_at, zeros_of}
use Rattle.stored_contents.proofs.Ending.{first_found, none_found}
use Rattle.stored_contents.proofs.Reading.{counted_as, nothing_of, read_as, read_safe}
use Rattle.stored_contents.proofs.contents.Contents.read_out.Goals as goal

pub returns-in_default-clause-bytes : goal.returns-in_default-clause-bytes
returns-in_default-clause-bytes g c h held =
    let none = none_found (λ r. r.reader == c.args.c) c.args.self.now.outgoing.items (sym c.place_of.ensures ∙ c.in_default.is) in
    c.new.ensures.items ∙ sym (nothing_of c.args.most c.args.at (h.read c.args.c) (held.readers c.args.c ∙ ap (read_by h.meaning) none))

pub returns-in_default-clause-count : goal.returns-in_default-clause-count
returns-in_default-clause-count g c =
    let none = none_found (λ r. r.reader == c.args.c) c.args.self.now.outgoing.items (sym c.place_of.ensures ∙ c.in_default.is) in
    ap length (c.new.ensures.items ∙ sym (nothing_of c.args.most c.args.at (read_by zeros_of (outgoing_at c.args.self.now c.args.c)) (ap (read_by zeros_of) none)))

pub returns-clause-bytes : goal.returns-clause-bytes
returns-clause-bytes g c h held =
    let o = c.index-reading.result.now in
    let here : o ≡ get_or c.args.self.now.outgoing.items c.in-Some.place o = c.index-reading.ensures in
    let found : outgoing_at c.args.self.now c.args.c ≡ Some o = first_found (λ r. r.reader == c.args.c) c.args.self.now.outgoing.items c.in-Some.place o (sym c.place_of.ensures ∙ c.in-Some.is) ∙ ap Some (sym here) in
    read_as (bytes_of h.meaning o) (h.read c.args.c) c.bytes.result c.args.most c.args.at (sym (held.readers c.args.c ∙ ap (read_by h.meaning) found))
    (c.bytes.ensures.bytes h.meaning held.image held.sizes (read_safe c.args.self.now (g.D.Disk.state c.args.disk.now) h c.args.c o held found) held.given)

pub returns-clause-count : goal.returns-clause-count
returns-clause-count g c =
    let o = c.index-reading.result.now in
    let here : o ≡ get_or c.args.self.now.outgoing.items c.in-Some.place o = c.index-reading.ensures in
    let found : outgoing_at c.args.self.now c.args.c ≡ Some o = first_found (λ r. r.reader == c.args.c) c.args.self.now.outgoing.items c.in-Some.place o (sym c.place_of.ensures ∙ c.in-Some.is) ∙ ap Some (sym here) in
    counted_as (bytes_of zeros_of o) (read_by zeros_of (outgoing_at c.args.self.now c.args.c)) c.bytes.result c.args.most c.args.at (sym (ap (read_by zeros_of) found)) c.bytes.ensures.count
