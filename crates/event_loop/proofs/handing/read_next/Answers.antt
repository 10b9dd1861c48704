use Rattle.event_loop.proofs.Fronts.{part_few, front_read, read_within}
use Rattle.event_loop.proofs.handing.read_next.Goals as goal

pub content_wanted-most-requires-clause-part : goal.content_wanted-most-requires-clause-part
content_wanted-most-requires-clause-part g c = part_few c.args.pending.now c.handed-part.result.now c.handed-part.ensures

pub returns-clause-bytes : goal.returns-clause-bytes
returns-clause-bytes g c = λ M words ups outs at size.
    let (there, is) = c.in_ok-content.ensures.bytes M words ups outs at in (
      there,
      front_read c.args.pending.now (outs c.args.c) c.handed-part.result.now c.in_ok-content.content c.in_ok-bytes.bytes c.content_wanted-most.result c.content_place-from.result c.requires size c.handed-part.ensures c.content_wanted-most.ensures c.content_place-from.ensures is
          c.in_ok-bytes.ensures,
    )

pub returns-clause-within : goal.returns-clause-within
returns-clause-within g c =
    read_within c.args.pending.now c.handed-part.result.now c.in_ok-content.content c.in_ok-bytes.bytes c.content_wanted-most.result c.requires c.handed-part.ensures c.content_wanted-most.ensures c.in_ok-content.ensures.few c.in_ok-bytes.ensures
