use Rattle.std.proofs.Common.{ap, sym, ◌∙◌, ◌&&◌}
use Rattle.call_paths.proofs.Reading.{no_path_of}
use Rattle.call_paths.proofs.read.name_path.Goals as goal

pub returns-else-is_one : goal.returns-else-is_one
returns-else-is_one c =
    no_path_of c.args.path.now c.in-Some.text.now c.in-Some.version c.in-Some-find.name c.calls.result c.find.result c.in-Some.ensures c.calls.ensures c.in-Some-find.is c.find.ensures.only
    ((λ i. sym c.offers.ensures i && sym c.has_name_path.ensures i) ∙ c.if-is_one.false)
