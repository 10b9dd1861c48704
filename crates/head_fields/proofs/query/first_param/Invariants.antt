use Rattle.std.proofs.Common.{◌≡◌}
use Rattle.form_urlencoded.specs.Parse.{raw_pairs_left}
use Rattle.head_fields.specs.Query.{value_in, first_param}
use Rattle.head_fields.proofs.query.first_param.Given as goal

abbrev pub invariant-loop-key : goal.invariant-loop-key
invariant-loop-key l = value_in l.name (raw_pairs_left l.key-iterator) ≡ first_param l.name l.query
