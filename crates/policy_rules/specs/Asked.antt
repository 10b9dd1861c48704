-- Who asks and what is asked, as the machine has them.
use Rattle.std.specs.Prelude.{ℕ, List, ◌∷◌, [], ◌++◌, Option, Some, None, map, option_map}
use Rattle.std.specs.Option.{option_copied}
use Rattle.b2_types.specs.declared.record.VersionId.{VersionId}
use Rattle.b2_types.specs.Need.{Need}
use Rattle.b2_types.specs.Naming.{Named, Place, of_number, filtered}
use Rattle.b2_model.specs.Policy.{Caller, Judged}
use Rattle.policy_rules.specs.declared.asked.Asker.{Asker}
use Rattle.policy_rules.specs.declared.asked.SomeBucket.{SomeBucket}
use Rattle.policy_rules.specs.declared.asked.SomeBucket.TheVariants as some_bucket
use Rattle.policy_rules.specs.declared.asked.Fields.{Fields}
use Rattle.policy_rules.specs.declared.asked.Asked.{Asked}

abbrev pub caller : Asker → Caller
caller who = record {
  token = option_copied who.token;
  grant = option_copied who.grant;
  key = option_copied who.key;
}

abbrev pub numbers : VersionId → ℕ × ℕ
numbers id = (id.bucket, id.num)

abbrev pub places_of : SomeBucket → List Place
places_of (some_bucket.Each buckets) = map of_number buckets.now
places_of (some_bucket.Filter bucket name) = filtered bucket (option_copied name) ∷ []

abbrev pub named : Fields → Named
named f = record {
  account = option_copied f.account;
  bucket = f.bucket;
  some_bucket = option_map places_of f.some_bucket;
  path_bucket = option_copied f.path_bucket;
  file = option_map numbers f.file;
  source = option_map numbers f.source;
  name = option_copied f.name;
  prefix = option_copied f.prefix;
}

abbrev pub judged : Asked → Judged
judged a = record {
  row = record { tokens = a.need.tokens.now; caps = a.need.caps.now; things = a.need.things.now };
  caps = a.need.caps.now ++ a.more.now;
  fields = named a.fields;
}
