-- What a call's row names is what is read from its fields.
use Rattle.std.proofs.Common.{◌≡◌, refl}
use Rattle.std.specs.Option.{is_some}
use Rattle.b2_types.specs.declared.need_table.Thing.TheVariants as thing
use Rattle.b2_types.specs.declared.call.Call.{Call}
use Rattle.b2_types.specs.declared.call.Call.TheVariants as call
use Rattle.b2_types.specs.Need.{name_of, names}
use Rattle.b2_types.specs.Naming.{IsInForm, fields_of}

pub names_account : (c : Call) → IsInForm c → names thing.Account (name_of c) ≡ is_some (fields_of c).account
names_account (call.Bad c) in_form = absurd in_form
names_account other in_form = refl

pub names_bucket : (c : Call) → IsInForm c → names thing.Bucket (name_of c) ≡ is_some (fields_of c).bucket
names_bucket (call.Bad c) in_form = absurd in_form
names_bucket other in_form = refl

pub names_some : (c : Call) → IsInForm c → names thing.SomeBucket (name_of c) ≡ is_some (fields_of c).some_bucket
names_some (call.Bad c) in_form = absurd in_form
names_some other in_form = refl

pub names_path : (c : Call) → IsInForm c → names thing.PathBucket (name_of c) ≡ is_some (fields_of c).path_bucket
names_path (call.Bad c) in_form = absurd in_form
names_path other in_form = refl

pub names_file : (c : Call) → IsInForm c → names thing.File (name_of c) ≡ is_some (fields_of c).file
names_file (call.Bad c) in_form = absurd in_form
names_file other in_form = refl

pub names_source : (c : Call) → IsInForm c → names thing.Source (name_of c) ≡ is_some (fields_of c).source
names_source (call.Bad c) in_form = absurd in_form
names_source other in_form = refl

pub names_name : (c : Call) → IsInForm c → names thing.Name (name_of c) ≡ is_some (fields_of c).name
names_name (call.Bad c) in_form = absurd in_form
names_name other in_form = refl

pub names_prefix : (c : Call) → IsInForm c → names thing.Prefix (name_of c) ≡ is_some (fields_of c).prefix
names_prefix (call.Bad c) in_form = absurd in_form
names_prefix other in_form = refl
