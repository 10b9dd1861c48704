-- Copies as files and as parts.
use Rattle.std.specs.Prelude.{ℕ, true, List, [], ◌∷◌, ◌++◌, Option, Some, None, codes, option_map}
use Rattle.rule_table.specs.CapSet.{set_of}
use Rattle.rule_table.specs.declared.cap.Cap.{Cap}
use Rattle.b2_types.specs.declared.kinds.Action.TheVariants.{Upload}
use Rattle.b2_types.specs.declared.kinds.Mark.TheVariants.{Verified}
use Rattle.b2_types.specs.declared.fault.Fault.{Fault}
use Rattle.b2_types.specs.declared.key.Key.{Key}
use Rattle.b2_types.specs.declared.call.ByteRange.{ByteRange}
use Rattle.b2_types.specs.declared.call.ByteRange.TheVariants.{Between}
use Rattle.b2_types.specs.declared.call.CopyMetadata.TheVariants as metadata
use Rattle.b2_types.specs.declared.call.CopyFile.{CopyFile}
use Rattle.b2_types.specs.declared.call.Call.{Call}
use Rattle.b2_types.specs.declared.call.Call.TheVariants as call
use Rattle.b2_model.specs.State.{State, Pieces}
use Rattle.b2_model.specs.Version.{marker, version_from, with_version}
use Rattle.b2_model.specs.Rows.{version_at}
use Rattle.b2_model.specs.Ask.{Outcome, ask}
use Rattle.worked_rows.specs.Store.{Bytes, store, master_grant, master, words, bucket_of, photos_1, with_versions, upload_at, start_at, version_of, id_in, by_master, by_token, refusal}
use Rattle.worked_rows.specs.Uploads.{small}

-- `a.txt` is `abc`, as it was uploaded
abbrev pub source : State Bytes
source = record small.state { grants = master_grant ∷ [] }

abbrev pub copy_of : ℕ → Option ByteRange → CopyFile
copy_of num range = record {
  source = id_in num;
  bucket = None;
  name = codes "b.txt";
  range = range;
  metadata = metadata.Kept;
  retention = None;
  hold = None;
}

abbrev pub copy : State Bytes → CopyFile → Outcome Bytes
copy M c = by_master M 3000 (call.CopyFile c)

abbrev pub whole : Outcome Bytes
whole = copy source (copy_of 1 None)

abbrev pub second_byte : Outcome Bytes
second_byte = copy source (copy_of 1 (Some (Between 1 1)))

-- a copy into another bucket
abbrev pub copy_to : ℕ → CopyFile
copy_to bucket = record (copy_of 1 None) { bucket = Some bucket }

-- ---- what is refused

-- `a.txt`, a marker, an empty file and a start
abbrev pub mixed_store : State Bytes
mixed_store = with_versions (marker 1 2 (codes "h") 2 ∷ upload_at 3 3 (codes "e") [] ∷ start_at 4 4 (codes "l") ∷ []) source

abbrev pub copy_refused : CopyFile → Option Fault
copy_refused c = refusal (copy mixed_store c).answer

abbrev pub key_of : List Cap → Key
key_of caps = record { num = 1; name = []; caps = set_of caps; buckets = 1 ∷ []; prefix = []; end = None; hash = [] }

-- a copy by a key of bucket 1 with these capabilities, where bucket 2 stands
abbrev pub refused_to : List Cap → CopyFile → Option Fault
refused_to caps c =
    let M = record mixed_store {
      buckets = photos_1 ∷ bucket_of 2 (codes "photos-2") true ∷ [];
      keys = mixed_store.keys ++ key_of caps ∷ [];
      grants = mixed_store.grants ++ record master_grant { text = codes "k"; key = 1 } ∷ [];
    } in
    refusal (by_token M 3000 (Some (codes "k")) (call.CopyFile c)).answer

-- ---- lengths alone: a content is its number of bytes

abbrev pub lengths : Pieces ℕ
lengths = record { size = λ n. n; copy = λ pieces at len. record { content = len; digest = []; told = None } }

abbrev pub long_store : ℕ → State ℕ
long_store length =
    with_version (version_from 1 Upload (length ∷ length ∷ []) Verified [] (version_of 1 (codes "a.txt")))
    (record {
      settings = store.settings;
      now = 0;
      kept = 0;
      pass_day = 0;
      boot = 1;
      serial = 0;
      next_bucket = 2;
      next_key = 1;
      next_version = 1;
      buckets = photos_1 ∷ [];
      versions = [];
      keys = store.keys;
      grants = master_grant ∷ [];
      flights = [];
    })

-- a copy of two contents of so many bytes each
abbrev pub long_copy : ℕ → Outcome ℕ
long_copy length = ask lengths (long_store length) 3000 words master (call.CopyFile (copy_of 1 None))

abbrev pub long_refused : ℕ → Option Fault
long_refused length = refusal (long_copy length).answer

-- the lengths of the pieces of version 2
abbrev pub last_length : Outcome ℕ → Option (List ℕ)
last_length o = option_map (λ v. v.content) (version_at o.state 1 2)

-- ---- copies as parts

-- the part 2 of the start 4
abbrev pub part_call : ℕ → ℕ → Option ByteRange → Call
part_call num file range = call.CopyPart (record { source = id_in num; bucket = 1; file = file; number = 2; range = range })

abbrev pub part_copy : Outcome Bytes
part_copy = by_master mixed_store 3000 (part_call 1 4 None)

abbrev pub part_refused : ℕ → ℕ → Option ByteRange → Option Fault
part_refused num file range = refusal (by_master mixed_store 3000 (part_call num file range)).answer
