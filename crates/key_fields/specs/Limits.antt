-- The buckets that a key is limited to (the B2 reference, b2_create_key): one in version 3 of the API, several
-- in version 4.
use Rattle.std.specs.Prelude.{ℕ, List, [], ◌∷◌, Bool, true, false, ◌&&◌, ◌==◌, nat_le, length, fold, codes, Option, Some, None, option_and_then, option_map, if◌then◌else◌}
use Rattle.std.specs.Ordering.{nat_cmp}
use Rattle.std.specs.BTreeSet.{insert_key}
use Rattle.serde_json.specs.Data.{Data}
use Rattle.json_shape.specs.Fields.{field}
use Rattle.b2_types.specs.declared.kinds.ApiVersion.{ApiVersion}
use Rattle.b2_types.specs.declared.kinds.ApiVersion.TheVariants as version
use Rattle.field_kinds.specs.declared.texts.TextRule.TheVariants as rule
use Rattle.field_kinds.specs.Reader.{Reader, optional, if_null}
use Rattle.field_kinds.specs.Kinds.{bucket_id, list_of, text_by}

-- the numbers in their order, each once
abbrev pub in_order : List ℕ → List ℕ
in_order numbers = fold (insert_key nat_cmp) [] numbers

-- 1 to 16 buckets, none of them twice
abbrev pub are_limits : List ℕ → Bool
are_limits numbers = nat_le 1 (length numbers) && nat_le (length numbers) 16 && length (in_order numbers) == length numbers

abbrev pub limits_of : List ℕ → Option (List ℕ)
limits_of numbers = if are_limits numbers then Some (in_order numbers) else None

abbrev pub one_bucket : Data → Option (List ℕ)
one_bucket d = option_map (λ n. n ∷ []) (bucket_id d)

abbrev pub several_buckets : Data → Option (List ℕ)
several_buckets d = option_and_then limits_of (list_of bucket_id d)

abbrev pub limit_key : ApiVersion → List ℕ
limit_key version.V3 = codes "bucketId"
limit_key version.V4 = codes "bucketIds"

abbrev pub limits : ApiVersion → Reader (Option (List ℕ))
limits version.V3 d = optional (limit_key version.V3) one_bucket d
limits version.V4 d = optional (limit_key version.V4) several_buckets d

abbrev pub is_limited : ApiVersion → Data → Bool
is_limited v d = if_null (field (limit_key v) d) false true

-- a prefix is taken only for a key that is limited to buckets
abbrev pub prefix_of : Bool → Data → Option (List ℕ)
prefix_of limited d = if limited then text_by rule.KeyPrefix d else None

abbrev pub prefix : ApiVersion → Reader (Option (List ℕ))
prefix v d = optional (codes "namePrefix") (prefix_of (is_limited v d)) d
