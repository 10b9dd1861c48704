-- Capabilities of keys, in the order of their table.
use Rattle.std.proofs.Common.{◌≡◌, ℕ, List, [], ◌∷◌, Some, slice_get, codes, refl, arith}
use Rattle.rule_table.specs.Order.{found_at}
use Rattle.rule_table.specs.declared.cap.Cap.{Cap}
use Rattle.rule_table.specs.declared.cap.Cap.TheVariants.{ListKeys, WriteKeys, DeleteKeys, ListAllBucketNames, ListBuckets, ReadBuckets, WriteBuckets, DeleteBuckets, ReadBucketRetentions, WriteBucketRetentions, ReadBucketEncryption, WriteBucketEncryption, ReadBucketReplications, WriteBucketReplications, ReadBucketNotifications, WriteBucketNotifications, ListFiles, ReadFiles, ShareFiles, WriteFiles, DeleteFiles, ReadFileLegalHolds, WriteFileLegalHolds, ReadFileRetentions, WriteFileRetentions, BypassGovernance}

-- the values, by their places
abbrev pub cap_order : List Cap
cap_order = ListKeys ∷ WriteKeys ∷ DeleteKeys ∷ ListAllBucketNames ∷ ListBuckets ∷ ReadBuckets ∷ WriteBuckets ∷ DeleteBuckets ∷ ReadBucketRetentions ∷ WriteBucketRetentions ∷ ReadBucketEncryption ∷ WriteBucketEncryption ∷ ReadBucketReplications ∷ WriteBucketReplications ∷ ReadBucketNotifications ∷ WriteBucketNotifications ∷ ListFiles ∷ ReadFiles ∷ ShareFiles ∷ WriteFiles ∷ DeleteFiles ∷ ReadFileLegalHolds ∷ WriteFileLegalHolds ∷ ReadFileRetentions ∷ WriteFileRetentions ∷ BypassGovernance ∷ []

-- their names, in the same order
abbrev pub cap_names : List (List ℕ)
cap_names = codes "listKeys" ∷ codes "writeKeys" ∷ codes "deleteKeys" ∷ codes "listAllBucketNames" ∷ codes "listBuckets" ∷ codes "readBuckets" ∷ codes "writeBuckets" ∷ codes "deleteBuckets" ∷ codes "readBucketRetentions" ∷ codes "writeBucketRetentions" ∷ codes "readBucketEncryption" ∷ codes "writeBucketEncryption" ∷ codes "readBucketReplications" ∷ codes "writeBucketReplications" ∷ codes "readBucketNotifications" ∷ codes "writeBucketNotifications" ∷ codes "listFiles" ∷ codes "readFiles" ∷ codes "shareFiles" ∷ codes "writeFiles" ∷ codes "deleteFiles" ∷ codes "readFileLegalHolds" ∷ codes "writeFileLegalHolds" ∷ codes "readFileRetentions" ∷ codes "writeFileRetentions" ∷ codes "bypassGovernance" ∷ []

abbrev pub cap_place : Cap → ℕ
cap_place ListKeys = 0
cap_place WriteKeys = 1
cap_place DeleteKeys = 2
cap_place ListAllBucketNames = 3
cap_place ListBuckets = 4
cap_place ReadBuckets = 5
cap_place WriteBuckets = 6
cap_place DeleteBuckets = 7
cap_place ReadBucketRetentions = 8
cap_place WriteBucketRetentions = 9
cap_place ReadBucketEncryption = 10
cap_place WriteBucketEncryption = 11
cap_place ReadBucketReplications = 12
cap_place WriteBucketReplications = 13
cap_place ReadBucketNotifications = 14
cap_place WriteBucketNotifications = 15
cap_place ListFiles = 16
cap_place ReadFiles = 17
cap_place ShareFiles = 18
cap_place WriteFiles = 19
cap_place DeleteFiles = 20
cap_place ReadFileLegalHolds = 21
cap_place WriteFileLegalHolds = 22
cap_place ReadFileRetentions = 23
cap_place WriteFileRetentions = 24
cap_place BypassGovernance = 25

pub cap_there : (e : Cap) → slice_get cap_order (cap_place e) ≡ Some e
cap_there ListKeys = refl
cap_there WriteKeys = refl
cap_there DeleteKeys = refl
cap_there ListAllBucketNames = refl
cap_there ListBuckets = refl
cap_there ReadBuckets = refl
cap_there WriteBuckets = refl
cap_there DeleteBuckets = refl
cap_there ReadBucketRetentions = refl
cap_there WriteBucketRetentions = refl
cap_there ReadBucketEncryption = refl
cap_there WriteBucketEncryption = refl
cap_there ReadBucketReplications = refl
cap_there WriteBucketReplications = refl
cap_there ReadBucketNotifications = refl
cap_there WriteBucketNotifications = refl
cap_there ListFiles = refl
cap_there ReadFiles = refl
cap_there ShareFiles = refl
cap_there WriteFiles = refl
cap_there DeleteFiles = refl
cap_there ReadFileLegalHolds = refl
cap_there WriteFileLegalHolds = refl
cap_there ReadFileRetentions = refl
cap_there WriteFileRetentions = refl
cap_there BypassGovernance = refl

pub cap_here : (i : ℕ) (e : Cap) → slice_get cap_order i ≡ Some e → cap_place e ≡ i
cap_here i e found = omega (arith, found_at cap_place 0 26 cap_order refl i e found)
