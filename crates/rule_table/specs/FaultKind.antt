-- The kinds of faults, in the order of their table.
use Rattle.std.proofs.Common.{◌≡◌, ℕ, List, [], ◌∷◌, Some, slice_get, codes, refl, arith}
use Rattle.rule_table.specs.Order.{found_at}
use Rattle.rule_table.specs.declared.fault.FaultKind.{FaultKind}
use Rattle.rule_table.specs.declared.fault.FaultKind.TheVariants.{BadHead, LongHead, BadLength, NoCall, BadMethod, NotJson, Missing, Wrong, BadHeader, Unsupported, P1, P2, P3, P4, P5, P6, P7, P8, P9, P10, P11, P12, P13, P14, NoBucket, NoFile, NoKey, Duplicate, TooManyBuckets, Conflict, NotEmpty, Hidden, NotLarge, NoParts, Gap, Count, Sha, Small, BadDigest, LockOff, LockStays, BadUntil, KeyCaps, KeyLimit, Master, Range, Busy, Cap, ManyBuckets, LongCopy}

-- the values, by their places
abbrev pub fault_order : List FaultKind
fault_order = BadHead ∷ LongHead ∷ BadLength ∷ NoCall ∷ BadMethod ∷ NotJson ∷ Missing ∷ Wrong ∷ BadHeader ∷ Unsupported ∷ P1 ∷ P2 ∷ P3 ∷ P4 ∷ P5 ∷ P6 ∷ P7 ∷ P8 ∷ P9 ∷ P10 ∷ P11 ∷ P12 ∷ P13 ∷ P14 ∷ NoBucket ∷ NoFile ∷ NoKey ∷ Duplicate ∷ TooManyBuckets ∷ Conflict ∷ NotEmpty ∷ Hidden ∷ NotLarge ∷ NoParts ∷ Gap ∷ Count ∷ Sha ∷ Small ∷ BadDigest ∷ LockOff ∷ LockStays ∷ BadUntil ∷ KeyCaps ∷ KeyLimit ∷ Master ∷ Range ∷ Busy ∷ Cap ∷ ManyBuckets ∷ LongCopy ∷ []

-- their names, in the same order
abbrev pub fault_names : List (List ℕ)
fault_names = codes "BadHead" ∷ codes "LongHead" ∷ codes "BadLength" ∷ codes "NoCall" ∷ codes "BadMethod" ∷ codes "NotJson" ∷ codes "Missing" ∷ codes "Wrong" ∷ codes "BadHeader" ∷ codes "Unsupported" ∷ codes "P1" ∷ codes "P2" ∷ codes "P3" ∷ codes "P4" ∷ codes "P5" ∷ codes "P6" ∷ codes "P7" ∷ codes "P8" ∷ codes "P9" ∷ codes "P10" ∷ codes "P11" ∷ codes "P12" ∷ codes "P13" ∷ codes "P14" ∷ codes "NoBucket" ∷ codes "NoFile" ∷ codes "NoKey" ∷ codes "Duplicate" ∷ codes "TooManyBuckets" ∷ codes "Conflict" ∷ codes "NotEmpty" ∷ codes "Hidden" ∷ codes "NotLarge" ∷ codes "NoParts" ∷ codes "Gap" ∷ codes "Count" ∷ codes "Sha" ∷ codes "Small" ∷ codes "BadDigest" ∷ codes "LockOff" ∷ codes "LockStays" ∷ codes "BadUntil" ∷ codes "KeyCaps" ∷ codes "KeyLimit" ∷ codes "Master" ∷ codes "Range" ∷ codes "Busy" ∷ codes "Cap" ∷ codes "ManyBuckets" ∷ codes "LongCopy" ∷ []

abbrev pub fault_place : FaultKind → ℕ
fault_place BadHead = 0
fault_place LongHead = 1
fault_place BadLength = 2
fault_place NoCall = 3
fault_place BadMethod = 4
fault_place NotJson = 5
fault_place Missing = 6
fault_place Wrong = 7
fault_place BadHeader = 8
fault_place Unsupported = 9
fault_place P1 = 10
fault_place P2 = 11
fault_place P3 = 12
fault_place P4 = 13
fault_place P5 = 14
fault_place P6 = 15
fault_place P7 = 16
fault_place P8 = 17
fault_place P9 = 18
fault_place P10 = 19
fault_place P11 = 20
fault_place P12 = 21
fault_place P13 = 22
fault_place P14 = 23
fault_place NoBucket = 24
fault_place NoFile = 25
fault_place NoKey = 26
fault_place Duplicate = 27
fault_place TooManyBuckets = 28
fault_place Conflict = 29
fault_place NotEmpty = 30
fault_place Hidden = 31
fault_place NotLarge = 32
fault_place NoParts = 33
fault_place Gap = 34
fault_place Count = 35
fault_place Sha = 36
fault_place Small = 37
fault_place BadDigest = 38
fault_place LockOff = 39
fault_place LockStays = 40
fault_place BadUntil = 41
fault_place KeyCaps = 42
fault_place KeyLimit = 43
fault_place Master = 44
fault_place Range = 45
fault_place Busy = 46
fault_place Cap = 47
fault_place ManyBuckets = 48
fault_place LongCopy = 49

pub fault_there : (e : FaultKind) → slice_get fault_order (fault_place e) ≡ Some e
fault_there BadHead = refl
fault_there LongHead = refl
fault_there BadLength = refl
fault_there NoCall = refl
fault_there BadMethod = refl
fault_there NotJson = refl
fault_there Missing = refl
fault_there Wrong = refl
fault_there BadHeader = refl
fault_there Unsupported = refl
fault_there P1 = refl
fault_there P2 = refl
fault_there P3 = refl
fault_there P4 = refl
fault_there P5 = refl
fault_there P6 = refl
fault_there P7 = refl
fault_there P8 = refl
fault_there P9 = refl
fault_there P10 = refl
fault_there P11 = refl
fault_there P12 = refl
fault_there P13 = refl
fault_there P14 = refl
fault_there NoBucket = refl
fault_there NoFile = refl
fault_there NoKey = refl
fault_there Duplicate = refl
fault_there TooManyBuckets = refl
fault_there Conflict = refl
fault_there NotEmpty = refl
fault_there Hidden = refl
fault_there NotLarge = refl
fault_there NoParts = refl
fault_there Gap = refl
fault_there Count = refl
fault_there Sha = refl
fault_there Small = refl
fault_there BadDigest = refl
fault_there LockOff = refl
fault_there LockStays = refl
fault_there BadUntil = refl
fault_there KeyCaps = refl
fault_there KeyLimit = refl
fault_there Master = refl
fault_there Range = refl
fault_there Busy = refl
fault_there Cap = refl
fault_there ManyBuckets = refl
fault_there LongCopy = refl

pub fault_here : (i : ℕ) (e : FaultKind) → slice_get fault_order i ≡ Some e → fault_place e ≡ i
fault_here i e found = omega (arith, found_at fault_place 0 50 fault_order refl i e found)
