-- The table of faults: the status of the reply (RFC 9110, section 15), the code for programs and the text
-- for people (the B2 reference, "Error handling").
use Rattle.std.specs.Prelude.{ℕ, List, Option, Some, None, codes}
use Rattle.rule_table.specs.declared.fault.FaultKind.{FaultKind}
use Rattle.rule_table.specs.declared.fault.FaultKind.TheVariants as kind
use Rattle.b2_types.specs.declared.denial.Denial.{Denial}
use Rattle.b2_types.specs.declared.denial.Denial.TheVariants as rule

-- a status and its reason
pub record Status : Type 0 where
  pub number : ℕ
  pub reason : List ℕ

abbrev pub ok : Status
ok = record { number = 200; reason = codes "OK" }

abbrev pub partial_content : Status
partial_content = record { number = 206; reason = codes "Partial Content" }

abbrev pub bad_request : Status
bad_request = record { number = 400; reason = codes "Bad Request" }

abbrev pub unauthorized : Status
unauthorized = record { number = 401; reason = codes "Unauthorized" }

abbrev pub forbidden : Status
forbidden = record { number = 403; reason = codes "Forbidden" }

abbrev pub not_found : Status
not_found = record { number = 404; reason = codes "Not Found" }

abbrev pub method_not_allowed : Status
method_not_allowed = record { number = 405; reason = codes "Method Not Allowed" }

abbrev pub conflict : Status
conflict = record { number = 409; reason = codes "Conflict" }

abbrev pub range_not_satisfiable : Status
range_not_satisfiable = record { number = 416; reason = codes "Range Not Satisfiable" }

abbrev pub service_unavailable : Status
service_unavailable = record { number = 503; reason = codes "Service Unavailable" }

pub record Entry : Type 0 where
  pub status : Status
  pub code : List ℕ
  pub text : List ℕ

abbrev pub entry : Status → List ℕ → List ℕ → Entry
entry status code text = record { status = status; code = code; text = text }

abbrev pub fault_entry : FaultKind → Entry
fault_entry kind.BadHead = entry bad_request (codes "bad_request") (codes "head is not HTTP")
fault_entry kind.LongHead = entry bad_request (codes "bad_request") (codes "head is too long")
fault_entry kind.BadLength = entry bad_request (codes "bad_request") (codes "bad content length")
fault_entry kind.NoCall = entry not_found (codes "not_found") (codes "no such call")
fault_entry kind.BadMethod = entry method_not_allowed (codes "method_not_allowed") (codes "method not allowed")
fault_entry kind.NotJson = entry bad_request (codes "bad_request") (codes "body is not a JSON object")
fault_entry kind.Missing = entry bad_request (codes "bad_request") (codes "missing field")
fault_entry kind.Wrong = entry bad_request (codes "bad_request") (codes "bad field")
fault_entry kind.BadHeader = entry bad_request (codes "bad_request") (codes "bad header")
fault_entry kind.Unsupported = entry bad_request (codes "unsupported") (codes "not offered")
fault_entry kind.P1 = entry unauthorized (codes "unauthorized") (codes "P1: no token")
fault_entry kind.P2 = entry unauthorized (codes "bad_auth_token") (codes "P2: unknown token or key")
fault_entry kind.P3 = entry unauthorized (codes "bad_auth_token") (codes "P3: token of another kind or target")
fault_entry kind.P4 = entry unauthorized (codes "unauthorized") (codes "P4: key was deleted")
fault_entry kind.P5 = entry unauthorized (codes "expired_auth_token") (codes "P5: token has ended")
fault_entry kind.P6 = entry unauthorized (codes "unauthorized") (codes "P6: key has ended")
fault_entry kind.P7 = entry unauthorized (codes "unauthorized") (codes "P7: capability lacking")
fault_entry kind.P8 = entry unauthorized (codes "unauthorized") (codes "P8: other account")
fault_entry kind.P9 = entry unauthorized (codes "unauthorized") (codes "P9: other bucket")
fault_entry kind.P10 = entry unauthorized (codes "unauthorized") (codes "P10: name outside the prefix")
fault_entry kind.P11 = entry forbidden (codes "access_denied") (codes "P11: legal hold")
fault_entry kind.P12 = entry forbidden (codes "access_denied") (codes "P12: compliance")
fault_entry kind.P13 = entry forbidden (codes "access_denied") (codes "P13: governance, bypass not asked")
fault_entry kind.P14 = entry forbidden (codes "access_denied") (codes "P14: governance, bypass not held")
fault_entry kind.NoBucket = entry bad_request (codes "bad_bucket_id") (codes "no such bucket")
fault_entry kind.NoFile = entry not_found (codes "not_found") (codes "no such file")
fault_entry kind.NoKey = entry bad_request (codes "bad_request") (codes "no such key")
fault_entry kind.Duplicate = entry bad_request (codes "duplicate_bucket_name") (codes "bucket name is taken")
fault_entry kind.TooManyBuckets = entry bad_request (codes "too_many_buckets") (codes "too many buckets")
fault_entry kind.Conflict = entry conflict (codes "conflict") (codes "revision differs")
fault_entry kind.NotEmpty = entry bad_request (codes "cannot_delete_non_empty_bucket") (codes "bucket is not empty")
fault_entry kind.Hidden = entry bad_request (codes "already_hidden") (codes "file is hidden")
fault_entry kind.NotLarge = entry bad_request (codes "bad_request") (codes "not an unfinished large file")
fault_entry kind.NoParts = entry bad_request (codes "bad_request") (codes "no parts")
fault_entry kind.Gap = entry bad_request (codes "bad_request") (codes "missing part")
fault_entry kind.Count = entry bad_request (codes "bad_request") (codes "parts kept")
fault_entry kind.Sha = entry bad_request (codes "bad_request") (codes "digest differs at part")
fault_entry kind.Small = entry bad_request (codes "bad_request") (codes "part is too small")
fault_entry kind.BadDigest = entry bad_request (codes "bad_request") (codes "content digest differs")
fault_entry kind.LockOff = entry bad_request (codes "bad_request") (codes "file lock is not enabled")
fault_entry kind.LockStays = entry bad_request (codes "bad_request") (codes "file lock stays enabled")
fault_entry kind.BadUntil = entry bad_request (codes "bad_request") (codes "retention must end later")
fault_entry kind.KeyCaps = entry bad_request (codes "bad_request") (codes "capability not held by the maker")
fault_entry kind.KeyLimit = entry bad_request (codes "bad_request") (codes "capability not given to a limited key")
fault_entry kind.Master = entry bad_request (codes "bad_request") (codes "the master key stays")
fault_entry kind.Range = entry range_not_satisfiable (codes "range_not_satisfiable") (codes "range is not satisfiable")
fault_entry kind.Busy = entry service_unavailable (codes "service_unavailable") (codes "upload URL is busy")
fault_entry kind.Cap = entry forbidden (codes "cap_exceeded") (codes "no number is left")
fault_entry kind.ManyBuckets = entry bad_request (codes "bad_request") (codes "key has several buckets")
fault_entry kind.LongCopy = entry bad_request (codes "bad_request") (codes "copy is too long")

-- what a refusal tells beside its kind
pub data Telling : Type 0 where
  NoMore : Telling
  AWord : Telling
  ANumber : Telling

-- a field or a header by its name; a revision, and the number of a part or of parts
abbrev pub telling : FaultKind → Telling
telling kind.Missing = AWord
telling kind.Wrong = AWord
telling kind.BadHeader = AWord
telling kind.Unsupported = AWord
telling kind.Conflict = ANumber
telling kind.Gap = ANumber
telling kind.Count = ANumber
telling kind.Sha = ANumber
telling kind.Small = ANumber
telling other = NoMore

-- the rule of the policy that a kind names
abbrev pub rule_of : FaultKind → Option Denial
rule_of kind.P1 = Some rule.P1
rule_of kind.P2 = Some rule.P2
rule_of kind.P3 = Some rule.P3
rule_of kind.P4 = Some rule.P4
rule_of kind.P5 = Some rule.P5
rule_of kind.P6 = Some rule.P6
rule_of kind.P7 = Some rule.P7
rule_of kind.P8 = Some rule.P8
rule_of kind.P9 = Some rule.P9
rule_of kind.P10 = Some rule.P10
rule_of kind.P11 = Some rule.P11
rule_of kind.P12 = Some rule.P12
rule_of kind.P13 = Some rule.P13
rule_of kind.P14 = Some rule.P14
rule_of other = None
