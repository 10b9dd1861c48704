-- Tests of the small kinds.
use Rattle.std.specs.Prelude.{ℕ, Bool, true, false, ◌==◌, ◌+◌, ◌*◌, min}
use Rattle.b2_types.specs.declared.kinds.Action.{Action}
use Rattle.b2_types.specs.declared.kinds.Action.TheVariants as action
use Rattle.b2_types.specs.declared.kinds.Mode.{Mode}
use Rattle.b2_types.specs.declared.kinds.Mode.TheVariants as mode
use Rattle.b2_types.specs.declared.kinds.Period.{Period}
use Rattle.b2_types.specs.declared.kinds.Period.TheVariants as period
use Rattle.b2_types.specs.declared.kinds.TokenKind.{TokenKind}
use Rattle.b2_types.specs.declared.kinds.TokenKind.TheVariants as token

abbrev pub is_upload : Action → Bool
is_upload action.Upload = true
is_upload action.Hide = false
is_upload action.Start = false

abbrev pub is_hide : Action → Bool
is_hide action.Upload = false
is_hide action.Hide = true
is_hide action.Start = false

abbrev pub is_start : Action → Bool
is_start action.Upload = false
is_start action.Hide = false
is_start action.Start = true

abbrev pub is_compliance : Mode → Bool
is_compliance mode.Governance = false
is_compliance mode.Compliance = true

abbrev pub is_governance : Mode → Bool
is_governance mode.Governance = true
is_governance mode.Compliance = false

-- one token kind for another
abbrev pub token_place : TokenKind → ℕ
token_place token.Account = 0
token_place token.UploadUrl = 1
token_place token.PartUrl = 2
token_place token.Download = 3

abbrev pub is_download : TokenKind → Bool
is_download kind = token_place kind == 3

-- the milliseconds of a day
abbrev pub day : ℕ
day = 86400000

-- the last moment, 9999-12-31T23:59:59.999Z
abbrev pub last_moment : ℕ
last_moment = 253402300799999

-- so many milliseconds later, but never after the last moment
abbrev pub later : ℕ → ℕ → ℕ
later t milliseconds = min (t + milliseconds) last_moment

-- a year has 365 days
abbrev pub period_days : Period → ℕ
period_days (period.Days n) = n
period_days (period.Years n) = n * 365
