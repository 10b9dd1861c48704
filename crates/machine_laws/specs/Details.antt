-- Calls and uploads that are amiss, and what they are told.
use Rattle.std.specs.Prelude.{⊤}
use Rattle.b2_types.specs.declared.call.Call.{Call}
use Rattle.b2_types.specs.declared.call.Call.TheVariants as call
use Rattle.b2_types.specs.declared.upload.UploadCall.{UploadCall}
use Rattle.b2_types.specs.declared.upload.UploadCall.TheVariants as upload
use Rattle.b2_types.specs.Fault.{HasItsDetail}

-- a call that is amiss brings a fault with its detail
abbrev pub BringsItsDetail : Call → Type 0
BringsItsDetail (call.Bad c) = HasItsDetail c.fault
BringsItsDetail other = ⊤

-- so does an upload
abbrev pub UploadBringsItsDetail : UploadCall → Type 0
UploadBringsItsDetail (upload.Bad c) = HasItsDetail c.fault
UploadBringsItsDetail other = ⊤
