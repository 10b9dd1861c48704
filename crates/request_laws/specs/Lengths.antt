-- How long the body of an upload is.
use Rattle.std.specs.Prelude.{◌≡◌, ⊤, ℕ}
use Rattle.b2_types.specs.declared.upload.UploadCall.{UploadCall}
use Rattle.b2_types.specs.declared.upload.UploadCall.TheVariants as upload

-- the body has this length; an upload that is bad has no body
abbrev pub HasLength : ℕ → UploadCall → Type 0
HasLength n (upload.File u) = u.length ≡ n
HasLength n (upload.Part p) = p.length ≡ n
HasLength n (upload.Bad c) = ⊤
