-- The calls that ask for a token.
use Rattle.std.specs.Prelude.{⊤}
use Rattle.b2_types.specs.declared.call.Call.{Call}
use Rattle.b2_types.specs.declared.call.Call.TheVariants as call

abbrev pub AsksForToken : Call → Type 0
AsksForToken (call.AuthorizeAccount c) = ⊤
AsksForToken (call.GetUploadUrl c) = ⊤
AsksForToken (call.GetUploadPartUrl c) = ⊤
AsksForToken (call.GetDownloadAuthorization c) = ⊤
AsksForToken other = ⊥
