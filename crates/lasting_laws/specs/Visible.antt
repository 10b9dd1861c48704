-- What answers show of large files before their finish (the B2 reference, b2_list_file_names and
-- b2_download_file_by_id).
use Rattle.std.specs.Prelude.{◌≡◌, ◌⊎◌, ⊤, All}
use Rattle.b2_types.specs.declared.shown.Shown.{Shown}
use Rattle.b2_types.specs.declared.shown.Shown.TheVariants as shown
use Rattle.b2_types.specs.declared.shown.RowKind.{RowKind}
use Rattle.b2_types.specs.declared.shown.RowKind.TheVariants as row
use Rattle.b2_types.specs.declared.answer.AnswerOf.{AnswerOf}
use Rattle.b2_types.specs.declared.answer.AnswerOf.TheVariants as answer

-- the rows of a listing of names are uploads and folders
abbrev pub ListsFiles : Shown → Type 0
ListsFiles (shown.FileNames rows next) = All (λ r. (r.action ≡ row.Upload) ⊎ (r.action ≡ row.Folder)) rows
ListsFiles other = ⊤

-- what is sent is the content of an upload, and no start is among listed names
abbrev pub HidesStarts : {C : Type 0} → AnswerOf C → Type 0
HidesStarts (answer.Json shown) = ListsFiles shown
HidesStarts (answer.Content sent) = sent.file.action ≡ row.Upload
HidesStarts (answer.Refused fault) = ⊤
