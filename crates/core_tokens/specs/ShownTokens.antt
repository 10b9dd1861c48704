-- What is shown of tokens for uploads and downloads.
use Rattle.std.specs.Prelude.{ℕ, List, ◌++◌, codes}
use Rattle.b2_base.specs.FileId.{file_id}
use Rattle.b2_base.specs.declared.extent.Extent.{Extent}
use Rattle.b2_types.specs.declared.shown.Shown.{Shown}
use Rattle.b2_types.specs.declared.shown.Shown.TheVariants as shown
use Rattle.b2_model.specs.AskFiles.{upload_url}
use Rattle.b2_model.specs.State.{State}

abbrev pub shows_upload : State Extent → ℕ → List ℕ → Shown
shows_upload M bucket text = shown.UploadUrl (record { bucket = bucket; token = text; url = upload_url M bucket })

abbrev pub shows_part : State Extent → ℕ → ℕ → List ℕ → Shown
shows_part M bucket file text = shown.PartUrl (record {
  file = record { bucket = bucket; num = file };
  token = text;
  url = M.settings.url ++ codes "/b2api/v3/b2_upload_part/" ++ file_id bucket file;
})

abbrev pub shows_download : ℕ → List ℕ → List ℕ → Shown
shows_download bucket prefix text = shown.DownloadToken (record { bucket = bucket; prefix = prefix; token = text })
