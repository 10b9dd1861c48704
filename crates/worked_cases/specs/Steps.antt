-- Steps that are none.
use Rattle.std.specs.Prelude.{ℕ, List, [], ◌∷◌, Some, None, codes, map}
use Rattle.b2_types.specs.declared.upload.UploadCall.TheVariants as upload
use Rattle.b2_model.specs.State.{State}
use Rattle.b2_model.specs.Run.{Progress, Step, begins, ends, run, of_bytes}
use Rattle.worked_rows.specs.Store.{Bytes, words}
use Rattle.worked_rows.specs.Uploads.{ready, url_token, url_grant, given_abc, body_abc}

abbrev pub run_of : List (Step Bytes) → Progress Bytes
run_of steps = run of_bytes ready words steps

abbrev pub begin_at : ℕ → ℕ → Step Bytes
begin_at t conn = begins t conn (Some url_token) (upload.File given_abc)

abbrev pub after_begin : Progress Bytes
after_begin = run_of (begin_at 3000 1 ∷ [])

-- a second URL
abbrev pub two_urls : State Bytes
two_urls = record ready { grants = url_grant ∷ record url_grant { text = codes "second" } ∷ [] }

-- the connections of two uploads, in the order of the list, that begin on these
abbrev pub connections : ℕ → ℕ → List ℕ
connections one other =
    map (λ f. f.conn)
    (run of_bytes two_urls words (begin_at 3000 one ∷ begins 4000 other (Some (codes "second")) (upload.File given_abc) ∷ [])).state.flights

abbrev pub end_at : ℕ → ℕ → Step Bytes
end_at t conn = ends t conn (body_abc None)
