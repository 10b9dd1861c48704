-- The types of files whose type is left to the store.
use Rattle.std.specs.Prelude.{ℕ, List, [], ◌∷◌, codes}
use Rattle.b2_model.specs.MediaTypes.{resolved_type}

abbrev pub auto_type : List ℕ
auto_type = codes "b2/x-auto"

-- what the store makes of a name
abbrev pub type_of : List ℕ × List ℕ → List ℕ
type_of row = resolved_type auto_type row.0

-- names, and the types of their files
abbrev pub texts : List (List ℕ × List ℕ)
texts =
    (codes "a.txt", codes "text/plain")
    ∷ (codes "a.html", codes "text/html")
    ∷ (codes "a.htm", codes "text/html")
    ∷ (codes "a.css", codes "text/css")
    ∷ (codes "a.csv", codes "text/csv")
    ∷ (codes "a.js", codes "text/javascript")
    ∷ (codes "a.json", codes "application/json")
    ∷ (codes "a.xml", codes "application/xml")
    ∷ []

abbrev pub others : List (List ℕ × List ℕ)
others =
    (codes "a.pdf", codes "application/pdf")
    ∷ (codes "a.zip", codes "application/zip")
    ∷ (codes "a.gz", codes "application/gzip")
    ∷ (codes "a.png", codes "image/png")
    ∷ (codes "a.jpg", codes "image/jpeg")
    ∷ (codes "a.jpeg", codes "image/jpeg")
    ∷ (codes "a.gif", codes "image/gif")
    ∷ (codes "a.mp4", codes "video/mp4")
    ∷ []

-- the last full stop counts, in the part after the last slash; letters in any case
abbrev pub unusual : List (List ℕ × List ℕ)
unusual =
    (codes "A.TxT", codes "text/plain")
    ∷ (codes "a.tar.gz", codes "application/gzip")
    ∷ (codes "d/.png", codes "image/png")
    ∷ (codes "d.txt/a", codes "application/octet-stream")
    ∷ (codes "txt", codes "application/octet-stream")
    ∷ (codes "a.", codes "application/octet-stream")
    ∷ (codes "a.tx", codes "application/octet-stream")
    ∷ (codes "a.txt ", codes "application/octet-stream")
    ∷ []
