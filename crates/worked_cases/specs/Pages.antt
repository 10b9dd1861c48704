-- How many rows a page has.
use Rattle.std.specs.Prelude.{ℕ, [], Option, codes, length, replicate}
use Rattle.b2_model.specs.State.{State}
use Rattle.b2_model.specs.Pages.{keys_page, unfinished_page, page_size, most_rows}
use Rattle.worked_rows.specs.Store.{Bytes, photos_1, with_bucket, start_at}
use Rattle.worked_rows.specs.Keys.{key_store, maker}

-- the size of a page of files, keys or parts
abbrev pub size : Option ℕ → ℕ
size asked = page_size most_rows asked

-- more keys than a page has
abbrev pub many_keys : State Bytes
many_keys = record key_store { keys = replicate 1001 maker }

-- more starts than a page has
abbrev pub many_starts : State Bytes
many_starts = record (with_bucket photos_1) { versions = replicate 101 (start_at 1 1 (codes "l")) }

abbrev pub starts_shown : Option ℕ → ℕ
starts_shown most = length (unfinished_page many_starts 1 [] 0 most).rows

abbrev pub keys_shown : Option ℕ → ℕ
keys_shown most = length (keys_page many_keys 0 most).rows
