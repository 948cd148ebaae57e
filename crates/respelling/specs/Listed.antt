-- What an input within its rooms owes whoever respells it: the same listing. Rooms count the bytes as they stand.
use Rattle.std.specs.Prelude.{◌≡◌, ℕ, ◌≤◌, List, length}
use Rattle.desk_lines.specs.Respelled.{respelled}
use Rattle.inputs.specs.Cut.{table_text, script_text}
use Rattle.tables.specs.Table.{text_room}
use Rattle.listing.specs.Listing.{script_room, listing}

-- the listing of an input is that of the input respelled, where its table and its script are each within its room
abbrev pub ListsAlike : List ℕ → Type 0
ListsAlike t =
    length (table_text t) ≤ text_room
    → length (script_text t) ≤ script_room
    → listing (respelled t) ≡ listing t
