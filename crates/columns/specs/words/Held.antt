-- What columns a table holds that is kept in one struct, and those of no term.
use Rattle.std.specs.Prelude.{replicate}
use Rattle.frames.specs.TableFrame.{term_room, definition_room}
use Rattle.columns.specs.words.Columns.{Columns, all_columns, columns, read_columns}
use Rattle.columns.specs.declared.Table.{Table}

-- its five columns
abbrev pub held : Table → Columns
held t = all_columns t.kinds t.payloads t.owners t.after t.roots

-- those that places are worked out from, and those that a saved text is read against
abbrev pub placing : Table → Columns
placing t = columns t.kinds t.owners t.after t.roots

abbrev pub read_from : Table → Columns
read_from t = read_columns t.kinds t.payloads t.after t.roots

-- zeros in all of them
abbrev pub no_terms : Columns
no_terms =
    all_columns (replicate term_room 0) (replicate term_room 0) (replicate term_room 0)
    (replicate term_room 0) (replicate definition_room 0)
