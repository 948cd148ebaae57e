-- What is told of a text that was judged is what is told of a table's text and of a saved one: one function for both. By cases.
-- Assumes nothing.
use Rattle.std.proofs.Common.{◌≡◌, Result, Ok, Err, refl}
use Rattle.links.specs.declared.GraphCounts.{GraphCounts}
use Rattle.tables.specs.declared.TableCounts.{TableCounts}
use Rattle.answers.specs.declared.NumberAt.{NumberAt}
use Rattle.answers.specs.Numbered.{checked_numbered, read_numbered}
use Rattle.answers.specs.Numbers.{of_judged, line_of, of_checked, line_of_checked, of_read, line_of_read}

pub table_judged : (r : Result TableCounts NumberAt) → of_judged r ≡ of_checked (checked_numbered r)
unfolding of_judged of_checked checked_numbered
table_judged (Ok n) = refl
table_judged (Err e) = refl

pub table_line_of : (r : Result TableCounts NumberAt) → line_of r ≡ line_of_checked (checked_numbered r)
unfolding line_of line_of_checked checked_numbered
table_line_of (Ok n) = refl
table_line_of (Err e) = refl

pub track_judged : (r : Result GraphCounts NumberAt) → of_judged r ≡ of_read (read_numbered r)
unfolding of_judged of_read read_numbered
track_judged (Ok n) = refl
track_judged (Err e) = refl

pub track_line_of : (r : Result GraphCounts NumberAt) → line_of r ≡ line_of_read (read_numbered r)
unfolding line_of line_of_read read_numbered
track_line_of (Ok n) = refl
track_line_of (Err e) = refl
