-- A program that reads at most 98,305 bytes prints the listing of its whole input. Where the table ends
-- within its room, the table's text stays as it is, and a script that is cut is over its room both whole and
-- cut. Where it does not, the table's text is over its room both whole and cut, and the answer is 6 alone.
-- Assumes nothing.
use Rattle.std.proofs.Common.{ℕ, ◌≤◌, ◌<◌, ◌≡◌, refl, sym, ap, ◌∙◌, Bool, true, false, List, arith, length}
use Rattle.std.proofs.Common.{take, drop, length-drop, leb, length-take-le, take_all, take-take, leb-true}
use Rattle.std.proofs.Common.{leb-false}
use Rattle.std.proofs.lemmas.Bool.{lt-leb}
use Rattle.lines.specs.Line.{lines}
use Rattle.lines.specs.Judging.{Judged, accepted, refused}
use Rattle.tables.specs.Table.{Sofar, text_room, judged}
use Rattle.inputs.specs.Cut.{table_length, table_text, script_text}
use Rattle.inputs.proofs.Cutting.{table_within, cut_front}
use Rattle.listing.specs.Listing.{script_room, table_listing, listing}
use Rattle.telling.specs.ListingFrame.{alone}

-- a table's text over its room is told alone
long_table : (input : List ℕ) → text_room < table_length (lines input) → listing input ≡ alone 6 0
unfolding listing table_listing judged table_text
long_table input h =
    let long = length-take-le (table_length (lines input)) input (table_within input) in
    rw (lt-leb (length (table_text input)) text_room (omega (arith, long)))

-- two scripts over their room are listed alike
long_scripts : (j : Judged Sofar) (s t : List ℕ) → script_room < length s → script_room < length t
    → table_listing j s ≡ table_listing j t
unfolding table_listing
long_scripts (refused r n) s t h k = refl
long_scripts (accepted a) s t h k = simp (lt-leb (length s) script_room h, lt-leb (length t) script_room k)

-- an input that is cut, and whose table ends within its room
cut_script : (n : ℕ) (input : List ℕ) → 98305 ≤ n → n < length input → table_length (lines input) ≤ text_room
    → listing (take n input) ≡ listing input
unfolding listing table_text script_text
cut_script n input enough cut h =
    let end = table_length (lines input) in
    let same : table_length (lines (take n input)) ≡ end = omega (arith, cut_front n input) in
    let left = length-take-le n input (omega arith) in
    let short = length-drop end (take n input) in
    let long = length-drop end input in
    let over : script_room < length (drop end (take n input)) = omega arith in
    rw (same, take-take end n input (omega arith))
    (long_scripts (judged (take end input)) (drop end (take n input)) (drop end input) over (omega arith))

-- the first 98,305 bytes of an input, or more, are listed as the whole of it
pub listing_of_front : (n : ℕ) (input : List ℕ) → 98305 ≤ n → listing (take n input) ≡ listing input
listing_of_front n input enough =
    go (leb (length input) n) (leb (table_length (lines input)) text_room) refl refl
  where
    go : (p q : Bool) → leb (length input) n ≡ p → leb (table_length (lines input)) text_room ≡ q
        → listing (take n input) ≡ listing input
    go true q e f = ap listing (take_all n input (leb-true (length input) n e))
    go false true e f =
        let within = leb-true (table_length (lines input)) text_room f in
        cut_script n input enough (leb-false (length input) n e) within
    go false false e f =
        let over = leb-false (table_length (lines input)) text_room f in
        long_table (take n input) (omega (arith, cut_front n input)) ∙ sym (long_table input over)
