-- Where the terms of a checked table stand, by its columns.
use Rattle.std.specs.Prelude.{ℕ, List, []}
use Rattle.std.proofs.Math.Option.{Option, none, some}
use Rattle.frames.specs.TableFrame.{definition_room}
use Rattle.tables.specs.Table.{Sofar}
use Rattle.tables.specs.words.Columns.{kinds, owners, afters, roots}
use Rattle.places.specs.Place.{Place}
use Rattle.columns.specs.words.Columns.{Columns, look, columns}
use Rattle.places.specs.code.Descent.{literal_path, literal_definition}
use Rattle.places.specs.declared.Literal.{Literal}
use Rattle.places.specs.declared.Literal.TheVariants.{Own, Event}
use Rattle.plans.specs.words.Plan.{Layout}

-- the place of what is no literal: no table has that definition
abbrev pub nowhere : Place
nowhere = record { definition = definition_room; path = [] }

-- the place in definition d by the path that there may be
unfoldable pub found : ℕ → Option (List ℕ) → Place
found d none = nowhere
found d (some w) = record { definition = d; path = w }

-- the place that `places::place` tells of a literal
unfoldable pub place_of : Columns → Literal → Place
place_of c a = found (literal_definition c a) (literal_path c a)

-- where a table's terms stand: at the places of their own literals, and their events at those of theirs
unfoldable pub layout : Sofar → Layout
layout s = record {
  place = λ i. place_of (columns (kinds s) (owners s) (afters s) (roots s)) (Own i);
  event = λ i. place_of (columns (kinds s) (owners s) (afters s) (roots s)) (Event i);
  root = look definition_room (roots s);
}
