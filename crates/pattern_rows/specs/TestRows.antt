-- The test row of a pattern. At each place, in preorder, stands the code or the predicate, and then,
-- where the capture occurred before, that the operand is that of its first place.
use Rattle.std.specs.Prelude.{List, [], ◌∷◌, ◌++◌, Bool, true, false, ◌&&◌, if◌then◌else◌, Option, Some, None}
use Rattle.std.specs.List.{list_any}
use Rattle.std.specs.Str.{bytes_eq}
use Rattle.pm_ops.specs.Names.{Name}
use Rattle.pd_ast.specs.declared.pattern.Cap.{Cap}
use Rattle.pattern_rows.specs.declared.row.Place.{Place}
use Rattle.pattern_rows.specs.declared.row.Probe.{Probe}
use Rattle.pattern_rows.specs.declared.row.Probe.TheVariants.{IsCode, Holds, SameAs, SameNumberAs}
use Rattle.pattern_rows.specs.declared.row.ProbeAt.{ProbeAt}
use Rattle.pattern_rows.specs.declared.row.TestRow.{TestRow}
use Rattle.pattern_rows.specs.declared.spot.Head.{Head}
use Rattle.pattern_rows.specs.declared.spot.Head.TheVariants as head
use Rattle.pattern_rows.specs.declared.spot.Spot.{Spot}
use Rattle.pattern_rows.specs.Places.{probe_at}
use Rattle.pattern_rows.specs.Patterns.{Pattern}
use Rattle.pattern_rows.specs.Spots.{spots_of}

-- ---- occurrences of a capture

-- the capture has this name
abbrev pub names : Name → Option Cap → Bool
names name None = false
names name (Some c) = bytes_eq c.name name

-- and is written with `@@`
abbrev pub marks : Name → Option Cap → Bool
marks name None = false
marks name (Some c) = c.by_value && bytes_eq c.name name

abbrev pub is_named : Name → Spot → Bool
is_named name spot = names name spot.cap

abbrev pub is_marked : Name → Spot → Bool
is_marked name spot = marks name spot.cap

-- the place of the first spot that passes a test
abbrev pub first_place : (Spot → Bool) → List Spot → Option Place
first_place p [] = None
first_place p (spot ∷ spots) = if p spot then Some spot.place else first_place p spots

-- ---- tests

abbrev pub head_probe : Head → List Probe
head_probe head.Anything = []
head_probe (head.Code code) = IsCode code ∷ []
head_probe (head.Pred pred) = Holds pred ∷ []

-- that an operand is that of the capture's first place, by its number alone or not
abbrev pub same_probe : Bool → Place → Probe
same_probe true first = SameNumberAs first
same_probe false first = SameAs first

abbrev pub again : Bool → Option Place → List Probe
again by_value None = []
again by_value (Some first) = same_probe by_value first ∷ []

-- what a capture asks: nothing at its first place; by number alone where some occurrence of it has `@@`
abbrev pub cap_probe : List Spot → List Spot → Option Cap → List Probe
cap_probe all before None = []
cap_probe all before (Some c) = again (list_any (is_marked c.name) all) (first_place (is_named c.name) before)

abbrev pub probes_at : Place → List Probe → List ProbeAt
probes_at at [] = []
probes_at at (probe ∷ probes) = probe_at at probe ∷ probes_at at probes

-- the tests of a spot, among all spots and behind those before it
abbrev pub tests_at : List Spot → List Spot → Spot → List ProbeAt
tests_at all before spot = probes_at spot.place (head_probe spot.head ++ cap_probe all before spot.cap)

abbrev pub tests_from : List Spot → List Spot → List Spot → List ProbeAt
tests_from all before [] = []
tests_from all before (spot ∷ spots) = tests_at all before spot ++ tests_from all (before ++ spot ∷ []) spots

-- ---- holes

abbrev pub place_or : Option Place → Place → Place
place_or None other = other
place_or (Some at) other = at

-- the place that a capture stands for, where it occurs first at this place: its first `@@`
-- occurrence, else its first
abbrev pub stands_for : List Spot → Name → Place → Place
stands_for all name first = place_or (first_place (is_marked name) all) first

abbrev pub new_hole : Option Place → Name → Place → List (Name × Place)
new_hole None name at = (name, at) ∷ []
new_hole (Some before) name at = []

-- the hole of a spot: there where its capture didn't occur before
abbrev pub hole_at : List Spot → List Spot → Place → Option Cap → List (Name × Place)
hole_at all before at None = []
hole_at all before at (Some c) = new_hole (first_place (is_named c.name) before) c.name (stands_for all c.name at)

abbrev pub holes_from : List Spot → List Spot → List Spot → List (Name × Place)
holes_from all before [] = []
holes_from all before (spot ∷ spots) = hole_at all before spot.place spot.cap ++ holes_from all (before ++ spot ∷ []) spots

-- ---- the row

abbrev pub row_of_spots : List Spot → TestRow
row_of_spots all = record { tests = tests_from all [] all; holes = holes_from all [] all }

abbrev pub test_row_of : Pattern → TestRow
test_row_of p = row_of_spots (spots_of p)
