-- The names of a function: where they stand in its text, and the row that each version has.
use Rattle.std.specs.Prelude.{◌≡◌, ℕ, ◌==◌, Bool, true, false, IsTrue, Option, Some, None, option_map, List, [], ◌∷◌, map}
use Rattle.std.specs.List.{flat_map, filter_map}
use Rattle.gim_ast.specs.declared.function.NameRow.{NameRow}
use Rattle.gim_ast.specs.Functions.{first_where}
use Rattle.gim_ast.specs.WellFormed.{rises}
use Rattle.pm_places.specs.declared.span.Span.{Span}
use Rattle.gim_text.specs.declared.tree.FunctionText.{FunctionText}
use Rattle.gim_text.specs.declared.occurrence.Occurrence.{Occurrence}
use Rattle.gim_text.specs.declared.occurrence.Occurrence.TheVariants.{Default}
use Rattle.gim_text.specs.Occurrences.{name_at, occurrences_of}
use Rattle.gim_text.specs.Texts.{name_parts}
use Rattle.pm_places.specs.Spans.{text_of}
use Rattle.gim_making.specs.declared.places.NamePlace.{NamePlace}
use Rattle.gim_typing.specs.Declarations.{Declarations, type_of_name, number_of, declarations_of}

-- ---- places

-- a name as it is, and one with the mark of a default definition
abbrev pub plain : Span → NamePlace
plain at = record { at = at; initial = false }

abbrev pub default_at : Span → NamePlace
default_at at = record { at = at; initial = true }

abbrev pub is_default : Occurrence → Bool
is_default (Default at) = true
is_default occurrence = false

-- the name that occurs
abbrev pub name_place : List ℕ → Occurrence → Option NamePlace
name_place source occurrence = option_map (λ at. record { at = at; initial = is_default occurrence }) (name_at source occurrence)

-- where names stand in the text of a function: anonymous ones in declarations, and all in phis, statements and ends
abbrev pub names_in : List ℕ → FunctionText → List NamePlace
names_in source tree = filter_map (name_place source) (occurrences_of tree)

-- ---- rows

abbrev pub rows_by_parts : Declarations → NamePlace → Option (List ℕ × List ℕ) → List NameRow
rows_by_parts known place None = []
rows_by_parts known place (Some parts) =
    record { version = number_of parts.1; base = parts.0; ty = type_of_name known place.at; initial = place.initial } ∷ []

-- the row of the name at a place
abbrev pub rows_of_place : Declarations → NamePlace → List NameRow
rows_of_place known place = rows_by_parts known place (name_parts (text_of known.source place.at))

-- the rows of the names of a function, where they stand in its text
abbrev pub named_rows : List ℕ → FunctionText → List NameRow
named_rows source tree = flat_map (rows_of_place (declarations_of source tree)) (names_in source tree)

abbrev pub version_of : NameRow → ℕ
version_of row = row.version

-- the first row of a version
abbrev pub first_of : ℕ → List NameRow → Option NameRow
first_of version rows = first_where (λ (row : NameRow). row.version == version) rows

-- The names rise by version, and have for each version the row that it has where it first stands in the text, and no other.
-- The rules on names let no version pass that has two rows.
pub record AreNames (rows names : List NameRow) : Type 0 where
  pub rising : IsTrue (rises (map version_of names))
  pub same : (version : ℕ) → first_of version names ≡ first_of version rows
