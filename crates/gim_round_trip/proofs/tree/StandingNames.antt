-- The names of a function are those that stand in the tree that writes it.
use Rattle.std.proofs.Common.{◌≡◌, ℕ, Bool, true, Option, Some, None, List, [], ◌∷◌, map, refl, sym, ap, subst, ◌∙◌, inl, inr}
use Rattle.std.specs.Prelude.{option_map}
use Rattle.std.specs.Fmt.{decimal}
use Rattle.pm_wide.specs.Types.{Ty}
use Rattle.gim_ast.specs.declared.function.Function.{Function}
use Rattle.gim_ast.specs.declared.function.NameRow.{NameRow}
use Rattle.gim_ast.specs.WellFormed.{rises}
use Rattle.gim_text.specs.declared.occurrence.Occurrence.{Occurrence}
use Rattle.pm_places.specs.declared.span.Span.{Span}
use Rattle.gim_text.specs.declared.tree.FunctionText.{FunctionText}
use Rattle.gim_text.specs.Occurrences.{occurrences_of, name_at}
use Rattle.gim_making.specs.declared.places.NamePlace.{NamePlace}
use Rattle.gim_typing.specs.Declarations.{Declarations, declarations_of, type_of_name, number_of}
use Rattle.gim_making.specs.Names.{AreNames, is_default, name_place, names_in, first_of}
use Rattle.gim_making.specs.Names.{version_of, rows_by_parts, rows_of_place, named_rows}
use Rattle.gim_text.proofs.Membership.{Has, has_flat, from_flat, has_said, from_said}
use Rattle.gim_making.proofs.NameRows.{first_of_here, first_of_in, one_of_version}
use Rattle.gim_making.proofs.RowTables.{first_of_has}
use Rattle.gim_round_trip.proofs.tree.KnownNames.{known_name}
use Rattle.gim_round_trip.proofs.tree.Rows.{of_names, row_found}
use Rattle.gim_round_trip.proofs.tree.SmallNumbers.{number_of_decimal}
use Rattle.gim_round_trip.proofs.tree.WhatOccurs.{IsNameOf, occurrence_is, name_of, row_occurs}
use Rattle.gim_round_trip.proofs.tree.Writes.{WritesWell}

-- ---- rows that are the same

-- a row that stands among some of these names is the first of its version there
first_there : (names rows : List NameRow) → rises (map version_of names) ≡ true
    → ((row : NameRow) → Has rows row → Has names row) → (row : NameRow)
    → Has names row → Has rows row → first_of row.version rows ≡ Some row
first_there names rows up among row named there = first_of_here rows row there
    (λ other has same. one_of_version names up other row (among other has) named same)

same_first : (names rows : List NameRow) → rises (map version_of names) ≡ true → ((row : NameRow) → Has rows row → Has names row)
    → ((row : NameRow) → Has names row → Has rows row) → (v : ℕ) → first_of v names ≡ first_of v rows
same_first names rows up among back v = by (first_of v names) refl (first_of v rows) refl where
  by : (a : Option NameRow) → first_of v names ≡ a → (b : Option NameRow) → first_of v rows ≡ b → a ≡ b
  by None nowhere None none_there = refl
  by (Some row) is b there =
      let named = first_of_in v names row is in
      let version : row.version ≡ v = first_of_has v names row is in
      sym (ap (λ x. first_of x rows) (sym version) ∙ first_there names rows up among row named (back row named)) ∙ there
  by None nowhere (Some row) there =
      let named = among row (first_of_in v rows row there) in
      let version : row.version ≡ v = first_of_has v rows row there in
      sym nowhere ∙ ap (λ x. first_of x names) (sym version) ∙ first_there names names up (λ other has. has) row named named

-- ---- the names

same_row : (m : ℕ) (t : Ty) (mark : Bool) (row : NameRow) → m ≡ row.version → t ≡ row.ty → mark ≡ row.initial
    → (let made : NameRow = record { version = m; base = row.base; ty = t; initial = mark } in made) ≡ row
same_row m t mark row version type initial =
    ap (λ v. record { version = v; base = row.base; ty = t; initial = mark }) version
    ∙ ap (λ u. record { version = row.version; base = row.base; ty = u; initial = mark }) type
    ∙ ap (λ i. record { version = row.version; base = row.base; ty = row.ty; initial = i }) initial

abbrev place_at : Occurrence → Span → NamePlace
place_at o at = record { at = at; initial = is_default o }

module _ (source : List ℕ) (tree : FunctionText) (f : Function) (w : WritesWell source tree f) where
  -- what the declarations of the tree give
  abbrev known : Declarations
  known = declarations_of source tree

  place_rows : (o : Occurrence) (at : Span) (row : NameRow) → IsNameOf source f o at row → rows_of_place known (place_at o at) ≡ row ∷ []
  place_rows o at row is =
      let name = known_name source tree f w at row.version row is.name.named (row_found f w.well row is.name.in_names) in
      ap (rows_by_parts known (place_at o at)) name.parts
      ∙ ap (λ r. r ∷ []) (same_row (number_of (decimal row.version)) (type_of_name known at) (is_default o) row
      (number_of_decimal row.version is.name.small) name.type is.mark)

  row_is_named : (row : NameRow) → Has (named_rows source tree) row → Has f.names row
  row_is_named row there =
      let place = from_flat (rows_of_place known) (names_in source tree) row there in
      let o = from_said (name_place source) (occurrences_of tree) place.0 place.1 in
      by o.0 o.1 place.0 place.2 (name_at source o.0) refl o.2 where
        only : (one : NameRow) → Has (one ∷ []) row → Has f.names one → Has f.names row
        only one (inl e) named = subst (Has f.names) e named
        only one (inr h) named = absurd h

        by : (o : Occurrence) → Has (occurrences_of tree) o → (place : NamePlace) → Has (rows_of_place known place) row → (at : Option Span)
            → name_at source o ≡ at → option_map (place_at o) at ≡ Some place → Has f.names row
        by o among place inside None e is = absurd cc
        by o among place inside (Some at) e is =
            let name = name_of source tree f w o at (occurrence_is source tree f w o among) e in
            let same : place_at o at ≡ place = cc in
            only name.0 (subst (λ l. Has l row) (ap (rows_of_place known) (sym same) ∙ place_rows o at name.0 name.1)
            inside) name.1.name.in_names

  name_has_row : (row : NameRow) → Has f.names row → Has (named_rows source tree) row
  name_has_row row named =
      let o = row_occurs source tree f w row named in
      let place = place_at o.0 o.2 in
      has_flat (rows_of_place known) (names_in source tree) place row
      (has_said (name_place source) (occurrences_of tree) o.0 place o.1 (ap (option_map (place_at o.0)) o.3.place))
      (subst (λ l. Has l row) (sym (place_rows o.0 o.2 row o.3)) (inl refl))

  pub names_stand : AreNames (named_rows source tree) f.names
  names_stand =
      let rising = (of_names f w.well).rising in
      record { rising = rising; same = same_first f.names (named_rows source tree) rising row_is_named name_has_row }
