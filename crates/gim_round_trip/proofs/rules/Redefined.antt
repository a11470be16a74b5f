-- No occurrence of a printed function repeats or contradicts one before it.
use Rattle.std.proofs.Common.{◌≡◌, ℕ, Bool, true, false, cond, Option, Some, None, List, [], ◌∷◌, sym, ap, subst, ◌∙◌, inl, refl}
use Rattle.std.specs.List.{filter_map}
use Rattle.std.specs.Fmt.{decimal}
use Rattle.std.proofs.lemmas.Bool.{and_parts, false≢true}
use Rattle.gim_ast.specs.declared.function.Function.{Function}
use Rattle.gim_ast.specs.declared.function.NameRow.{NameRow}
use Rattle.gim_ast.specs.Functions.{assigned}
use Rattle.gim_ast.specs.WellFormed.{same_text, all_distinct, initial_bases, numbers_of}
use Rattle.gim_text.specs.declared.occurrence.Occurrence.{Occurrence}
use Rattle.gim_text.specs.declared.occurrence.Occurrence.TheVariants.{Local, Assigned, Used, Default}
use Rattle.pm_places.specs.declared.span.Span.{Span}
use Rattle.gim_text.specs.declared.tree.FunctionText.{FunctionText}
use Rattle.gim_text.specs.Occurrences.{occurrences_of, name_at}
use Rattle.gim_text.specs.Texts.{name_parts}
use Rattle.pm_places.specs.Spans.{text_of}
use Rattle.gim_names.specs.OccurrenceTexts.{version_in, turned, anonymous_parts, declared_text, block_number}
use Rattle.gim_names.specs.OccurrenceTexts.{assigned_version, plain_version, default_version, version_base}
use Rattle.gim_names.specs.OccurrenceTexts.{base_default}
use Rattle.gim_names.specs.Rules.{stands, is_declared_again, is_assigned_again, has_other_base, has_other_mark}
use Rattle.gim_names.specs.Rules.{has_other_default, is_repeated, is_marked_otherwise, is_contradicted, is_redefined}
use Rattle.gim_making.specs.Names.{is_default}
use Rattle.gim_text.proofs.Membership.{Has, from_said}
use Rattle.gim_making.proofs.NameRows.{one_of_version}
use Rattle.gim_making.proofs.NameParts.{some_is, bare_is_anonymous}
use Rattle.gim_round_trip.proofs.rules.KeptRules.{NeverBy, never_either, never_twice, never_both, never_differs}
use Rattle.gim_round_trip.proofs.tree.DistinctTexts.{one_of}
use Rattle.gim_round_trip.proofs.tree.OccurringTexts.{declared_said, numbers_said, versions_said}
use Rattle.gim_round_trip.proofs.tree.Rows.{of_names, version_small, name_facts}
use Rattle.gim_round_trip.proofs.tree.SmallNumbers.{AreSmallNumbers, small_decimal, distinct_decimals, numbers_small}
use Rattle.gim_round_trip.proofs.tree.WellFormedParts.{of_blocks, assigned_row}
use Rattle.gim_round_trip.proofs.tree.WhatOccurs.{IsNameOf, occurrence_is, name_of}
use Rattle.gim_round_trip.proofs.tree.Writes.{WritesWell}

-- ---- default definitions

-- no two default definitions have one base
one_default : (rows : List NameRow) → all_distinct same_text (initial_bases rows) ≡ true → (a b : NameRow) → Has rows a → Has rows b
    → a.initial ≡ true → b.initial ≡ true → a.base ≡ b.base → a ≡ b
one_default rows distinct a b p q first second bases =
    one_of (λ (row : NameRow). cond row.initial (row.base ∷ []) []) rows distinct a b b.base p q
    (subst (λ i. Has (cond i (a.base ∷ []) []) b.base) (sym first) (inl bases))
    (subst (λ i. Has (cond i (b.base ∷ []) []) b.base) (sym second) (inl refl))

-- ---- what an occurrence says of versions, by the name that stands there

bare_by : (o : Option (List ℕ × List ℕ)) (p : List ℕ × List ℕ) → turned (anonymous_parts o) ≡ Some p
    → (version : List ℕ) × (o ≡ Some ([], version)) × (turned o ≡ Some p)
bare_by None p e = absurd cc
bare_by (Some ([], version)) p e = (version, refl, e)
bare_by (Some (b ∷ base, version)) p e = absurd cc

pair_place : (source : List ℕ) (o : Occurrence) (p : List ℕ × List ℕ) → version_base source o ≡ Some p
    → (at : Span) × (name_at source o ≡ Some at) × (turned (name_parts (text_of source at)) ≡ Some p)
pair_place source (Local at) p e =
    let bare = bare_by (name_parts (text_of source at)) p e in
    (at, ap (λ b. cond b (Some at) None) (bare_is_anonymous (text_of source at) bare.0 bare.1), bare.2)
pair_place source (Assigned at) p e = (at, refl, e)
pair_place source (Used at) p e = (at, refl, e)
pair_place source (Default at) p e = (at, refl, e)
pair_place source o p e = absurd cc

plain_place : (source : List ℕ) (o : Occurrence) (x : List ℕ) → plain_version source o ≡ Some x
    → (at : Span) × (name_at source o ≡ Some at) × (version_in (name_parts (text_of source at)) ≡ Some x) × (is_default o ≡ false)
plain_place source (Assigned at) x e = (at, refl, e, refl)
plain_place source (Used at) x e = (at, refl, e, refl)
plain_place source o x e = absurd cc

marked_place : (source : List ℕ) (o : Occurrence) (x : List ℕ) → default_version source o ≡ Some x
    → (at : Span) × (name_at source o ≡ Some at) × (version_in (name_parts (text_of source at)) ≡ Some x) × (is_default o ≡ true)
marked_place source (Default at) x e = (at, refl, e, refl)
marked_place source o x e = absurd cc

default_place : (source : List ℕ) (o : Occurrence) (p : List ℕ × List ℕ) → base_default source o ≡ Some p
    → (at : Span) × (name_at source o ≡ Some at) × (name_parts (text_of source at) ≡ Some p) × (is_default o ≡ true)
default_place source (Default at) p e = (at, refl, e, refl)
default_place source o p e = absurd cc

module _ (source : List ℕ) (tree : FunctionText) (f : Function) (w : WritesWell source tree f) where
  -- the name that an occurrence of the tree is
  named : (o : Occurrence) (at : Span) → Has (occurrences_of tree) o → name_at source o ≡ Some at → (row : NameRow)
      × IsNameOf source f o at row
  named o at there place = name_of source tree f w o at (occurrence_is source tree f w o there) place

  -- rows of one version are one
  one_row : (a b : NameRow) → Has f.names a → Has f.names b → decimal a.version ≡ decimal b.version → a ≡ b
  one_row a b p q same = one_of_version f.names (of_names f w.well).rising a b p q
      (small_decimal a.version b.version (version_small f w.within a p) (version_small f w.within b q) same)

  pair_said : (p : List ℕ × List ℕ) → Has (filter_map (version_base source) (occurrences_of tree)) p
      → (row : NameRow) × Has f.names row × (p ≡ (decimal row.version, row.base))
  pair_said p there =
      let o = from_said (version_base source) (occurrences_of tree) p there in
      let place = pair_place source o.0 p o.2 in
      let name = named o.0 place.0 o.1 place.1 in
      (name.0, name.1.name.in_names, some_is p (decimal name.0.version, name.0.base) (sym place.2 ∙ ap turned name.1.name.parts))

  -- the version of a row that is a default definition, or none
  IsVersion : Bool → List ℕ → Type 0
  IsVersion initial text = (row : NameRow) × Has f.names row × (row.initial ≡ initial) × (text ≡ decimal row.version)

  plain_said : (x : List ℕ) → Has (filter_map (plain_version source) (occurrences_of tree)) x → IsVersion false x
  unfolding IsVersion
  plain_said x there =
      let o = from_said (plain_version source) (occurrences_of tree) x there in
      let place = plain_place source o.0 x o.2 in
      let name = named o.0 place.0 o.1 place.1 in (
        name.0,
        name.1.name.in_names,
        sym name.1.mark
            ∙ place.3,
        some_is x (decimal name.0.version) (sym place.2 ∙ ap version_in name.1.name.parts),
      )

  marked_said : (x : List ℕ) → Has (filter_map (default_version source) (occurrences_of tree)) x → IsVersion true x
  unfolding IsVersion
  marked_said x there =
      let o = from_said (default_version source) (occurrences_of tree) x there in
      let place = marked_place source o.0 x o.2 in
      let name = named o.0 place.0 o.1 place.1 in (
        name.0,
        name.1.name.in_names,
        sym name.1.mark
            ∙ place.3,
        some_is x (decimal name.0.version) (sym place.2 ∙ ap version_in name.1.name.parts),
      )

  default_said : (p : List ℕ × List ℕ) → Has (filter_map (base_default source) (occurrences_of tree)) p
      → (row : NameRow) × Has f.names row × (row.initial ≡ true) × (p ≡ (row.base, decimal row.version))
  default_said p there =
      let o = from_said (base_default source) (occurrences_of tree) p there in
      let place = default_place source o.0 p o.2 in
      let name = named o.0 place.0 o.1 place.1 in (
        name.0,
        name.1.name.in_names,
        sym name.1.mark
            ∙ place.3,
        some_is p (name.0.base, decimal name.0.version) (sym place.2 ∙ name.1.name.parts),
      )

  -- a version is that of a default definition or of none
  marks_apart : (x y : List ℕ) → IsVersion false x → IsVersion true y → x ≡ y → ⊥
  unfolding IsVersion
  marks_apart x y plain_one default_one same =
      let rows = one_row plain_one.0 default_one.0 plain_one.1 default_one.1 (sym plain_one.3 ∙ same ∙ default_one.3) in
      false≢true (sym plain_one.2 ∙ ap (λ (row : NameRow). row.initial) rows ∙ default_one.2)

  -- ---- the rules, one by one

  never_declared_again : NeverBy (is_declared_again source) [] (occurrences_of tree)
  never_declared_again =
      let idents = ap (all_distinct same_text) (declared_said source tree f w) ∙ (and_parts _ _ (and_parts _ _ w.well.declarations).0).1 in
      let numbers = ap (all_distinct same_text) (numbers_said source tree f w) ∙ distinct_decimals (numbers_of f) (numbers_small f w.within)
      ∙ (of_blocks f w.well).distinct in
      never_either (λ b o. stands (declared_text source o) (filter_map (declared_text source) b))
      (λ b o. stands (block_number source o) (filter_map (block_number source) b)) [] (occurrences_of tree)
      (never_twice (declared_text source) (occurrences_of tree) idents) (never_twice (block_number source) (occurrences_of tree) numbers)

  never_assigned_again : NeverBy (is_assigned_again source) [] (occurrences_of tree)
  never_assigned_again =
      let small : AreSmallNumbers (assigned f) = λ x there. let row = assigned_row f w.well x there in
      (name_facts f x row.0 w.well w.within row.1).small in
      never_twice (assigned_version source) (occurrences_of tree)
      (ap (all_distinct same_text) (versions_said source tree f w) ∙ distinct_decimals (assigned f) small
      ∙ (of_names f w.well).assigned_once)

  never_other_base : NeverBy (has_other_base source) [] (occurrences_of tree)
  never_other_base = never_differs (version_base source) (occurrences_of tree) (λ p q first second same.
      let a = pair_said p first in
      let b = pair_said q second in
      let rows = one_row a.0 b.0 a.1 b.1 (sym (ap (λ (r : List ℕ × List ℕ). r.0) a.2) ∙ same ∙ ap (λ (r : List ℕ × List ℕ). r.0) b.2) in
      ap (λ (r : List ℕ × List ℕ). r.1) a.2 ∙ ap (λ (row : NameRow). row.base) rows ∙ sym (ap (λ (r : List ℕ × List ℕ). r.1) b.2))

  never_other_mark : NeverBy (has_other_mark source) [] (occurrences_of tree)
  never_other_mark =
      let ms = occurrences_of tree in
      never_either (λ b o. stands (default_version source o) (filter_map (plain_version source) b))
      (λ b o. stands (plain_version source o) (filter_map (default_version source) b)) [] ms
      (never_both (plain_version source) (default_version source) ms
      (λ x y first second same. marks_apart x y (plain_said x first) (marked_said y second) (sym same)))
      (never_both (default_version source) (plain_version source) ms
      (λ x y first second same. marks_apart y x (plain_said y second) (marked_said x first) same))

  never_other_default : NeverBy (has_other_default source) [] (occurrences_of tree)
  never_other_default = never_differs (base_default source) (occurrences_of tree) (λ p q first second same.
      let a = default_said p first in
      let b = default_said q second in
      let rows = one_default f.names (of_names f w.well).initials a.0 b.0 a.1 b.1 a.2 b.2
      (sym (ap (λ (r : List ℕ × List ℕ). r.0) a.3) ∙ same ∙ ap (λ (r : List ℕ × List ℕ). r.0) b.3) in
      ap (λ (r : List ℕ × List ℕ). r.1) a.3 ∙ ap (λ (row : NameRow). decimal row.version) rows
      ∙ sym (ap (λ (r : List ℕ × List ℕ). r.1) b.3))

  pub never_redefined : NeverBy (is_redefined source) [] (occurrences_of tree)
  never_redefined =
      let ms = occurrences_of tree in
      never_either (is_repeated source) (is_contradicted source) [] ms
      (never_either (is_declared_again source) (is_assigned_again source) [] ms never_declared_again never_assigned_again)
      (never_either (has_other_base source) (is_marked_otherwise source) [] ms never_other_base
      (never_either (has_other_mark source) (has_other_default source) [] ms never_other_mark never_other_default))
