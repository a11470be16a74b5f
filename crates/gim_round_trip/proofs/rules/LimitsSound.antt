-- No limit is passed by trees that write well-formed functions within the limits.
use Rattle.std.proofs.Common.{◌≡◌, ℕ, ◌<◌, ◌≤◌, ◌+◌, suc, Bool, true, false, Option, Some, None}
use Rattle.std.proofs.Common.{List, [], ◌∷◌, map, length, lit≤, refl, sym, ap, ◌∙◌, arith}
use Rattle.std.specs.Prelude.{◌==◌, ◌&&◌, ◌||◌, not, is_none, option_map}
use Rattle.std.specs.List.{AllZip, list_all, filter_map, cons_option}
use Rattle.std.specs.Fmt.{decimal}
use Rattle.std.proofs.lemmas.Bool.{and_from, and_right, ne_eqb}
use Rattle.std.proofs.lemmas.List.{length-map}
use Rattle.gim_ast.specs.declared.function.Function.{Function}
use Rattle.gim_ast.specs.declared.function.NameRow.{NameRow}
use Rattle.lexing.specs.Numbers.{is_number_text, number_below}
use Rattle.gim_ast.specs.WellFormed.{same_text, numbers_of}
use Rattle.lexing.proofs.NumberLemmas.{number_below-decimal}
use Rattle.gim_text.proofs.SameTexts.{same_text_itself}
use Rattle.gim_text.specs.declared.limits.TheConstants.{BLOCK_LIMIT, NAME_LIMIT, NUMBER_LIMIT}
use Rattle.gim_text.specs.declared.occurrence.Occurrence.{Occurrence}
use Rattle.gim_text.specs.declared.occurrence.Occurrence.TheVariants.{Block, Jump}
use Rattle.pm_places.specs.declared.span.Span.{Span}
use Rattle.gim_text.specs.declared.tree.FunctionText.{FunctionText}
use Rattle.pm_places.specs.FirstFaults.{first_fault}
use Rattle.gim_text.specs.Occurrences.{occurrences_of, name_at, block_at}
use Rattle.pm_places.specs.Spans.{text_of}
use Rattle.gim_names.specs.OccurrenceTexts.{block_number}
use Rattle.gim_shape.specs.Blocks.{is_among}
use Rattle.gim_limits.specs.Limits.{version_of, version_at, digits_at, is_above, is_any_above, blocks_among}
use Rattle.gim_limits.specs.Limits.{versions_of, different, is_name_too_many, is_block_too_many, is_too_large}
use Rattle.gim_limits.specs.Limits.{large_faults, function_limit_faults, limits_fault}
use Rattle.gim_making.specs.Names.{version_of as row_version}
use Rattle.gim_text.proofs.Membership.{Has, has_map, any_from_has, all_from_has, from_said}
use Rattle.gim_making.proofs.NameParts.{some_is}
use Rattle.gim_limits.proofs.DifferentTexts.{few_different}
use Rattle.gim_round_trip.proofs.rules.KeptRules.{NeverBy, never_either, never_among, never_each}
use Rattle.gim_shape.proofs.PlacesWithoutFault.{none_of_each}
use Rattle.gim_making.proofs.Filters.{images_kept}
use Rattle.gim_round_trip.proofs.tree.OccurringTexts.{numbers_said}
use Rattle.gim_round_trip.proofs.tree.PairedLists.{beside_first}
use Rattle.gim_round_trip.proofs.tree.WhatOccurs.{OccurrenceIs, occurrence_is, name_of}
use Rattle.gim_round_trip.proofs.tree.Writes.{WritesWell}

not_above : (n : ℕ) → n < NUMBER_LIMIT → is_above (decimal n) ≡ false
not_above n small = and_right (is_number_text (decimal n)) (is_none (number_below NUMBER_LIMIT (decimal n)))
    (ap is_none (number_below-decimal NUMBER_LIMIT n (lit≤ tt) small))

-- one block's head more
counted : (o : Occurrence) (before os : List Occurrence)
    → blocks_among os + blocks_among (o ∷ before) ≡ blocks_among (o ∷ os) + blocks_among before
counted o before os = by (block_at o) where
  by : (at : Option Span) → blocks_among os + length (cons_option at (filter_map block_at before))
      ≡ length (cons_option at (filter_map block_at os)) + blocks_among before
  by None = refl
  by (Some at) = omega arith

never_blocks : (before os : List Occurrence) → blocks_among os + blocks_among before ≤ BLOCK_LIMIT
    → NeverBy (λ b o. is_block_too_many (blocks_among b) (block_at o)) before os
never_blocks before [] room = tt
never_blocks before (o ∷ os) room = (by (block_at o) room, never_blocks (o ∷ before) os (omega (arith, room, counted o before os))) where
  by : (at : Option Span) → length (cons_option at (filter_map block_at os)) + blocks_among before ≤ BLOCK_LIMIT
      → is_block_too_many (blocks_among before) at ≡ false
  by None room = refl
  by (Some at) room = ne_eqb (blocks_among before) BLOCK_LIMIT (λ same. omega arith)

none_too_large : (source : List ℕ) (before os : List Occurrence) → NeverBy (is_too_large source) before os
    → first_fault (large_faults source before os) ≡ None
none_too_large source before [] never = refl
none_too_large source before (o ∷ os) never = rw (never.0) (none_too_large source (o ∷ before) os never.1)

module _ (source : List ℕ) (tree : FunctionText) (f : Function) (w : WritesWell source tree f) where
  -- ---- the numbers that occur

  version_is : (o : Occurrence) (digits : List ℕ) → OccurrenceIs source f o → version_at source o ≡ Some digits
      → (row : NameRow) × Has f.names row × (row.version < NUMBER_LIMIT) × (digits ≡ decimal row.version)
  version_is o digits is e = by (name_at source o) refl e where
    by : (place : Option Span) → name_at source o ≡ place → version_of source place ≡ Some digits
        → (row : NameRow) × Has f.names row × (row.version < NUMBER_LIMIT) × (digits ≡ decimal row.version)
    by None place e = absurd cc
    by (Some at) place e =
        let name = name_of source tree f w o at is place in (
          name.0,
          name.1.name.in_names,
          name.1.name.small,
          some_is digits (decimal name.0.version)
              (sym e ∙ ap (option_map (λ (parts : List ℕ × List ℕ). parts.1)) name.1.name.parts),
        )

  digits_are : (o : Occurrence) (digits : List ℕ) → OccurrenceIs source f o → digits_at source o ≡ Some digits
      → (n : ℕ) × (n < NUMBER_LIMIT) × (digits ≡ decimal n)
  digits_are (Block at) digits is e = (is.0, is.1, some_is digits (text_of source at) (sym e) ∙ is.2)
  digits_are (Jump at) digits is e = (is.0, is.1, some_is digits _ (sym e) ∙ is.2)
  digits_are o digits is e = let row = version_is o digits is e in (row.0.version, row.2, row.3)

  never_above : NeverBy (λ b o. is_any_above (digits_at source o)) [] (occurrences_of tree)
  never_above = never_each (λ o. is_any_above (digits_at source o)) (occurrences_of tree)
      (λ o there. by o (occurrence_is source tree f w o there) (digits_at source o) refl) where
        by : (o : Occurrence) → OccurrenceIs source f o → (digits : Option (List ℕ)) → digits_at source o ≡ digits
            → is_any_above digits ≡ false
        by o is None e = refl
        by o is (Some digits) e = let n = digits_are o digits is e in ap is_above n.2 ∙ not_above n.0 n.1

  -- ---- how many names there are

  -- the decimals of the versions of the function
  versions_known : List (List ℕ)
  versions_known = map decimal (map row_version f.names)

  known_version : (row : NameRow) → Has f.names row → is_among versions_known (decimal row.version) ≡ true
  unfolding versions_known
  known_version row there =
      any_from_has (same_text (decimal row.version)) versions_known (decimal row.version)
      (has_map decimal (map row_version f.names) row.version (has_map row_version f.names row there))
      (same_text_itself (decimal row.version))

  Within : List Occurrence → Type 0
  Within os = (o : Occurrence) → Has os o → Has (occurrences_of tree) o

  versions_are_known : (before : List Occurrence) → Within before → list_all (is_among versions_known) (versions_of source before) ≡ true
  unfolding Within
  versions_are_known before within = all_from_has (is_among versions_known) (versions_of source before) (λ digits there.
      let o = from_said (version_at source) before digits there in
      let row = version_is o.0 digits (occurrence_is source tree f w o.0 (within o.0 o.1)) o.2 in
      ap (is_among versions_known) row.3 ∙ known_version row.0 row.1)

  -- where these versions stand before it, a name is not one too many
  names_few : (before : List Occurrence) (row : NameRow) → Within before → Has f.names row
      → is_name_too_many (versions_of source before) (Some (decimal row.version)) ≡ false
  unfolding versions_known
  names_few before row within there = by (is_among (versions_of source before) (decimal row.version)) refl where
    by : (b : Bool) → is_among (versions_of source before) (decimal row.version) ≡ b
        → (not b && (different (versions_of source before) == NAME_LIMIT)) ≡ false
    by true e = refl
    by false e =
        let versions = versions_of source before in
        let all =
        and_from (is_among versions_known (decimal row.version)) (list_all (is_among versions_known) versions)
        (known_version row there)
        (versions_are_known before within) in
        let most : different (decimal row.version ∷ versions) ≤ length versions_known = few_different versions_known
        (decimal row.version ∷ versions) all in
        let count : length versions_known ≡ length f.names =
        length-map (map row_version f.names) decimal ∙ length-map f.names row_version in
        let more : suc (different versions) ≤ length versions_known = rw e at most in
        let few : length f.names ≤ NAME_LIMIT = w.within.names in
        ne_eqb (different versions) NAME_LIMIT (λ same. omega arith)

  never_names : NeverBy (λ b o. is_name_too_many (versions_of source b) (version_at source o)) [] (occurrences_of tree)
  unfolding Within
  never_names = never_among (λ b o. is_name_too_many (versions_of source b) (version_at source o)) (occurrences_of tree)
      (λ before o within there. by before o within (occurrence_is source tree f w o there) (version_at source o) refl) where
        by : (before : List Occurrence) (o : Occurrence) → Within before → OccurrenceIs source f o → (version : Option (List ℕ))
            → version_at source o ≡ version → is_name_too_many (versions_of source before) version ≡ false
        by before o within is None e = refl
        by before o within is (Some digits) e = let row = version_is o digits is e in
            ap (λ d. is_name_too_many (versions_of source before) (Some d)) row.3 ∙ names_few before row.0 within row.1

  -- ---- the whole

  blocks_few : blocks_among (occurrences_of tree) ≤ BLOCK_LIMIT
  blocks_few =
      let texts : filter_map (block_number source) (occurrences_of tree)
      ≡ map (text_of source) (filter_map block_at (occurrences_of tree)) =
      images_kept (block_number source) block_at (text_of source) (occurrences_of tree) (λ o there. same o) in
      let count =
      sym (length-map (filter_map block_at (occurrences_of tree)) (text_of source))
      ∙ ap length (sym texts ∙ numbers_said source tree f w)
      ∙ length-map (numbers_of f) decimal ∙ length-map f.blocks _ in
      let few : length f.blocks ≤ BLOCK_LIMIT = w.within.blocks in
      omega (arith, count) where
        same : (o : Occurrence) → block_number source o ≡ option_map (text_of source) (block_at o)
        same (Block at) = refl
        same o = refl

  function_free : first_fault (function_limit_faults source tree) ≡ None
  function_free =
      let os = occurrences_of tree in
      none_too_large source [] os (never_either (λ b o. is_any_above (digits_at source o))
      (λ b o. is_name_too_many (versions_of source b) (version_at source o)
      || is_block_too_many (blocks_among b) (block_at o)) [] os never_above
      (never_either (λ b o. is_name_too_many (versions_of source b) (version_at source o))
      (λ b o. is_block_too_many (blocks_among b) (block_at o)) [] os never_names (never_blocks [] os (omega (arith, blocks_few)))))

pub limits_sound : (source : List ℕ) (trees : List FunctionText) (fs : List Function) → AllZip (WritesWell source) trees fs
    → limits_fault source trees ≡ None
unfolding limits_fault
limits_sound source trees fs written =
    none_of_each (function_limit_faults source) trees (λ tree there. let f = beside_first (WritesWell source) trees fs written tree there in
    function_free source tree f.0 f.2)
