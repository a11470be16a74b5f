-- Each name that occurs in a printed function is declared, and each of its constants has its word.
use Rattle.std.proofs.Common.{◌≡◌, ℕ, Bool, true, false, Some, List, [], ◌∷◌, ◌++◌, map, refl, sym, ap, ◌∙◌}
use Rattle.std.specs.Prelude.{◌==◌, not, is_none}
use Rattle.std.specs.List.{list_any, filter_map}
use Rattle.std.specs.Fmt.{decimal}
use Rattle.std.proofs.lemmas.Bool.{and_parts, or_from, or_left, or_right, not-true, eqb-true, false_from_ne_true, false≢true}
use Rattle.pm_wide.specs.Types.{Ty}
use Rattle.gim_ast.specs.declared.function.Function.{Function}
use Rattle.gim_ast.specs.declared.function.Decl.{Decl}
use Rattle.gim_ast.specs.declared.function.NameRow.{NameRow}
use Rattle.gim_ast.specs.Functions.{assigned}
use Rattle.gim_ast.specs.Identifiers.{is_anonymous, anonymous}
use Rattle.gim_printer.specs.Printing.{assigned_text}
use Rattle.gim_ast.specs.WellFormed.{same_text, ident_of, declares_as, base_holds, is_assigned}
use Rattle.gim_text.proofs.SameTexts.{same_text_itself}
use Rattle.gim_text.specs.declared.occurrence.Occurrence.{Occurrence}
use Rattle.gim_text.specs.declared.occurrence.Occurrence.TheVariants.{Parameter, Assigned, Used, Default, Constant}
use Rattle.gim_text.specs.declared.tree.FunctionText.{FunctionText}
use Rattle.pm_places.specs.declared.span.Span.{Span}
use Rattle.gim_text.specs.Occurrences.{occurrences_of}
use Rattle.gim_text.specs.Texts.{name_parts}
use Rattle.pm_places.specs.Spans.{text_of}
use Rattle.gim_names.specs.OccurrenceTexts.{param_text, local_text}
use Rattle.gim_names.specs.Rules.{lacks_base, lacks_param, is_unassigned, is_undeclared, is_wide}
use Rattle.gim_names.proofs.NamesKept.{bare_is_anonymous}
use Rattle.gim_text.proofs.Membership.{has_map, any_has, any_from_has, none_has}
use Rattle.gim_round_trip.proofs.rules.KeptRules.{NeverBy, never_each}
use Rattle.gim_round_trip.proofs.tree.OccurringTexts.{params_said, locals_said, assigned_said}
use Rattle.gim_round_trip.proofs.tree.Rows.{HasBase, bare, of_param, of_local, base_of_row, declared_as}
use Rattle.gim_round_trip.proofs.tree.WhatOccurs.{IsNameAt, OccurrenceIs, occurrence_is}
use Rattle.gim_round_trip.proofs.tree.Writes.{WritesWell}

-- an identifier that is declared with some type is among those of the declarations
declared_among : (ident : List ℕ) (t : Ty) (decls : List Decl) → declares_as ident t decls ≡ true
    → list_any (same_text ident) (map ident_of decls) ≡ true
declared_among ident t decls declared =
    let decl = declared_as ident t decls declared in
    any_from_has (same_text ident) (map ident_of decls) decl.0.ident (has_map ident_of decls decl.0 decl.1)
    (ap (same_text ident) decl.2 ∙ same_text_itself ident)

-- a name of this version lacks this base
abbrev lacks_at : List ℕ → FunctionText → List ℕ → List ℕ → Bool
lacks_at source tree version base = lacks_base source (occurrences_of tree) (base ++ 95 ∷ version) (Some (base, version))

module _ (source : List ℕ) (tree : FunctionText) (f : Function) (w : WritesWell source tree f) where
  -- what is declared as a local or a parameter occurs as one
  is_local : (ident : List ℕ) (t : Ty) → declares_as ident t f.decls ≡ true
      → list_any (same_text ident) (filter_map (local_text source) (occurrences_of tree)) ≡ true
  is_local ident t declared = ap (list_any (same_text ident)) (locals_said source tree f w) ∙ declared_among ident t f.decls declared

  is_param : (ident : List ℕ) (t : Ty) → declares_as ident t f.params ≡ true
      → list_any (same_text ident) (filter_map (param_text source) (occurrences_of tree)) ≡ true
  is_param ident t declared = ap (list_any (same_text ident)) (params_said source tree f w) ∙ declared_among ident t f.params declared

  name_has_base : (at : Span) (row : NameRow) → IsNameAt source f at row
      → lacks_base source (occurrences_of tree) (text_of source at) (name_parts (text_of source at)) ≡ false
  name_has_base at row name = ap (lacks_base source (occurrences_of tree) (text_of source at)) name.parts
      ∙ ap (λ text. lacks_base source (occurrences_of tree) text (Some (row.base, decimal row.version))) name.text
      ∙ by (base_of_row f row name.base) where
        by : HasBase f row → lacks_at source tree (decimal row.version) row.base ≡ false
        by (bare is plain declared) =
            ap (lacks_at source tree (decimal row.version)) is
            ∙ ap not (is_local (anonymous row.version) row.ty declared)
        by (of_param b base is declared) = ap (lacks_at source tree (decimal row.version)) is
            ∙ ap not (or_right (list_any (same_text (b ∷ base)) (filter_map (local_text source) (occurrences_of tree))) _
            (is_param (b ∷ base) row.ty declared))
        by (of_local b base is plain declared) = ap (lacks_at source tree (decimal row.version)) is
            ∙ ap not (or_left _ (list_any (same_text (b ∷ base)) (filter_map (param_text source) (occurrences_of tree)))
            (is_local (b ∷ base) row.ty declared))

  -- a default definition is that of a parameter
  name_has_param : (row : NameRow) → base_holds f row ≡ true → row.initial ≡ true
      → lacks_param source (occurrences_of tree) (Some (row.base, decimal row.version)) ≡ false
  name_has_param row holds initial = by (base_of_row f row holds) where
    by : HasBase f row → lacks_param source (occurrences_of tree) (Some (row.base, decimal row.version)) ≡ false
    by (bare is plain declared) = absurd (false≢true (sym plain ∙ initial))
    by (of_param b base is declared) = rw is (ap not (is_param (b ∷ base) row.ty declared))
    by (of_local b base is plain declared) = absurd (false≢true (sym plain ∙ initial))

  name_is_assigned : (at : Span) (row : NameRow) → IsNameAt source f at row → is_assigned f row.version ≡ true
      → is_unassigned source (occurrences_of tree) (text_of source at) ≡ false
  name_is_assigned at row name stands =
      let text = text_of source at in
      let x = any_has (λ y. y == row.version) (assigned f) stands in
      let same : text ≡ assigned_text f x.0 = name.named ∙ ap (assigned_text f) (sym (eqb-true x.0 row.version x.2)) in
      ap not (ap (list_any (same_text text)) (assigned_said source tree f w)
      ∙ any_from_has (same_text text) (map (assigned_text f) (assigned f)) (assigned_text f x.0)
      (has_map (assigned_text f) (assigned f) x.0 x.1)
      (ap (same_text text) (sym same) ∙ same_text_itself text))

  -- ---- occurrences

  no_param_is_bare : list_any is_anonymous (map ident_of f.params) ≡ false
  no_param_is_bare = not-true (list_any is_anonymous (map ident_of f.params)) (and_parts _ _ w.well.declarations).1

  is_declared : (o : Occurrence) → OccurrenceIs source f o → is_undeclared source (occurrences_of tree) o ≡ false
  is_declared (Parameter at) is = bare_is_anonymous (text_of source at)
      ∙ false_from_ne_true (is_anonymous (text_of source at))
      (none_has is_anonymous (map ident_of f.params) no_param_is_bare (text_of source at) is)
  is_declared (Assigned at) is = name_has_base at is.0 is.1
  is_declared (Used at) is = or_from (lacks_base source (occurrences_of tree) (text_of source at) (name_parts (text_of source at))) _
      (name_has_base at is.0 is.1) (name_is_assigned at is.0 is.1 is.3)
  is_declared (Default at) is = ap (lacks_param source (occurrences_of tree)) is.1.parts ∙ name_has_param is.0 is.1.base is.2
  is_declared o is = refl

  pub never_undeclared : NeverBy (λ b o. is_undeclared source (occurrences_of tree) o) [] (occurrences_of tree)
  never_undeclared = never_each (is_undeclared source (occurrences_of tree)) (occurrences_of tree)
      (λ o there. is_declared o (occurrence_is source tree f w o there))

  has_word : (o : Occurrence) → OccurrenceIs source f o → is_wide source o ≡ false
  has_word (Constant literal) is = ap is_none is.1
  has_word o is = refl

  pub never_wide : NeverBy (λ b o. is_wide source o) [] (occurrences_of tree)
  never_wide = never_each (is_wide source) (occurrences_of tree) (λ o there. has_word o (occurrence_is source tree f w o there))
