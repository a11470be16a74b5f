-- What is assigned and used in a function that is made, by what occurs in its tree.
use Rattle.std.proofs.Common.{◌≡◌, ◌⊎◌, ℕ, true, Some, List, map, refl, sym, ap, subst, ◌∙◌, inl, inr}
use Rattle.std.specs.Prelude.{◌==◌}
use Rattle.std.specs.List.{filter_map, list_any}
use Rattle.std.proofs.lemmas.Bool.{and_parts, eqb-true, eq-eqb, false≢true}
use Rattle.gim_ast.specs.declared.function.NameRow.{NameRow}
use Rattle.gim_ast.specs.Functions.{is_name, is_used}
use Rattle.gim_ast.specs.WellFormed.{same_text, is_assigned}
use Rattle.pm_places.specs.declared.span.Span.{Span}
use Rattle.gim_text.proofs.SameTexts.{same_text_is}
use Rattle.gim_text.specs.declared.tree.FunctionText.{FunctionText}
use Rattle.gim_text.specs.declared.tree.OperandText.{OperandText}
use Rattle.gim_text.specs.declared.tree.OperandText.TheVariants as operands
use Rattle.gim_text.specs.Texts.{name_parts}
use Rattle.pm_places.specs.Spans.{text_of}
use Rattle.gim_text.specs.declared.occurrence.Occurrence.{Occurrence}
use Rattle.gim_text.specs.declared.occurrence.Occurrence.TheVariants.{Parameter, Local, Block, Jump, Assigned, Used, Default, Constant}
use Rattle.gim_text.specs.Occurrences.{occurrences_of, operand_at}
use Rattle.gim_names.specs.OccurrenceTexts.{assigned_text}
use Rattle.gim_names.specs.KeepsNames.{KeepsNames, locals_of, params_of, assigned_of, has_base, is_declared}
use Rattle.gim_typing.specs.Operands.{operand_of}
use Rattle.gim_typing.specs.Declarations.{declarations_of, version_of_name, version_by_parts}
use Rattle.gim_making.specs.Standing.{made}
use Rattle.gim_making.specs.Written.{operands_in}
use Rattle.gim_text.proofs.Membership.{Has, has_map, from_map, has_said, from_said, all_has, any_from_has, any_has}
use Rattle.gim_making.proofs.Occurring.{operand_occurs}
use Rattle.gim_making.proofs.MadeOperands.{ArePhisFirst, made_operands, assigned_number, made_assigns}
use Rattle.gim_making.proofs.NameParts.{some_is}

-- ---- assigned names

pub assigned_to : (source : List ℕ) (tree : FunctionText) (names : List NameRow) → ArePhisFirst tree → (at : Span)
    → Has (occurrences_of tree) (Assigned at) → is_assigned (made source tree names) (version_of_name source at) ≡ true
assigned_to source tree names first at there =
    let v = version_of_name source at in
    ap (list_any (λ y. y == v)) (made_assigns source tree names first)
    ∙ any_from_has (λ y. y == v) (filter_map (assigned_number source) (occurrences_of tree)) v
    (has_said (assigned_number source) (occurrences_of tree) (Assigned at) v there refl) (eq-eqb v v refl)

pub assigned_at : (source : List ℕ) (o : Occurrence) (y : ℕ) → assigned_number source o ≡ Some y → (at : Span)
    × (o ≡ Assigned at) × (version_of_name source at ≡ y)
assigned_at source (Assigned at) y e = (at, refl, some_is (version_of_name source at) y e)
assigned_at source (Parameter at) y e = absurd cc
assigned_at source (Local at) y e = absurd cc
assigned_at source (Block at) y e = absurd cc
assigned_at source (Jump at) y e = absurd cc
assigned_at source (Used at) y e = absurd cc
assigned_at source (Default at) y e = absurd cc
assigned_at source (Constant literal) y e = absurd cc

pub assigned_from : (source : List ℕ) (tree : FunctionText) (names : List NameRow) → ArePhisFirst tree → (v : ℕ)
    → is_assigned (made source tree names) v ≡ true → (at : Span) × Has (occurrences_of tree) (Assigned at)
    × (version_of_name source at ≡ v)
assigned_from source tree names first v h =
    let r = any_has (λ y. y == v) (filter_map (assigned_number source) (occurrences_of tree))
    (sym (ap (list_any (λ y. y == v)) (made_assigns source tree names first)) ∙ h) in
    let said = from_said (assigned_number source) (occurrences_of tree) r.0 r.1 in
    let found = assigned_at source said.0 r.0 said.2 in
    (found.0, subst (Has (occurrences_of tree)) found.1 said.1, found.2 ∙ eqb-true r.0 v r.2)

-- what is used without `(D)` is assigned
text_assigned : (source : List ℕ) (m : Occurrence) (text : List ℕ) → assigned_text source m ≡ Some text → (at : Span)
    × (m ≡ Assigned at) × (text_of source at ≡ text)
text_assigned source (Assigned at) text e = (at, refl, cc)
text_assigned source (Parameter at) text e = absurd cc
text_assigned source (Jump at) text e = absurd cc
text_assigned source (Local at) text e = absurd cc
text_assigned source (Block at) text e = absurd cc
text_assigned source (Used at) text e = absurd cc
text_assigned source (Default at) text e = absurd cc
text_assigned source (Constant literal) text e = absurd cc

pub used_is_assigned : (source : List ℕ) (tree : FunctionText) (names : List NameRow) → KeepsNames source tree
    → ArePhisFirst tree → (at : Span) → Has (occurrences_of tree) (Used at)
    → is_assigned (made source tree names) (version_of_name source at) ≡ true
used_is_assigned source tree names kept first at there =
    let ms = occurrences_of tree in
    let text = text_of source at in
    let declared =
    all_has (is_declared source (locals_of source tree) (params_of source tree) (assigned_of source tree)) ms kept.names
    (Used at) there in
    let known =
    (and_parts (has_base (locals_of source tree) (params_of source tree) text (name_parts text))
    (list_any (same_text text) (assigned_of source tree)) declared).1 in
    let r = any_has (same_text text) (assigned_of source tree) known in
    let said = from_said (assigned_text source) ms r.0 r.1 in
    let one = text_assigned source said.0 r.0 said.2 in
    let same : text_of source one.0 ≡ text = one.2 ∙ sym (same_text_is text r.0 r.2) in
    let versions : version_of_name source one.0 ≡ version_of_name source at = ap (λ t. version_by_parts (name_parts t)) same in
    ap (is_assigned (made source tree names)) (sym versions) ∙ assigned_to source tree names first one.0 (subst (Has ms) one.1 said.1)

-- ---- used names

-- a name is read, with or without `(D)`
abbrev pub IsUse : List ℕ → FunctionText → Span → Type 0
IsUse source tree at = Has (occurrences_of tree) (Used at) ⊎ Has (occurrences_of tree) (Default at)

named_use : (source : List ℕ) (tree : FunctionText) (a : OperandText) (v : ℕ) → Has (operands_in tree) a
    → is_name v (operand_of (declarations_of source tree) a) ≡ true → (at : Span) × IsUse source tree at
    × (version_of_name source at ≡ v)
named_use source tree (operands.Name at) v there h =
    (at, inl (operand_occurs tree (operands.Name at) there), eqb-true (version_of_name source at) v h)
named_use source tree (operands.Default at) v there h =
    (at, inr (operand_occurs tree (operands.Default at) there), eqb-true (version_of_name source at) v h)
named_use source tree (operands.Literal literal) v there h = absurd (false≢true h)

pub used_from : (source : List ℕ) (tree : FunctionText) (names : List NameRow) → ArePhisFirst tree → (v : ℕ)
    → is_used (made source tree names) v ≡ true → (at : Span) × IsUse source tree at × (version_of_name source at ≡ v)
used_from source tree names first v h =
    let O = operand_of (declarations_of source tree) in
    let r = any_has (is_name v) (map O (operands_in tree)) (sym (ap (list_any (is_name v)) (made_operands source tree names first)) ∙ h) in
    let a = from_map O (operands_in tree) r.0 r.1 in
    named_use source tree a.0 v a.1 (ap (is_name v) a.2 ∙ r.2)

pub default_is_used : (source : List ℕ) (tree : FunctionText) (names : List NameRow) → ArePhisFirst tree → (at : Span)
    → Has (occurrences_of tree) (Default at) → is_used (made source tree names) (version_of_name source at) ≡ true
default_is_used source tree names first at there =
    let O = operand_of (declarations_of source tree) in
    let v = version_of_name source at in
    let text : Has (operands_in tree) (operands.Default at) =
    has_said operand_at (occurrences_of tree) (Default at) (operands.Default at) there refl in
    ap (list_any (is_name v)) (made_operands source tree names first)
    ∙ any_from_has (is_name v) (map O (operands_in tree)) (O (operands.Default at))
    (has_map O (operands_in tree) (operands.Default at) text) (eq-eqb v v refl)
