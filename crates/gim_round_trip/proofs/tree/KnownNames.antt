-- What the declarations in a tree give to the names and operands of the function that it writes.
use Rattle.std.proofs.Common.{◌≡◌, ℕ, true, false, cond, Some, None, List, [], ◌∷◌, ◌++◌, map, refl, sym, ap, subst, ◌∙◌, inl, inr}
use Rattle.std.specs.Prelude.{not}
use Rattle.std.specs.List.{AllZip, list_any}
use Rattle.std.specs.Option.{option_or, unwrap_or}
use Rattle.std.specs.Fmt.{decimal}
use Rattle.std.proofs.lemmas.Bool.{and_parts, false_from_ne_true}
use Rattle.std.proofs.lemmas.List.{map-append}
use Rattle.pm_wide.specs.Types.{Ty, bool_type}
use Rattle.pm_wide.specs.declared.operand.Operand.{Operand}
use Rattle.pm_wide.specs.declared.operand.Operand.TheVariants as operands
use Rattle.gim_ast.specs.declared.function.Function.{Function}
use Rattle.gim_ast.specs.declared.function.Decl.{Decl}
use Rattle.gim_ast.specs.declared.function.NameRow.{NameRow}
use Rattle.gim_ast.specs.Functions.{operands_of, row_of}
use Rattle.gim_ast.specs.Identifiers.{anonymous}
use Rattle.gim_printer.specs.Printing.{assigned_text}
use Rattle.gim_ast.specs.WellFormed.{IsWellFormed, same_text, all_distinct, ident_of, declares_as, base_holds}
use Rattle.pm_places.specs.declared.span.Span.{Span}
use Rattle.gim_text.proofs.SameTexts.{same_text_itself, same_text_is}
use Rattle.gim_text.specs.declared.tree.DeclText.{DeclText}
use Rattle.gim_text.specs.declared.tree.FunctionText.{FunctionText}
use Rattle.gim_text.specs.declared.tree.OperandText.{OperandText}
use Rattle.gim_text.specs.declared.tree.OperandText.TheVariants.{Name, Default, Literal}
use Rattle.gim_text.specs.Texts.{name_parts}
use Rattle.pm_places.specs.Spans.{text_of}
use Rattle.gim_typing.specs.Operands.{no_word, operand_of}
use Rattle.gim_typing.specs.Declarations.{declarations_of, declared_type, type_by_base}
use Rattle.gim_typing.specs.Declarations.{type_by_parts, type_of_name, version_by_parts}
use Rattle.gim_typing.specs.Declarations.{version_of_name}
use Rattle.gim_text.proofs.Membership.{Has, has_map}
use Rattle.gim_round_trip.proofs.tree.DistinctTexts.{front_distinct, rest_distinct, not_again, apart}
use Rattle.gim_round_trip.proofs.tree.Rows.{name_facts, HasBase, bare, of_param, of_local, base_of_row, declared_as}
use Rattle.gim_round_trip.proofs.tree.SmallNumbers.{number_of_decimal}
use Rattle.gim_round_trip.proofs.tree.WellFormedParts.{each_operand_holds, operand_row}
use Rattle.gim_round_trip.proofs.tree.Writes.{WritesWell, WritesDecl, WritesOperand}

-- ---- types of identifiers

idents_distinct : (f : Function) → IsWellFormed f → all_distinct same_text (map ident_of f.params ++ map ident_of f.decls) ≡ true
idents_distinct f well = subst (λ l. all_distinct same_text l ≡ true) (map-append ident_of f.params f.decls)
    (and_parts _ _ (and_parts _ _ well.declarations).0).1

-- distinct identifiers have the types of their declarations
type_declared : (source : List ℕ) (trees : List DeclText) (decls : List Decl) → AllZip (WritesDecl source) trees decls
    → all_distinct same_text (map ident_of decls) ≡ true → (decl : Decl) → Has decls decl
    → declared_type source decl.ident trees ≡ Some decl.ty
type_declared source trees [] written distinct decl h = absurd h
type_declared source [] (d ∷ decls) written distinct decl h = absurd written
type_declared source (tree ∷ trees) (d ∷ decls) written distinct decl (inl e) =
    let here : decl.ident ≡ text_of source tree.ident = sym (ap ident_of e) ∙ sym written.0.0 in
    let same : same_text decl.ident (text_of source tree.ident) ≡ true =
    ap (same_text decl.ident) (sym here) ∙ same_text_itself decl.ident in
    ap (λ b. cond b (Some tree.ty) (declared_type source decl.ident trees)) same ∙ ap Some (written.0.1 ∙ ap (λ (x : Decl). x.ty) e)
type_declared source (tree ∷ trees) (d ∷ decls) written distinct decl (inr there) =
    let other : same_text decl.ident (text_of source tree.ident) ≡ false =
    false_from_ne_true (same_text decl.ident (text_of source tree.ident)) (λ same.
    let here : decl.ident ≡ d.ident = same_text_is decl.ident (text_of source tree.ident) same ∙ written.0.0 in
    not_again d.ident (map ident_of decls) distinct (subst (Has (map ident_of decls)) here (has_map ident_of decls decl there))) in
    let later =
    (and_parts (not (list_any (same_text d.ident) (map ident_of decls))) (all_distinct same_text (map ident_of decls))
    distinct).1 in
    ap (λ b. cond b (Some tree.ty) (declared_type source decl.ident trees)) other
    ∙ type_declared source trees decls written.1 later decl there

-- another identifier has none
none_declared : (source ident : List ℕ) (trees : List DeclText) (decls : List Decl) → AllZip (WritesDecl source) trees decls
    → (Has (map ident_of decls) ident → ⊥) → declared_type source ident trees ≡ None
none_declared source ident [] decls written other = refl
none_declared source ident (tree ∷ trees) [] written other = absurd written
none_declared source ident (tree ∷ trees) (d ∷ decls) written other =
    let first : same_text ident (text_of source tree.ident) ≡ false =
    false_from_ne_true (same_text ident (text_of source tree.ident))
    (λ same. other (inl (sym (same_text_is ident (text_of source tree.ident) same ∙ written.0.0)))) in
    ap (λ b. cond b (Some tree.ty) (declared_type source ident trees)) first
    ∙ none_declared source ident trees decls written.1 (λ there. other (inr there))

-- the parts, the version and the type of a name that stands at a place
pub record KnownName (source : List ℕ) (tree : FunctionText) (at : Span) (x : ℕ) (row : NameRow) : Type 0 where
  pub parts : name_parts (text_of source at) ≡ Some (row.base, decimal x)
  pub version : version_of_name source at ≡ x
  pub type : type_of_name (declarations_of source tree) at ≡ row.ty

module _ (source : List ℕ) (tree : FunctionText) (f : Function) (w : WritesWell source tree f) where
  param_type : (ident : List ℕ) (t : Ty) → declares_as ident t f.params ≡ true → declared_type source ident tree.params ≡ Some t
  param_type ident t h =
      let d = declared_as ident t f.params h in
      let distinct = front_distinct (map ident_of f.params) (map ident_of f.decls) (idents_distinct f w.well) in
      ap (λ i. declared_type source i tree.params) (sym d.2) ∙ type_declared source tree.params f.params w.writes.params distinct d.0 d.1
      ∙ ap Some d.3

  local_type : (ident : List ℕ) (t : Ty) → declares_as ident t f.decls ≡ true → declared_type source ident tree.decls ≡ Some t
  local_type ident t h =
      let d = declared_as ident t f.decls h in
      let distinct = rest_distinct (map ident_of f.params) (map ident_of f.decls) (idents_distinct f w.well) in
      ap (λ i. declared_type source i tree.decls) (sym d.2)
      ∙ type_declared source tree.decls f.decls w.writes.decls distinct d.0 d.1 ∙ ap Some d.3

  -- a local is no parameter
  no_param_type : (ident : List ℕ) (t : Ty) → declares_as ident t f.decls ≡ true → declared_type source ident tree.params ≡ None
  no_param_type ident t h =
      let d = declared_as ident t f.decls h in
      let local : Has (map ident_of f.decls) ident = subst (Has (map ident_of f.decls)) d.2 (has_map ident_of f.decls d.0 d.1) in
      none_declared source ident tree.params f.params w.writes.params
      (λ there. apart (map ident_of f.params) (map ident_of f.decls) (idents_distinct f w.well) ident there local)

  -- the declaration of a row's base, or of the whole name, gives its type
  base_type : (row : NameRow) → base_holds f row ≡ true
      → type_by_base (declarations_of source tree) (row.base ++ 95 ∷ decimal row.version) row.base ≡ Some row.ty
  base_type row holds = by (base_of_row f row holds) where
    by : HasBase f row → type_by_base (declarations_of source tree) (row.base ++ 95 ∷ decimal row.version) row.base ≡ Some row.ty
    by (bare is plain declared) = rw is (local_type (anonymous row.version) row.ty declared)
    by (of_param b base is declared) = rw is (ap (λ o. option_or o (declared_type source (b ∷ base) tree.decls))
        (param_type (b ∷ base) row.ty declared))
    by (of_local b base is plain declared) = rw is (ap (λ o. option_or o (declared_type source (b ∷ base) tree.decls))
        (no_param_type (b ∷ base) row.ty declared) ∙ local_type (b ∷ base) row.ty declared)

  -- ---- names

  pub known_name : (at : Span) (x : ℕ) (row : NameRow) → text_of source at ≡ assigned_text f x → row_of f x ≡ Some row
      → KnownName source tree at x row
  known_name at x row text found =
      let known = declarations_of source tree in
      let facts = name_facts f x row w.well w.within found in
      let parts : name_parts (text_of source at) ≡ Some (row.base, decimal x) = ap name_parts text ∙ facts.parts in
      let whole : text_of source at ≡ row.base ++ 95 ∷ decimal row.version = text ∙ facts.text
      ∙ ap (λ v. row.base ++ 95 ∷ decimal v) (sym facts.is_version) in
      let typed : type_by_base known (text_of source at) row.base ≡ Some row.ty = ap (λ t. type_by_base known t row.base) whole
      ∙ base_type row facts.base in
      record {
        parts = parts;
        version = ap version_by_parts parts ∙ number_of_decimal x facts.small;
        type = ap (type_by_parts known (text_of source at)) parts ∙ ap (λ o. unwrap_or o bool_type) typed;
      }

  -- ---- operands

  named_operand : (at : Span) (x : ℕ) (t : Ty) → text_of source at ≡ assigned_text f x → Has (operands_of f) (operands.Name x t)
      → operands.Name (version_of_name source at) (type_of_name (declarations_of source tree) at) ≡ operands.Name x t
  named_operand at x t text there =
      let r = operand_row f x t (each_operand_holds f w.well (operands.Name x t) there) in
      let k = known_name at x r.0 text r.1 in
      ap (λ v. operands.Name v (type_of_name (declarations_of source tree) at)) k.version ∙ ap (operands.Name x) (k.type ∙ r.2)

  -- an operand of the function is what the text that writes it stands for
  pub operand_is : (a : OperandText) (x : Operand) → WritesOperand source f a x → Has (operands_of f) x
      → operand_of (declarations_of source tree) a ≡ x
  operand_is (Name at) (operands.Name x t) written there = named_operand at x t written.0 there
  operand_is (Default at) (operands.Name x t) written there = named_operand at x t written.0 there
  operand_is (Literal literal) (operands.Const word) written there = ap (λ o. operands.Const (unwrap_or o no_word)) written
  operand_is a x written there = absurd written
