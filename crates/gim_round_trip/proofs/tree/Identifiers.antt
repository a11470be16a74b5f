-- The text of a name is an identifier, since no reserved word ends in an underscore and a number.
use Rattle.std.proofs.Common.{◌≡◌, ◌⊎◌, ℕ, ◌<◌, ◌^◌, Bool, true, false, Option, Some, None}
use Rattle.std.proofs.Common.{List, [], ◌∷◌, ◌++◌, map, refl, sym, ap, ◌∙◌, inl, inr, arith}
use Rattle.std.specs.Prelude.{◌==◌, ◌&&◌, not, is_some}
use Rattle.std.specs.List.{list_all, list_any}
use Rattle.std.specs.Fmt.{decimal}
use Rattle.std.proofs.lemmas.Bool.{and_parts, and_from, or_from, eqb-true, not_from_false, false_from_ne_true, false≢true}
use Rattle.std.proofs.lemmas.List.Folds.{list_all-append}
use Rattle.pm_wide.specs.Types.{Ty}
use Rattle.gim_ast.specs.declared.function.Function.{Function}
use Rattle.gim_ast.specs.declared.function.Decl.{Decl}
use Rattle.gim_ast.specs.declared.function.NameRow.{NameRow}
use Rattle.gim_ast.specs.Functions.{row_of}
use Rattle.gim_ast.specs.Identifiers.{is_block_word, is_reserved, is_identifier, reserved_words}
use Rattle.lexing.specs.Bytes.{is_letter, is_word_byte}
use Rattle.lexing.specs.Words.{is_word_text}
use Rattle.lexing.specs.Numbers.{is_number_text}
use Rattle.gim_printer.specs.Printing.{assigned_text}
use Rattle.gim_ast.specs.WellFormed.{IsWellFormed, same_text, ident_of, declares_as, base_holds}
use Rattle.lexing.proofs.NumberLemmas.{decimal_is_number_text, number_text_is_digits, number_is_word}
use Rattle.gim_text.proofs.SameTexts.{same_text_is}
use Rattle.gim_text.specs.Texts.{name_parts}
use Rattle.gim_text.proofs.NameLemmas.{no_parts_at}
use Rattle.gim_text.proofs.Membership.{Has, has_map, has_left, has_right, all_has, none_from_has}
use Rattle.gim_round_trip.specs.ReadBack.{IsWithinLimits}
use Rattle.gim_round_trip.proofs.tree.Rows.{name_facts, HasBase, bare, of_param, of_local, base_of_row, declared_as}

-- ---- reserved words are no names

abbrev has_no_parts : List ℕ → Bool
has_no_parts word = not (is_some (name_parts word))

none_is_named : list_all has_no_parts reserved_words ≡ true
unfolding name_parts
none_is_named = refl

some_parts : (word base ds : List ℕ) → name_parts word ≡ Some (base, ds) → has_no_parts word ≡ true → ⊥
some_parts word base ds parts h = false≢true (sym (ap (λ (o : Option (List ℕ × List ℕ)). not (is_some o)) parts) ∙ h)

none_and_some : {X : Type 0} (o : Option X) (x : X) → o ≡ None → o ≡ Some x → ⊥
none_and_some o x n s = cc

block_word_has_no_parts : (word base ds : List ℕ) → name_parts word ≡ Some (base, ds) → is_block_word word ≡ true → ⊥
block_word_has_no_parts [] base ds parts h = false≢true h
block_word_has_no_parts (a ∷ []) base ds parts h = false≢true h
block_word_has_no_parts (a ∷ b ∷ []) base ds parts h = false≢true h
block_word_has_no_parts (a ∷ b ∷ c ∷ []) base ds parts h = false≢true h
block_word_has_no_parts (a ∷ b ∷ c ∷ d ∷ bs) base ds parts h =
    let p = and_parts ((a == 95) && (b == 95) && (c == 66) && (d == 66)) (is_number_text bs) h in
    let last : d ≡ 66 = eqb-true d 66 (and_parts ((a == 95) && (b == 95) && (c == 66)) (d == 66) p.0).1 in
    let none : name_parts (a ∷ b ∷ c ∷ 66 ∷ bs) ≡ None = no_parts_at (a ∷ b ∷ c ∷ []) 66 bs refl (number_text_is_digits bs p.1) refl in
    none_and_some (name_parts (a ∷ b ∷ c ∷ d ∷ bs)) (base, ds) (ap (λ e. name_parts (a ∷ b ∷ c ∷ e ∷ bs)) last ∙ none) parts

named_is_free : (text base ds : List ℕ) → name_parts text ≡ Some (base, ds) → is_reserved text ≡ false
named_is_free text base ds parts =
    let other : list_any (λ word. same_text word text) reserved_words ≡ false =
    none_from_has (λ word. same_text word text) reserved_words
    (λ word there same. some_parts word base ds (ap name_parts (same_text_is word text same) ∙ parts)
    (all_has has_no_parts reserved_words none_is_named word there)) in
    or_from (list_any (λ word. same_text word text) reserved_words) (is_block_word text) other
    (false_from_ne_true (is_block_word text) (block_word_has_no_parts text base ds parts))

-- ---- the bytes of a name

-- a base of a name: none, or the text of a word
IsBase : List ℕ → Type 0
IsBase base = (base ≡ []) ⊎ (is_word_text base ≡ true)

versioned : (base ds : List ℕ) → list_all is_word_byte ds ≡ true → list_all is_word_byte base ≡ true
    → list_all is_word_byte (base ++ 95 ∷ ds) ≡ true
versioned base ds digits h = list_all-append is_word_byte base (95 ∷ ds)
    ∙ and_from (list_all is_word_byte base) (list_all is_word_byte (95 ∷ ds)) h digits

name_is_word : (base ds : List ℕ) → list_all is_word_byte ds ≡ true → IsBase base → is_word_text (base ++ 95 ∷ ds) ≡ true
unfolding IsBase
name_is_word [] ds digits is = digits
name_is_word (b ∷ base) ds digits (inl e) = absurd cc
name_is_word (b ∷ base) ds digits (inr h) =
    let p = and_parts (is_letter b) (list_all is_word_byte base) h in
    and_from (is_letter b) (list_all is_word_byte (base ++ 95 ∷ ds)) p.0 (versioned base ds digits p.1)

-- ---- bases are declared

declared_is_word : (f : Function) → IsWellFormed f → (decl : Decl) → Has (f.params ++ f.decls) decl → is_word_text decl.ident ≡ true
declared_is_word f well decl there =
    let last = and_parts _ _ well.declarations in
    let distinct = and_parts _ _ last.0 in
    let idents = (and_parts _ _ distinct.0).1 in
    (and_parts (is_word_text decl.ident) (not (is_reserved decl.ident))
    (all_has is_identifier (map ident_of (f.params ++ f.decls)) idents decl.ident (has_map ident_of (f.params ++ f.decls) decl there))).0

base_declared : (f : Function) (ident : List ℕ) (t : Ty) (decls : List Decl) → IsWellFormed f
    → ((decl : Decl) → Has decls decl → Has (f.params ++ f.decls) decl) → declares_as ident t decls ≡ true → is_word_text ident ≡ true
base_declared f ident t decls well within h = let decl = declared_as ident t decls h in ap is_word_text (sym decl.2)
    ∙ declared_is_word f well decl.0 (within decl.0 decl.1)

base_is_word : (f : Function) → IsWellFormed f → (row : NameRow) → base_holds f row ≡ true → IsBase row.base
unfolding IsBase
base_is_word f well row holds = by (base_of_row f row holds) where
  by : HasBase f row → (row.base ≡ []) ⊎ (is_word_text row.base ≡ true)
  by (bare is plain declared) = inl is
  by (of_param b base is declared) =
      inr (ap is_word_text is ∙ base_declared f (b ∷ base) row.ty f.params well (has_left f.params f.decls) declared)
  by (of_local b base is plain declared) = inr (ap is_word_text is
      ∙ base_declared f (b ∷ base) row.ty f.decls well (has_right f.params f.decls) declared)

-- the text of a name is an identifier
pub name_is_identifier : (f : Function) (x : ℕ) (row : NameRow) → IsWellFormed f → IsWithinLimits f → row_of f x ≡ Some row
    → is_identifier (assigned_text f x) ≡ true
name_is_identifier f x row well limits found =
    let facts = name_facts f x row well limits found in
    let small : x < 2 ^ 64 = omega (arith, facts.small) in
    let digits = number_is_word (decimal x) (decimal_is_number_text x small) in
    let word : is_word_text (assigned_text f x) ≡ true = ap is_word_text facts.text
    ∙ name_is_word row.base (decimal x) digits (base_is_word f well row facts.base) in
    and_from (is_word_text (assigned_text f x)) (not (is_reserved (assigned_text f x))) word
    (not_from_false (is_reserved (assigned_text f x)) (named_is_free (assigned_text f x) row.base (decimal x) facts.parts))
