-- A function of the first form is typed, and its names are in order.
use Rattle.std.proofs.Common.{◌≡◌, ◌⊎◌, ℕ, Bool, true, List, [], ◌∷◌, ◌++◌, map, refl, sym, ap, inl, inr, ⊎_elim}
use Rattle.std.specs.List.{list_all, flat_map}
use Rattle.std.specs.Prelude.{Some}
use Rattle.pm_ops.specs.declared.code.Code.{Code}
use Rattle.pm_ops.specs.declared.code.Code.TheVariants.{Plus, Minus, Mult, BitAnd, BitIor, BitXor}
use Rattle.pm_wide.specs.Types.{same_type, unsigned_int_type}
use Rattle.pm_wide.specs.Typing.{well_typed_operation}
use Rattle.gim_ast.specs.declared.function.Function.{Function}
use Rattle.gim_ast.specs.declared.function.NameRow.{NameRow}
use Rattle.gim_ast.specs.WellFormed.{type_of, names_rise}
use Rattle.first_gimple.specs.declared.fault.FirstFault.{FirstFault}
use Rattle.first_gimple.specs.declared.fault.FirstFault.TheVariants.{NotFirst, Memory}
use Rattle.first_gimple.specs.declared.draft.Draft.{Draft}
use Rattle.first_gimple.specs.declared.draft.Line.{Line}
use Rattle.first_gimple.specs.declared.draft.Taken.{Taken}
use Rattle.first_gimple.specs.declared.draft.Taken.TheVariants.{Local, Initial, Literal}
use Rattle.first_gimple.specs.Meaning.{IsFirstForm, AreNames, Has, made, named_rows, local_row, rows_of_taken, rows_of_line, operand_of, stmt_of, block_of}
use Rattle.first_gimple.specs.Spelling.{SpellsItems, SpellsLine, operator_of}
use Rattle.first_gimple.specs.Tokens.{Token}
use Rattle.first_rewriting.specs.Typed.{IsTyped, row_agrees, operand_agrees, stmt_agrees, block_agrees}

-- ---- rows

all_of : {X : Type 0} (p : X → Bool) (xs : List X) → ((x : X) → Has xs x → p x ≡ true) → list_all p xs ≡ true
all_of p [] each = refl
all_of p (x ∷ xs) each = rw (each x (inl refl)) (all_of p xs (λ y h. each y (inr h)))

has_either : {X : Type 0} (xs ys : List X) (x : X) → Has (xs ++ ys) x → Has xs x ⊎ Has ys x
has_either [] ys x h = inr h
has_either (y ∷ xs) ys x (inl e) = inl (inl e)
has_either (y ∷ xs) ys x (inr h) = ⊎_elim (λ a. inl (inr a)) (λ b. inr b) (has_either xs ys x h)

abbrev IsUnsigned : NameRow → Type 0
IsUnsigned row = row.ty ≡ unsigned_int_type

in_locals : (versions : List ℕ) (row : NameRow) → Has (map local_row versions) row → IsUnsigned row
in_locals [] row h = absurd h
in_locals (v ∷ vs) row (inl e) = ap (λ (r : NameRow). r.ty) (sym e)
in_locals (v ∷ vs) row (inr h) = in_locals vs row h

in_taken : (taken : Taken) (row : NameRow) → Has (rows_of_taken taken) row → IsUnsigned row
in_taken (Local version) row h = absurd h
in_taken (Literal n) row h = absurd h
in_taken (Initial base version) row (inl e) = ap (λ (r : NameRow). r.ty) (sym e)
in_taken (Initial base version) row (inr h) = absurd h

in_lines : (lines : List Line) (row : NameRow) → Has (flat_map rows_of_line lines) row → IsUnsigned row
in_lines [] row h = absurd h
in_lines (line ∷ lines) row h =
    ⊎_elim (λ a. ⊎_elim (in_taken line.left row) (in_taken line.right row) (has_either (rows_of_taken line.left) (rows_of_taken line.right) row a))
    (in_lines lines row) (has_either (rows_of_line line) (flat_map rows_of_line lines) row h)

in_named : (draft : Draft) (row : NameRow) → Has (named_rows draft) row → IsUnsigned row
in_named draft row h =
    ⊎_elim (in_locals draft.locals row)
    (λ b. ⊎_elim (in_lines draft.lines row) (in_taken draft.end row) (has_either (flat_map rows_of_line draft.lines) (rows_of_taken draft.end) row b))
    (has_either (map local_row draft.locals) (flat_map rows_of_line draft.lines ++ rows_of_taken draft.end) row h)

rows_agree : (draft : Draft) (names : List NameRow) → AreNames (named_rows draft) names → list_all (row_agrees (λ x. unsigned_int_type)) names ≡ true
rows_agree draft names are = all_of (row_agrees (λ x. unsigned_int_type)) names (λ row h. let e : row.ty ≡ unsigned_int_type = in_named draft row (are.none_else row h) in ap (λ t. same_type t unsigned_int_type) e)

-- ---- statements

operand_fits : (taken : Taken) → operand_agrees (λ x. unsigned_int_type) (operand_of taken) ≡ true
operand_fits (Local version) = refl
operand_fits (Initial base version) = refl
operand_fits (Literal n) = refl

typed_as : (taken : Taken) → type_of (operand_of taken) ≡ unsigned_int_type
typed_as (Local version) = refl
typed_as (Initial base version) = refl
typed_as (Literal n) = refl

code_fits : (code : Code) (operator : Token) → operator_of code ≡ Some operator → well_typed_operation code unsigned_int_type (unsigned_int_type ∷ unsigned_int_type ∷ []) ≡ true
unfolding well_typed_operation
code_fits Plus operator e = refl
code_fits Minus operator e = refl
code_fits Mult operator e = refl
code_fits BitAnd operator e = refl
code_fits BitIor operator e = refl
code_fits BitXor operator e = refl
code_fits _ operator e = cc

line_fits : (line : Line) (operator : Token) → operator_of line.code ≡ Some operator → stmt_agrees (λ x. unsigned_int_type) (stmt_of line) ≡ true
line_fits line operator e =
    rw (operand_fits line.left, operand_fits line.right, typed_as line.left, typed_as line.right) (code_fits line.code operator e)

lines_fit : (lines : List Line) (tokens rest : List Token) → SpellsItems SpellsLine lines tokens rest → list_all (stmt_agrees (λ x. unsigned_int_type)) (map stmt_of lines) ≡ true
lines_fit [] tokens rest spelled = refl
lines_fit (line ∷ lines) tokens rest spelled = rw (line_fits line spelled.1.operator spelled.1.code) (lines_fit lines spelled.0 rest spelled.2)

-- ---- the function

blocks_agree : (draft : Draft) (tokens rest : List Token) → SpellsItems SpellsLine draft.lines tokens rest → list_all (block_agrees (λ x. unsigned_int_type)) (block_of draft ∷ []) ≡ true
blocks_agree draft tokens rest spelled = rw (lines_fit draft.lines tokens rest spelled, operand_fits draft.end) refl

pub first_form_typed : (bytes : List ℕ) (f : Function) → IsFirstForm bytes f → IsTyped f
unfolding made
first_form_typed bytes f form = record {
  ty = λ x. unsigned_int_type;
  names = rows_agree form.draft f.names form.stands.names;
  blocks = rw form.stands.whole (blocks_agree form.draft form.spells_draft.lines _ form.spells_draft.spells_lines);
}

pub first_form_rises : (bytes : List ℕ) (f : Function) → IsFirstForm bytes f → names_rise f ≡ true
first_form_rises bytes f form = form.stands.names.rising

-- a file that is refused is not of the first form
pub refused_is_none : (source : List ℕ) (fault : FirstFault) → fault ≡ NotFirst → ((f : Function) → IsFirstForm source f → fault ≡ Memory) → (f : Function) → IsFirstForm source f → ⊥
refused_is_none source fault is only f form = let memory : fault ≡ Memory = only f form in cc
