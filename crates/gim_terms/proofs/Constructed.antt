-- What the constructors of subjects rest on, each step by itself.
use Rattle.std.proofs.Common.{◌≡◌, ℕ, true, false, Option, Some, None, List, length, slice_get, refl, sym, ap, subst, ◌∙◌}
use Rattle.std.specs.Prelude.{is_some}
use Rattle.std.specs.Option.{option_and_then, option_map, option_map_or}
use Rattle.std.proofs.lemmas.Bool.{and_parts, both_ways}
use Rattle.pm_ops.specs.declared.code.Code.{Code}
use Rattle.pm_ops.specs.Codes.{arity_of, is_comparison_code}
use Rattle.pm_wide.specs.Types.{Ty, same_type}
use Rattle.pm_wide.specs.declared.operand.Operand.{Operand}
use Rattle.gim_ast.specs.declared.function.Function.{Function}
use Rattle.gim_ast.specs.declared.function.Block.{Block}
use Rattle.gim_ast.specs.declared.function.NameRow.{NameRow}
use Rattle.gim_ast.specs.declared.function.Stmt.{Stmt}
use Rattle.gim_ast.specs.declared.function.Rhs.TheVariants.{Op}
use Rattle.gim_ast.specs.declared.function.End.TheVariants.{If}
use Rattle.gim_ast.specs.Functions.{row_of}
use Rattle.gim_ast.specs.WellFormed.{is_well_formed, stmt_fits, end_fits, rhs_fits, type_of}
use Rattle.gim_terms.specs.Views.{operation, operation_of_rhs}
use Rattle.gim_terms.specs.Targets.{target, with_type, type_of_name, target_of_stmt, stmt_at, operation_at_stmt, target_at_stmt}
use Rattle.gim_terms.specs.Fitting.{end_at_fits, stmt_at_fits}
use Rattle.gim_terms.specs.FullOperations.{full_stmt, comparison_arity}

-- a well typed statement's name has a type
pub has_row : (f : Function) (s : Stmt) → stmt_fits f s ≡ true → None ≡ type_of_name f s.name → ⊥
has_row f s fits none = at_row (row_of f s.name) fits none where
  at_row : (row : Option NameRow) → option_map_or (λ (r : NameRow). rhs_fits r.ty s.rhs) row false ≡ true → None ≡ option_map (λ (r : NameRow). r.ty) row → ⊥
  at_row None fits none = both_ways false refl fits
  at_row (Some row) fits none = both_ways true (sym (ap is_some none)) refl

pub fitting_full : (f : Function) (s : Stmt) (code : Code) (operands : List Operand) → stmt_fits f s ≡ true → s.rhs ≡ Op code operands → length operands ≡ arity_of code
fitting_full f s code operands fits is = full_stmt f s (operation code operands) fits (ap operation_of_rhs is)

pub fitting_target : (f : Function) (s : Stmt) (ty : Ty) (code : Code) (operands : List Operand) → Some ty ≡ type_of_name f s.name → s.rhs ≡ Op code operands → target_of_stmt f s ≡ Some (target ty code operands)
fitting_target f s ty code operands type is = ap (λ t. with_type t (operation_of_rhs s.rhs)) (sym type) ∙ ap (λ rhs. with_type (Some ty) (operation_of_rhs rhs)) is

pub stmt_found_fits : (f : Function) (block stmt : ℕ) (s : Stmt) → is_well_formed f ≡ true → Some s ≡ stmt_at f block stmt → stmt_fits f s ≡ true
stmt_found_fits f block stmt s whole is = stmt_at_fits f block stmt s whole (sym is)

pub operation_found : (f : Function) (block stmt : ℕ) (s : Stmt) → Some s ≡ stmt_at f block stmt → is_some (operation_at_stmt f block stmt) ≡ true → is_some (operation_of_rhs s.rhs) ≡ true
operation_found f block stmt s is some =
    ap (λ o. is_some (option_and_then (λ (item : Stmt). operation_of_rhs item.rhs) o)) is ∙ some

pub target_found : (f : Function) (block stmt : ℕ) (s : Stmt) → Some s ≡ stmt_at f block stmt → target_at_stmt f block stmt ≡ target_of_stmt f s
target_found f block stmt s is = ap (option_and_then (target_of_stmt f)) (sym is)

pub no_stmt_found : (f : Function) (block stmt : ℕ) → None ≡ stmt_at f block stmt → is_some (operation_at_stmt f block stmt) ≡ true → ⊥
no_stmt_found f block stmt none some =
    both_ways (is_some (operation_at_stmt f block stmt)) (ap (λ o. is_some (option_and_then (λ (item : Stmt). operation_of_rhs item.rhs) o)) (sym none)) some

pub condition_full : (f : Function) (block : ℕ) (home : Block) (code : Code) (left right : Operand) (yes_to no_to : ℕ) → is_well_formed f ≡ true → Some home ≡ slice_get f.blocks block
    → home.end ≡ If code left right yes_to no_to → 2 ≡ arity_of code
condition_full f block home code left right yes_to no_to whole is ends =
    comparison_arity code
    (and_parts (is_comparison_code code) (same_type (type_of left) (type_of right)) (subst (λ e. end_fits f e ≡ true) ends (end_at_fits f block home whole (sym is)))).0
