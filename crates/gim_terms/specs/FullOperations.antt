-- Each operation of a well-formed function has as many operands as its code takes, so the places right
-- below an operation are there.
use Rattle.std.proofs.Common.{◌≡◌, ℕ, zero, suc, ◌<◌, true, false, eqb, Option, Some, None, List, [], ◌∷◌, ◌++◌, map, length, slice_get, refl, sym, ap, subst, ◌∙◌, arith}
use Rattle.std.specs.Prelude.{IsSome, IsTrue, is_some}
use Rattle.std.specs.Option.{option_and_then, option_map, option_map_or}
use Rattle.std.proofs.lemmas.Bool.{both_ways}
use Rattle.std.proofs.lemmas.Option.{same_Some, none-some, option_and_then_some}
use Rattle.pm_ops.specs.declared.code.Code.{Code}
use Rattle.pm_ops.specs.declared.code.Code.TheVariants.{Convert, Negate, Abs, Absu, BitNot, Cond}
use Rattle.pm_ops.specs.Codes.{arity_of, is_comparison_code}
use Rattle.pm_ops.proofs.SameCodes.{same_code_is}
use Rattle.pm_wide.specs.Types.{Ty}
use Rattle.pm_wide.specs.Typing.{well_typed_operation, well_typed_unary, well_typed_binary, well_typed_ternary}
use Rattle.pm_wide.specs.declared.operand.Operand.{Operand}
use Rattle.pm_wide.specs.declared.operand.Operand.TheVariants.{Name, Const}
use Rattle.gim_ast.specs.declared.function.Function.{Function}
use Rattle.gim_ast.specs.declared.function.NameRow.{NameRow}
use Rattle.gim_ast.specs.declared.function.Stmt.{Stmt}
use Rattle.gim_ast.specs.declared.function.Rhs.{Rhs}
use Rattle.gim_ast.specs.declared.function.Rhs.TheVariants.{Copy, Op}
use Rattle.gim_ast.specs.Functions.{first_where, right_of, row_of, stmts_of}
use Rattle.gim_ast.specs.WellFormed.{is_well_formed, rhs_fits, stmt_fits, type_of}
use Rattle.pattern_rows.specs.declared.row.Place.{Place}
use Rattle.pattern_rows.specs.Places.{below, code_at}
use Rattle.gim_terms.specs.Views.{View, Operation, operation, view_of, operation_behind, operation_of_rhs}
use Rattle.gim_terms.specs.Reached.{operand_of, reached, operand_at, operand_at_steps, operation_at_steps, has_code, holds_at}
use Rattle.gim_terms.specs.Fitting.{all_at_first, blocks_fit, stmts_fit}

-- ---- how many operands

unary_arity : (code : Code) (t a : Ty) → well_typed_unary code t a ≡ true → 1 ≡ arity_of code
unary_arity Convert t a h = refl
unary_arity Negate t a h = refl
unary_arity BitNot t a h = refl
unary_arity Abs t a h = refl
unary_arity Absu t a h = refl
unary_arity _ t a h = absurd (both_ways false refl h)

binary_arity : (code : Code) (t a b : Ty) → well_typed_binary code t a b ≡ true → 2 ≡ arity_of code
binary_arity Convert t a b h = absurd (both_ways false refl h)
binary_arity Negate t a b h = absurd (both_ways false refl h)
binary_arity BitNot t a b h = absurd (both_ways false refl h)
binary_arity Abs t a b h = absurd (both_ways false refl h)
binary_arity Absu t a b h = absurd (both_ways false refl h)
binary_arity Cond t a b h = absurd (both_ways false refl h)
binary_arity _ t a b h = refl

ternary_arity : (code : Code) (t a b c : Ty) → well_typed_ternary code t a b c ≡ true → 3 ≡ arity_of code
ternary_arity Cond t a b c h = refl
ternary_arity _ t a b c h = absurd (both_ways false refl h)

pub comparison_arity : (code : Code) → is_comparison_code code ≡ true → 2 ≡ arity_of code
comparison_arity Convert h = absurd (both_ways false refl h)
comparison_arity Negate h = absurd (both_ways false refl h)
comparison_arity BitNot h = absurd (both_ways false refl h)
comparison_arity Abs h = absurd (both_ways false refl h)
comparison_arity Absu h = absurd (both_ways false refl h)
comparison_arity Cond h = absurd (both_ways false refl h)
comparison_arity _ h = refl

full_operation : (code : Code) (t : Ty) (operands : List Operand) → well_typed_operation code t (map type_of operands) ≡ true → length operands ≡ arity_of code
unfolding well_typed_operation
full_operation code t [] h = absurd (both_ways false refl h)
full_operation code t (a ∷ []) h = unary_arity code t (type_of a) h
full_operation code t (a ∷ b ∷ []) h = binary_arity code t (type_of a) (type_of b) h
full_operation code t (a ∷ b ∷ c ∷ []) h = ternary_arity code t (type_of a) (type_of b) (type_of c) h
full_operation code t (a ∷ b ∷ c ∷ d ∷ operands) h = absurd (both_ways false refl h)

-- where a name has a row by which its right side is well typed
full_at_row : (row : Option NameRow) (rhs : Rhs) (on : Operation) → option_map_or (λ (r : NameRow). rhs_fits r.ty rhs) row false ≡ true → operation_of_rhs rhs ≡ Some on → length on.operands ≡ arity_of on.code
full_at_row None rhs on fits is = absurd (both_ways false refl fits)
full_at_row (Some row) (Copy a) on fits is = absurd (none-some on is)
full_at_row (Some row) (Op code operands) on fits is =
    subst (λ (o : Operation). length o.operands ≡ arity_of o.code) (same_Some (operation code operands) on is) (full_operation code row.ty operands fits)

pub full_stmt : (f : Function) (s : Stmt) (on : Operation) → stmt_fits f s ≡ true → operation_of_rhs s.rhs ≡ Some on → length on.operands ≡ arity_of on.code
full_stmt f s on fits is = full_at_row (row_of f s.name) s.rhs on fits is

full_found : (f : Function) (found : Option Stmt) (rhs : Rhs) (on : Operation) → ((s : Stmt) → found ≡ Some s → stmt_fits f s ≡ true)
    → option_map (λ (s : Stmt). s.rhs) found ≡ Some rhs → operation_of_rhs rhs ≡ Some on → length on.operands ≡ arity_of on.code
full_found f None rhs on each has is = absurd (none-some rhs has)
full_found f (Some s) rhs on each has is = full_stmt f s on (each s refl) (ap operation_of_rhs (same_Some s.rhs rhs has) ∙ is)

full_right : (f : Function) (x : ℕ) (rhs : Rhs) (on : Operation) → is_well_formed f ≡ true → right_of f x ≡ Some rhs → operation_of_rhs rhs ≡ Some on → length on.operands ≡ arity_of on.code
unfolding right_of
full_right f x rhs on whole has is =
    full_found f (first_where (λ (s : Stmt). eqb s.name x) (stmts_of f)) rhs on
    (λ s e. all_at_first (stmt_fits f) (λ (t : Stmt). eqb t.name x) (stmts_of f) s (stmts_fit f f.blocks (blocks_fit f whole)) e) has is

full_behind : (f : Function) (a : Operand) (on : Operation) → is_well_formed f ≡ true → operation_behind (view_of f) a ≡ Some on → length on.operands ≡ arity_of on.code
full_behind f (Name x t) on whole is =
    option_and_then_some operation_of_rhs (right_of f x) on is (λ rhs has operation. full_right f x rhs on whole has operation)
full_behind f (Const w) on whole is = absurd (none-some on is)

full_at : (f : Function) (on : Operation) (steps : List ℕ) (there : Operation) → is_well_formed f ≡ true → length on.operands ≡ arity_of on.code
    → operation_at_steps (view_of f) on steps ≡ Some there → length there.operands ≡ arity_of there.code
full_at f on [] there whole full is = subst (λ (o : Operation). length o.operands ≡ arity_of o.code) (same_Some on there is) full
full_at f on (k ∷ ks) there whole full is =
    option_and_then_some (operation_behind (view_of f)) (operand_at_steps (view_of f) on (k ∷ ks)) there is
    (λ a has behind. full_behind f a there whole behind)

-- ---- places

some_again : {X : Type 0} (o : Option X) → option_and_then (λ x. Some x) o ≡ o
some_again None = refl
some_again (Some x) = refl

abbrev one_more : View → ℕ → Option Operand → Option Operand
one_more view k a = option_and_then (operand_of k) (option_and_then (operation_behind view) a)

through : (view : View) (ks : List ℕ) (k : ℕ) (a : Option Operand) → ((b : Operand) → reached view b (ks ++ k ∷ []) ≡ one_more view k (reached view b ks))
    → option_and_then (λ b. reached view b (ks ++ k ∷ [])) a ≡ one_more view k (option_and_then (λ b. reached view b ks) a)
through view ks k None each = refl
through view ks k (Some b) each = each b

reached_more : (view : View) (a : Operand) (ks : List ℕ) (k : ℕ) → reached view a (ks ++ k ∷ []) ≡ one_more view k (reached view a ks)
reached_more view a [] k = some_again (option_and_then (operand_of k) (operation_behind view a))
reached_more view a (j ∷ ks) k = through view ks k (option_and_then (operand_of j) (operation_behind view a)) (λ b. reached_more view b ks k)

-- the operand at a position below a place is that of the operation there
pub operand_more : (view : View) (on : Operation) (ks : List ℕ) (k : ℕ) → operand_at_steps view on (ks ++ k ∷ []) ≡ option_and_then (operand_of k) (operation_at_steps view on ks)
operand_more view on [] k = some_again (operand_of k on)
operand_more view on (j ∷ ks) k = through view ks k (operand_of j on) (λ b. reached_more view b ks k)

some_within : {X : Type 0} (xs : List X) (k : ℕ) → k < length xs → is_some (slice_get xs k) ≡ true
some_within [] k within = absurd (omega arith)
some_within (x ∷ xs) zero within = refl
some_within (x ∷ xs) (suc k) within = some_within xs k (omega arith)

there_below : (o : Option Operation) (c : Code) (k : ℕ) → has_code c o ≡ true → ((on : Operation) → o ≡ Some on → length on.operands ≡ arity_of on.code)
    → k < arity_of c → is_some (option_and_then (operand_of k) o) ≡ true
there_below None c k has full within = absurd (both_ways false refl has)
there_below (Some on) c k has full within =
    some_within on.operands k (subst (λ n. k < n) (ap arity_of (same_code_is c on.code has) ∙ sym (full on refl)) within)

pub operand_is_there : (f : Function) (code : Code) (operands : List Operand) → IsTrue (is_well_formed f) → length operands ≡ arity_of code
    → (at : Place) (c : Code) → holds_at (view_of f) (operation code operands) (code_at at c) ≡ true
    → (position : ℕ) → position < arity_of c → IsSome (operand_at (view_of f) (operation code operands) (below at position))
operand_is_there f code operands whole full at c has position within =
    subst (λ o. is_some o ≡ true) (sym (operand_more (view_of f) (operation code operands) at.steps position))
    (there_below (operation_at_steps (view_of f) (operation code operands) at.steps) c position has
    (λ on is. full_at f (operation code operands) at.steps on whole full is) within)
