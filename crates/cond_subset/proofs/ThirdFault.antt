-- The fault of the third of three parts is that of the whole, where the first two have none.
use Rattle.std.proofs.Common.{◌≡◌, ℕ, Bool, true, false, List, Result, Ok, Err, refl, sym, ap, subst, ◌∙◌}
use Rattle.std.specs.Prelude.{IsErr, IsErrAnd}
use Rattle.pm_ops.specs.declared.fault.PatternFault.{PatternFault}
use Rattle.pm_places.specs.declared.span.Span.{Span}
use Rattle.pd_ast.specs.declared.c_text.CExpr.{CExpr}
use Rattle.cond_subset.specs.declared.scope.Scope.{Scope}
use Rattle.cond_subset.specs.declared.scope.Typed.{Typed}
use Rattle.cond_subset.specs.declared.tree.ExprText as texts
use Rattle.cond_subset.specs.declared.tree.ExprText.{ExprText, fold-roll-ExprText}
use Rattle.cond_subset.specs.declared.tree.ExprText.TheOpen.{Choose}
use Rattle.cond_subset.specs.declared.tree.ExprText.TheVariants.{rolls-Choose}
use Rattle.cond_subset.specs.Trees.{Expr, choose, expr_step, expr_of}
use Rattle.cond_subset.specs.Names.{is_memory_kind}
use Rattle.cond_subset.specs.Types.{and_then, IsSame, Finds}
use Rattle.cond_subset.specs.Making.{made, choice_made}

after_two : {A B C D : Type 0} (first : Result A PatternFault) (x : A) (second : Result B PatternFault) (y : B) (third : Result C PatternFault)
    (next : A → B → C → Result D PatternFault) → first ≡ Ok x → second ≡ Ok y
    → and_then first (λ u. and_then second (λ v. and_then third (next u v))) ≡ and_then third (next x y)
after_two {A = A} {B = B} first x second y third next p q =
    subst (λ (r : Result A PatternFault). and_then r (λ u. and_then second (λ v. and_then third (next u v))) ≡ and_then third (next x y)) (sym p)
    (subst (λ (r : Result B PatternFault). and_then r (λ v. and_then third (next x v)) ≡ and_then third (next x y)) (sym q) refl)

passed : {C D : Type 0} (third : Result C PatternFault) (next : C → Result D PatternFault) (fault : PatternFault) (memory : Bool)
    → IsSame memory fault third → IsSame memory fault (and_then third next)
passed {C = C} third next fault true h = tt
passed {C = C} third next fault false h = subst (λ (r : Result C PatternFault). and_then r next ≡ Err fault) (sym h) refl

pub third_fault : {A B C D : Type 0} (first : Result A PatternFault) (x : A) (second : Result B PatternFault) (y : B) (third : Result C PatternFault)
    (next : A → B → C → Result D PatternFault) (fault : PatternFault) (memory : Bool) → first ≡ Ok x → second ≡ Ok y
    → IsSame memory fault third → IsSame memory fault (and_then first (λ u. and_then second (λ v. and_then third (next u v))))
third_fault first x second y third next fault memory p q h =
    subst (IsSame memory fault) (sym (after_two first x second y third next p q)) (passed third (next x y) fault memory h)

-- what a `?` hands out of the fault of a part
pub handed_out : {X : Type 0} (total : Result X PatternFault) (fault : PatternFault) (r : Result X PatternFault)
    → IsErr r × IsErrAnd r (λ e. e ≡ fault) → IsSame (is_memory_kind fault.kind) fault total → Finds total r
handed_out total fault (Ok x) h is = let no = h.0 in absurd cc
handed_out total fault (Err e) h is = rw (h.1) is

expr_of-Choose : (at : Span) (c a b : ExprText) → expr_of (texts.Choose at c a b) ≡ choose at (expr_of c) (expr_of a) (expr_of b)
expr_of-Choose at c a b = ap expr_of (sym (rolls-Choose at c a b)) ∙ fold-roll-ExprText Expr expr_step (Choose at c a b)

-- the fault of the last part of a choice, behind references to its parts
pub choice_fault : (source : List ℕ) (scope : Scope) (block : List Typed) (at : Span) (c a b when then_part otherwise : ExprText) (x y : CExpr) (fault : PatternFault)
    → when ≡ c → then_part ≡ a → otherwise ≡ b → made source scope block (expr_of when) ≡ Ok x → made source scope block (expr_of then_part) ≡ Ok y
    → IsSame (is_memory_kind fault.kind) fault (made source scope block (expr_of otherwise))
    → IsSame (is_memory_kind fault.kind) fault (made source scope block (expr_of (texts.Choose at c a b)))
choice_fault source scope block at c a b when then_part otherwise x y fault p q r of_when of_then h =
    let of_c : made source scope block (expr_of c) ≡ Ok x = subst (λ e. made source scope block (expr_of e) ≡ Ok x) p of_when in
    let of_a : made source scope block (expr_of a) ≡ Ok y = subst (λ e. made source scope block (expr_of e) ≡ Ok y) q of_then in
    let of_b : IsSame (is_memory_kind fault.kind) fault (made source scope block (expr_of b)) = subst (λ e. IsSame (is_memory_kind fault.kind) fault (made source scope block (expr_of e))) r h in
    subst (λ e. IsSame (is_memory_kind fault.kind) fault (made source scope block e)) (sym (expr_of-Choose at c a b))
    (third_fault (made source scope block (expr_of c)) x (made source scope block (expr_of a)) y (made source scope block (expr_of b)) (choice_made at) fault (is_memory_kind fault.kind) of_c of_a of_b)
