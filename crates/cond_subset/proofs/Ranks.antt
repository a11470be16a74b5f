-- How loosely expressions bind, and which symbols can go on one.
use Rattle.std.proofs.Common.{◌≡◌, ℕ, suc, ◌≤◌, ◌==◌, Bool, true, false, Option, Some, None, refl, sym, ap, ◌∙◌, inl, inr, arith, if◌then◌else◌}
use Rattle.std.proofs.lemmas.Bool.Decides.{nat_tests}
use Rattle.pm_places.specs.declared.span.Span.{Span}
use Rattle.pd_text.specs.declared.symbol.Symbol.{Symbol}
use Rattle.pd_text.specs.declared.symbol.Symbol.TheVariants as symbols
use Rattle.pd_text.specs.declared.symbol.Mark.TheVariants as marks
use Rattle.pd_text.specs.Meanings.{mark}
use Rattle.pd_ast.specs.declared.operator.BinaryOperator.{BinaryOperator}
use Rattle.pd_ast.specs.declared.operator.BinaryOperator.TheVariants as binaries
use Rattle.cond_subset.specs.Operators.{binary_operator, rank_of, of_rank, ranked}
use Rattle.cond_subset.specs.Trees.{Expr, binary}
use Rattle.cond_subset.specs.Grammar.{rank}
use Rattle.cond_subset.specs.GoesOn.{IsCall, IsQuestion, GoesOn}

pub operator_rank : (op : BinaryOperator) → (1 ≤ rank_of op) × (rank_of op ≤ 9)
operator_rank binaries.Times = (omega arith, omega arith)
operator_rank op = (omega arith, omega arith)

pub rank_small : (e : Expr) → rank e ≤ 10
rank_small (binary op at a b) = let (low, high) = operator_rank op in omega arith
rank_small e = omega arith

-- the two numbers are one where the test says so
pub same_number : (a b : ℕ) → (a == b) ≡ true → a ≡ b
same_number a b e = grind (arith, nat_tests)

pub other_number : (a b : ℕ) → (a == b) ≡ false → a ≡ b → ⊥
other_number a b e same = grind (arith, nat_tests)

pub number_is : (a b : ℕ) → a ≡ b → (a == b) ≡ true
number_is a b e = grind (arith, nat_tests)

-- an operator of a rank is one, and has it
of_rank_is : (r : ℕ) (m : Option (BinaryOperator × Span)) (op : BinaryOperator × Span) → of_rank r m ≡ Some op → (m ≡ Some op) × (rank_of op.0 ≡ r)
of_rank_is r None op e = absurd (cc)
of_rank_is r (Some p) op e = by_test (rank_of p.0 == r) refl e
  where
    by_test : (b : Bool) → (rank_of p.0 == r) ≡ b → (if b then Some p else None) ≡ Some op → (Some p ≡ Some op) × (rank_of op.0 ≡ r)
    by_test true is same =
        let one : p ≡ op = cc in
        (same, ap (λ (o : BinaryOperator × Span). rank_of o.0) (sym one) ∙ same_number (rank_of p.0) r is)
    by_test false is same = absurd (cc)

pub ranked_is : (r : ℕ) (t : Symbol) (op : BinaryOperator × Span) → ranked r t ≡ Some op → (binary_operator t ≡ Some op) × (rank_of op.0 ≡ r)
ranked_is r t op e = of_rank_is r (binary_operator t) op e

pub is_ranked : (r : ℕ) (t : Symbol) (op : BinaryOperator × Span) → binary_operator t ≡ Some op → rank_of op.0 ≡ r → ranked r t ≡ Some op
is_ranked r t op e same =
    ap (of_rank r) e ∙ ap (λ b. if b then Some op else None) (number_is (rank_of op.0) r same)

pub goes_on_further : (k : ℕ) (t : Symbol) → GoesOn k t → GoesOn (suc k) t
goes_on_further k t (inl opens) = inl opens
goes_on_further k t (inr (inl (op, is, low))) = inr (inl (op, is, omega arith))
goes_on_further k t (inr (inr (question, high))) = inr (inr (question, omega arith))

call_no_operator : (t : Symbol) (op : BinaryOperator × Span) → IsCall t → binary_operator t ≡ Some op → ⊥
call_no_operator (symbols.Mark marks.Open at) op c e = cc
call_no_operator (symbols.Mark marks.DoubleColon at) op c e = cc
call_no_operator t op c e = c

question_no_operator : (t : Symbol) (op : BinaryOperator × Span) → IsQuestion t → binary_operator t ≡ Some op → ⊥
question_no_operator (symbols.Mark marks.Question at) op q e = cc
question_no_operator t op q e = q

question_no_call : (t : Symbol) → IsQuestion t → IsCall t → ⊥
question_no_call (symbols.Mark marks.Question at) q c = c
question_no_call t q c = q

-- an operator of the next rank does not go on
pub ranked_apart : (k : ℕ) (t : Symbol) (op : BinaryOperator × Span) → ranked (suc k) t ≡ Some op → ¬ GoesOn k t
ranked_apart k t op e (inl opens) = call_no_operator t op opens (ranked_is (suc k) t op e).0
ranked_apart k t op e (inr (inl (p, is, low))) =
    let (found, has) = ranked_is (suc k) t op e in
    let one : op ≡ p = cc in
    let same : rank_of op.0 ≡ rank_of p.0 = ap (λ (o : BinaryOperator × Span). rank_of o.0) one in
    omega arith
ranked_apart k t op e (inr (inr (question, high))) = question_no_operator t op question (ranked_is (suc k) t op e).0

pub ranked_goes_on : (k : ℕ) (t : Symbol) (op : BinaryOperator × Span) → ranked (suc k) t ≡ Some op → GoesOn (suc k) t
ranked_goes_on k t op e = let (found, has) = ranked_is (suc k) t op e in inr (inl (op, found, omega arith))

-- a `?` goes on at rank 10 alone
pub question_apart : (t : Symbol) → IsQuestion t → ¬ GoesOn 9 t
question_apart t q (inl opens) = question_no_call t q opens
question_apart t q (inr (inl (p, is, low))) = question_no_operator t p q is
question_apart t q (inr (inr (question, high))) = omega arith

pub question_goes_on : (t : Symbol) → IsQuestion t → GoesOn 10 t
question_goes_on t q = inr (inr (q, omega arith))

pub question_is : (t : Symbol) (at : Span) → mark marks.Question t ≡ Some at → IsQuestion t
question_is (symbols.Mark marks.Question p) at e = tt
question_is t at e = absurd (cc)

-- marks that go on no expression
none_goes_on : (r : ℕ) (t : Symbol) → (IsCall t → ⊥) → (IsQuestion t → ⊥) → binary_operator t ≡ None → ¬ GoesOn r t
none_goes_on r t no_call no_question none (inl opens) = no_call opens
none_goes_on r t no_call no_question none (inr (inl (p, is, low))) = absurd (cc)
none_goes_on r t no_call no_question none (inr (inr (question, high))) = no_question question

pub colon_apart : (r : ℕ) (t : Symbol) (at : Span) → mark marks.Colon t ≡ Some at → ¬ GoesOn r t
colon_apart r (symbols.Mark marks.Colon p) at e = none_goes_on r (symbols.Mark marks.Colon p) (λ h. h) (λ h. h) refl
colon_apart r t at e = absurd (cc)

pub close_apart : (r : ℕ) (t : Symbol) (at : Span) → mark marks.Close t ≡ Some at → ¬ GoesOn r t
close_apart r (symbols.Mark marks.Close p) at e = none_goes_on r (symbols.Mark marks.Close p) (λ h. h) (λ h. h) refl
close_apart r t at e = absurd (cc)

pub comma_apart : (r : ℕ) (t : Symbol) (at : Span) → mark marks.Comma t ≡ Some at → ¬ GoesOn r t
comma_apart r (symbols.Mark marks.Comma p) at e = none_goes_on r (symbols.Mark marks.Comma p) (λ h. h) (λ h. h) refl
comma_apart r t at e = absurd (cc)

pub semicolon_apart : (t : Symbol) → GoesOn 10 t → mark marks.Semicolon t ≡ None
semicolon_apart (symbols.Mark marks.Semicolon p) goes_on = absurd (none_goes_on 10 (symbols.Mark marks.Semicolon p) (λ h. h) (λ h. h) refl goes_on)
semicolon_apart t goes_on = refl
