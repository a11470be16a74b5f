-- What goes on an expression, rank by rank, is read exactly: chains of operators that group to the left, and `?:`.
use Rattle.std.proofs.Common.{◌≡◌, ℕ, zero, suc, ◌≤◌, ◌<◌, ◌==◌, Bool, true, false, List, [], ◌∷◌, ◌++◌, length, Option, Some, None, Ok, refl, sym, ap, subst, ◌∙◌, inl, inr, arith, append_assoc, if◌then◌else◌}
use Rattle.grammar.specs.Spelling.{Spelling, Begins, Nothing, Meant, Then, Mapped, Steps, stays, goes}
use Rattle.grammar.specs.Reading.{◌>>=◌, meant_at, meant_as}
use Rattle.grammar.specs.Exact.{IsApart, IsExact}
use Rattle.grammar.proofs.Parts as parts
use Rattle.grammar.proofs.Sequence as sequences
use Rattle.grammar.proofs.Sequence.{then_apart, token_then}
use Rattle.grammar.proofs.Repetition.{repeated}
use Rattle.grammar.proofs.Starts.{Begun, meant_begun, front_begun, takes_token, begins_with, Optional, taken, left_out}
use Rattle.pm_ops.specs.declared.fault.PatternKind.TheVariants.{CSyntax}
use Rattle.pm_places.specs.declared.span.Span.{Span}
use Rattle.pd_text.specs.declared.symbol.Symbol.{Symbol}
use Rattle.pd_text.specs.declared.symbol.Symbol.TheVariants as symbols
use Rattle.pd_text.specs.declared.symbol.Mark.TheVariants as marks
use Rattle.pd_text.specs.Meanings as meanings
use Rattle.pd_ast.specs.declared.operator.BinaryOperator.{BinaryOperator}
use Rattle.cond_subset.specs.Operators.{ranked}
use Rattle.cond_subset.specs.Trees.{Expr, number, binary, choose}
use Rattle.cond_subset.specs.Grammar.{Within}
use Rattle.cond_subset.specs.Readers.{Inner, Read, and_rest, operated, right_at, operator_step, chain_at, choice_at, link_at, links_at}
use Rattle.cond_subset.proofs.SymbolsExact.{somewhere, some_mark}
use Rattle.cond_subset.specs.GoesOn.{IsQuestion, GoesOn}
use Rattle.cond_subset.proofs.Ranks.{same_number, goes_on_further, ranked_apart, ranked_goes_on, question_apart, question_goes_on, question_is, colon_apart}

-- relations

-- an operator of rank k + 1 with its right operand, after its left one
abbrev pub Step : ℕ → Expr → Expr → List Symbol → Type 0
Step k x = Then (Meant (ranked (suc k))) (λ op. Mapped (λ b. binary op.0 op.1 x b) (Within k))

-- the rest of `c ? a : b`
abbrev pub AfterColon : Expr → Span → Expr → Spelling Symbol Expr
AfterColon c q a = Then (Meant (meanings.mark marks.Colon)) (λ k. Mapped (λ b. choose q c a b) (Within 10))

abbrev pub Choice : Expr → Spelling Symbol Expr
Choice c = Then (Meant (meanings.mark marks.Question)) (λ q. Then (Within 10) (AfterColon c q))

-- what goes on at rank k + 1
abbrev pub LinkBy : Bool → ℕ → Expr → Spelling Symbol Expr
LinkBy true k x = Optional x (Choice x)
LinkBy false k x = Steps (Step k) x

abbrev pub Link : ℕ → Expr → Spelling Symbol Expr
Link k = LinkBy (k == 9) k

-- what goes on at each rank up to this one
abbrev pub Continued : ℕ → Expr → Spelling Symbol Expr
Continued zero x = Nothing x
Continued (suc k) x = Then (Continued k x) (Link k)

-- steps

some_is_some : {A : Type 0} (a b : A) → Some a ≡ Some b → a ≡ b
some_is_some a b e = cc

none_is_some : {A : Type 0} (x : A) → None ≡ Some x → ⊥
none_is_some x e = cc

no_tokens : (t : Symbol) (l : List Symbol) → t ∷ l ≡ [] → ⊥
no_tokens t l e = cc

pub step_never_empty : (k : ℕ) (x y : Expr) → Step k x y [] → ⊥
step_never_empty k x y (op, u, v, first, right, cut) = takes_token (ranked (suc k)) op u v first cut

step_begins : (k : ℕ) (x y : Expr) (t : Symbol) (w : List Symbol) → Step k x y (t ∷ w) → (op : BinaryOperator × Span) × (ranked (suc k) t ≡ Some op)
step_begins k x y t w (op, u, v, first, right, cut) = (op, begins_with (ranked (suc k)) op t w u v first cut)

steps_begin : (k : ℕ) (x y : Expr) (t : Symbol) (w : List Symbol) → Steps (Step k) x y (t ∷ w) → (op : BinaryOperator × Span) × (ranked (suc k) t ≡ Some op)
steps_begin k x y t w (stays same empty) = absurd (no_tokens t w empty)
steps_begin k x y t w (goes {m = m} {u = u} {v = v} first others cut) =
    let (op, a, b, meant, right, inside) = first in
    (op, begins_with (ranked (suc k)) op t w a (b ++ v) meant (cut ∙ ap (λ l. l ++ v) inside ∙ append_assoc a b v))

-- the step that is looked for is what is read
step_is : (inner : Inner) (k : ℕ) (s : Expr) (t : Symbol) (rest : List Symbol) (m : Option (BinaryOperator × Span)) (answer : Read Expr)
    → operated inner k s (and_rest m rest) ≡ Some answer → (meant_as CSyntax t rest m >>= λ x. right_at inner k s x.0 x.1) ≡ answer
step_is inner k s t rest None answer e = absurd (none_is_some answer e)
step_is inner k s t rest (Some op) answer e = some_is_some (right_at inner k s op rest) answer e

step_has : (inner : Inner) (k : ℕ) (s : Expr) (rest : List Symbol) (m : Option (BinaryOperator × Span)) (answer : Read Expr)
    → operated inner k s (and_rest m rest) ≡ Some answer → (op : BinaryOperator × Span) × (m ≡ Some op)
step_has inner k s rest None answer e = absurd (none_is_some answer e)
step_has inner k s rest (Some op) answer e = (op, refl)

step_lacks : (inner : Inner) (k : ℕ) (s : Expr) (rest : List Symbol) (m : Option (BinaryOperator × Span)) (op : BinaryOperator × Span)
    → operated inner k s (and_rest m rest) ≡ None → m ≡ Some op → ⊥
step_lacks inner k s rest None op e is = none_is_some op is
step_lacks inner k s rest (Some p) op e is = absurd (cc)

-- Some operator has each rank of a chain; a rank without one has no chain to be read.
some_link : (b : Bool) (k : ℕ) (x : Expr) → Begins (LinkBy b k x) []
some_link true k x = record { value = x; after = []; spelled = inl (refl, refl) }
some_link false k x = record { value = x; after = []; spelled = stays refl refl }

pub some_continued : (r : ℕ) (x : Expr) → Begins (Continued r x) []
some_continued zero x = record { value = x; after = []; spelled = (refl, refl) }
some_continued (suc k) x =
    let first = some_continued k x in
    let last = some_link (k == 9) k first.value in
    record { value = last.value; after = first.after ++ last.after; spelled = (first.value, first.after, last.after, first.spelled, last.spelled, refl) }

pub some_expression : (r : ℕ) → Begins (Within r) []
some_expression r = record {
  value = number somewhere;
  after = symbols.Number somewhere ∷ [];
  spelled = (omega arith, (symbols.Number somewhere, refl, refl));
}

-- what does not go on

link_first : (b : Bool) (k : ℕ) (x y : Expr) (t : Symbol) (w : List Symbol) → (k == 9) ≡ b → LinkBy b k x y (t ∷ w) → ¬ GoesOn k t
link_first true k x y t w is (inl (same, empty)) = absurd (no_tokens t w empty)
link_first true k x y t w is (inr (q, u, v, first, others, cut)) =
    let question : IsQuestion t = question_is t q (begins_with (meanings.mark marks.Question) q t w u v first cut) in
    subst (λ n. ¬ GoesOn n t) (sym (same_number k 9 is)) (question_apart t question)
link_first false k x y t w is steps = let (op, begins) = steps_begin k x y t w steps in ranked_apart k t op begins

link_far : (k : ℕ) (x y : Expr) (v z : List Symbol) → Link k x y v → IsApart (GoesOn (suc k)) z → IsApart (GoesOn k) (v ++ z)
link_far k x y [] z link far = parts.apart_within (GoesOn k) (GoesOn (suc k)) (goes_on_further k) z far
link_far k x y (t ∷ v) z link far = link_first (k == 9) k x y t v refl link

pub continued_far : (r : ℕ) (x y : Expr) (v z : List Symbol) → Continued r x y v → IsApart (GoesOn r) z → IsApart (GoesOn 0) (v ++ z)
continued_far zero x y v z (same, empty) far = subst (λ l. IsApart (GoesOn 0) (l ++ z)) (sym empty) far
continued_far (suc k) x y v z (m, u₁, v₁, continued, link, cut) far =
    subst (λ l. IsApart (GoesOn 0) (l ++ z)) (sym cut)
    (subst (λ l. IsApart (GoesOn 0) l) (sym (append_assoc u₁ v₁ z)) (continued_far k x m u₁ (v₁ ++ z) continued (link_far k m y v₁ z link far)))

-- exactness, where the readers one level deeper are exact below a length

module _ (inner : Inner) (bound : ℕ) (good : (r : ℕ) (rest : List Symbol) → length rest < bound → IsExact (Within r) (GoesOn r) rest (inner r rest)) where
  step_exact : (k : ℕ) (s : Expr) (input : List Symbol) (answer : Read Expr) → length input ≤ bound → operator_step inner k s input ≡ Some answer
      → IsExact (Step k s) (GoesOn k) input answer
  step_exact k s [] answer fits is = absurd (none_is_some answer is)
  step_exact k s (t ∷ rest) answer fits is =
      let (op, has) = step_has inner k s rest (ranked (suc k) t) answer is in
      subst (λ a. IsExact (Step k s) (GoesOn k) (t ∷ rest) a) (step_is inner k s t rest (ranked (suc k) t) answer is)
      (token_then (ranked (suc k)) CSyntax (record { value = op; after = t ∷ []; spelled = (t, has, refl) })
      (λ op. Mapped (λ b. binary op.0 op.1 s b) (Within k)) (GoesOn k) some_right (t ∷ rest) (λ x. right_at inner k s x.0 x.1)
      (λ op left shorter. parts.mapped (λ b. binary op.0 op.1 s b) (Within k) (GoesOn k) left (inner k left) (good k left (omega arith))))
    where
      some_right : (op : BinaryOperator × Span) → Begins (Mapped (λ b. binary op.0 op.1 s b) (Within k)) []
      some_right op = let some = some_expression k in record { value = binary op.0 op.1 s some.value; after = some.after; spelled = (some.value, some.spelled, refl) }

  chain_exact : (k : ℕ) (s : Expr) (input : List Symbol) → length input ≤ bound → IsExact (Steps (Step k) s) (GoesOn (suc k)) input (chain_at inner k s input)
  chain_exact k s input fits =
      repeated (Step k) (operator_step inner k) (GoesOn k) (GoesOn (suc k)) (step_never_empty k) (goes_on_further k)
      (λ x y t w step. let (op, begins) = step_begins k x y t w step in ranked_apart k t op begins)
      (λ x. refl)
      (λ x t rest answer is. let (op, has) = step_has inner k x rest (ranked (suc k) t) answer is in ranked_goes_on k t op has)
      (length input)
      (λ x rest answer le is. step_exact k x rest answer (omega arith) is)
      (λ x t rest is m w step. let (op, begins) = step_begins k x m t w step in step_lacks inner k x rest (ranked (suc k) t) op is begins)
      (length input) s input (omega arith) (omega arith)

  choice_rest : (c : Expr) (q : Span) (input : List Symbol) → length input < bound
      → IsExact (Then (Within 10) (AfterColon c q)) (GoesOn 10) input (inner 10 input >>= λ a. meant_at (meanings.mark marks.Colon) CSyntax a.1 >>= λ colon. inner 10 colon.1 >>= λ b. Ok (choose q c a.0 b.0, b.1))
  choice_rest c q input fits =
      then_apart (Within 10) (AfterColon c q) (GoesOn 10) (GoesOn 10)
      (λ a y rest. takes_token (meanings.mark marks.Colon) rest.0 rest.1 rest.2 rest.3 rest.5)
      (λ a y t w rest. colon_apart 10 t rest.0 (begins_with (meanings.mark marks.Colon) rest.0 t w rest.1 rest.2 rest.3 rest.5))
      some_rest input (inner 10 input) (λ a. meant_at (meanings.mark marks.Colon) CSyntax a.1 >>= λ colon. inner 10 colon.1 >>= λ b. Ok (choose q c a.0 b.0, b.1))
      (good 10 input fits) second
    where
      some_last : (a : Expr) → Begins (Mapped (λ b. choose q c a b) (Within 10)) []
      some_last a = let some = some_expression 10 in record { value = choose q c a some.value; after = some.after; spelled = (some.value, some.spelled, refl) }

      some_rest : (a : Expr) → Begins (AfterColon c q a) []
      some_rest a =
          let colon = some_mark marks.Colon in
          let last = some_last a in
          record { value = last.value; after = colon.after ++ last.after; spelled = (colon.value, colon.after, last.after, colon.spelled, last.spelled, refl) }

      second : (a : Expr) (rest : List Symbol) → inner 10 input ≡ Ok (a, rest)
          → IsExact (AfterColon c q a) (GoesOn 10) rest (meant_at (meanings.mark marks.Colon) CSyntax rest >>= λ colon. inner 10 colon.1 >>= λ b. Ok (choose q c a b.0, b.1))
      second a rest e =
          let le : length rest ≤ length input = parts.no_longer (Within 10) (GoesOn 10) input (inner 10 input) (good 10 input fits) a rest e in
          token_then (meanings.mark marks.Colon) CSyntax (some_mark marks.Colon) (λ k. Mapped (λ b. choose q c a b) (Within 10)) (GoesOn 10) (λ k. some_last a) rest
          (λ colon. inner 10 colon.1 >>= λ b. Ok (choose q c a b.0, b.1))
          (λ k left shorter. parts.mapped (λ b. choose q c a b) (Within 10) (GoesOn 10) left (inner 10 left) (good 10 left (omega arith)))

  some_choice : (c : Expr) (q : Span) → Begins (Then (Within 10) (AfterColon c q)) []
  some_choice c q =
      let a = some_expression 10 in
      let colon = some_mark marks.Colon in
      let b = some_expression 10 in
      record {
        value = choose q c a.value b.value;
        after = a.after ++ (colon.after ++ b.after);
        spelled = (a.value, a.after, colon.after ++ b.after, a.spelled, (colon.value, colon.after, b.after, colon.spelled, (b.value, b.spelled, refl), refl), refl);
      }

  choice_begun : (c x : Expr) (w : List Symbol) → Choice c x w → Begun IsQuestion w
  choice_begun c x w (q, u, v, first, others, cut) =
      front_begun IsQuestion u v w (meant_begun (meanings.mark marks.Question) IsQuestion question_is q u first) cut

  choice_exact : (c : Expr) (input : List Symbol) → length input ≤ bound → IsExact (Optional c (Choice c)) (GoesOn 10) input (choice_at inner c input)
  choice_exact c (symbols.Mark marks.Question at ∷ rest) fits =
      taken c (Choice c) (GoesOn 10) (symbols.Mark marks.Question at) rest (choice_at inner c (symbols.Mark marks.Question at ∷ rest)) (question_goes_on (symbols.Mark marks.Question at) tt)
      (token_then (meanings.mark marks.Question) CSyntax (some_mark marks.Question) (λ q. Then (Within 10) (AfterColon c q)) (GoesOn 10) (some_choice c) (symbols.Mark marks.Question at ∷ rest)
      (λ q. inner 10 q.1 >>= λ a. meant_at (meanings.mark marks.Colon) CSyntax a.1 >>= λ colon. inner 10 colon.1 >>= λ b. Ok (choose q.0 c a.0 b.0, b.1))
      (λ q left shorter. choice_rest c q left (omega arith)))
  choice_exact c input fits = left_out c (Choice c) (GoesOn 10) IsQuestion (choice_begun c) input (λ h. h)

  link_by : (b : Bool) (k : ℕ) (x : Expr) (input : List Symbol) → (k == 9) ≡ b → length input ≤ bound
      → IsExact (LinkBy b k x) (GoesOn (suc k)) input (if b then choice_at inner x input else chain_at inner k x input)
  link_by true k x input is fits = subst (λ n. IsExact (Optional x (Choice x)) (GoesOn (suc n)) input (choice_at inner x input)) (sym (same_number k 9 is)) (choice_exact x input fits)
  link_by false k x input is fits = chain_exact k x input fits

  pub links_exact : (r : ℕ) (x : Expr) (input : List Symbol) → length input ≤ bound → IsExact (Continued r x) (GoesOn r) input (links_at inner r x input)
  links_exact zero x input fits = parts.nothing x (GoesOn 0) input
  links_exact (suc k) x input fits =
      let before = links_exact k x input fits in
      sequences.then (Continued k x) (Link k) (GoesOn k) (GoesOn (suc k)) (link_far k) (λ y u spelled. some_link (k == 9) k y) input (links_at inner k x input) (λ y. link_at inner k y.0 y.1) before
      (λ y rest e. let le : length rest ≤ length input = parts.no_longer (Continued k x) (GoesOn k) input (links_at inner k x input) before y rest e in link_by (k == 9) k y rest refl (omega arith))
