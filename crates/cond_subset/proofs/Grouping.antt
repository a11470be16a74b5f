-- An operand, and what goes on it rank by rank, is what the grammar says: operators group to the left, `?:` to the right.
use Rattle.std.proofs.Common.{◌≡◌, ℕ, zero, suc, ◌≤◌, ◌==◌, Bool, true, false, List, [], ◌++◌, refl, sym, ap, subst, ◌∙◌, ◌⊎◌, inl, inr, arith, append_assoc}
use Rattle.std.proofs.lemmas.List.{append-nil}
use Rattle.grammar.specs.Spelling.{Meant, Then, LastStep}
use Rattle.grammar.proofs.Chains.{chain_of_steps, steps_of_chain}
use Rattle.pm_places.specs.declared.span.Span.{Span}
use Rattle.pd_text.specs.declared.symbol.Symbol.{Symbol}
use Rattle.pd_ast.specs.declared.operator.BinaryOperator.{BinaryOperator}
use Rattle.cond_subset.specs.Operators.{binary_operator, rank_of, ranked}
use Rattle.cond_subset.specs.Trees.{Expr, number, capture, named, parens, unary, binary, choose, call}
use Rattle.cond_subset.specs.Grammar.{rank, Spells, Within}
use Rattle.cond_subset.proofs.Ranks.{operator_rank, rank_small, same_number, other_number, ranked_is, is_ranked}
use Rattle.cond_subset.proofs.LinksExact.{Step, LinkBy, Link, Continued, step_never_empty}

-- an operator of this rank, as a symbol
ranked_spelled : (r : ℕ) (op : BinaryOperator) (at : Span) (w : List Symbol) → Meant binary_operator (op, at) w → rank_of op ≡ r → Meant (ranked r) (op, at) w
ranked_spelled r op at w (t, is, one) has = (t, is_ranked r t (op, at) is has, one)

-- a step makes a longer chain
grows : (k : ℕ) (x y : Expr) (u v : List Symbol) → Within (suc k) x u → Step k x y v → Within (suc k) y (u ++ v)
grows k x y u v (low, spelled) (op, u₁, v₁, (t, is, one), (b, (below, right), same), cut) =
    let (found, has) = ranked_is (suc k) t op is in
    subst (λ e. Within (suc k) e (u ++ v)) same
    (omega arith, (omega arith, omega arith, (u, v, spelled, (u₁, v₁, (t, found, one), right, cut), refl)))

-- an operator of the rank of a chain is its last step
last_step : (k : ℕ) (op : BinaryOperator) (at : Span) (a b : Expr) (w : List Symbol) → rank_of op ≡ suc k → Spells (binary op at a b) w
    → LastStep (Within (suc k)) (Step k) (binary op at a b) w
last_step k op at a b w has (left, right, (u, v, spelled, (u₁, v₁, operator, after, inside), cut)) = record {
  before = a;
  left = u;
  right = v;
  chain = (omega arith, spelled);
  step = ((op, at), u₁, v₁, ranked_spelled (suc k) op at u₁ operator has, (b, (omega arith, after), refl), inside);
  cut = cut;
}

by_rank : (k : ℕ) (op : BinaryOperator) (at : Span) (a b : Expr) (w : List Symbol) (same : Bool) → (rank_of op == suc k) ≡ same → rank_of op ≤ suc k → Spells (binary op at a b) w
    → Within k (binary op at a b) w ⊎ LastStep (Within (suc k)) (Step k) (binary op at a b) w
by_rank k op at a b w true is low spelled = inr (last_step k op at a b w (same_number (rank_of op) (suc k) is) spelled)
by_rank k op at a b w false is low spelled = let other = other_number (rank_of op) (suc k) is in inl (lower other, spelled)
  where
    lower : (rank_of op ≡ suc k → ⊥) → rank_of op ≤ k
    lower other = omega (arith, other)

only_links : (k : ℕ) → (k == 9) ≡ false → (y : Expr) (w : List Symbol) → Within (suc k) y w → Within k y w ⊎ LastStep (Within (suc k)) (Step k) y w
only_links k other (binary op at a b) w (low, spelled) = by_rank k op at a b w (rank_of op == suc k) refl low spelled
only_links k other (choose at c a b) w (low, spelled) = inl (higher (other_number k 9 other) low, spelled)
  where
    higher : (k ≡ 9 → ⊥) → 10 ≤ suc k → 10 ≤ k
    higher other low = omega (arith, other)
only_links k other y w (low, spelled) = inl (omega arith, spelled)

single : (k : ℕ) (x : Expr) (w : List Symbol) → Within k x w → Within (suc k) x w
single k x w (low, spelled) = (omega arith, spelled)

-- what goes on at one rank more
linked : (b : Bool) (k : ℕ) → (k == 9) ≡ b → (y : Expr) (w : List Symbol) → Then (Within k) (LinkBy b k) y w → Within (suc k) y w
linked false k other y w parts = chain_of_steps (Within (suc k)) (Within k) (Step k) (step_never_empty k) (single k) (grows k) (only_links k other) y w parts
linked true k is y w (c, u, v, (low, spelled), inl (same, empty), cut) =
    subst (λ e. Within (suc k) e w) (sym same)
    (omega arith, subst (λ l. Spells c l) (sym (cut ∙ ap (λ l. u ++ l) empty ∙ append-nil u)) spelled)
linked true k is y w (c, u, v, (low, spelled), inr (q, u₁, v₁, question, (a, u₂, v₂, (any, first), (colon, u₃, v₃, mark, (b, (all, second), same), cut₃), cut₂), cut₁), cut) =
    let nine : k ≡ 9 = same_number k 9 is in
    subst (λ e. Within (suc k) e w) same
    (omega arith, (omega arith, (u, v, spelled, (u₁, v₁, question, (u₂, v₂, first, (u₃, v₃, (colon, mark), second, cut₃), cut₂), cut₁), cut)))

alone : (k : ℕ) (y : Expr) (w : List Symbol) → rank y ≤ k → Spells y w → Then (Within k) (LinkBy true k) y w
alone k y w low spelled = (y, w, [], (low, spelled), inl (refl, refl), sym (append-nil w))

chosen : (k : ℕ) → k ≡ 9 → (y : Expr) (w : List Symbol) → Within (suc k) y w → Then (Within k) (LinkBy true k) y w
chosen k nine (choose at c a b) w (low, (below, (u, v, spelled, (u₁, v₁, question, (u₂, v₂, first, (u₃, v₃, (colon, mark), second, cut₃), cut₂), cut₁), cut))) =
    (c, u, v, (omega arith, spelled), inr (at, u₁, v₁, question, (a, u₂, v₂, (rank_small a, first), (colon, u₃, v₃, mark, (b, (rank_small b, second), refl), cut₃), cut₂), cut₁), cut)
chosen k nine (binary op at a b) w (low, spelled) = let (least, most) = operator_rank op in alone k (binary op at a b) w (omega arith) spelled
chosen k nine (number at) w (low, spelled) = alone k (number at) w (omega arith) spelled
chosen k nine (capture at) w (low, spelled) = alone k (capture at) w (omega arith) spelled
chosen k nine (named at) w (low, spelled) = alone k (named at) w (omega arith) spelled
chosen k nine (parens at a) w (low, spelled) = alone k (parens at a) w (omega arith) spelled
chosen k nine (unary op at a) w (low, spelled) = alone k (unary op at a) w (omega arith) spelled
chosen k nine (call callee args) w (low, spelled) = alone k (call callee args) w (omega arith) spelled

of_linked : (b : Bool) (k : ℕ) → (k == 9) ≡ b → (y : Expr) (w : List Symbol) → Within (suc k) y w → Then (Within k) (LinkBy b k) y w
of_linked false k other y w within = steps_of_chain (Within (suc k)) (Within k) (Step k) (step_never_empty k) (single k) (grows k) (only_links k other) y w within
of_linked true k is y w within = chosen k (same_number k 9 is) y w within

-- all ranks up to one
pub grouped : (r : ℕ) (y : Expr) (w : List Symbol) → Then (Within 0) (Continued r) y w → Within r y w
grouped zero y w (a, u, v, (low, spelled), (same, empty), cut) =
    subst (λ e. Within 0 e w) (sym same) (low, subst (λ l. Spells a l) (sym (cut ∙ ap (λ l. u ++ l) empty ∙ append-nil u)) spelled)
grouped (suc k) y w (a, u, v, operand, (x, u₁, v₁, continued, link, inside), cut) =
    let left : Within k x (u ++ u₁) = grouped k x (u ++ u₁) (a, u, u₁, operand, continued, refl) in
    linked (k == 9) k refl y w (x, u ++ u₁, v₁, left, link, cut ∙ ap (λ l. u ++ l) inside ∙ sym (append_assoc u u₁ v₁))

and_link : (k : ℕ) (a x y : Expr) (p q w u v : List Symbol) → Within 0 a u → Continued k a x v → p ≡ u ++ v → Link k x y q → w ≡ p ++ q
    → Then (Within 0) (Continued (suc k)) y w
and_link k a x y p q w u v operand continued inside link cut =
    (a, u, v ++ q, operand, (x, v, q, continued, link, refl), cut ∙ ap (λ l. l ++ q) inside ∙ append_assoc u v q)

pub of_grouped : (r : ℕ) (y : Expr) (w : List Symbol) → Within r y w → Then (Within 0) (Continued r) y w
of_grouped zero y w within = (y, w, [], within, (refl, refl), sym (append-nil w))
of_grouped (suc k) y w within =
    let (x, p, q, left, link, cut) = of_linked (k == 9) k refl y w within in
    let (a, u, v, operand, continued, inside) = of_grouped k x p left in
    and_link k a x y p q w u v operand continued inside link cut
