-- What stands after an argument of a call that may have a flag, token by token, is further arguments and the end of the
-- call, with a flag or without one.
use Rattle.std.proofs.Common.{◌≡◌, ℕ, suc, List, [], ◌∷◌, ◌++◌, length, refl, sym, ap, subst, ◌∙◌, ◌⊎◌, inl, inr, arith, append_assoc}
use Rattle.std.proofs.lemmas.List.{append-nil}
use Rattle.grammar.specs.Spelling.{Spelling, Nothing, Meant, Then, Mapped, Steps, Many, Item}
use Rattle.grammar.proofs.Chains.{items_of_steps, steps_of_items}
use Rattle.pm_places.specs.declared.span.Span.{Span}
use Rattle.pd_text.specs.declared.symbol.Symbol.{Symbol}
use Rattle.pd_text.specs.declared.symbol.Mark.TheVariants as marks
use Rattle.pd_text.specs.Meanings as meanings
use Rattle.cond_subset.specs.declared.tree.Arithmetic.{Arithmetic}
use Rattle.cond_subset.specs.declared.tree.Arithmetic.TheVariants as arithmetics
use Rattle.cond_subset.specs.declared.tree.FlaggedCall.{FlaggedCall}
use Rattle.cond_subset.specs.Trees.{Expr, call, exprs}
use Rattle.cond_subset.specs.Grammar.{Spells, Within}
use Rattle.cond_subset.specs.Declarations.{Value, plain, flagged}
use Rattle.cond_subset.specs.DeclarationReaders.{callee_of}
use Rattle.cond_subset.proofs.Ranks.{rank_small}
use Rattle.cond_subset.proofs.LinksExact.{Continued}
use Rattle.cond_subset.proofs.ArgumentsExact.{FurtherArg}

-- as the reader goes

-- the `)` of a call without a flag, and what goes on the call
abbrev pub Called : FlaggedCall → List Expr → Spelling Symbol Value
Called c args = Then (Meant (meanings.mark marks.Close)) (λ k. Mapped plain (Continued 10 (call (callee_of c) (exprs args))))

abbrev pub Others : FlaggedCall → List Expr → Spelling Symbol Value
Others c args = Then (Steps (Item FurtherArg) args) (Called c)

abbrev pub ToEnd : FlaggedCall → List Expr → Span → Spelling Symbol Value
ToEnd c args flag = Then (Meant (meanings.mark marks.Close)) (λ k. Nothing (flagged c args flag))

abbrev pub FlagTail : FlaggedCall → List Expr → Spelling Symbol Value
FlagTail c args = Then (Meant meanings.identifier) (ToEnd c args)

abbrev pub Flag : FlaggedCall → List Expr → Spelling Symbol Value
Flag c args = Then (Meant (meanings.mark marks.Ampersand)) (λ m. FlagTail c args)

abbrev pub Other : FlaggedCall → List Expr → Spelling Symbol Value
Other c args = Then (Within 10) (λ e. Others c (args ++ e ∷ []))

abbrev pub FlagOrOther : FlaggedCall → List Expr → Spelling Symbol Value
FlagOrOther c args v w = Flag c args v w ⊎ Other c args v w

abbrev pub AfterComma : FlaggedCall → List Expr → Spelling Symbol Value
AfterComma c args = Then (Meant (meanings.mark marks.Comma)) (λ m. FlagOrOther c args)

abbrev pub Last : FlaggedCall → List Expr → Spelling Symbol Value
Last c args v w = Called c args v w ⊎ AfterComma c args v w

abbrev pub Next : (List Expr → Spelling Symbol Value) → List Expr → Spelling Symbol Value
Next M args = Then (Meant (meanings.mark marks.Comma)) (λ m. Then (Within 10) (λ e. M (args ++ e ∷ [])))

abbrev pub OneMore : FlaggedCall → (List Expr → Spelling Symbol Value) → List Expr → Spelling Symbol Value
OneMore c M args v w = Called c args v w ⊎ Next M args v w

abbrev pub AfterArgument : FlaggedCall → Arithmetic → List Expr → Spelling Symbol Value
AfterArgument c arithmetics.Negate args = Last c args
AfterArgument c operation args = OneMore c (OneMore c (Last c)) args

-- as the grammar says

abbrev pub PlainTail : FlaggedCall → List Expr → Spelling Symbol Value
PlainTail c args = Then (Many FurtherArg) (λ es. Called c (args ++ es))

-- with k further arguments, and then the flag
abbrev pub FlaggedTail : ℕ → FlaggedCall → List Expr → Spelling Symbol Value
FlaggedTail k c args v w =
    (es : List Expr) × (u : List Symbol) × (z : List Symbol) × (length es ≡ k) × Many FurtherArg es u × Then (Meant (meanings.mark marks.Comma)) (λ m. Flag c (args ++ es)) v z × (w ≡ u ++ z)

abbrev pub Tail : ℕ → FlaggedCall → List Expr → Spelling Symbol Value
Tail k c args v w = PlainTail c args v w ⊎ FlaggedTail k c args v w

-- the call alone
called_tail : (k : ℕ) (c : FlaggedCall) (args : List Expr) (v : Value) (w : List Symbol) → Called c args v w → Tail k c args v w
called_tail k c args v w called = inl ([], [], w, refl, subst (λ l. Called c l v w) (sym (append-nil args)) called, refl)

-- one argument in front
further_arg : (m : Span) (e : Expr) (u u₁ : List Symbol) → Meant (meanings.mark marks.Comma) m u → Spells e u₁ → FurtherArg e (u ++ u₁)
further_arg m e u u₁ comma spelled = (u, u₁, (m, comma), spelled, refl)

one_longer : (args es : List Expr) (e : Expr) → (args ++ e ∷ []) ++ es ≡ args ++ e ∷ es
one_longer args es e = append_assoc args (e ∷ []) es

tail_longer : (k : ℕ) (c : FlaggedCall) (args : List Expr) (v : Value) (m : Span) (e : Expr) (w u z u₁ z₁ : List Symbol) → Meant (meanings.mark marks.Comma) m u → Spells e u₁
    → Tail k c (args ++ e ∷ []) v z₁ → z ≡ u₁ ++ z₁ → w ≡ u ++ z → Tail (suc k) c args v w
tail_longer k c args v m e w u z u₁ z₁ comma spelled (inl (es, p, q, many, called, cut₂)) cut₁ cut =
    inl (
      e ∷ es,
      (u ++ u₁) ++ p,
      q,
      (u ++ u₁, p, further_arg m e u u₁ comma spelled, many, refl),
      subst (λ l. Called c l v q) (one_longer args es e) called,
      cut ∙ ap (λ l. u ++ l) (cut₁ ∙ ap (λ l. u₁ ++ l) cut₂) ∙ sym (append_assoc u u₁ (p ++ q)) ∙ sym (append_assoc (u ++ u₁) p q),
    )
tail_longer k c args v m e w u z u₁ z₁ comma spelled (inr (es, p, q, long, many, flag, cut₂)) cut₁ cut =
    inr (
      e ∷ es,
      (u ++ u₁) ++ p,
      q,
      omega arith,
      (u ++ u₁, p, further_arg m e u u₁ comma spelled, many, refl),
      subst (λ l. Then (Meant (meanings.mark marks.Comma)) (λ n. Flag c l) v q) (one_longer args es e) flag,
      cut ∙ ap (λ l. u ++ l) (cut₁ ∙ ap (λ l. u₁ ++ l) cut₂) ∙ sym (append_assoc u u₁ (p ++ q)) ∙ sym (append_assoc (u ++ u₁) p q),
    )

-- after the last argument before a flag
pub last_tail : (c : FlaggedCall) (args : List Expr) (v : Value) (w : List Symbol) → Last c args v w → Tail 0 c args v w
last_tail c args v w (inl called) = called_tail 0 c args v w called
last_tail c args v w (inr (m, u, z, comma, inl flag, cut)) =
    inr ([], [], w, refl, refl, (m, u, z, comma, subst (λ l. Flag c l v z) (sym (append-nil args)) flag, cut), refl)
last_tail c args v w (inr (m, u, z, comma, inr (e, u₁, z₁, (any, spelled), (all, p, q, steps, called, cut₂), cut₁), cut)) =
    let (es, is, many) = items_of_steps FurtherArg (args ++ e ∷ []) all p steps in
    inl (
      e ∷ es,
      (u ++ u₁) ++ p,
      q,
      (u ++ u₁, p, further_arg m e u u₁ comma spelled, many, refl),
      subst (λ l. Called c l v q) (is ∙ one_longer args es e) called,
      cut ∙ ap (λ l. u ++ l) (cut₁ ∙ ap (λ l. u₁ ++ l) cut₂) ∙ sym (append_assoc u u₁ (p ++ q)) ∙ sym (append_assoc (u ++ u₁) p q),
    )

pub tail_last : (c : FlaggedCall) (args : List Expr) (v : Value) (w : List Symbol) → Tail 0 c args v w → Last c args v w
tail_last c args v w (inl ([], p, q, empty, called, cut)) =
    inl (subst (λ l. Called c l v w) (append-nil args) (subst (λ l. Called c (args ++ []) v l) (sym (cut ∙ ap (λ l. l ++ q) empty)) called))
tail_last c args v w (inl (e ∷ es, p, q, (u, z, (a, b, (m, comma), spelled, cut₂), many, cut₁), called, cut)) =
    inr (
      m,
      a,
      b ++ (z ++ q),
      comma,
      inr (
        e,
        b,
        z ++ q,
        (rank_small e, spelled),
        (
          (args ++ e ∷ []) ++ es,
          z,
          q,
          steps_of_items FurtherArg (args ++ e ∷ []) es z many,
          subst (λ l. Called c l v q) (sym (one_longer args es e)) called,
          refl,
        ),
        refl,
      ),
      cut ∙ ap (λ l. l ++ q) (cut₁ ∙ ap (λ l. l ++ z) cut₂) ∙ append_assoc (a ++ b) z q ∙ append_assoc a b (z ++ q),
    )
tail_last c args v w (inr ([], p, q, long, empty, (m, u, z, comma, flag, cut₁), cut)) =
    inr (m, u, z, comma, inl (subst (λ l. Flag c l v z) (append-nil args) flag), cut ∙ ap (λ l. l ++ q) empty ∙ cut₁)
tail_last c args v w (inr (e ∷ es, p, q, long, many, flag, cut)) = absurd (omega arith)

-- after an argument before it
module _ (k : ℕ) (c : FlaggedCall) (M : List Expr → Spelling Symbol Value)
    (to : (args : List Expr) (v : Value) (w : List Symbol) → M args v w → Tail k c args v w)
    (back : (args : List Expr) (v : Value) (w : List Symbol) → Tail k c args v w → M args v w) where
  pub one_more_tail : (args : List Expr) (v : Value) (w : List Symbol) → OneMore c M args v w → Tail (suc k) c args v w
  one_more_tail args v w (inl called) = called_tail (suc k) c args v w called
  one_more_tail args v w (inr (m, u, z, comma, (e, u₁, z₁, (any, spelled), rest, cut₁), cut)) =
      tail_longer k c args v m e w u z u₁ z₁ comma spelled (to (args ++ e ∷ []) v z₁ rest) cut₁ cut

  pub tail_one_more : (args : List Expr) (v : Value) (w : List Symbol) → Tail (suc k) c args v w → OneMore c M args v w
  tail_one_more args v w (inl ([], p, q, empty, called, cut)) =
      inl (subst (λ l. Called c l v w) (append-nil args) (subst (λ l. Called c (args ++ []) v l) (sym (cut ∙ ap (λ l. l ++ q) empty)) called))
  tail_one_more args v w (inl (e ∷ es, p, q, (u, z, (a, b, (m, comma), spelled, cut₂), many, cut₁), called, cut)) =
      inr (
        m,
        a,
        b ++ (z ++ q),
        comma,
        (
          e,
          b,
          z ++ q,
          (rank_small e, spelled),
          back (args ++ e ∷ []) v (z ++ q) (inl (es, z, q, many, subst (λ l. Called c l v q) (sym (one_longer args es e)) called, refl)),
          refl,
        ),
        cut ∙ ap (λ l. l ++ q) (cut₁ ∙ ap (λ l. l ++ z) cut₂) ∙ append_assoc (a ++ b) z q ∙ append_assoc a b (z ++ q),
      )
  tail_one_more args v w (inr ([], p, q, long, many, flag, cut)) = absurd (omega arith)
  tail_one_more args v w (inr (e ∷ es, p, q, long, (u, z, (a, b, (m, comma), spelled, cut₂), many, cut₁), flag, cut)) =
      inr (
        m,
        a,
        b ++ (z ++ q),
        comma,
        (
          e,
          b,
          z ++ q,
          (rank_small e, spelled),
          back (args ++ e ∷ []) v (z ++ q) (inr (
            es,
            z,
            q,
            omega arith,
            many,
            subst (λ l. Then (Meant (meanings.mark marks.Comma)) (λ n. Flag c l) v q) (sym (one_longer args es e)) flag,
            refl,
          )),
          refl,
        ),
        cut ∙ ap (λ l. l ++ q) (cut₁ ∙ ap (λ l. l ++ z) cut₂) ∙ append_assoc (a ++ b) z q ∙ append_assoc a b (z ++ q),
      )
