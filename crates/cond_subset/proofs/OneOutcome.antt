-- A C part comes to one outcome: a tree or a first fault. What is answered of one is that outcome.
use Rattle.std.proofs.Common.{◌≡◌, Bool, true, false, List, [], ◌∷◌, ◌++◌, Result, Ok, Err, refl, sym, ap, subst, ◌∙◌, inl, inr}
use Rattle.std.specs.Prelude.{IfOk, IfErr}
use Rattle.std.proofs.lemmas.List.{append_assoc}
use Rattle.grammar.specs.Spelling.{Spelling, Begins}
use Rattle.grammar.specs.Whole.{IsFirstFault, IsReading}
use Rattle.grammar.proofs.Lists.{Between, Beyond, cuts}
use Rattle.pm_ops.specs.declared.fault.PatternFault.{PatternFault}
use Rattle.pm_ops.specs.declared.fault.PatternKind.{PatternKind}
use Rattle.pm_ops.specs.declared.fault.PatternKind.TheVariants.{Memory}
use Rattle.pd_text.specs.declared.symbol.Symbol.{Symbol}
use Rattle.cond_subset.specs.Names.{is_memory_kind}
use Rattle.cond_subset.specs.Syntax.{syntax_fault, IsSyntaxFault, IsRefused}
use Rattle.cond_subset.specs.Types.{IsSame, Finds}
use Rattle.cond_subset.specs.Outcomes.{Means, Outcome, OrMemory, Answers, Judged}

-- ---- first faults

-- what begins a spelling begins it with each of its fronts
begins_shorter : {T A : Type 0} (N : Spelling T A) (front : List T) (t : T) (further : List T) → Begins N (front ++ t ∷ further) → Begins N (front ++ t ∷ [])
begins_shorter N front t further b = record {
  value = b.value;
  after = further ++ b.after;
  spelled = subst (N b.value) (append_assoc front (t ∷ further) b.after ∙ sym (append_assoc front (t ∷ []) (further ++ b.after))) b.spelled;
}

-- of two first faults, neither stands behind the other
not_behind : {T A : Type 0} (N : Spelling T A) (tokens rest later front middle : List T)
    → (a : IsFirstFault N tokens rest) → Begins N front → front ≡ a.front ++ middle → rest ≡ middle ++ later → middle ≡ []
not_behind N tokens rest later front [] a begun e f = refl
not_behind N tokens rest later front (t ∷ further) a begun e f =
    absurd (a.offends t (further ++ later) f (begins_shorter N a.front t further (subst (Begins N) e begun)))

behind : {T A : Type 0} (N : Spelling T A) (tokens rest other : List T) (a : IsFirstFault N tokens rest) (b : IsFirstFault N tokens other) → Between a.front rest b.front other → rest ≡ other
behind N tokens rest other a b cut = cut.right ∙ ap (λ l. l ++ other) (not_behind N tokens rest other b.front cut.middle a b.begun cut.left cut.right)

beyond : {T A : Type 0} (N : Spelling T A) (tokens rest other : List T) (a : IsFirstFault N tokens rest) (b : IsFirstFault N tokens other) → Beyond a.front rest b.front other → ⊥
beyond N tokens rest other a b cut =
    b.offends cut.head (cut.tail ++ rest) cut.right (begins_shorter N b.front cut.head cut.tail (subst (Begins N) cut.left a.begun))

one_rest : {T A : Type 0} (N : Spelling T A) (tokens rest other : List T) → IsFirstFault N tokens rest → IsFirstFault N tokens other → rest ≡ other
one_rest N tokens rest other a b = elim (cuts a.front rest b.front other (sym a.cut ∙ b.cut)) [
  | inl cut ↦ behind N tokens rest other a b cut
  | inr cut ↦ absurd (beyond N tokens rest other a b cut)
]

spelled_has_no_fault : {T A : Type 0} (N : Spelling T A) (tokens rest : List T) (x : A) → N x tokens → IsFirstFault N tokens rest → ⊥
spelled_has_no_fault N tokens [] x spelled fault = fault.ends refl x spelled
spelled_has_no_fault N tokens (t ∷ rest) x spelled fault =
    fault.offends t rest refl (record {
      value = x;
      after = rest;
      spelled = subst (N x) (fault.cut ∙ sym (append_assoc fault.front (t ∷ []) rest)) spelled;
    })

read_once : {A F : Type 0} (r : Result A F) (x y : A) → r ≡ Ok x → r ≡ Ok y → x ≡ y
read_once r x y p q = cc

-- ---- outcomes

module _ {A B : Type 0} (N : Spelling Symbol A) (meaning : A → Result B PatternFault) (symbols : List Symbol) where
  same_fault : (a b : PatternFault) → IsSyntaxFault N symbols a → IsSyntaxFault N symbols b → a ≡ b
  same_fault a b p q = p.is ∙ ap (syntax_fault symbols) (one_rest N symbols p.rest q.rest p.first q.first) ∙ sym q.is

  of_tree : (x : A) → N x symbols → (r : Result B PatternFault) → meaning x ≡ r → Outcome N meaning symbols r
  of_tree x spelled (Ok y) is = record { tree = x; spelled = spelled; is = is }
  of_tree x spelled (Err fault) is = inr (record { tree = x; spelled = spelled; is = is })

  module _ (answer : Result A (PatternKind × List Symbol)) (reading : IsReading N symbols answer) where
    same_meaning : (r s : Result B PatternFault) → Means N meaning symbols r → Means N meaning symbols s → r ≡ s
    same_meaning r s p q =
        sym p.is ∙ ap meaning (read_once answer p.tree q.tree (reading.only p.tree p.spelled) (reading.only q.tree q.spelled)) ∙ q.is

    pub one_outcome : (r s : Result B PatternFault) → Outcome N meaning symbols r → Outcome N meaning symbols s → r ≡ s
    one_outcome (Ok x) (Ok y) p q = same_meaning (Ok x) (Ok y) p q
    one_outcome (Ok x) (Err g) p (inl q) = absurd (spelled_has_no_fault N symbols q.rest p.tree p.spelled q.first)
    one_outcome (Ok x) (Err g) p (inr q) = same_meaning (Ok x) (Err g) p q
    one_outcome (Err f) (Ok y) (inl p) q = absurd (spelled_has_no_fault N symbols p.rest q.tree q.spelled p.first)
    one_outcome (Err f) (Ok y) (inr p) q = same_meaning (Err f) (Ok y) p q
    one_outcome (Err f) (Err g) (inl p) (inl q) = ap (λ e. Err e) (same_fault f g p q)
    one_outcome (Err f) (Err g) (inl p) (inr q) = absurd (spelled_has_no_fault N symbols p.rest q.tree q.spelled p.first)
    one_outcome (Err f) (Err g) (inr p) (inl q) = absurd (spelled_has_no_fault N symbols q.rest p.tree p.spelled q.first)
    one_outcome (Err f) (Err g) (inr p) (inr q) = same_meaning (Err f) (Err g) p q

    pub only_outcome : (result : Result B PatternFault) → Answers N meaning symbols result → (r : Result B PatternFault) → Outcome N meaning symbols r → Finds r result
    only_outcome (Ok x) answered r outcome = one_outcome r (Ok x) outcome answered
    only_outcome (Err fault) answered r outcome = by_kind (is_memory_kind fault.kind) answered
      where
        by_kind : (b : Bool) → OrMemory b (Outcome N meaning symbols (Err fault)) → IsSame b fault r
        by_kind true h = tt
        by_kind false h = one_outcome r (Err fault) outcome h

  pub some_outcome : (answer : Result A (PatternKind × List Symbol)) → IsReading N symbols answer → (r : Result B PatternFault) × Outcome N meaning symbols r
  some_outcome (Ok x) reading = (meaning x, of_tree x (reading.found x refl) (meaning x) refl)
  some_outcome (Err f) reading = (Err (syntax_fault symbols f.1), inl (record { rest = f.1; first = reading.fault f refl; is = refl }))

  -- ---- what is answered

  refused : (fault : PatternFault) (kind : PatternKind) → IsRefused N symbols fault kind → OrMemory (is_memory_kind kind) (Outcome N meaning symbols (Err fault))
  refused fault Memory h = tt
  refused fault kind h = inl h

  of_judgement : (x : A) → N x symbols → (fault : PatternFault) (b : Bool) → IsSame b fault (meaning x) → OrMemory b (Outcome N meaning symbols (Err fault))
  of_judgement x spelled fault true h = tt
  of_judgement x spelled fault false h = inr (record { tree = x; spelled = spelled; is = h })

  pub answered : {X : Type 0} (seen : X → A) (read : Result X PatternFault) → IfOk read (λ x. N (seen x) symbols) → IfErr read (λ fault. IsRefused N symbols fault fault.kind)
      → (result : Result B PatternFault) → Judged seen meaning read result → Answers N meaning symbols result
  answered seen (Ok x) found fault (Ok y) h = record { tree = seen x; spelled = found; is = h }
  answered seen (Ok x) found fault (Err f) h = of_judgement (seen x) found f (is_memory_kind f.kind) h
  answered seen (Err f) found fault result h = subst (Answers N meaning symbols) (sym h) (refused f f.kind fault)
