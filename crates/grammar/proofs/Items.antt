-- Items, as many as begin with such a token, are read exactly.
use Rattle.std.proofs.Common.{◌≡◌, List, [], ◌∷◌, ◌++◌, length, Bool, true, false, Some, None, refl, sym, subst, arith}
use Rattle.std.specs.Prelude.{if◌then◌else◌}
use Rattle.grammar.specs.Spelling.{Spelling, Mapped, Steps, Many, Item}
use Rattle.grammar.specs.Reading.{Answer, and_item, item_step, more_at}
use Rattle.grammar.specs.Exact.{IsExact}
use Rattle.grammar.proofs.Parts as parts
use Rattle.grammar.proofs.Repetition.{repeated}
use Rattle.grammar.proofs.Chains.{items_of_steps, steps_of_items}
use Rattle.grammar.proofs.EveryInput.{Reads}

-- the items after those before, which stand in front of the list
abbrev pub Added : {T A : Type 0} → Spelling T A → List A → Spelling T (List A)
Added N before now w = (xs : List _) × (now ≡ before ++ xs) × Many N xs w

module _ {T E A : Type 0} (N : Spelling T A) (begins : T → Bool) (read : List T → Answer T E A) (more_item more : T → Type 0)
    (reads : Reads N more_item read)
    (never_empty : (x : A) → N x [] → ⊥)
    (begun : (x : A) (t : T) (w : List T) → N x (t ∷ w) → begins t ≡ true)
    (apart : (t : T) → begins t ≡ true → ¬ more_item t)
    (within : (t : T) → more_item t → more t)
    (wide : (t : T) → begins t ≡ true → more t) where
  some_is : (a b : Answer T E (List A)) → Some a ≡ Some b → a ≡ b
  some_is a b e = cc

  -- where an item is looked for one begins, and it is what is read
  looked_for : (b : Bool) (before : List A) (input : List T) (answer : Answer T E (List A)) → (if b then Some (and_item before (read input)) else None) ≡ Some answer
      → (b ≡ true) × (and_item before (read input) ≡ answer)
  looked_for true before input answer e = (refl, some_is (and_item before (read input)) answer e)
  looked_for false before input answer e = absurd (cc)

  not_looked_for : (b : Bool) (before : List A) (input : List T) → (if b then Some (and_item before (read input)) else None) ≡ None → b ≡ false
  not_looked_for true before input e = absurd (cc)
  not_looked_for false before input e = refl

  one_item : (before : List A) (input : List T) → IsExact (Item N before) more_item input (and_item before (read input))
  one_item before input =
      parts.in_words (Mapped (λ x. before ++ x ∷ []) N) (Item N before) more_item input (and_item before (read input))
      (λ now w s. (s.0, s.1, sym s.2)) (λ now w s. (s.0, s.1, sym s.2))
      (parts.mapped (λ x. before ++ x ∷ []) N more_item input (read input) (reads.exact input))

  item_is : (before : List A) (input : List T) (answer : Answer T E (List A)) → item_step begins read before input ≡ Some answer → IsExact (Item N before) more_item input answer
  item_is before [] answer e = absurd (cc)
  item_is before (t ∷ rest) answer e = subst (λ a. IsExact (Item N before) more_item (t ∷ rest) a) (looked_for (begins t) before (t ∷ rest) answer e).1 (one_item before (t ∷ rest))

  steps_exact : (before : List A) (input : List T) → IsExact (Steps (Item N) before) more input (more_at begins read before input)
  steps_exact before input =
      repeated (Item N) (item_step begins read) more_item more
      (λ s m item. never_empty item.0 item.1) within
      (λ s m t w item. apart t (begun item.0 t w item.1))
      (λ s. refl)
      (λ s t rest answer e. wide t (looked_for (begins t) s (t ∷ rest) answer e).0)
      (length input)
      (λ s tokens answer fits e. item_is s tokens answer e)
      (λ s t rest e m w item. no_item s t rest item.0 w (begun item.0 t w item.1) (not_looked_for (begins t) s (t ∷ rest) e))
      (length input) before input (omega arith) (omega arith)
    where
      no_item : (s : List A) (t : T) (rest : List T) (x : A) (w : List T) → begins t ≡ true → begins t ≡ false → ⊥
      no_item s t rest x w is other = cc

  pub items_added : (before : List A) → Reads (Added N before) more (more_at begins read before)
  items_added before = record {
    some = record { value = before ++ []; after = []; spelled = ([], refl, refl) };
    exact = λ input.
        parts.in_words (Steps (Item N) before) (Added N before) more input (more_at begins read before input)
        (λ now w s. items_of_steps N before now w s)
        (λ now w s. subst (λ l. Steps (Item N) before l w) (sym s.1) (steps_of_items N before s.0 w s.2))
        (steps_exact before input);
  }

  pub items_read : Reads (Many N) more (more_at begins read [])
  items_read = record {
    some = record { value = []; after = []; spelled = refl };
    exact = λ input.
        parts.in_words (Added N []) (Many N) more input (more_at begins read [] input)
        (λ now w s. subst (λ l. Many N l w) (sym s.1) s.2)
        (λ now w s. (now, refl, s))
        ((items_added []).exact input);
  }

  -- a token that begins items begins the first of them
  pub first_of_items : (xs : List A) (t : T) (w : List T) → Many N xs (t ∷ w) → begins t ≡ true
  first_of_items [] t w empty = absurd (cc)
  first_of_items (x ∷ xs) t w (u, v, first, others, cut) = in_first u first cut
    where
      in_first : (u : List T) → N x u → t ∷ w ≡ u ++ v → begins t ≡ true
      in_first [] first cut = absurd (never_empty x first)
      in_first (h ∷ u) first cut =
          let same : h ≡ t = cc in
          subst (λ k. begins k ≡ true) same (begun x h u first)
