-- Steps seen as a chain that groups to the left, and as a list of items.
use Rattle.std.proofs.Common.{◌≡◌, ℕ, zero, suc, ◌<◌, List, [], ◌∷◌, ◌++◌, length, refl, sym, ap, subst, ◌∙◌, ◌⊎◌, inl, inr, arith, append_assoc, length-append}
use Rattle.std.proofs.lemmas.List.{append-nil}
use Rattle.grammar.specs.Spelling.{Spelling, Then, Steps, stays, goes, Many, Item, LastStep}

-- one step more at the end
pub and_step : {T S : Type 0} (Step : S → S → List T → Type 0) (s m end : S) (u v : List T) → Steps Step s m u → Step m end v → Steps Step s end (u ++ v)
and_step {T = T} Step s m end u v (stays same empty) last =
    goes (subst (λ k. Step k end v) (sym same) last) (stays refl refl) (ap (λ (l : List T). l ++ v) empty ∙ sym (append-nil v))
and_step {T = T} Step s m end u v (goes {m = k} {u = u₁} {v = v₁} first others cut) last =
    goes first (and_step Step k m end v₁ v others last) (ap (λ (l : List T). l ++ v) cut ∙ append_assoc u₁ v₁ v)

-- A chain that groups to the left is a first part and steps: what the tree says from its last step on, the tokens
-- say from the first. Asked of a relation by cases on the tree: a first part is a chain, a step makes a longer one,
-- and there are no others.
module _ {T A : Type 0} (Chain First : Spelling T A) (Step : A → A → List T → Type 0)
    (never_empty : (x y : A) → Step x y [] → ⊥)
    (single : (x : A) (w : List T) → First x w → Chain x w)
    (grows : (x y : A) (u v : List T) → Chain x u → Step x y v → Chain y (u ++ v))
    (only : (y : A) (w : List T) → Chain y w → First y w ⊎ LastStep Chain Step y w) where
  after_steps : (x y : A) (u v : List T) → Chain x u → Steps Step x y v → Chain y (u ++ v)
  after_steps x y u v chain (stays same empty) = subst (λ l. Chain y l) (sym (ap (λ l. u ++ l) empty ∙ append-nil u)) (subst (λ k. Chain k u) same chain)
  after_steps x y u v chain (goes {m = m} {u = u₁} {v = v₁} first others cut) =
      subst (λ l. Chain y l) (append_assoc u u₁ v₁ ∙ ap (λ l. u ++ l) (sym cut)) (after_steps m y (u ++ u₁) v₁ (grows x m u u₁ chain first) others)

  pub chain_of_steps : (y : A) (w : List T) → Then First (Steps Step) y w → Chain y w
  chain_of_steps y w parts =
      subst (λ l. Chain y l) (sym parts.5) (after_steps parts.0 y parts.1 parts.2 (single parts.0 parts.1 parts.3) parts.4)

  with_last : (n : ℕ) → ((x : A) (u : List T) → length u < n → Chain x u → Then First (Steps Step) x u)
      → (y : A) (w : List T) → length w < suc n → First y w ⊎ LastStep Chain Step y w → Then First (Steps Step) y w
  with_last n before y w fits (inl first) = (y, w, [], first, stays refl refl, sym (append-nil w))
  with_last n before y w fits (inr last) = join last.right last.step last.cut
    where
      join : (v : List T) → Step last.before y v → w ≡ last.left ++ v → Then First (Steps Step) y w
      join [] step cut = absurd (never_empty last.before y step)
      join (t ∷ v) step cut =
          let long : length w ≡ length (last.left ++ t ∷ v) = ap length cut in
          let shorter : length last.left < n = omega (arith, length-append last.left (t ∷ v)) in
          let parts = before last.before last.left shorter last.chain in (
            parts.0,
            parts.1,
            parts.2 ++ t ∷ v,
            parts.3,
            and_step Step parts.0 last.before y parts.2 (t ∷ v) parts.4 step,
            cut ∙ ap (λ l. l ++ t ∷ v) parts.5 ∙ append_assoc parts.1 parts.2 (t ∷ v),
          )

  steps_below : (n : ℕ) (y : A) (w : List T) → length w < n → Chain y w → Then First (Steps Step) y w
  steps_below zero y w fits chain = absurd (omega arith)
  steps_below (suc n) y w fits chain = with_last n (λ x u shorter c. steps_below n x u shorter c) y w fits (only y w chain)

  pub steps_of_chain : (y : A) (w : List T) → Chain y w → Then First (Steps Step) y w
  steps_of_chain y w chain = steps_below (suc (length w)) y w (omega arith) chain

-- Steps that each put one item at the end of a list are a list of items.
module _ {T A : Type 0} (N : Spelling T A) where
  pub items_of_steps : (before now : List A) (w : List T) → Steps (Item N) before now w → (xs : List A) × (now ≡ before ++ xs) × Many N xs w
  items_of_steps before now w (stays same empty) = ([], sym same ∙ sym (append-nil before), empty)
  items_of_steps before now w (goes {m = m} {u = u} {v = v} first others cut) =
      let rest = items_of_steps m now v others in
      let x = first.0 in
      (x ∷ rest.0, rest.1 ∙ ap (λ l. l ++ rest.0) first.2 ∙ append_assoc before (x ∷ []) rest.0, (u, v, first.1, rest.2, cut))

  pub steps_of_items : (before xs : List A) (w : List T) → Many N xs w → Steps (Item N) before (before ++ xs) w
  steps_of_items before [] w empty = stays (sym (append-nil before)) empty
  steps_of_items before (x ∷ xs) w items =
      let others : Steps (Item N) (before ++ x ∷ []) ((before ++ x ∷ []) ++ xs) items.1 = steps_of_items (before ++ x ∷ []) xs items.1 items.3 in
      goes {m = before ++ x ∷ []} (x, items.2, refl) (subst (λ l. Steps (Item N) (before ++ x ∷ []) l items.1) (append_assoc before (x ∷ []) xs) others) items.4
