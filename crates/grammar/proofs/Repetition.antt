-- Steps, as many as there are: exact, seen as a list of items, seen as a chain that groups to the left, and as a loop.
use Rattle.std.proofs.Common.{◌≡◌, ℕ, zero, suc, ◌≤◌, List, [], ◌∷◌, ◌++◌, length, Option, Some, None, Ok, refl, sym, ap, subst, ◌∙◌, arith, length-append}
use Rattle.grammar.specs.Spelling.{Then, Steps, stays, goes}
use Rattle.grammar.specs.Reading.{Answer, rest_of, ◌>>=◌, stays_or, steps_at}
use Rattle.grammar.specs.Exact.{IsApart, Takes, IsExact}
use Rattle.grammar.proofs.Parts.{skipped, from_here, apart_within, same_head}
use Rattle.grammar.proofs.Sequence.{then}

no_tokens : {T : Type 0} (t : T) (l : List T) → t ∷ l ≡ [] → ⊥
no_tokens t l e = cc

module _ {T S E : Type 0} (Step : S → S → List T → Type 0) (step : S → List T → Option (Answer T E S)) (more_step more : T → Type 0)
    (never_empty : (s m : S) → Step s m [] → ⊥)
    (within : (t : T) → more_step t → more t)
    (apart : (s m : S) (t : T) (w : List T) → Step s m (t ∷ w) → ¬ more_step t)
    (at_end : (s : S) → step s [] ≡ None)
    (goes_on : (s : S) (t : T) (rest : List T) (answer : Answer T E S) → step s (t ∷ rest) ≡ Some answer → more t)
    (bound : ℕ)
    (reads : (s : S) (tokens : List T) (answer : Answer T E S) → length tokens ≤ bound → step s tokens ≡ Some answer → IsExact (Step s) more_step tokens answer)
    (ends : (s : S) (t : T) (rest : List T) → step s (t ∷ rest) ≡ None → (m : S) (w : List T) → Step s m (t ∷ w) → ⊥) where
  only_stays : (s x : S) → Steps Step s x [] → x ≡ s
  only_stays s x (stays same empty) = sym same
  only_stays s x (goes {m = m} {u = u} {v = v} first others cut) = no_first u first cut
    where
      no_first : (u : List T) → Step s m u → [] ≡ u ++ v → x ≡ s
      no_first [] first cut = absurd (never_empty s m first)
      no_first (h ∷ z) first cut = absurd (no_tokens h (z ++ v) (sym cut))

  -- the first step begins with the first token
  first_step : (s end : S) (t : T) (w : List T) → Steps Step s end (t ∷ w) → (m : S) × (v : List T) × Step s m (t ∷ v)
  first_step s end t w (stays same empty) = absurd (no_tokens t w empty)
  first_step s end t w (goes {m = m} {u = u} {v = v} first others cut) = begins_with u first cut
    where
      begins_with : (u : List T) → Step s m u → t ∷ w ≡ u ++ v → (k : S) × (z : List T) × Step s k (t ∷ z)
      begins_with [] first cut = absurd (never_empty s m first)
      begins_with (h ∷ z) first cut = (m, z, subst (λ k. Step s m (k ∷ z)) (sym (same_head t h w (z ++ v) cut)) first)

  all_from : (s : S) (tokens : List T) (n : ℕ) → ((k : S) (rest : List T) → length rest ≤ n → IsExact (Steps Step k) more rest (steps_at step n k rest))
      → length tokens ≤ suc n → suc n ≤ bound → (m : Option (Answer T E S)) → step s tokens ≡ m
      → IsExact (Steps Step s) more tokens (stays_or (s, tokens) m (λ x. steps_at step n x.0 x.1))
  all_from s tokens n further fits inside None is = skipped (Steps Step s) more s (stays refl refl) (λ x none_taken. only_stays s x none_taken) tokens no_step
    where
      no_step : (t : T) (rest : List T) → tokens ≡ t ∷ rest → (x : S) (w : List T) → Steps Step s x (t ∷ w) → ⊥
      no_step t rest e x w steps =
          let first = first_step s x t w steps in
          ends s t rest (sym (ap (step s) e) ∙ is) first.0 first.1 first.2
  all_from s [] n further fits inside (Some answer) is = absurd (none_is_some answer (sym (at_end s) ∙ is))
    where
      none_is_some : (a : Answer T E S) → None ≡ Some a → ⊥
      none_is_some a e = cc
  all_from s (t ∷ rest) n further fits inside (Some answer) is =
      from_here (Then (Step s) (Steps Step)) (Steps Step s) more t rest (answer >>= λ x. steps_at step n x.0 x.1) to back (λ x empty. goes_on s t rest answer is)
      (then (Step s) (Steps Step) more_step more far (λ m u first. record { value = m; after = []; spelled = stays refl refl }) (t ∷ rest) answer (λ x. steps_at step n x.0 x.1) one (λ m left e. further m left (shorter m left e)))
    where
      one : IsExact (Step s) more_step (t ∷ rest) answer
      one = reads s (t ∷ rest) answer (omega arith) is

      to : (x : S) (w : List T) → Then (Step s) (Steps Step) x w → Steps Step s x w
      to x w parts = goes parts.3 parts.4 parts.5

      back : (x : S) (w : List T) → Steps Step s x (t ∷ w) → Then (Step s) (Steps Step) x (t ∷ w)
      back x w (stays same empty) = absurd (no_tokens t w empty)
      back x w (goes {m = m} {u = u} {v = v} first others cut) = (m, u, v, first, others, cut)

      far : (m y : S) (v z : List T) → Steps Step m y v → IsApart more z → IsApart more_step (v ++ z)
      far m y [] z steps apart_z = apart_within more_step more within z apart_z
      far m y (h ∷ v) z steps apart_z =
          let first = first_step m y h v steps in
          apart m first.0 h first.1 first.2

      shorter : (m : S) (left : List T) → answer ≡ Ok (m, left) → length left ≤ n
      shorter m left e = shorter_by one.front one.cut one.takes
        where
          shorter_by : (front : List T) → t ∷ rest ≡ front ++ rest_of answer → Takes (Step s) front answer → length left ≤ n
          shorter_by [] cut taken = absurd (never_empty s m (subst (λ (a : Answer T E S). Takes (Step s) [] a) e taken))
          shorter_by (h ∷ front) cut taken =
              let same : t ∷ rest ≡ (h ∷ front) ++ left = cut ∙ ap (λ (a : Answer T E S). (h ∷ front) ++ rest_of a) e in
              let long : length (t ∷ rest) ≡ length ((h ∷ front) ++ left) = ap length same in
              omega (arith, length-append front left)

  -- Steps, as many as there are, are exact. Asked: a step takes a token; what can go on a step begins no other, and
  -- is one of `more`; a step is looked for only at a token of `more`; each step is read exactly where no more than
  -- `bound` tokens are left; and where none is
  -- looked for none begins.
  pub repeated : (n : ℕ) (s : S) (tokens : List T) → length tokens ≤ n → n ≤ bound → IsExact (Steps Step s) more tokens (steps_at step n s tokens)
  repeated zero s [] fits inside = skipped (Steps Step s) more s (stays refl refl) (λ x none_taken. only_stays s x none_taken) [] (λ t rest e x w steps. no_tokens t rest (sym e))
  repeated zero s (t ∷ rest) fits inside = absurd (omega arith)
  repeated (suc n) s tokens fits inside = all_from s tokens n (λ k rest le. repeated n k rest le (omega arith)) fits inside (step s tokens) refl
