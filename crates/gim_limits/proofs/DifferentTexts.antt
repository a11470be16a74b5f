-- Of texts that stand in a list, no more are different than the list is long.
use Rattle.std.proofs.Common.{◌≡◌, ◌≤◌, ℕ, suc, Bool, true, false, cond, List, [], ◌∷◌, length, refl, sym, ap, ◌∙◌, arith, inl, inr}
use Rattle.std.specs.Prelude.{not, if◌then◌else◌}
use Rattle.std.specs.List.{list_any, list_all}
use Rattle.std.proofs.lemmas.Bool.{and_from, false≢true}
use Rattle.gim_ast.specs.WellFormed.{same_text, all_distinct}
use Rattle.gim_shape.specs.Blocks.{is_among}
use Rattle.gim_limits.specs.Limits.{different}
use Rattle.gim_limits.proofs.ChosenTexts.{chosen_are_few}
use Rattle.gim_text.proofs.Membership.{Has, all_has, all_from_has, any_from_has, none_from_has}

-- the different ones
abbrev firsts : List (List ℕ) → List (List ℕ)
firsts [] = []
firsts (t ∷ ts) = if is_among ts t then firsts ts else t ∷ firsts ts

from_firsts : (ts : List (List ℕ)) (x : List ℕ) → Has (firsts ts) x → Has ts x
from_firsts [] x h = h
from_firsts (t ∷ ts) x h = by (is_among ts t) h (from_firsts ts x) where
  by : (b : Bool) → Has (cond b (firsts ts) (t ∷ firsts ts)) x → (Has (firsts ts) x → Has ts x) → Has (t ∷ ts) x
  by true h later = inr (later h)
  by false (inl e) later = inl e
  by false (inr h) later = inr (later h)

firsts_distinct : (ts : List (List ℕ)) → all_distinct same_text (firsts ts) ≡ true
firsts_distinct [] = refl
firsts_distinct (t ∷ ts) = by (is_among ts t) refl (firsts_distinct ts) where
  by : (b : Bool) → is_among ts t ≡ b → all_distinct same_text (firsts ts) ≡ true
      → all_distinct same_text (cond b (firsts ts) (t ∷ firsts ts)) ≡ true
  by true e later = later
  by false e later =
      and_from (not (list_any (same_text t) (firsts ts))) (all_distinct same_text (firsts ts))
      (ap not (none_from_has (same_text t) (firsts ts) (λ x there same. false≢true
      (sym e ∙ any_from_has (same_text t) ts x (from_firsts ts x there) same)))) later

firsts_count : (ts : List (List ℕ)) → length (firsts ts) ≡ different ts
firsts_count [] = refl
firsts_count (t ∷ ts) = by (is_among ts t) (firsts_count ts) where
  by : (b : Bool) → length (firsts ts) ≡ different ts
      → length (cond b (firsts ts) (t ∷ firsts ts)) ≡ cond b (different ts) (suc (different ts))
  by true e = e
  by false e = ap suc e

different_most : (ts : List (List ℕ)) → different ts ≤ length ts
different_most [] = omega arith
different_most (t ∷ ts) = by (is_among ts t) (different_most ts) where
  by : (b : Bool) → different ts ≤ length ts → cond b (different ts) (suc (different ts)) ≤ suc (length ts)
  by true le = omega arith
  by false le = omega arith

pub few_different : (known texts : List (List ℕ)) → list_all (is_among known) texts ≡ true → different texts ≤ length known
few_different known texts all =
    let chosen : length (firsts texts) ≤ different known =
    chosen_are_few known (firsts texts) (firsts_distinct texts)
    (all_from_has (is_among known) (firsts texts) (λ x there. all_has (is_among known) texts all x (from_firsts texts x there))) in
    let count = firsts_count texts in
    let most = different_most known in
    omega arith
