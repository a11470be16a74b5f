-- To try all numbers of choices is to try all words.
use Rattle.std.proofs.Common.{◌≡◌, ℕ, ◌^◌, ◌-◌, ◌<◌, ◌≤◌, Bool, true, false, List, refl, sym, ap, subst, ◌∙◌, arith}
use Rattle.std.specs.Bool.{MatchBool}
use Rattle.std.specs.Prelude.{◌↔◌, min, IsTrue}
use Rattle.pm_wide.specs.Types.{Ty}
use Rattle.pm_term.specs.Environments.{assigned}
use Rattle.pm_term.specs.Trees.{Tree, IsWellTyped}
use Rattle.pm_term.proofs.TermLaws.{names_decide}
use Rattle.pm_term.proofs.RefiningLaws.{each_node}
use Rattle.justify.specs.Choices.{chosen, HoldsAt, FailsAt}
use Rattle.justify.specs.Enumeration.{names_of_both, bits_of, AgreeWhereDefined, AreEnumerated}
use Rattle.justify.proofs.Choosing.{both_known, chosen_words, choice_of, choice_below, left_words, right_words}

module _ (left right : Tree) (l : IsWellTyped left) (r : IsWellTyped right) where
  pub holds_of_all : ((choice : ℕ) → choice < 2 ^ bits_of (names_of_both left right) → HoldsAt left right (chosen (names_of_both left right) choice)) → AgreeWhereDefined left right
  holds_of_all holds = λ words x given e.
      (let known = both_known left right l r in
      let number = choice_of words given (names_of_both left right) in
      let own = assigned (chosen (names_of_both left right) number) in
      let first = names_decide own words left (left_words words given left right known) in
      let second = names_decide own words right (right_words words given left right known) in
      let same = sym second ∙ holds number (choice_below words given (names_of_both left right) known) x (first ∙ e) in
      (each_node words right x same, same))

  pub fails_of_one : ((choice : ℕ) × FailsAt left right (chosen (names_of_both left right) choice)) → AgreeWhereDefined left right → ⊥
  fails_of_one f agree =
      f.1.2 (agree (assigned (chosen (names_of_both left right) f.0)) f.1.0 (chosen_words (names_of_both left right) f.0) f.1.1).1

  -- what all choices tell
  pub answer : (names : List (ℕ × Ty)) (bits : ℕ) → names ≡ names_of_both left right → bits ≡ min (bits_of names) (2 ^ 64 - 1) → bits ≤ 12 → (b : Bool)
      → MatchBool b ((choice : ℕ) → choice < 2 ^ bits → HoldsAt left right (chosen names choice)) ((choice : ℕ) × FailsAt left right (chosen names choice))
      → IsTrue b ↔ AreEnumerated left right
  answer names bits is counted few true h =
      let exact : bits ≡ bits_of (names_of_both left right) = grind (arith, counted, few, ap bits_of is) in
      let moved = subst (λ ns. (choice : ℕ) → choice < 2 ^ bits → HoldsAt left right (chosen ns choice)) is h in
      ((λ t. (subst (λ n. n ≤ 12) exact few, holds_of_all (subst (λ k. (choice : ℕ) → choice < 2 ^ k → HoldsAt left right (chosen (names_of_both left right) choice)) exact moved))), (λ t. refl))
  answer names bits is counted few false h =
      let moved = subst (λ ns. (choice : ℕ) × FailsAt left right (chosen ns choice)) is h in
      ((λ t. cc), (λ agree. absurd (fails_of_one moved agree.1)))
