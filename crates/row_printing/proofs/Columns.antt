-- What stands behind the last element that passes a test.
use Rattle.std.proofs.Common.{arith, ◌≡◌, ◌≤◌, ◌-◌, Bool, List, length, drop, ℕ, ◌∙◌}
use Rattle.std.specs.Prelude.{not}
use Rattle.std.specs.List.{after_last, suffix_len}
use Rattle.std.proofs.lemmas.List.{length-drop}
use Rattle.std.proofs.lemmas.List.Sums.{suffix_len-le-length}

length_behind : {X : Type 0} (xs : List X) (n : ℕ) → n ≤ length xs → length (drop (length xs - n) xs) ≡ n
length_behind xs n within = let e : length xs - (length xs - n) ≡ n = omega arith in length-drop (length xs - n) xs ∙ e

pub length-after_last : {X : Type 0} (p : X → Bool) (xs : List X) → length (after_last p xs) ≡ suffix_len (λ x. not (p x)) xs
length-after_last p xs = length_behind xs (suffix_len (λ x. not (p x)) xs) (suffix_len-le-length (λ x. not (p x)) xs)
