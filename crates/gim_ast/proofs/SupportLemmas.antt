-- Where a name is fresh, its support is: by induction over the path.
use Rattle.std.proofs.Common.{◌≡◌, ℕ, Bool, List, [], ◌∷◌, subst, inr, ⊎_elim}
use Rattle.std.specs.Bool.{IsTrue}
use Rattle.gim_ast.specs.WellFormed.{is_among}
use Rattle.gim_ast.specs.Paths.{Stretch, Path, enter, item, jump}
use Rattle.gim_ast.specs.Readable.{Supports, operand, further, Fresh}

pub supports_through : (reads : ℕ → List ℕ) (x y z : ℕ) → Supports reads x y → Supports reads y z → Supports reads x z
supports_through reads x y z (operand _ _ reads_it) after = further x y z reads_it after
supports_through reads x y z (further _ w _ reads_it before) after = further x w z reads_it (supports_through reads w y z before after)

-- who is in a support is read by some statement
pub read_by : (reads : ℕ → List ℕ) (x y : ℕ) → Supports reads x y → (w : ℕ) × IsTrue (is_among y (reads w))
read_by reads x y (operand _ _ reads_it) = (x, reads_it)
read_by reads x y (further _ w _ reads_it rest) = read_by reads w y rest

-- where a statement is about to assign its name, the names that it reads are fresh
abbrev pub AreReadFresh : List Stretch → (ℕ → Bool) → (ℕ → List ℕ) → Type 0
AreReadFresh flow initial reads =
    (n x y : ℕ) (left past : List ℕ) → Path flow n (x ∷ left) past → IsTrue (is_among y (reads x)) → Fresh initial reads y past

module _ (flow : List Stretch) (initial : ℕ → Bool) (reads : ℕ → List ℕ) (at : AreReadFresh flow initial reads)
    (apart : (x y : ℕ) → Supports reads x y → Supports reads y y → ⊥) (unread : (x y : ℕ) → IsTrue (initial x) → Supports reads x y → ⊥) where
  -- at a statement of x, where the support of each fresh name is fresh
  at_statement : (n x y : ℕ) (left past : List ℕ) → Path flow n (x ∷ left) past →
      ((w z : ℕ) → Fresh initial reads w past → Supports reads w z → Fresh initial reads z past) → Supports reads x y → Fresh initial reads y past
  at_statement n x y left past path known (operand _ _ reads_it) = at n x y left past path reads_it
  at_statement n x y left past path known (further _ w _ reads_it rest) = known w y (at n x w left past path reads_it) rest

  pub support_is_fresh : (n : ℕ) (left past : List ℕ) → Path flow n left past → (x y : ℕ) → Fresh initial reads x past → Supports reads x y → Fresh initial reads y past
  support_is_fresh _ _ _ (enter entry is) x y fresh supports = absurd (unread x y fresh supports)
  support_is_fresh _ _ _ (jump from to past _ leads target path) x y fresh supports = support_is_fresh from.number [] past path x y fresh supports
  support_is_fresh _ _ _ (item n z left past path) x y fresh supports = ⊎_elim
      (λ (now : z ≡ x). inr (
        λ back. apart x y supports (supports_through reads y x y (subst (Supports reads y) now back) supports),
        at_statement n x y left past (subst (λ w. Path flow n (w ∷ left) past) now path)
            (λ a b found more. support_is_fresh n (z ∷ left) past path a b found more) supports,
      ))
      (λ earlier. inr (
        λ back. earlier.0 (supports_through reads x y z supports back),
        support_is_fresh n (z ∷ left) past path x y earlier.1 supports,
      ))
      fresh
