-- Supports under other reads: no name gets into its own support where what is put in has neither the name that it stands for in its support nor is it.
use Rattle.std.proofs.Common.{◌≡◌, ◌⊎◌, ℕ, true, List, refl, sym, subst, inl, inr, ⊎_elim}
use Rattle.gim_ast.specs.WellFormed.{is_among}
use Rattle.gim_ast.specs.Readable.{Supports, operand, further}
use Rattle.gim_changes.proofs.ComesBefore.{supports_through}

-- a support with fewer reads is within the support
pub supports_within : (reads fewer : ℕ → List ℕ) → ((x y : ℕ) → is_among y (fewer x) ≡ true → is_among y (reads x) ≡ true) → (x y : ℕ) → Supports fewer x y → Supports reads x y
supports_within reads fewer within x y (operand _ _ reads_it) = operand x y (within x y reads_it)
supports_within reads fewer within x y (further _ w _ reads_it rest) = further x w y (within x w reads_it) (supports_within reads fewer within w y rest)

module _ (reads : ℕ → List ℕ) where
  -- a name, or one of its support
  abbrev pub IsOrSupports : ℕ → ℕ → Type 0
  IsOrSupports y z = (y ≡ z) ⊎ Supports reads y z

  -- y is read in place of x
  module _ (turned : ℕ → List ℕ) (x y : ℕ) (read : (w z : ℕ) → is_among z (turned w) ≡ true → (is_among z (reads w) ≡ true) ⊎ ((is_among x (reads w) ≡ true) × (y ≡ z)))
      (apart : Supports reads y x → ⊥) where
    abbrev ThroughName : ℕ → ℕ → Type 0
    ThroughName w z = Supports reads w z ⊎ (Supports reads w x × IsOrSupports y z)

    read_further : (w u z : ℕ) → (is_among u (reads w) ≡ true) ⊎ ((is_among x (reads w) ≡ true) × (y ≡ u)) → ThroughName u z → ThroughName w z
    read_further w u z (inl old) (inl rest) = inl (further w u z old rest)
    read_further w u z (inl old) (inr rest) = inr (further w u x old rest.0, rest.1)
    read_further w u z (inr new) (inl rest) = inr (operand w x new.0, inr (subst (λ v. Supports reads v z) (sym new.1) rest))
    read_further w u z (inr new) (inr rest) = absurd (apart (subst (λ v. Supports reads v x) (sym new.1) rest.0))

    through_name : (w z : ℕ) → Supports turned w z → ThroughName w z
    through_name w z (operand _ _ reads_it) = ⊎_elim (λ old. inl (operand w z old)) (λ new. inr (operand w x new.0, inl new.1)) (read w z reads_it)
    through_name w z (further _ u _ reads_it rest) = read_further w u z (read w u reads_it) (through_name u z rest)

    pub none_with_name : ((w : ℕ) → Supports reads w w → ⊥) → (w : ℕ) → Supports turned w w → ⊥
    none_with_name none w supports = ⊎_elim
        (λ old. none w old)
        (λ new. apart (⊎_elim (λ same. subst (λ v. Supports reads v x) (sym same) new.0) (λ more. supports_through reads y w x more new.0) new.1))
        (through_name w w supports)

  -- x reads new names
  module _ (turned : ℕ → List ℕ) (x : ℕ) (IsNew : ℕ → Type 0) (read : (w z : ℕ) → is_among z (turned w) ≡ true → (is_among z (reads w) ≡ true) ⊎ ((w ≡ x) × IsNew z))
      (apart : (y : ℕ) → IsNew y → IsOrSupports y x → ⊥) where
    abbrev pub ThroughNew : ℕ → ℕ → Type 0
    ThroughNew w z = Supports reads w z ⊎ (IsOrSupports w x × ((y : ℕ) × IsNew y × IsOrSupports y z))

    new_further : (w u z : ℕ) → (is_among u (reads w) ≡ true) ⊎ ((w ≡ x) × IsNew u) → ThroughNew u z → ThroughNew w z
    new_further w u z (inl old) (inl rest) = inl (further w u z old rest)
    new_further w u z (inl old) (inr rest) =
        inr (inr (⊎_elim (λ (same : u ≡ x). operand w x (subst (λ v. is_among v (reads w) ≡ true) same old)) (λ more. further w u x old more) rest.0), rest.1)
    new_further w u z (inr new) (inl rest) = inr (inl new.0, (u, new.1, inr rest))
    new_further w u z (inr new) (inr rest) = absurd (apart u new.1 rest.0)

    pub through_new : (w z : ℕ) → Supports turned w z → ThroughNew w z
    through_new w z (operand _ _ reads_it) = ⊎_elim (λ old. inl (operand w z old)) (λ new. inr (inl new.0, (z, new.1, inl refl))) (read w z reads_it)
    through_new w z (further _ u _ reads_it rest) = new_further w u z (read w u reads_it) (through_new u z rest)

    back : (w y : ℕ) → IsOrSupports w x → IsOrSupports y w → IsOrSupports y x
    back w y (inl same) (inl here) = inl (subst (λ v. y ≡ v) same here)
    back w y (inl same) (inr more) = inr (subst (Supports reads y) same more)
    back w y (inr more) (inl here) = inr (subst (λ v. Supports reads v x) (sym here) more)
    back w y (inr more) (inr first) = inr (supports_through reads y w x first more)

    pub none_with_new : ((w : ℕ) → Supports reads w w → ⊥) → (w : ℕ) → Supports turned w w → ⊥
    none_with_new none w supports = ⊎_elim
        (λ old. none w old)
        (λ new. apart new.1.0 new.1.1 (back w new.1.0 new.0 new.1.2))
        (through_new w w supports)
