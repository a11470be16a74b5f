-- Congruence modulo a power of two goes through every operation of the ring.
use Rattle.std.proofs.Common.{◌≡◌, ℕ, ◌+◌, ◌-◌, ◌*◌, ◌^◌, ◌≤◌, refl, sym, ap, subst, ◌∙◌, arith}
use Rattle.std.specs.Prelude.{ℤ, pos, neg_ℤ, ◌+ℤ◌, ◌-ℤ◌, ◌*ℤ◌}
use Rattle.std.proofs.lemmas.Int.{ints}
use Rattle.std.proofs.lemmas.Nat.{pow-add}
use Rattle.pm_wide.specs.Congruence.{Congruent}
use Rattle.pm_wide.proofs.Whole.{add-mul, mul_assoc, mul_comm, neg-mul}

pub same : (m : ℕ) (a : ℤ) → Congruent m a a
same m a = record { multiple = pos 0; differ = omega (arith, ints) }

-- a multiple of the modulus more
pub more : (m : ℕ) (a k : ℤ) → Congruent m (a +ℤ k *ℤ pos (2 ^ m)) a
more m a k = record { multiple = k; differ = refl }

pub turned : (m : ℕ) (a b : ℤ) → Congruent m a b → Congruent m b a
turned m a b h = record { multiple = neg_ℤ h.multiple; differ = let e = h.differ in omega (arith, ints, neg-mul h.multiple (pos (2 ^ m))) }

pub joined : (m : ℕ) (a b c : ℤ) → Congruent m a b → Congruent m b c → Congruent m a c
joined m a b c h k = record {
  multiple = h.multiple +ℤ k.multiple;
  differ = let e = h.differ in let f = k.differ in omega (arith, ints, add-mul h.multiple k.multiple (pos (2 ^ m)));
}

pub sums : (m : ℕ) (a b c d : ℤ) → Congruent m a b → Congruent m c d → Congruent m (a +ℤ c) (b +ℤ d)
sums m a b c d h k = record {
  multiple = h.multiple +ℤ k.multiple;
  differ = let e = h.differ in let f = k.differ in omega (arith, ints, add-mul h.multiple k.multiple (pos (2 ^ m)));
}

pub negatives : (m : ℕ) (a b : ℤ) → Congruent m a b → Congruent m (neg_ℤ a) (neg_ℤ b)
negatives m a b h = record { multiple = neg_ℤ h.multiple; differ = let e = h.differ in omega (arith, ints, neg-mul h.multiple (pos (2 ^ m))) }

pub differences : (m : ℕ) (a b c d : ℤ) → Congruent m a b → Congruent m c d → Congruent m (a -ℤ c) (b -ℤ d)
differences m a b c d h k = sums m a b (neg_ℤ c) (neg_ℤ d) h (negatives m c d k)

-- (k n) c = (k c) n
swapped : (k n c : ℤ) → k *ℤ n *ℤ c ≡ k *ℤ c *ℤ n
swapped k n c = mul_assoc k n c ∙ ap (λ z. k *ℤ z) (mul_comm n c) ∙ sym (mul_assoc k c n)

pub times : (m : ℕ) (a b c : ℤ) → Congruent m a b → Congruent m (a *ℤ c) (b *ℤ c)
times m a b c h = record {
  multiple = h.multiple *ℤ c;
  differ = ap (λ z. z *ℤ c) h.differ ∙ add-mul b (h.multiple *ℤ pos (2 ^ m)) c ∙ ap (λ z. b *ℤ c +ℤ z) (swapped h.multiple (pos (2 ^ m)) c);
}

pub products : (m : ℕ) (a b c d : ℤ) → Congruent m a b → Congruent m c d → Congruent m (a *ℤ c) (b *ℤ d)
products m a b c d h k =
    let second : Congruent m (b *ℤ c) (b *ℤ d) = let t = times m c d b k in record { multiple = t.multiple; differ = mul_comm b c ∙ t.differ ∙ ap (λ z. z +ℤ t.multiple *ℤ pos (2 ^ m)) (mul_comm d b) } in
    joined m (a *ℤ c) (b *ℤ c) (b *ℤ d) (times m a b c h) second

-- modulo fewer places
pub fewer : (m n : ℕ) (a b : ℤ) → Congruent (m + n) a b → Congruent m a b
fewer m n a b h = record {
  multiple = h.multiple *ℤ pos (2 ^ n);
  differ = h.differ ∙ ap (λ x. b +ℤ h.multiple *ℤ pos x) (pow-add 2 m n) ∙ ap (λ z. b +ℤ z) (moved h.multiple (2 ^ m) (2 ^ n));
}
  where
    moved : (k : ℤ) (x y : ℕ) → k *ℤ pos (x * y) ≡ k *ℤ pos y *ℤ pos x
    moved k x y = ap (λ z. k *ℤ z) (mul_comm (pos x) (pos y)) ∙ sym (mul_assoc k (pos y) (pos x))

pub fewer_places : (m n : ℕ) (a b : ℤ) → m ≤ n → Congruent n a b → Congruent m a b
fewer_places m n a b h k = let total : m + (n - m) ≡ n = omega arith in fewer m (n - m) a b (subst (λ x. Congruent x a b) (sym total) k)
