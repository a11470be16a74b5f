-- Arithmetic on 128 bits, reduced, is arithmetic modulo a power of two.
use Rattle.std.proofs.Common.{◌≡◌, ℕ, ◌+◌, ◌-◌, ◌*◌, ◌%◌, ◌^◌, ◌<◌, true, arith, ◌∙◌}
use Rattle.std.specs.Prelude.{ℤ, pos, ◌+ℤ◌, ◌-ℤ◌, ◌*ℤ◌}
use Rattle.std.proofs.lemmas.Nat.{pow_pos}
use Rattle.pm_wide.specs.Congruence.{Congruent}
use Rattle.pm_wide.specs.Residues.{residue}
use Rattle.pm_wide.proofs.Words.{word_congruent, word-below}
use Rattle.pm_wide.proofs.Wrapping.{wrapped_sum, wrapped_difference, wrapped_product, not_word}

pub residue_congruent : (m : ℕ) (z : ℤ) → Congruent m (pos (residue m z)) z
residue_congruent m z = word_congruent (record { width = m; unsigned = true }) z

pub residue-below : (m : ℕ) (z : ℤ) → residue m z < 2 ^ m
residue-below m z = word-below (record { width = m; unsigned = true }) z

pub added : (m a b : ℕ) → m < 129 → (a + b) % 2 ^ 128 % 2 ^ m ≡ residue m (pos a +ℤ pos b)
added m a b h = wrapped_sum (record { width = m; unsigned = true }) a b (omega arith)

pub subtracted : (m a b : ℕ) → m < 129 → b < 2 ^ 128 → (a + (2 ^ 128 - b)) % 2 ^ 128 % 2 ^ m ≡ residue m (pos a -ℤ pos b)
subtracted m a b h k = wrapped_difference (record { width = m; unsigned = true }) a b (omega arith) k

pub multiplied : (m a b : ℕ) → m < 129 → (a * b) % 2 ^ 128 % 2 ^ m ≡ residue m (pos a *ℤ pos b)
multiplied m a b h = wrapped_product (record { width = m; unsigned = true }) a b (omega arith)

pub negated : (m a : ℕ) → m < 129 → a < 2 ^ 128 → (0 + (2 ^ 128 - a)) % 2 ^ 128 % 2 ^ m ≡ residue m (pos 0 -ℤ pos a)
negated m a h k = subtracted m 0 a h k

pub ones : (m : ℕ) → m < 129 → (2 ^ 128 - 1) % 2 ^ m ≡ 2 ^ m - 1
ones m h = let e : 2 ^ m - 1 - 0 ≡ 2 ^ m - 1 = omega arith in not_word m 0 (omega arith) (pow_pos m) ∙ e
