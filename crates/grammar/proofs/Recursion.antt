-- Recursion by the length of the input. `readers n` are the readers that serve below n tokens: one reader, or a
-- record of several. `Good readers tokens` says that each of them answers exactly at these tokens.
use Rattle.std.proofs.Common.{ℕ, zero, suc, ◌<◌, List, length, arith}

-- Where readers of a longer input are good as soon as those before them are at each shorter one, all are.
pub by_length : {R T : Type 0} (readers : ℕ → R) (Good : R → List T → Type 0)
    → ((n : ℕ) (tokens : List T) → ((rest : List T) → length rest < length tokens → Good (readers n) rest) → Good (readers (suc n)) tokens)
    → (n : ℕ) (tokens : List T) → length tokens < n → Good (readers n) tokens
by_length readers Good step zero tokens below = absurd (omega arith)
by_length readers Good step (suc n) tokens below = step n tokens (λ rest shorter. by_length readers Good step n rest (omega arith))
