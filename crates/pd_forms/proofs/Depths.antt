-- Readers of some depth are made from those of one less.
use Rattle.std.proofs.Common.{◌≡◌, ℕ, suc, ◌-◌, ◌<◌, ap, arith}

pub one_deeper : {X : Type 0} (readers : ℕ → X) (n : ℕ) → 0 < n → readers n ≡ readers (suc (n - 1))
one_deeper readers n some = ap readers (omega arith)
