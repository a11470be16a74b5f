-- What each predicate holds of. Constants go by the word: in one bit the constant 1 is one, true, all
-- ones and a power of two at once, and the least value of a signed type is a power of two.
use Rattle.std.specs.Prelude.{ℕ, ◌-◌, ◌^◌, ◌==◌, Bool, true, false, count_ones}
use Rattle.pm_ops.specs.declared.predicate.Pred.{Pred}
use Rattle.pm_ops.specs.declared.predicate.Pred.TheVariants.{Zero, One, AllOnes, MinusOne, Pow2, True, Cst, Ssa}
use Rattle.pm_wide.specs.declared.operand.Operand.{Operand}
use Rattle.pm_wide.specs.declared.operand.Operand.TheVariants.{Name, Const}

-- of a word of that many bits
abbrev pub holds_of_bits : Pred → ℕ → ℕ → Bool
holds_of_bits Zero width bits = bits == 0
holds_of_bits One width bits = bits == 1
holds_of_bits True width bits = bits == 1
holds_of_bits AllOnes width bits = bits == 2 ^ width - 1
holds_of_bits MinusOne width bits = bits == 2 ^ width - 1
holds_of_bits Pow2 width bits = count_ones bits == 1
holds_of_bits Cst width bits = true
holds_of_bits Ssa width bits = false

-- of a name
abbrev pub holds_of_name : Pred → Bool
holds_of_name Ssa = true
holds_of_name _ = false

-- of an operand
abbrev pub holds_of : Pred → Operand → Bool
holds_of pred (Name version ty) = holds_of_name pred
holds_of pred (Const word) = holds_of_bits pred word.ty.width word.bits
