-- The operands of an operation as the code holds them.
use Rattle.std.specs.Prelude.{List, [], ◌∷◌}
use Rattle.pm_wide.specs.declared.operand.Operand.{Operand}
use Rattle.gim_terms.specs.declared.right.Right.{Right}
use Rattle.gim_terms.specs.declared.right.Right.TheVariants.{Listed, Pair}

abbrev pub operands_in : Right → List Operand
operands_in (Listed operands) = operands.now
operands_in (Pair left right) = left ∷ right ∷ []
