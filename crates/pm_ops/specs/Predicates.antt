-- The names of the predicates on operands, one line for each.
use Rattle.std.specs.Prelude.{List, [], ◌∷◌, Option, codes, find}
use Rattle.std.specs.Str.{bytes_eq}
use Rattle.pm_ops.specs.Names.{Name}
use Rattle.pm_ops.specs.declared.predicate.Pred.{Pred}
use Rattle.pm_ops.specs.declared.predicate.Pred.TheVariants.{Zero, One, AllOnes, MinusOne, Pow2, True, Cst, Ssa}

-- every predicate
abbrev pub all_preds : List Pred
all_preds = Zero ∷ One ∷ AllOnes ∷ MinusOne ∷ Pow2 ∷ True ∷ Cst ∷ Ssa ∷ []

-- its name, in patterns and in C text
abbrev pub pred_name : Pred → Name
pred_name Zero = codes "integer_zerop"
pred_name One = codes "integer_onep"
pred_name AllOnes = codes "integer_all_onesp"
pred_name MinusOne = codes "integer_minus_onep"
pred_name Pow2 = codes "integer_pow2p"
pred_name True = codes "integer_truep"
pred_name Cst = codes "INTEGER_CST"
pred_name Ssa = codes "SSA_NAME"

-- the predicate of this name; none where no predicate has it
unfoldable pub pred_named : Name → Option Pred
pred_named name = find (λ pred. bytes_eq (pred_name pred) name) all_preds
