-- The predicates' names are read back, and name no operation.
use Rattle.std.proofs.Common.{◌≡◌, ◌≢◌, ◌↔◌, Some, None, refl}
use Rattle.pm_ops.proofs.FindLemmas.{found_has_name, read_exactly, names_differ, none_exactly}
use Rattle.pm_ops.specs.declared.predicate.Pred.{Pred}
use Rattle.pm_ops.specs.declared.predicate.Pred.TheVariants.{Zero, One, AllOnes, MinusOne, Pow2, True, Cst, Ssa}
use Rattle.pm_ops.specs.Names.{Name, code_named, code_c_named}
use Rattle.pm_ops.specs.Predicates.{all_preds, pred_name, pred_named}

-- each predicate is read from its name
pub pred_named-pred_name : (pred : Pred) → pred_named (pred_name pred) ≡ Some pred
unfolding pred_named
pred_named-pred_name Zero = refl
pred_named-pred_name One = refl
pred_named-pred_name AllOnes = refl
pred_named-pred_name MinusOne = refl
pred_named-pred_name Pow2 = refl
pred_named-pred_name True = refl
pred_named-pred_name Cst = refl
pred_named-pred_name Ssa = refl

-- and from no other name
name_of_pred_named : (name : Name) (pred : Pred) → pred_named name ≡ Some pred → name ≡ pred_name pred
unfolding pred_named
name_of_pred_named name pred found = found_has_name pred_name all_preds name pred found

pub pred_read_exactly : (name : Name) (pred : Pred) → (pred_named name ≡ Some pred) ↔ (name ≡ pred_name pred)
pred_read_exactly = read_exactly pred_named pred_name pred_named-pred_name name_of_pred_named

pub no_pred_exactly : (name : Name) → (pred_named name ≡ None) ↔ ((pred : Pred) → name ≢ pred_name pred)
no_pred_exactly = none_exactly pred_named (λ pred name. name ≡ pred_name pred) pred_read_exactly

pub pred_names_differ : (a b : Pred) → pred_name a ≡ pred_name b → a ≡ b
pred_names_differ = names_differ pred_named pred_name pred_named-pred_name

-- no predicate's name is an operation's
pub pred_names_no_code : (pred : Pred) → code_named (pred_name pred) ≡ None
unfolding code_named
pred_names_no_code Zero = refl
pred_names_no_code One = refl
pred_names_no_code AllOnes = refl
pred_names_no_code MinusOne = refl
pred_names_no_code Pow2 = refl
pred_names_no_code True = refl
pred_names_no_code Cst = refl
pred_names_no_code Ssa = refl

-- or an operation's in C text
pub pred_names_no_c_code : (pred : Pred) → code_c_named (pred_name pred) ≡ None
unfolding code_c_named
pred_names_no_c_code Zero = refl
pred_names_no_c_code One = refl
pred_names_no_c_code AllOnes = refl
pred_names_no_c_code MinusOne = refl
pred_names_no_c_code Pow2 = refl
pred_names_no_c_code True = refl
pred_names_no_c_code Cst = refl
pred_names_no_c_code Ssa = refl
