-- An operation that has a value has operands that have values.
use Rattle.std.proofs.Common.{◌≡◌, Option, Some, None, [], refl}
use Rattle.pm_ops.specs.declared.code.Code.{Code}
use Rattle.pm_wide.specs.Operations.{operation_value, unary_value, binary_value}
use Rattle.pm_wide.specs.Types.{Ty, Word}
use Rattle.pm_term.specs.Terms.{operation_on, with_value}

pub one_value : (code : Code) (ty : Ty) (o : Option Word) (x : Word) → operation_on code ty (with_value o (Some [])) ≡ Some x → (a : Word) × (o ≡ Some a) × (unary_value code ty a ≡ Some x)
unfolding operation_value
one_value code ty None x e = cc
one_value code ty (Some a) x e = (a, refl, e)

pub two_values : (code : Code) (ty : Ty) (o p : Option Word) (x : Word) → operation_on code ty (with_value o (with_value p (Some []))) ≡ Some x
    → (a : Word) × (b : Word) × (o ≡ Some a) × (p ≡ Some b) × (binary_value code ty a b ≡ Some x)
unfolding operation_value
two_values code ty None p x e = cc
two_values code ty (Some a) None x e = cc
two_values code ty (Some a) (Some b) x e = (a, b, refl, refl, e)
