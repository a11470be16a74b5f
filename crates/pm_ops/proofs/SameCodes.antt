-- Codes are told apart by their numbers.
use Rattle.std.proofs.Common.{◌≡◌, ◌==◌, Bool, true, List, [], ◌∷◌, get_or, refl, ap, sym, ◌∙◌, eqb-true}
use Rattle.pm_ops.specs.Codes.{same_code, code_number}
use Rattle.pm_ops.specs.declared.code.Code.{Code}
use Rattle.pm_ops.specs.declared.code.Code.TheVariants.{Convert, Plus, Minus, Mult, TruncDiv, TruncMod, Negate, Abs}
use Rattle.pm_ops.specs.declared.code.Code.TheVariants.{Absu, BitAnd, BitIor, BitXor, BitNot, Lshift, Rshift, Min, Max}
use Rattle.pm_ops.specs.declared.code.Code.TheVariants.{Eq, Ne, Lt, Le, Gt, Ge, Cond}

codes_in_order : List Code
codes_in_order =
    Convert ∷ Plus ∷ Minus ∷ Mult ∷ TruncDiv ∷ TruncMod ∷ Negate ∷ Abs ∷ Absu ∷ BitAnd ∷ BitIor ∷ BitXor ∷ BitNot
    ∷ Lshift ∷ Rshift ∷ Min ∷ Max ∷ Eq ∷ Ne ∷ Lt ∷ Le ∷ Gt ∷ Ge ∷ Cond ∷ []

numbered : (code : Code) → get_or codes_in_order (code_number code) Convert ≡ code
unfolding codes_in_order
numbered Convert = refl
numbered Plus = refl
numbered Minus = refl
numbered Mult = refl
numbered TruncDiv = refl
numbered TruncMod = refl
numbered Negate = refl
numbered Abs = refl
numbered Absu = refl
numbered BitAnd = refl
numbered BitIor = refl
numbered BitXor = refl
numbered BitNot = refl
numbered Lshift = refl
numbered Rshift = refl
numbered Min = refl
numbered Max = refl
numbered Eq = refl
numbered Ne = refl
numbered Lt = refl
numbered Le = refl
numbered Gt = refl
numbered Ge = refl
numbered Cond = refl

pub same_code_is : (a b : Code) → same_code a b ≡ true → a ≡ b
same_code_is a b h =
    sym (numbered a) ∙ (ap (λ n. get_or codes_in_order n Convert) (eqb-true (code_number a) (code_number b) h) ∙ numbered b)
