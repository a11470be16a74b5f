-- What exchanging the operands keeps.
use Rattle.std.proofs.Common.{◌≡◌, refl}
use Rattle.pm_ops.specs.declared.code.Code.{Code}
use Rattle.pm_ops.specs.declared.code.Code.TheVariants.{Convert, Plus, Minus, Mult, TruncDiv, TruncMod, Negate, Abs, Absu, BitAnd, BitIor, BitXor, BitNot, Lshift, Rshift, Min, Max, Eq, Ne, Lt, Le, Gt, Ge, Cond}
use Rattle.pm_ops.specs.Codes.{arity_of, is_commutative_code, is_comparison_code, swapped_code}

pub swapped_twice : (code : Code) → swapped_code (swapped_code code) ≡ code
swapped_twice Convert = refl
swapped_twice Plus = refl
swapped_twice Minus = refl
swapped_twice Mult = refl
swapped_twice TruncDiv = refl
swapped_twice TruncMod = refl
swapped_twice Negate = refl
swapped_twice Abs = refl
swapped_twice Absu = refl
swapped_twice BitAnd = refl
swapped_twice BitIor = refl
swapped_twice BitXor = refl
swapped_twice BitNot = refl
swapped_twice Lshift = refl
swapped_twice Rshift = refl
swapped_twice Min = refl
swapped_twice Max = refl
swapped_twice Eq = refl
swapped_twice Ne = refl
swapped_twice Lt = refl
swapped_twice Le = refl
swapped_twice Gt = refl
swapped_twice Ge = refl
swapped_twice Cond = refl

pub swapped_keeps_arity : (code : Code) → arity_of (swapped_code code) ≡ arity_of code
swapped_keeps_arity Convert = refl
swapped_keeps_arity Plus = refl
swapped_keeps_arity Minus = refl
swapped_keeps_arity Mult = refl
swapped_keeps_arity TruncDiv = refl
swapped_keeps_arity TruncMod = refl
swapped_keeps_arity Negate = refl
swapped_keeps_arity Abs = refl
swapped_keeps_arity Absu = refl
swapped_keeps_arity BitAnd = refl
swapped_keeps_arity BitIor = refl
swapped_keeps_arity BitXor = refl
swapped_keeps_arity BitNot = refl
swapped_keeps_arity Lshift = refl
swapped_keeps_arity Rshift = refl
swapped_keeps_arity Min = refl
swapped_keeps_arity Max = refl
swapped_keeps_arity Eq = refl
swapped_keeps_arity Ne = refl
swapped_keeps_arity Lt = refl
swapped_keeps_arity Le = refl
swapped_keeps_arity Gt = refl
swapped_keeps_arity Ge = refl
swapped_keeps_arity Cond = refl

pub swapped_keeps_comparison : (code : Code) → is_comparison_code (swapped_code code) ≡ is_comparison_code code
swapped_keeps_comparison Convert = refl
swapped_keeps_comparison Plus = refl
swapped_keeps_comparison Minus = refl
swapped_keeps_comparison Mult = refl
swapped_keeps_comparison TruncDiv = refl
swapped_keeps_comparison TruncMod = refl
swapped_keeps_comparison Negate = refl
swapped_keeps_comparison Abs = refl
swapped_keeps_comparison Absu = refl
swapped_keeps_comparison BitAnd = refl
swapped_keeps_comparison BitIor = refl
swapped_keeps_comparison BitXor = refl
swapped_keeps_comparison BitNot = refl
swapped_keeps_comparison Lshift = refl
swapped_keeps_comparison Rshift = refl
swapped_keeps_comparison Min = refl
swapped_keeps_comparison Max = refl
swapped_keeps_comparison Eq = refl
swapped_keeps_comparison Ne = refl
swapped_keeps_comparison Lt = refl
swapped_keeps_comparison Le = refl
swapped_keeps_comparison Gt = refl
swapped_keeps_comparison Ge = refl
swapped_keeps_comparison Cond = refl

pub swapped_keeps_commutative : (code : Code) → is_commutative_code (swapped_code code) ≡ is_commutative_code code
swapped_keeps_commutative Convert = refl
swapped_keeps_commutative Plus = refl
swapped_keeps_commutative Minus = refl
swapped_keeps_commutative Mult = refl
swapped_keeps_commutative TruncDiv = refl
swapped_keeps_commutative TruncMod = refl
swapped_keeps_commutative Negate = refl
swapped_keeps_commutative Abs = refl
swapped_keeps_commutative Absu = refl
swapped_keeps_commutative BitAnd = refl
swapped_keeps_commutative BitIor = refl
swapped_keeps_commutative BitXor = refl
swapped_keeps_commutative BitNot = refl
swapped_keeps_commutative Lshift = refl
swapped_keeps_commutative Rshift = refl
swapped_keeps_commutative Min = refl
swapped_keeps_commutative Max = refl
swapped_keeps_commutative Eq = refl
swapped_keeps_commutative Ne = refl
swapped_keeps_commutative Lt = refl
swapped_keeps_commutative Le = refl
swapped_keeps_commutative Gt = refl
swapped_keeps_commutative Ge = refl
swapped_keeps_commutative Cond = refl
