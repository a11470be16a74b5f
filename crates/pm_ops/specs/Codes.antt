-- What the operations are, one line for each.
use Rattle.std.specs.Prelude.{ℕ, ◌==◌, Bool, true, false}
use Rattle.pm_ops.specs.declared.code.Code.{Code}
use Rattle.pm_ops.specs.declared.code.Code.TheVariants.{Convert, Plus, Minus, Mult, TruncDiv, TruncMod, Negate, Abs, Absu, BitAnd, BitIor, BitXor, BitNot, Lshift, Rshift, Min, Max, Eq, Ne, Lt, Le, Gt, Ge, Cond}

-- how many operands it has
abbrev pub arity_of : Code → ℕ
arity_of Convert = 1
arity_of Plus = 2
arity_of Minus = 2
arity_of Mult = 2
arity_of TruncDiv = 2
arity_of TruncMod = 2
arity_of Negate = 1
arity_of Abs = 1
arity_of Absu = 1
arity_of BitAnd = 2
arity_of BitIor = 2
arity_of BitXor = 2
arity_of BitNot = 1
arity_of Lshift = 2
arity_of Rshift = 2
arity_of Min = 2
arity_of Max = 2
arity_of Eq = 2
arity_of Ne = 2
arity_of Lt = 2
arity_of Le = 2
arity_of Gt = 2
arity_of Ge = 2
arity_of Cond = 3

-- its operands may be exchanged
abbrev pub is_commutative_code : Code → Bool
is_commutative_code Convert = false
is_commutative_code Plus = true
is_commutative_code Minus = false
is_commutative_code Mult = true
is_commutative_code TruncDiv = false
is_commutative_code TruncMod = false
is_commutative_code Negate = false
is_commutative_code Abs = false
is_commutative_code Absu = false
is_commutative_code BitAnd = true
is_commutative_code BitIor = true
is_commutative_code BitXor = true
is_commutative_code BitNot = false
is_commutative_code Lshift = false
is_commutative_code Rshift = false
is_commutative_code Min = true
is_commutative_code Max = true
is_commutative_code Eq = true
is_commutative_code Ne = true
is_commutative_code Lt = false
is_commutative_code Le = false
is_commutative_code Gt = false
is_commutative_code Ge = false
is_commutative_code Cond = false

-- it compares, and its value is a _Bool
abbrev pub is_comparison_code : Code → Bool
is_comparison_code Convert = false
is_comparison_code Plus = false
is_comparison_code Minus = false
is_comparison_code Mult = false
is_comparison_code TruncDiv = false
is_comparison_code TruncMod = false
is_comparison_code Negate = false
is_comparison_code Abs = false
is_comparison_code Absu = false
is_comparison_code BitAnd = false
is_comparison_code BitIor = false
is_comparison_code BitXor = false
is_comparison_code BitNot = false
is_comparison_code Lshift = false
is_comparison_code Rshift = false
is_comparison_code Min = false
is_comparison_code Max = false
is_comparison_code Eq = true
is_comparison_code Ne = true
is_comparison_code Lt = true
is_comparison_code Le = true
is_comparison_code Gt = true
is_comparison_code Ge = true
is_comparison_code Cond = false

-- the code of the same value on exchanged operands
abbrev pub swapped_code : Code → Code
swapped_code Convert = Convert
swapped_code Plus = Plus
swapped_code Minus = Minus
swapped_code Mult = Mult
swapped_code TruncDiv = TruncDiv
swapped_code TruncMod = TruncMod
swapped_code Negate = Negate
swapped_code Abs = Abs
swapped_code Absu = Absu
swapped_code BitAnd = BitAnd
swapped_code BitIor = BitIor
swapped_code BitXor = BitXor
swapped_code BitNot = BitNot
swapped_code Lshift = Lshift
swapped_code Rshift = Rshift
swapped_code Min = Min
swapped_code Max = Max
swapped_code Eq = Eq
swapped_code Ne = Ne
swapped_code Lt = Gt
swapped_code Le = Ge
swapped_code Gt = Lt
swapped_code Ge = Le
swapped_code Cond = Cond

-- the place of a code in the list of all codes
abbrev pub code_number : Code → ℕ
code_number Convert = 0
code_number Plus = 1
code_number Minus = 2
code_number Mult = 3
code_number TruncDiv = 4
code_number TruncMod = 5
code_number Negate = 6
code_number Abs = 7
code_number Absu = 8
code_number BitAnd = 9
code_number BitIor = 10
code_number BitXor = 11
code_number BitNot = 12
code_number Lshift = 13
code_number Rshift = 14
code_number Min = 15
code_number Max = 16
code_number Eq = 17
code_number Ne = 18
code_number Lt = 19
code_number Le = 20
code_number Gt = 21
code_number Ge = 22
code_number Cond = 23

-- the two are one code
abbrev pub same_code : Code → Code → Bool
same_code a b = code_number a == code_number b
