-- The names of the operations: in patterns, and in C text. One line for each operation.
use Rattle.std.specs.Prelude.{ℕ, List, [], ◌∷◌, Option, codes, find}
use Rattle.std.specs.List.{list_any}
use Rattle.std.specs.Str.{bytes_eq}
use Rattle.pm_ops.specs.declared.code.Code.{Code}
use Rattle.pm_ops.specs.declared.code.Code.TheVariants.{Convert, Plus, Minus, Mult, TruncDiv, TruncMod, Negate, Abs, Absu, BitAnd, BitIor, BitXor, BitNot, Lshift, Rshift, Min, Max, Eq, Ne, Lt, Le, Gt, Ge, Cond}

-- a name: its bytes
abbrev pub Name : Type 0
Name = List ℕ

-- every operation
abbrev pub all_codes : List Code
all_codes =
    Convert ∷ Plus ∷ Minus ∷ Mult ∷ TruncDiv ∷ TruncMod ∷ Negate ∷ Abs ∷ Absu ∷ BitAnd ∷ BitIor ∷ BitXor ∷ BitNot
    ∷ Lshift ∷ Rshift ∷ Min ∷ Max ∷ Eq ∷ Ne ∷ Lt ∷ Le ∷ Gt ∷ Ge ∷ Cond ∷ []

-- the name in patterns
abbrev pub code_name : Code → Name
code_name Convert = codes "convert"
code_name Plus = codes "plus"
code_name Minus = codes "minus"
code_name Mult = codes "mult"
code_name TruncDiv = codes "trunc_div"
code_name TruncMod = codes "trunc_mod"
code_name Negate = codes "negate"
code_name Abs = codes "abs"
code_name Absu = codes "absu"
code_name BitAnd = codes "bit_and"
code_name BitIor = codes "bit_ior"
code_name BitXor = codes "bit_xor"
code_name BitNot = codes "bit_not"
code_name Lshift = codes "lshift"
code_name Rshift = codes "rshift"
code_name Min = codes "min"
code_name Max = codes "max"
code_name Eq = codes "eq"
code_name Ne = codes "ne"
code_name Lt = codes "lt"
code_name Le = codes "le"
code_name Gt = codes "gt"
code_name Ge = codes "ge"
code_name Cond = codes "cond"

-- the C name that is written
abbrev pub code_c_name : Code → Name
code_c_name Convert = codes "CONVERT_EXPR"
code_c_name Plus = codes "PLUS_EXPR"
code_c_name Minus = codes "MINUS_EXPR"
code_c_name Mult = codes "MULT_EXPR"
code_c_name TruncDiv = codes "TRUNC_DIV_EXPR"
code_c_name TruncMod = codes "TRUNC_MOD_EXPR"
code_c_name Negate = codes "NEGATE_EXPR"
code_c_name Abs = codes "ABS_EXPR"
code_c_name Absu = codes "ABSU_EXPR"
code_c_name BitAnd = codes "BIT_AND_EXPR"
code_c_name BitIor = codes "BIT_IOR_EXPR"
code_c_name BitXor = codes "BIT_XOR_EXPR"
code_c_name BitNot = codes "BIT_NOT_EXPR"
code_c_name Lshift = codes "LSHIFT_EXPR"
code_c_name Rshift = codes "RSHIFT_EXPR"
code_c_name Min = codes "MIN_EXPR"
code_c_name Max = codes "MAX_EXPR"
code_c_name Eq = codes "EQ_EXPR"
code_c_name Ne = codes "NE_EXPR"
code_c_name Lt = codes "LT_EXPR"
code_c_name Le = codes "LE_EXPR"
code_c_name Gt = codes "GT_EXPR"
code_c_name Ge = codes "GE_EXPR"
code_c_name Cond = codes "COND_EXPR"

-- the C names that are read: the one that is written, and for a conversion a second
abbrev pub code_c_names : Code → List Name
code_c_names Convert = code_c_name Convert ∷ codes "NOP_EXPR" ∷ []
code_c_names code = code_c_name code ∷ []

-- the operation of this name in patterns; none where no operation has it
unfoldable pub code_named : Name → Option Code
code_named name = find (λ code. bytes_eq (code_name code) name) all_codes

-- the operation that has this among its C names; none where no operation has it
unfoldable pub code_c_named : Name → Option Code
code_c_named name = find (λ code. list_any (λ one. bytes_eq one name) (code_c_names code)) all_codes
