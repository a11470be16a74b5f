-- The operations' names are read back: each as what it names, and no other.
use Rattle.std.proofs.Common.{◌≡◌, ◌≢◌, ◌↔◌, zero, suc, Contains, Some, None, refl, subst, codes, arith}
use Rattle.std.specs.List.{list_any}
use Rattle.std.specs.Str.{bytes_eq}
use Rattle.std.proofs.Math.Bool.{or-false}
use Rattle.pm_ops.proofs.FindLemmas.{found_passes, found_has_name, among_names, read_exactly, names_differ, none_exactly}
use Rattle.pm_ops.specs.declared.code.Code.{Code}
use Rattle.pm_ops.specs.declared.code.Code.TheVariants.{Convert, Plus, Minus, Mult, TruncDiv, TruncMod, Negate, Abs, Absu, BitAnd, BitIor, BitXor, BitNot, Lshift, Rshift, Min, Max, Eq, Ne, Lt, Le, Gt, Ge, Cond}
use Rattle.pm_ops.specs.Names.{Name, all_codes, code_name, code_named, code_c_name, code_c_names, code_c_named}

-- every operation but a conversion has one C name
pub has_one_c_name : (code : Code) (name : Name) → code ≢ Convert
    → list_any (λ one. bytes_eq one name) (code_c_names code) ≡ bytes_eq (code_c_name code) name
has_one_c_name Convert name other = absurd (other refl)
has_one_c_name _ name other = or-false _

-- each operation is read from its name
pub code_named-code_name : (code : Code) → code_named (code_name code) ≡ Some code
unfolding code_named
code_named-code_name Convert = refl
code_named-code_name Plus = refl
code_named-code_name Minus = refl
code_named-code_name Mult = refl
code_named-code_name TruncDiv = refl
code_named-code_name TruncMod = refl
code_named-code_name Negate = refl
code_named-code_name Abs = refl
code_named-code_name Absu = refl
code_named-code_name BitAnd = refl
code_named-code_name BitIor = refl
code_named-code_name BitXor = refl
code_named-code_name BitNot = refl
code_named-code_name Lshift = refl
code_named-code_name Rshift = refl
code_named-code_name Min = refl
code_named-code_name Max = refl
code_named-code_name Eq = refl
code_named-code_name Ne = refl
code_named-code_name Lt = refl
code_named-code_name Le = refl
code_named-code_name Gt = refl
code_named-code_name Ge = refl
code_named-code_name Cond = refl

-- and from no other name
pub name_of_code_named : (name : Name) (code : Code) → code_named name ≡ Some code → name ≡ code_name code
unfolding code_named
name_of_code_named name code found = found_has_name code_name all_codes name code found

pub code_read_exactly : (name : Name) (code : Code) → (code_named name ≡ Some code) ↔ (name ≡ code_name code)
code_read_exactly = read_exactly code_named code_name code_named-code_name name_of_code_named

pub no_code_exactly : (name : Name) → (code_named name ≡ None) ↔ ((code : Code) → name ≢ code_name code)
no_code_exactly = none_exactly code_named (λ code name. name ≡ code_name code) code_read_exactly

pub code_names_differ : (a b : Code) → code_name a ≡ code_name b → a ≡ b
code_names_differ = names_differ code_named code_name code_named-code_name

-- each operation is read from the C name that is written
pub code_c_named-code_c_name : (code : Code) → code_c_named (code_c_name code) ≡ Some code
unfolding code_c_named
code_c_named-code_c_name Convert = refl
code_c_named-code_c_name Plus = refl
code_c_named-code_c_name Minus = refl
code_c_named-code_c_name Mult = refl
code_c_named-code_c_name TruncDiv = refl
code_c_named-code_c_name TruncMod = refl
code_c_named-code_c_name Negate = refl
code_c_named-code_c_name Abs = refl
code_c_named-code_c_name Absu = refl
code_c_named-code_c_name BitAnd = refl
code_c_named-code_c_name BitIor = refl
code_c_named-code_c_name BitXor = refl
code_c_named-code_c_name BitNot = refl
code_c_named-code_c_name Lshift = refl
code_c_named-code_c_name Rshift = refl
code_c_named-code_c_name Min = refl
code_c_named-code_c_name Max = refl
code_c_named-code_c_name Eq = refl
code_c_named-code_c_name Ne = refl
code_c_named-code_c_name Lt = refl
code_c_named-code_c_name Le = refl
code_c_named-code_c_name Gt = refl
code_c_named-code_c_name Ge = refl
code_c_named-code_c_name Cond = refl

pub code_c_names_differ : (a b : Code) → code_c_name a ≡ code_c_name b → a ≡ b
code_c_names_differ = names_differ code_c_named code_c_name code_c_named-code_c_name

-- a conversion is read from its second C name too
pub second_c_name : code_c_named (codes "NOP_EXPR") ≡ Some Convert
unfolding code_c_named
second_c_name = refl

-- each operation is read from each of its C names
c_name_is_read : (code : Code) (name : Name) → Contains (code_c_names code) name → code_c_named name ≡ Some code
c_name_is_read Convert name (zero, within, is) = subst (λ n. code_c_named n ≡ Some Convert) is (code_c_named-code_c_name Convert)
c_name_is_read Convert name (suc zero, within, is) = subst (λ n. code_c_named n ≡ Some Convert) is second_c_name
c_name_is_read Convert name (suc (suc k), within, is) = absurd (omega arith)
c_name_is_read code name (zero, within, is) = subst (λ n. code_c_named n ≡ Some code) is (code_c_named-code_c_name code)
c_name_is_read code name (suc k, within, is) = absurd (omega arith)

-- and from no other
among_c_names : (name : Name) (code : Code) → code_c_named name ≡ Some code → Contains (code_c_names code) name
unfolding code_c_named
among_c_names name code found =
    among_names (code_c_names code) name
    (found_passes (λ one. list_any (λ spelled. bytes_eq spelled name) (code_c_names one)) all_codes code found)

pub code_c_read_exactly : (name : Name) (code : Code) → (code_c_named name ≡ Some code) ↔ Contains (code_c_names code) name
code_c_read_exactly name code = (among_c_names name code, c_name_is_read code name)

pub no_c_code_exactly : (name : Name) → (code_c_named name ≡ None) ↔ ((code : Code) → Contains (code_c_names code) name → ⊥)
no_c_code_exactly = none_exactly code_c_named (λ code name. Contains (code_c_names code) name) code_c_read_exactly
