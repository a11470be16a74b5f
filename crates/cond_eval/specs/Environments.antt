-- What names stand for.
use Rattle.std.specs.Prelude.{ℕ, ◌==◌, Bool, true, nat_le, if◌then◌else◌, List, [], ◌∷◌, Option, Some, None, All}
use Rattle.std.specs.Option.{option_or, option_map}
use Rattle.std.specs.Str.{bytes_eq}
use Rattle.pm_ops.specs.Names.{Name as Name'}
use Rattle.pm_wide.specs.declared.operand.Operand.{Operand}
use Rattle.pm_wide.specs.declared.operand.Operand.TheVariants.{Name, Const}
use Rattle.cond_eval.specs.declared.value.CValue.{CValue}
use Rattle.cond_eval.specs.Values.{IsValue}

-- what stands beside the last key that passes the test
abbrev pub last_where : {K X : Type 0} → (K → Bool) → List (K × X) → Option X
last_where test [] = None
last_where test (p ∷ ps) = option_or (last_where test ps) (if test p.0 then Some p.1 else None)

-- what a name stands for: the last pair of a name counts
abbrev pub named : {X : Type 0} → List (Name' × X) → Name' → Option X
named pairs name = last_where (λ key. bytes_eq key name) pairs

-- how often the name of that version is used
abbrev pub uses_of : List (ℕ × ℕ) → ℕ → Option ℕ
uses_of uses version = last_where (λ key. key == version) uses

-- a constant, or a name that is used at most once
abbrev pub is_single : List (ℕ × ℕ) → Operand → Option Bool
is_single uses (Name version ty) = option_map (λ count. nat_le count 1) (uses_of uses version)
is_single uses (Const word) = Some true

-- each local is a value
abbrev pub AreValues : List (Name' × CValue) → Type 0
AreValues locals = All (λ (p : Name' × CValue). IsValue p.1) locals
