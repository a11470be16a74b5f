-- How a function of the first form is written, one definition for each line of it. `Spells.. x tokens rest` says that the
-- tokens are a spelling of x, and then the rest.
use Rattle.std.specs.Prelude.{◌≡◌, ◌⊎◌, ℕ, ◌<◌, ◌^◌, ◌==◌, ◌||◌, Bool, IsTrue, Option, Some, None, List, [], ◌∷◌, ◌++◌, codes}
use Rattle.std.specs.Fmt.{decimal}
use Rattle.pm_ops.specs.declared.code.Code.{Code}
use Rattle.pm_ops.specs.declared.code.Code.TheVariants.{Plus, Minus, Mult, BitAnd, BitIor, BitXor}
use Rattle.gim_ast.specs.Identifiers.{anonymous}
use Rattle.first_gimple.specs.declared.draft.Draft.{Draft}
use Rattle.first_gimple.specs.declared.draft.Line.{Line}
use Rattle.first_gimple.specs.declared.draft.Taken.{Taken}
use Rattle.first_gimple.specs.declared.draft.Taken.TheVariants.{Local, Initial, Literal}
use Rattle.first_gimple.specs.Tokens.{Token}

-- versions and block numbers are below this one
abbrev pub versions : ℕ
versions = 1000000000

-- the suffix of a number: `u` or `U`
abbrev pub is_suffix : ℕ → Bool
is_suffix b = (b == 117) || (b == 85)

-- `+` `-` `*` `&` `|` `^`
abbrev pub operator_of : Code → Option Token
operator_of Plus = Some (codes "+")
operator_of Minus = Some (codes "-")
operator_of Mult = Some (codes "*")
operator_of BitAnd = Some (codes "&")
operator_of BitIor = Some (codes "|")
operator_of BitXor = Some (codes "^")
operator_of _ = None

-- `_3`, `x_1(D)` or `5u`: versions are at most 999,999,999, numbers below 2 ^ 32
abbrev pub SpellsTaken : Taken → List Token → List Token → Type 0
SpellsTaken (Local version) tokens rest = (version < versions) × (tokens ≡ anonymous version ∷ rest)
SpellsTaken (Initial [] version) tokens rest = ⊥
SpellsTaken (Initial (b ∷ base) version) tokens rest =
    (version < versions) × (tokens ≡ ((b ∷ base) ++ anonymous version) ∷ codes "(" ∷ codes "D" ∷ codes ")" ∷ rest)
SpellsTaken (Literal n) tokens rest = (suffix : ℕ) × IsTrue (is_suffix suffix) × (n < 2 ^ 32) × (tokens ≡ (decimal n ++ suffix ∷ []) ∷ rest)

-- `_3 = left + right;`
pub record SpellsLine (line : Line) (tokens rest : List Token) : Type 0 where
  pub left : List Token
  pub right : List Token
  pub operator : Token
  pub version : line.name < versions
  pub name : tokens ≡ anonymous line.name ∷ codes "=" ∷ left
  pub code : operator_of line.code ≡ Some operator
  pub first : SpellsTaken line.left left (operator ∷ right)
  pub second : SpellsTaken line.right right (codes ";" ∷ rest)

-- `unsigned int _3;`
abbrev pub SpellsLocal : ℕ → List Token → List Token → Type 0
SpellsLocal version tokens rest = (version < versions) × (tokens ≡ codes "unsigned" ∷ codes "int" ∷ anonymous version ∷ codes ";" ∷ rest)

-- `, unsigned int x`
abbrev pub SpellsFurther : Token → List Token → List Token → Type 0
SpellsFurther name tokens rest = tokens ≡ codes "," ∷ codes "unsigned" ∷ codes "int" ∷ name ∷ rest

-- items, one after the other
abbrev pub SpellsItems : {X : Type 0} → (X → List Token → List Token → Type 0) → List X → List Token → List Token → Type 0
SpellsItems Spells [] tokens rest = tokens ≡ rest
SpellsItems Spells (x ∷ xs) tokens rest = (middle : List Token) × Spells x tokens middle × SpellsItems Spells xs middle rest

-- nothing, `void` or a list of parameters, and then `)`
abbrev pub SpellsParams : List Token → List Token → List Token → Type 0
SpellsParams [] tokens rest = (tokens ≡ codes ")" ∷ rest) ⊎ (tokens ≡ codes "void" ∷ codes ")" ∷ rest)
SpellsParams (name ∷ names) tokens rest = (others : List Token) × (tokens ≡ codes "unsigned" ∷ codes "int" ∷ name ∷ others)
    × SpellsItems SpellsFurther names others (codes ")" ∷ rest)

-- the whole function, and nothing else
pub record SpellsDraft (draft : Draft) (tokens : List Token) : Type 0 where
  pub params : List Token
  pub locals : List Token
  pub lines : List Token
  pub end : List Token
  pub head : tokens ≡ codes "unsigned" ∷ codes "int" ∷ codes "__GIMPLE" ∷ codes "(" ∷ codes "ssa" ∷ codes ")" ∷ draft.name ∷ codes "(" ∷ params
  pub spells_params : SpellsParams draft.params params (codes "{" ∷ locals)
  pub spells_locals : SpellsItems SpellsLocal draft.locals locals (codes "__BB" ∷ codes "(" ∷ decimal draft.number ∷ codes ")" ∷ codes ":" ∷ lines)
  pub number : draft.number < versions
  pub spells_lines : SpellsItems SpellsLine draft.lines lines (codes "return" ∷ end)
  pub spells_end : SpellsTaken draft.end end (codes ";" ∷ codes "}" ∷ [])
