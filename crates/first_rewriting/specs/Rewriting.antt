-- The rewriting: at the first subject that has a choice a step carries it out, again and again, until no subject has one
-- or the budget of steps is spent.
use Rattle.std.specs.Prelude.{ℕ, zero, suc, Bool, true, false, ◌&&◌, ◌||◌, Option, Some, None, List, [], ◌∷◌, if◌then◌else◌, is_some}
use Rattle.std.specs.Option.{option_map, option_map_or, option_and_then}
use Rattle.pm_ops.specs.Codes.{is_commutative_code, is_comparison_code, swapped_code}
use Rattle.pm_ops.specs.declared.code.Code.{Code}
use Rattle.pm_ops.specs.declared.code.Code.TheVariants.{Ne}
use Rattle.pm_wide.specs.Types.{Ty, Word, bool_type}
use Rattle.pm_wide.specs.Operations.{operation_value}
use Rattle.pm_wide.specs.declared.operand.Operand.{Operand}
use Rattle.pm_wide.specs.declared.operand.Operand.TheVariants.{Name, Const}
use Rattle.gim_ast.specs.declared.function.Function.{Function}
use Rattle.gim_ast.specs.declared.function.NameRow.{NameRow}
use Rattle.gim_ast.specs.declared.function.Rhs.{Rhs}
use Rattle.gim_ast.specs.declared.function.Rhs.TheVariants.{Copy, Op}
use Rattle.gim_ast.specs.Functions.{row_of, same_operand}
use Rattle.gim_changes.specs.Substitution.{put_in_all, with_rhs, with_condition}
use Rattle.gim_changes.specs.Trimming.{tidied}
use Rattle.first_patterns.specs.Subjects.{Site, AtStmt, AtCond, Subject, View, view_of, type_at, subjects}

-- why a step is made: a copy, operands to exchange, operands that are all constants, or the row of that number
pub data What : Type 0 where
  IsCopy : What
  IsSwap : What
  IsFold : What
  IsRow : ℕ → What

-- what comes in the place of a right side: an operand for each use of the name, or the operation with its two operands exchanged
pub data Result : Type 0 where
  AsOperand : Operand → Result
  AsExchanged : Code → Operand → Operand → Result

pub record Choice : Type 0 where
  pub what : What
  pub result : Result

-- ---- the four kinds of choice at a right side

-- a right side that is an operand
abbrev pub copy_at : Rhs → Option Choice
copy_at (Copy a) = Some (record { what = IsCopy; result = AsOperand a })
copy_at (Op code operands) = None

-- a constant before a name, under a code that may exchange them
abbrev pub swap_operands : Code → List Operand → Option Choice
swap_operands code (Const w ∷ Name x t ∷ []) =
    if is_commutative_code code || is_comparison_code code then Some
    (record { what = IsSwap; result = AsExchanged (swapped_code code) (Name x t) (Const w) }) else None
swap_operands code operands = None

abbrev pub swap_at : Rhs → Option Choice
swap_at (Copy a) = None
swap_at (Op code operands) = swap_operands code operands

-- the words of operands that are all constants
abbrev pub words_of : List Operand → Option (List Word)
words_of [] = Some []
words_of (Const w ∷ operands) = option_map (λ ws. w ∷ ws) (words_of operands)
words_of (Name x t ∷ operands) = None

-- an operation on constants that has a value
abbrev pub fold_at : Option Ty → Rhs → Option Choice
fold_at (Some t) (Op code operands) =
    option_map (λ w. record { what = IsFold; result = AsOperand (Const w) })
    (option_and_then (operation_value code t) (words_of operands))
fold_at _ _ = None

-- the first that is there
abbrev pub or_else : {X : Type 0} → Option X → Option X → Option X
or_else (Some x) other = Some x
or_else None other = other

-- the first that the function finds something at
abbrev pub first_some : {X Y : Type 0} → (X → Option Y) → List X → Option Y
first_some f [] = None
first_some f (x ∷ xs) = or_else (f x) (first_some f xs)

-- ---- carrying a choice out

-- the constant 0 of _Bool
abbrev pub bool_zero : Operand
bool_zero = Const (record { bits = 0; ty = bool_type })

-- an operand at a statement is put for the name in every use; at a condition it is compared with 0
abbrev pub changed : Site → Result → Function → Function
changed (AtStmt x) (AsOperand a) f = put_in_all x a f
changed (AtStmt x) (AsExchanged code a b) f = with_rhs x (Op code (a ∷ b ∷ [])) f
changed (AtCond n) (AsOperand a) f = with_condition n Ne a bool_zero f
changed (AtCond n) (AsExchanged code a b) f = with_condition n code a b f

abbrev pub is_ne : Code → Bool
is_ne Ne = true
is_ne _ = false

-- a condition `a != 0` of _Bool that an operand a would give again. Exchanged operands are another condition, since a constant
-- and a name changed places
abbrev pub gives_same_condition : Result → Rhs → Bool
gives_same_condition (AsOperand a) (Op code (left ∷ right ∷ [])) = is_ne code && same_operand left a && same_operand right bool_zero
gives_same_condition _ _ = false

abbrev pub is_condition : Site → Bool
is_condition (AtStmt x) = false
is_condition (AtCond n) = true

-- what a step tells of itself: its subject, the base of the assigned name as it stood then, and why it was made
pub record Firing : Type 0 where
  pub site : Site
  pub base : List ℕ
  pub what : What

abbrev pub base_at : Function → Site → List ℕ
base_at f (AtStmt x) = option_map_or (λ (row : NameRow). row.base) (row_of f x) []
base_at f (AtCond n) = []

-- the function in the end, the firings in order, and whether the budget was spent and a further step exists
pub record Rewritten : Type 0 where
  pub function : Function
  pub firings : List Firing
  pub exhausted : Bool

-- ---- the rewriting by rows: `row_at` says which row applies first at a subject, and with which operand as its result

module _ (row_at : View → Subject → Option (ℕ × Operand)) where
  abbrev pub row_choice : View → Subject → Option Choice
  row_choice view s = option_map (λ (found : ℕ × Operand). record { what = IsRow found.0; result = AsOperand found.1 }) (row_at view s)

  -- the first that holds of copy, swap, fold and row
  abbrev pub first_kind : View → Subject → Option Choice
  first_kind view s = or_else (copy_at s.rhs) (or_else (swap_at s.rhs) (or_else (fold_at (type_at view s.site) s.rhs) (row_choice view s)))

  -- a condition that would stay the same has no choice
  abbrev pub choice_at : View → Subject → Option Choice
  choice_at view s =
      option_and_then (λ (c : Choice). if is_condition s.site
      && gives_same_condition c.result s.rhs then None else Some c) (first_kind view s)

  -- the first subject in program order that has a choice, and that choice
  unfoldable pub first_choice : Function → Option (Subject × Choice)
  first_choice f = first_some (λ s. option_map (λ c. (s, c)) (choice_at (view_of f) s)) (subjects f)

  abbrev pub stepped : Function → Subject × Choice → Function
  stepped f found = tidied (changed found.0.site found.1.result f)

  abbrev pub firing_of : Function → Subject × Choice → Firing
  firing_of f found = record { site = found.0.site; base = base_at f found.0.site; what = found.1.what }

  abbrev pub with_firing : Firing → Rewritten → Rewritten
  with_firing firing r = record r { firings = firing ∷ r.firings }

  -- at most so many steps
  unfoldable pub rewritten_by : ℕ → Function → Rewritten
  rewritten_by zero f = record { function = f; firings = []; exhausted = is_some (first_choice f) }
  rewritten_by (suc n) f =
      option_map_or (λ found. with_firing (firing_of f found) (rewritten_by n (stepped f found))) (first_choice f)
      (record { function = f; firings = []; exhausted = false })

  -- what is unused goes first; then come the steps
  abbrev pub rewriting_of : ℕ → Function → Rewritten
  rewriting_of budget f = rewritten_by budget (tidied f)
