-- Runs: what a function gives on arguments, when it may enter so many blocks.
use Rattle.std.specs.Prelude.{ℕ, zero, suc, ◌==◌, Bool, false, if◌then◌else◌, Option, Some, None, List, [], ◌∷◌, map}
use Rattle.std.specs.Option.{option_map_or}
use Rattle.pm_ops.specs.declared.code.Code.{Code}
use Rattle.pm_wide.specs.Types.{Ty, Word, bool_type}
use Rattle.pm_wide.specs.Operations.{operation_value}
use Rattle.pm_wide.specs.declared.operand.Operand.{Operand}
use Rattle.pm_wide.specs.declared.operand.Operand.TheVariants.{Name, Const}
use Rattle.gim_ast.specs.declared.function.Function.{Function}
use Rattle.gim_ast.specs.declared.function.Block.{Block}
use Rattle.gim_ast.specs.declared.function.Phi.{Phi}
use Rattle.gim_ast.specs.declared.function.Stmt.{Stmt}
use Rattle.gim_ast.specs.declared.function.Decl.{Decl}
use Rattle.gim_ast.specs.declared.function.NameRow.{NameRow}
use Rattle.gim_ast.specs.declared.function.Rhs.{Rhs}
use Rattle.gim_ast.specs.declared.function.Rhs.TheVariants.{Copy, Op}
use Rattle.gim_ast.specs.declared.function.End.{End}
use Rattle.gim_ast.specs.declared.function.End.TheVariants.{Goto, If, Return}
use Rattle.gim_ast.specs.Functions.{first_where, row_of, block_of}
use Rattle.gim_ast.specs.WellFormed.{same_text}

-- a word was returned, the statement of that name has no value, or no more blocks may be entered
pub data Outcome : Type 0 where
  Returned : Word → Outcome
  Undefined : ℕ → Outcome
  Running : Outcome

-- ---- the words of names

-- the word of each version, also of those that no name has
abbrev pub Env : Type 0
Env = ℕ → Word

abbrev pub assign : ℕ → Word → Env → Env
assign x w env = λ y. if x == y then w else env y

-- one assignment after the other
abbrev pub assign_each : List (ℕ × Word) → Env → Env
assign_each [] env = env
assign_each (pair ∷ pairs) env = assign_each pairs (assign pair.0 pair.1 env)

abbrev pub word_of_operand : Env → Operand → Word
word_of_operand env (Name x t) = env x
word_of_operand env (Const w) = w

abbrev pub zero_of : Ty → Word
zero_of t = record { bits = 0; ty = t }

-- ---- the start

-- the argument at the place of the parameter of that identifier
abbrev pub argument_of : List ℕ → List Decl → List Word → Option Word
argument_of ident [] args = None
argument_of ident (decl ∷ decls) [] = None
argument_of ident (decl ∷ decls) (w ∷ args) = if same_text decl.ident ident then Some w else argument_of ident decls args

-- a default definition has its parameter's argument. Any other name has the 0 of its type until it is assigned, which a
-- valid function never reads
abbrev pub start_word : Function → List Word → NameRow → Word
start_word f args row = if row.initial then option_map_or (λ w. w) (argument_of row.base f.params args) (zero_of row.ty) else zero_of row.ty

-- a version without a row, which doesn't stand in a well-formed function, has the 0 of _Bool
unfoldable pub start_env : Function → List Word → Env
start_env f args = λ x. option_map_or (start_word f args) (row_of f x) (zero_of bool_type)

-- ---- one block

-- the type of a name
unfoldable pub name_type : Function → ℕ → Ty
name_type f x = option_map_or (λ (row : NameRow). row.ty) (row_of f x) bool_type

-- what a phi reads from the block that was left. In a well-formed function each phi has an argument for it; without one it
-- would read the 0 of its type
abbrev pub phi_word : Function → ℕ → Env → Phi → Word
phi_word f from env phi = option_map_or (λ (arg : ℕ × Operand). word_of_operand env arg.1) (first_where (λ (arg : ℕ × Operand). arg.0 == from) phi.args) (zero_of (name_type f phi.name))

-- all phis are read in one environment, and only then assigned
abbrev pub after_phis : Function → ℕ → List Phi → Env → Env
after_phis f from phis env = assign_each (map (λ (phi : Phi). (phi.name, phi_word f from env phi)) phis) env

abbrev pub rhs_value : Ty → Env → Rhs → Option Word
rhs_value t env (Copy a) = Some (word_of_operand env a)
rhs_value t env (Op code operands) = operation_value code t (map (word_of_operand env) operands)

-- past a block or a part of it: with these words, or stuck at the first statement that has no value
pub data Passage : Type 0 where
  On : Env → Passage
  Stuck : ℕ → Passage

abbrev pub pass_stmts : Function → List Stmt → Env → Passage
pass_stmts f [] env = On env
pass_stmts f (stmt ∷ stmts) env = option_map_or (λ w. pass_stmts f stmts (assign stmt.name w env)) (rhs_value (name_type f stmt.name) env stmt.rhs) (Stuck stmt.name)

-- the phis and the statements of a block that is entered from a block of the number `from`
unfoldable pub pass_block : Function → ℕ → Block → Env → Passage
pass_block f from block env = pass_stmts f block.stmts (after_phis f from block.phis env)

-- ---- ends of blocks

-- a comparison gives 1. It always has a value
abbrev pub holds : Env → Code → Operand → Operand → Bool
holds env code left right = option_map_or (λ (w : Word). w.bits == 1) (operation_value code bool_type (word_of_operand env left ∷ word_of_operand env right ∷ [])) false

-- where an end leads: to the block of that number, or out with a word
pub data Lead : Type 0 where
  To : ℕ → Lead
  Out : Word → Lead

abbrev pub lead_of : Env → End → Lead
lead_of env (Goto to) = To to
lead_of env (If code left right yes_to no_to) = To (if holds env code left right then yes_to else no_to)
lead_of env (Return a) = Out (word_of_operand env a)

-- ---- the whole

-- on the way from the block of one number to the block of another
pub record Place : Type 0 where
  pub from : ℕ
  pub to : ℕ
  pub env : Env

-- a block leads on to a place, or ends the run
pub data Step : Type 0 where
  Further : Place → Step
  Ended : Outcome → Step

abbrev pub step_of_lead : ℕ → Env → Lead → Step
step_of_lead from env (To to) = Further (record { from = from; to = to; env = env })
step_of_lead from env (Out w) = Ended (Returned w)

abbrev pub step_of_passage : Block → Passage → Step
step_of_passage block (On env) = step_of_lead block.number env (lead_of env block.end)
step_of_passage block (Stuck x) = Ended (Undefined x)

abbrev pub step_in : Function → Place → Block → Step
step_in f place block = step_of_passage block (pass_block f place.from block place.env)

-- the block of a place is entered and passed. A jump to no block, which a well-formed function doesn't have, would go on forever
unfoldable pub step_at : Function → Place → Step
step_at f place = option_map_or (step_in f place) (block_of f place.to) (Further place)

abbrev pub outcome_of : (Place → Outcome) → Step → Outcome
outcome_of further (Further place) = further place
outcome_of further (Ended outcome) = outcome

-- each block that is entered costs one of the fuel, and without fuel none is entered
abbrev pub run_from : Function → ℕ → Place → Outcome
run_from f zero place = Running
run_from f (suc fuel) place = outcome_of (run_from f fuel) (step_at f place)

-- the entry is the first block. It has no phi, so the number of a block before it doesn't matter
abbrev pub entry_of : List Block → ℕ
entry_of [] = 0
entry_of (block ∷ blocks) = block.number

unfoldable pub start_of : Function → List Word → Place
start_of f args = record { from = 0; to = entry_of f.blocks; env = start_env f args }

-- the outcome of a function on arguments, when as many blocks as `fuel` says may be entered
unfoldable pub run_of : Function → List Word → ℕ → Outcome
run_of f args fuel = run_from f fuel (start_of f args)
