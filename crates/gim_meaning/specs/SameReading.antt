-- What has to hold where runs come so that a change keeps them.
use Rattle.std.specs.Prelude.{◌≡◌, ℕ, ⊤, Some, IsSome, List, [], ◌∷◌, map}
use Rattle.pm_ops.specs.declared.code.Code.{Code}
use Rattle.pm_wide.specs.Types.{Ty, Word}
use Rattle.pm_wide.specs.declared.operand.Operand.{Operand}
use Rattle.gim_ast.specs.declared.function.Function.{Function}
use Rattle.gim_ast.specs.declared.function.Block.{Block}
use Rattle.gim_ast.specs.declared.function.Stmt.{Stmt}
use Rattle.gim_ast.specs.declared.function.Rhs.{Rhs}
use Rattle.gim_ast.specs.declared.function.End.TheVariants.{If}
use Rattle.gim_ast.specs.Functions.{stmt_name}
use Rattle.gim_ast.specs.Readable.{Use, Supports, read_for}
use Rattle.gim_ast.specs.Runs.{Env, word_of_operand, rhs_value, name_type, holds}
use Rattle.gim_meaning.specs.KeptRuns.{AreArgumentWords}
use Rattle.gim_meaning.specs.PresentValues.{AreTyped, HasItsValue, ArePossible}
use Rattle.gim_meaning.specs.ReachedPoints.{Inside, Reaches}

-- at a use of x, whenever a run comes there, the operand has the word of x
abbrev pub ReadsAlike : Function → ℕ → Operand → Use → Type 0
ReadsAlike f x by place = place.name ≡ x → (args : List Word) → AreArgumentWords f args →
    (block : Block) (stmts : List Stmt) (env : Env) →
    Reaches f args (Inside block stmts env) → block.number ≡ place.at →
    map stmt_name stmts ≡ place.left → word_of_operand env by ≡ env x

-- whenever a run comes to the statement of x and it has a value there, the right side has that
-- value
abbrev pub GivesAlike : Function → ℕ → Rhs → Type 0
GivesAlike f x rhs = (args : List Word) → AreArgumentWords f args →
    (block : Block) (stmt : Stmt) (stmts : List Stmt) (env : Env) (w : Word) →
    Reaches f args (Inside block (stmt ∷ stmts) env) → stmt.name ≡ x →
    rhs_value (name_type f x) env stmt.rhs ≡ Some w → rhs_value (name_type f x) env rhs ≡ Some w

-- whenever a run comes to the end of block n, the comparison holds where the condition does that
-- stands there
abbrev pub DecidesAlike : Function → ℕ → Code → Operand → Operand → Type 0
DecidesAlike f n code a b = (args : List Word) → AreArgumentWords f args →
    (block : Block) (env : Env) (old : Code) (left right : Operand) (yes_to no_to : ℕ) →
    Reaches f args (Inside block [] env) → block.number ≡ n →
    block.end ≡ If old left right yes_to no_to → holds env code a b ≡ holds env old left right

-- ---- the same of all words that names may have

-- at a use of x, the operand has the word of x whatever words names may have there
abbrev pub AlwaysReadsAlike : Function → ℕ → Operand → Use → Type 0
AlwaysReadsAlike f x by place = place.name ≡ x → (env : Env) →
    ArePossible f place.at place.left env → word_of_operand env by ≡ env x

-- before these statements, whatever words names may have, the right side has the value that the
-- first one's has
abbrev pub AlwaysGivesAlike : Function → Block → Stmt → List Stmt → Rhs → Type 0
AlwaysGivesAlike f block stmt stmts rhs = (env : Env) (w : Word) →
    ArePossible f block.number (map stmt_name (stmt ∷ stmts)) env →
    rhs_value (name_type f stmt.name) env stmt.rhs ≡ Some w →
    rhs_value (name_type f stmt.name) env rhs ≡ Some w

-- at the end of block n, whatever words names may have, one comparison holds where the other does
abbrev pub AlwaysDecidesAlike : Function → ℕ → Code → Operand → Operand → Code → Operand → Operand →
    Type 0
AlwaysDecidesAlike f n old left right code a b = (env : Env) → ArePossible f n [] env →
    holds env code a b ≡ holds env old left right

-- in all words of their types where x and each name of its support have their values, the operand
-- has the word of x
abbrev pub FollowsFrom : Function → ℕ → Operand → Type 0
FollowsFrom f x by = (env : Env) → AreTyped f env → HasItsValue f env x →
    ((y : ℕ) → Supports (read_for f) x y → HasItsValue f env y) → word_of_operand env by ≡ env x

-- ---- a statement that is put before others

-- the first of these statements has a value, if there is one
abbrev pub GoesOn : Function → List Stmt → Env → Type 0
GoesOn f [] env = ⊤
GoesOn f (stmt ∷ stmts) env = IsSome (rhs_value (name_type f stmt.name) env stmt.rhs)

-- whenever a run comes to these statements of the block and goes on, the right side has a value of
-- the type
abbrev pub HasValueThere : Function → Block → List Stmt → Ty → Rhs → Type 0
HasValueThere f block stmts t rhs = (args : List Word) → AreArgumentWords f args → (env : Env) →
    Reaches f args (Inside block stmts env) → GoesOn f stmts env → IsSome (rhs_value t env rhs)

-- whatever words names may have there with which a run goes on, the right side has a value of the
-- type
abbrev pub AlwaysHasValueThere : Function → Block → List Stmt → Ty → Rhs → Type 0
AlwaysHasValueThere f block stmts t rhs = (env : Env) →
    ArePossible f block.number (map stmt_name stmts) env → GoesOn f stmts env →
    IsSome (rhs_value t env rhs)
