-- Where a run comes, item by item, with the words that names have there.
use Rattle.std.specs.Prelude.{◌≡◌, ℕ, Some, None, List, [], ◌∷◌, ◌++◌}
use Rattle.pm_wide.specs.Types.{Word}
use Rattle.gim_ast.specs.declared.function.Function.{Function}
use Rattle.gim_ast.specs.declared.function.Block.{Block}
use Rattle.gim_ast.specs.declared.function.Stmt.{Stmt}
use Rattle.gim_ast.specs.Functions.{block_of}
use Rattle.gim_ast.specs.Runs.{Env, assign, rhs_value, name_type, after_phis, Place, start_of}
use Rattle.gim_ast.specs.Runs.{lead_of, To, Out}

-- A run is between two blocks, or inside of one, where these statements are still to be executed
-- and names have these words
pub data Spot : Type 0 where
  Between : Place → Spot
  Inside : Block → List Stmt → Env → Spot

-- `Reaches f args spot`: the run of f on args comes to the spot. It starts on the way to the entry,
-- enters a block past its phis, goes past a statement that has a value, and leaves a block for
-- where its end leads
pub data Reaches (f : Function) (args : List Word) : Spot → Type 0 where
  start : Reaches f args (Between (start_of f args))
  enter : (place : Place) (block : Block) → block_of f place.to ≡ Some block →
      Reaches f args (Between place) →
      Reaches f args (Inside block block.stmts (after_phis f place.from block.phis place.env))
  pass : (block : Block) (stmt : Stmt) (stmts : List Stmt) (env : Env) (w : Word) →
      rhs_value (name_type f stmt.name) env stmt.rhs ≡ Some w →
      Reaches f args (Inside block (stmt ∷ stmts) env) →
      Reaches f args (Inside block stmts (assign stmt.name w env))
  leave : (block : Block) (env : Env) (n : ℕ) → lead_of env block.end ≡ To n →
      Reaches f args (Inside block [] env) →
      Reaches f args (Between (record { from = block.number; to = n; env = env }))

-- the block is the function's, and these are its last statements
pub record Lies (f : Function) (block : Block) (stmts : List Stmt) : Type 0 where
  pub found : block_of f block.number ≡ Some block
  pub front : List Stmt
  pub is : block.stmts ≡ front ++ stmts

-- the run comes to the end of a block that leads out with the word
pub record LeadsOut (f : Function) (args : List Word) (w : Word) : Type 0 where
  pub block : Block
  pub env : Env
  pub reached : Reaches f args (Inside block [] env)
  pub leads : lead_of env block.end ≡ Out w

-- the run comes to a statement of the name that has no value
pub record IsStuckAt (f : Function) (args : List Word) (x : ℕ) : Type 0 where
  pub block : Block
  pub stmt : Stmt
  pub stmts : List Stmt
  pub env : Env
  pub reached : Reaches f args (Inside block (stmt ∷ stmts) env)
  pub name : stmt.name ≡ x
  pub none : rhs_value (name_type f stmt.name) env stmt.rhs ≡ None
