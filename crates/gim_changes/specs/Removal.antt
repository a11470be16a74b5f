-- Removal of what is unused: the last phi or statement whose name nothing uses goes, until there is none.
use Rattle.std.specs.Prelude.{ℕ, zero, suc, ◌==◌, Bool, not, Option, Some, None, List, [], ◌∷◌, length, filter, map}
use Rattle.std.specs.Option.{option_map_or}
use Rattle.gim_ast.specs.declared.function.Function.{Function}
use Rattle.gim_ast.specs.declared.function.Block.{Block}
use Rattle.gim_ast.specs.declared.function.Phi.{Phi}
use Rattle.gim_ast.specs.declared.function.Stmt.{Stmt}
use Rattle.gim_ast.specs.Functions.{assigned, is_used}

-- the names that are assigned and not used, in program order
unfoldable pub unused : Function → List ℕ
unused f = filter (λ x. not (is_used f x)) (assigned f)

-- the last of a list, or what is told for an empty one
abbrev pub last_or : {X : Type 0} → Option X → List X → Option X
last_or found [] = found
last_or found (x ∷ xs) = last_or (Some x) xs

abbrev pub last_unused : Function → Option ℕ
last_unused f = last_or None (unused f)

-- a phi or a statement assigns another name
abbrev pub phi_stays : ℕ → Phi → Bool
phi_stays x phi = not (phi.name == x)

abbrev pub stmt_stays : ℕ → Stmt → Bool
stmt_stays x stmt = not (stmt.name == x)

-- without the phis and statements of the name
abbrev pub without_in_block : ℕ → Block → Block
without_in_block x block = record block { phis = filter (phi_stays x) block.phis; stmts = filter (stmt_stays x) block.stmts }

unfoldable pub without : ℕ → Function → Function
without x f = record f { blocks = map (without_in_block x) f.blocks }

-- as many times as are told at most, the last unused one goes
abbrev pub pruned_by : ℕ → Function → Function
pruned_by zero f = f
pruned_by (suc n) f = option_map_or (λ x. pruned_by n (without x f)) (last_unused f) f

-- each removal takes an assigned name away, so that many are enough
unfoldable pub pruned : Function → Function
pruned f = pruned_by (length (assigned f)) f
