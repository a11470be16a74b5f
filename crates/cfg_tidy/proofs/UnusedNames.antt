-- Where an operand was put for a name, nothing uses the name any more.
use Rattle.std.proofs.Common.{◌≡◌, ℕ, Bool, true, false, cond, List, [], ◌∷◌, ◌++◌, map, flat_map, refl, ◌∙◌}
use Rattle.std.specs.List.{list_any}
use Rattle.std.proofs.lemmas.Bool.{or_from}
use Rattle.std.proofs.lemmas.List.Folds.{list_any-append}
use Rattle.pm_wide.specs.declared.operand.Operand.{Operand}
use Rattle.gim_ast.specs.declared.function.Function.{Function}
use Rattle.gim_ast.specs.declared.function.Block.{Block}
use Rattle.gim_ast.specs.declared.function.Phi.{Phi}
use Rattle.gim_ast.specs.declared.function.Stmt.{Stmt}
use Rattle.gim_ast.specs.declared.function.Rhs.{Rhs}
use Rattle.gim_ast.specs.declared.function.Rhs.TheVariants.{Copy, Op}
use Rattle.gim_ast.specs.declared.function.End.{End}
use Rattle.gim_ast.specs.declared.function.End.TheVariants.{Goto, If, Return}
use Rattle.gim_ast.specs.Functions.{is_name, is_used, operands_of, operands_of_block, operands_of_phi, operands_of_rhs, operands_of_stmt, operands_of_end}
use Rattle.gim_changes.specs.Substitution.{put, put_in_arg, put_in_phi, put_in_rhs, put_in_stmt, put_in_end, put_in_block, put_in_all}

module _ (x : ℕ) (by : Operand) (other : is_name x by ≡ false) where
  abbrev IsFree : List Operand → Type 0
  IsFree operands = list_any (is_name x) operands ≡ false

  free_both : (xs ys : List Operand) → IsFree xs → IsFree ys → IsFree (xs ++ ys)
  free_both xs ys front back = list_any-append (is_name x) xs ys ∙ or_from (list_any (is_name x) xs) (list_any (is_name x) ys) front back

  put_is_free : (a : Operand) → is_name x (put x by a) ≡ false
  put_is_free a = test (is_name x a) refl
    where
      test : (b : Bool) → is_name x a ≡ b → is_name x (cond b by a) ≡ false
      test true is = other
      test false is = is

  operands_free : (operands : List Operand) → IsFree (map (put x by) operands)
  operands_free [] = refl
  operands_free (a ∷ operands) = or_from (is_name x (put x by a)) (list_any (is_name x) (map (put x by) operands)) (put_is_free a) (operands_free operands)

  args_free : (args : List (ℕ × Operand)) → IsFree (map (λ (arg : ℕ × Operand). arg.1) (map (put_in_arg x by) args))
  args_free [] = refl
  args_free (arg ∷ args) =
      or_from (is_name x (put x by arg.1)) (list_any (is_name x) (map (λ (a : ℕ × Operand). a.1) (map (put_in_arg x by) args))) (put_is_free arg.1) (args_free args)

  phis_free : (phis : List Phi) → IsFree (flat_map operands_of_phi (map (put_in_phi x by) phis))
  phis_free [] = refl
  phis_free (phi ∷ phis) = free_both (operands_of_phi (put_in_phi x by phi)) (flat_map operands_of_phi (map (put_in_phi x by) phis)) (args_free phi.args) (phis_free phis)

  rhs_free : (rhs : Rhs) → IsFree (operands_of_rhs (put_in_rhs x by rhs))
  rhs_free (Copy a) = operands_free (a ∷ [])
  rhs_free (Op code operands) = operands_free operands

  stmts_free : (stmts : List Stmt) → IsFree (flat_map operands_of_stmt (map (put_in_stmt x by) stmts))
  stmts_free [] = refl
  stmts_free (stmt ∷ stmts) = free_both (operands_of_stmt (put_in_stmt x by stmt)) (flat_map operands_of_stmt (map (put_in_stmt x by) stmts)) (rhs_free stmt.rhs) (stmts_free stmts)

  end_free : (end : End) → IsFree (operands_of_end (put_in_end x by end))
  end_free (Goto to) = refl
  end_free (If code left right yes_to no_to) = operands_free (left ∷ right ∷ [])
  end_free (Return a) = operands_free (a ∷ [])

  blocks_free : (blocks : List Block) → IsFree (flat_map operands_of_block (map (put_in_block x by) blocks))
  blocks_free [] = refl
  blocks_free (block ∷ blocks) =
      let phis = flat_map operands_of_phi (map (put_in_phi x by) block.phis) in
      let stmts = flat_map operands_of_stmt (map (put_in_stmt x by) block.stmts) in
      let end = operands_of_end (put_in_end x by block.end) in
      free_both (operands_of_block (put_in_block x by block)) (flat_map operands_of_block (map (put_in_block x by) blocks))
      (free_both (phis ++ stmts) end (free_both phis stmts (phis_free block.phis) (stmts_free block.stmts)) (end_free block.end)) (blocks_free blocks)

  pub unused_where_put : (f : Function) → is_used (put_in_all x by f) x ≡ false
  unfolding operands_of put_in_all
  unused_where_put f = blocks_free f.blocks
