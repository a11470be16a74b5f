-- Operands that may stand at a point: they hold, and each name of them stands in the function and is assigned on each path to the point.
-- In a valid function each operand may stand where it stands.
use Rattle.std.proofs.Common.{◌≡◌, ℕ, true, false, List, [], ◌∷◌, ◌++◌, map, refl, sym, subst, inl, inr, ⊎_elim}
use Rattle.std.proofs.lemmas.Bool.{both_ways, eqb-true}
use Rattle.pm_wide.specs.declared.operand.Operand.{Operand}
use Rattle.pm_wide.specs.declared.operand.Operand.TheVariants.{Name, Const}
use Rattle.gim_ast.specs.declared.function.Function.{Function}
use Rattle.gim_ast.specs.declared.function.Block.{Block}
use Rattle.gim_ast.specs.declared.function.Phi.{Phi}
use Rattle.gim_ast.specs.declared.function.Stmt.{Stmt}
use Rattle.gim_ast.specs.Functions.{is_name, operands_of, operands_of_block, operands_of_phi, operands_of_stmt, operands_of_end, stmt_name, is_used}
use Rattle.gim_ast.specs.WellFormed.{operand_holds}
use Rattle.gim_ast.specs.Paths.{flow_of, Path}
use Rattle.gim_ast.specs.Readable.{names_among, read_for, is_initial, IsValid}
use Rattle.gim_changes.specs.Trimming.{stands_in}
use Rattle.gim_changes.specs.Validity.{IsAssignedAfter, IsReadableOperand, OperandComesBefore}
use Rattle.gim_changes.proofs.Members.{IsMember, any_from_member, member_middle, mapped_member, part_member}
use Rattle.gim_changes.proofs.AssignedBefore.{assigned_where_fresh}
use Rattle.gim_changes.proofs.NamesRead.{by_phi, by_stmt, by_end}
use Rattle.gim_changes.proofs.NamesUsed.{operand_of_phis, operand_of_stmts, operand_of_end, operand_of_block, used_stands}
use Rattle.gim_changes.proofs.AlwaysAssigned.{uses_assigned}
use Rattle.gim_changes.proofs.ChangedBlocks.{block_holds}

pub record IsGood (f : Function) (n : ℕ) (left : List ℕ) (a : Operand) : Type 0 where
  pub holds : operand_holds f a ≡ true
  pub stands : (x : ℕ) → is_name x a ≡ true → stands_in f x ≡ true
  pub assigned : (x : ℕ) → is_name x a ≡ true → (past : List ℕ) → Path (flow_of f) n left past → IsAssignedAfter (is_initial f) x past

-- an operand that is a name is among the names
pub name_among : (x : ℕ) (a : Operand) (operands : List Operand) → IsMember a operands → is_name x a ≡ true → IsMember x (names_among operands)
name_among x a [] one is = one
name_among x a (Name y t ∷ operands) one is = ⊎_elim
    (λ here. inl (eqb-true y x (subst (λ b. is_name x b ≡ true) (sym here) is)))
    (λ later. inr (name_among x a operands later is))
    one
name_among x a (Const w ∷ operands) one is = ⊎_elim
    (λ here. absurd (both_ways false refl (subst (λ b. is_name x b ≡ true) (sym here) is)))
    (λ later. name_among x a operands later is)
    one

pub named_is_used : (f : Function) (x : ℕ) (a : Operand) → IsMember a (operands_of f) → is_name x a ≡ true → is_used f x ≡ true
named_is_used f x a one is = any_from_member (is_name x) (operands_of f) a one is

-- an operand that may be read at a point
pub good_readable : (f : Function) (n : ℕ) (left : List ℕ) (a : Operand) → operand_holds f a ≡ true → IsReadableOperand f n left a → IsGood f n left a
good_readable f n left (Name y t) holds readable = record {
  holds = holds;
  stands = λ x is. subst (λ z. stands_in f z ≡ true) (eqb-true y x is) readable.0;
  assigned = λ x is past path. subst (λ z. IsAssignedAfter (is_initial f) z past) (eqb-true y x is)
      (assigned_where_fresh (is_initial f) (read_for f) y past (readable.1.fresh past path));
}
good_readable f n left (Const w) holds readable = record {
  holds = holds;
  stands = λ x is. absurd (both_ways false refl is);
  assigned = λ x is past path. absurd (both_ways false refl is);
}

-- an operand that comes before a name may be read where the name is about to be assigned
pub readable_operand : (f : Function) (x : ℕ) (a : Operand) → OperandComesBefore f a x → (n : ℕ) (left : List ℕ) → IsReadableOperand f n (x ∷ left) a
readable_operand f x (Name y t) comes n left = (comes.stands, comes.readable n left)
readable_operand f x (Const w) comes n left = tt

module _ (f : Function) (valid : IsValid f) (b : Block) (one : IsMember b f.blocks) where
  old_holds : (a : Operand) → IsMember a (operands_of_block b) → operand_holds f a ≡ true
  old_holds a mine = (block_holds f valid.well_formed.operands b one).each a mine

  old_stands : (a : Operand) → IsMember a (operands_of_block b) → (x : ℕ) → is_name x a ≡ true → stands_in f x ≡ true
  old_stands a mine x is = used_stands f x (named_is_used f x a (operand_of_block f b a one mine) is)

  pub good_in_phi : (phi : Phi) → IsMember phi b.phis → (m : ℕ) (a : Operand) → IsMember (m, a) phi.args → IsGood f m [] a
  good_in_phi phi mine m a arg =
      let among = operand_of_phis b a (part_member operands_of_phi a phi b.phis mine (mapped_member (λ (more : ℕ × Operand). more.1) (m, a) phi.args arg)) in
      record {
        holds = old_holds a among;
        stands = old_stands a among;
        assigned = λ x is past path. uses_assigned f valid x m [] (b, one, by_phi phi a mine arg (name_among x a (a ∷ []) (inl refl) is) refl) past path;
      }

  pub good_in_stmt : (front : List Stmt) (stmt : Stmt) (rest : List Stmt) → b.stmts ≡ front ++ stmt ∷ rest → (a : Operand) → IsMember a (operands_of_stmt stmt) →
      IsGood f b.number (map stmt_name (stmt ∷ rest)) a
  good_in_stmt front stmt rest is a mine =
      let among = operand_of_stmts b a (part_member operands_of_stmt a stmt b.stmts (subst (IsMember stmt) (sym is) (member_middle stmt front rest)) mine) in
      record {
        holds = old_holds a among;
        stands = old_stands a among;
        assigned = λ x this past path.
            uses_assigned f valid x b.number (map stmt_name (stmt ∷ rest)) (b, one, by_stmt front stmt rest is (name_among x a (operands_of_stmt stmt) mine this) refl refl) past path;
      }

  pub good_at_end : (a : Operand) → IsMember a (operands_of_end b.end) → IsGood f b.number [] a
  good_at_end a mine =
      let among = operand_of_end b a mine in
      record {
        holds = old_holds a among;
        stands = old_stands a among;
        assigned = λ x is past path. uses_assigned f valid x b.number [] (b, one, by_end (name_among x a (operands_of_end b.end) mine is) refl refl) past path;
      }
