-- A valid function with another right side of a name is valid, once its rows are trimmed, where each operand of it comes before the name.
use Rattle.std.proofs.Common.{◌≡◌, ◌⊎◌, ℕ, Bool, true, false, cond, ◌∷◌, map, eqb, map-id, refl, sym, ap, ◌∙◌, subst, inl, inr, ⊎_elim}
use Rattle.std.specs.List.{list_all, AllByRecursion}
use Rattle.std.specs.Option.{option_map_or}
use Rattle.std.proofs.lemmas.Bool.{and_parts, eqb-true}
use Rattle.pm_wide.specs.declared.operand.Operand.{Operand}
use Rattle.pm_wide.specs.declared.operand.Operand.TheVariants.{Name}
use Rattle.gim_ast.specs.declared.function.Function.{Function}
use Rattle.gim_ast.specs.declared.function.Block.{Block}
use Rattle.gim_ast.specs.declared.function.Stmt.{Stmt}
use Rattle.gim_ast.specs.declared.function.NameRow.{NameRow}
use Rattle.gim_ast.specs.declared.function.Rhs.{Rhs}
use Rattle.gim_ast.specs.declared.function.End.{End}
use Rattle.gim_ast.specs.Functions.{operands_of_stmt, operands_of_rhs, row_of, stmt_name}
use Rattle.gim_ast.specs.WellFormed.{is_among, operand_holds, rhs_fits, phi_fits, stmt_fits, bounds_hold}
use Rattle.gim_ast.specs.Readable.{names_among, read_for, Supports, IsValid}
use Rattle.gim_changes.specs.Substitution.{with_rhs, with_rhs_in_block, with_rhs_in_stmt}
use Rattle.gim_changes.specs.Trimming.{trimmed}
use Rattle.gim_changes.specs.Validity.{ComesBefore, OperandComesBefore}
use Rattle.gim_changes.proofs.FlowKept.{rhs_name}
use Rattle.gim_changes.proofs.Members.{IsMember, all_members, each_member}
use Rattle.gim_changes.proofs.NamesUsed.{named}
use Rattle.gim_changes.proofs.ComesBefore.{none_in_own_support}
use Rattle.gim_changes.proofs.SupportChanges.{none_with_new}
use Rattle.gim_changes.proofs.ChangedBlocks.{with_blocks, block_holds}
use Rattle.gim_changes.proofs.GoodOperands.{IsGood, readable_operand, good_readable, good_in_phi, good_in_stmt, good_at_end}
use Rattle.gim_changes.proofs.MappedBlocks.{changed, mapped_in, first_reads, reads_changed, AreGood, AreTyped, valid_changed, mapped_alike}

module _ (x : ℕ) (rhs : Rhs) where
  abbrev end_of : Block → End
  end_of b = b.end

  abbrev changed_block : Block → Block
  changed_block = changed (λ phi. phi) (with_rhs_in_stmt x rhs) end_of (λ phi. refl) (λ phi. refl) (rhs_name x rhs) (λ b. refl)

  abbrev changed_in : Function → Function
  changed_in = mapped_in (λ phi. phi) (with_rhs_in_stmt x rhs) end_of (λ phi. refl) (λ phi. refl) (rhs_name x rhs) (λ b. refl)

  rhs_is : (f : Function) → with_rhs x rhs f ≡ changed_in f
  unfolding with_rhs
  rhs_is f = ap (λ bs. with_blocks bs f) (mapped_alike (with_rhs_in_block x rhs) changed_block
      (λ b. ap (λ phis. record b { phis = phis; stmts = map (with_rhs_in_stmt x rhs) b.stmts }) (sym (map-id b.phis))) f.blocks)

  -- a statement of the name has the new right side, and any other stays
  stmt_cases : (s : Stmt) → ((s.name ≡ x) × (with_rhs_in_stmt x rhs s ≡ record s { rhs = rhs })) ⊎ (with_rhs_in_stmt x rhs s ≡ s)
  stmt_cases s = test (eqb s.name x) (eqb-true s.name x)
    where
      test : (b : Bool) → (b ≡ true → s.name ≡ x) → ((s.name ≡ x) × (cond b (record s { rhs = rhs }) s ≡ record s { rhs = rhs })) ⊎ (cond b (record s { rhs = rhs }) s ≡ s)
      test true same = inl (same refl, refl)
      test false same = inr refl

  module _ (f : Function) (valid : IsValid f) (fits : option_map_or (λ (row : NameRow). rhs_fits row.ty rhs) (row_of f x) false ≡ true)
      (holds : list_all (operand_holds f) (operands_of_rhs rhs) ≡ true) (before : AllByRecursion (λ a. OperandComesBefore f a x) (operands_of_rhs rhs))
      (bounds : bounds_hold (with_rhs x rhs f) ≡ true) where
    comes : (a : Operand) → IsMember a (operands_of_rhs rhs) → OperandComesBefore f a x
    comes a one = each_member (λ c. OperandComesBefore f c x) (operands_of_rhs rhs) before a one

    good : AreGood (λ phi. phi) (with_rhs_in_stmt x rhs) end_of (λ phi. refl) (λ phi. refl) (rhs_name x rhs) (λ b. refl) f
    good = record {
      phis = λ b one phi mine m a arg. good_in_phi f valid b one phi mine m a arg;
      stmts = λ b one front stmt rest is a mine. ⊎_elim
          (λ new.
          let its = subst (λ (s : Stmt). IsMember a (operands_of_stmt s)) new.1 mine in
          subst (λ z. IsGood f b.number (z ∷ map stmt_name rest) a) (sym new.0)
          (good_readable f b.number (x ∷ map stmt_name rest) a (all_members (operand_holds f) (operands_of_rhs rhs) holds a its) (readable_operand f x a (comes a its) b.number (map stmt_name rest))))
          (λ old. good_in_stmt f valid b one front stmt rest is a (subst (λ (s : Stmt). IsMember a (operands_of_stmt s)) old mine))
          (stmt_cases stmt);
      ends = λ b one a mine. good_at_end f valid b one a mine;
    }

    typed : AreTyped (λ phi. phi) (with_rhs_in_stmt x rhs) end_of (λ phi. refl) (λ phi. refl) (rhs_name x rhs) (λ b. refl) f
    typed = record {
      phis = λ b one phi mine. all_members (phi_fits f) b.phis (and_parts _ _ (and_parts _ _ (block_holds f valid.well_formed.operands b one).fits).0).0 phi mine;
      stmts = λ b one stmt mine. ⊎_elim
          (λ new. subst (λ (s : Stmt). stmt_fits f s ≡ true) (sym new.1) (subst (λ z. option_map_or (λ (row : NameRow). rhs_fits row.ty rhs) (row_of f z) false ≡ true) (sym new.0) fits))
          (λ old. subst (λ (s : Stmt). stmt_fits f s ≡ true) (sym old)
          (all_members (stmt_fits f) b.stmts (and_parts _ _ (and_parts _ _ (block_holds f valid.well_formed.operands b one).fits).0).1 stmt mine))
          (stmt_cases stmt);
      ends = λ b one. (and_parts _ _ (block_holds f valid.well_formed.operands b one).fits).1;
    }

    abbrev IsNew : ℕ → Type 0
    IsNew z = IsMember z (names_among (operands_of_rhs rhs))

    read_new : (w z : ℕ) → is_among z (read_for (changed_in f) w) ≡ true → (is_among z (read_for f w) ≡ true) ⊎ ((w ≡ x) × IsNew z)
    read_new w z reads =
        let found = reads_changed (λ phi. phi) (with_rhs_in_stmt x rhs) end_of (λ phi. refl) (λ phi. refl) (rhs_name x rhs) (λ b. refl) f w z reads in
        ⊎_elim
        (λ new. inr (sym found.name ∙ new.0, subst (λ (s : Stmt). IsMember z (names_among (operands_of_stmt s))) new.1 found.reads))
        (λ old. inl (first_reads f w z found.stmt found.first (subst (λ (s : Stmt). IsMember z (names_among (operands_of_stmt s))) old found.reads)))
        (stmt_cases found.stmt)

    apart : (y : ℕ) → IsNew y → (y ≡ x) ⊎ Supports (read_for f) y x → ⊥
    apart y new back =
        let found = named y (operands_of_rhs rhs) new in
        let its : ComesBefore f y x = comes (Name y found.0) found.1 in
        ⊎_elim (λ same. its.other same) (λ more. its.apart more) back

    pub valid_with_rhs : IsValid (trimmed (with_rhs x rhs f))
    valid_with_rhs =
        subst (λ g. IsValid (trimmed g)) (sym (rhs_is f))
        (valid_changed (λ phi. phi) (with_rhs_in_stmt x rhs) end_of (λ phi. refl) (λ phi. refl) (rhs_name x rhs) (λ b. refl) f good valid typed
        (subst (λ g. bounds_hold g ≡ true) (rhs_is f) bounds)
        (none_with_new (read_for f) (read_for (changed_in f)) x IsNew read_new apart (none_in_own_support f valid)))
