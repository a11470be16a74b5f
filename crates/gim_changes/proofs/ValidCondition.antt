-- A valid function with another condition is valid, once its rows are trimmed.
use Rattle.std.proofs.Common.{◌≡◌, ℕ, Bool, true, false, cond, ◌&&◌, [], length, map, eqb, map-id, refl, sym, ap, ◌∙◌, subst, ⊎_elim}
use Rattle.std.proofs.lemmas.Bool.{and_parts, eqb-true}
use Rattle.pm_ops.specs.Codes.{is_comparison_code}
use Rattle.pm_ops.specs.declared.code.Code.{Code}
use Rattle.pm_wide.specs.Types.{same_type}
use Rattle.pm_wide.specs.declared.operand.Operand.{Operand}
use Rattle.gim_ast.specs.declared.function.Function.{Function}
use Rattle.gim_ast.specs.declared.function.Block.{Block}
use Rattle.gim_ast.specs.declared.function.Stmt.{Stmt}
use Rattle.gim_ast.specs.declared.function.End.{End}
use Rattle.gim_ast.specs.declared.function.End.TheVariants.{Goto, If, Return}
use Rattle.gim_ast.specs.Functions.{operands_of_end, operands_of_block, targets_of}
use Rattle.gim_ast.specs.WellFormed.{type_of, phi_fits, stmt_fits, end_fits}
use Rattle.gim_ast.specs.Readable.{read_for, IsValid}
use Rattle.gim_changes.specs.Substitution.{with_condition, with_condition_in_block, with_condition_in_end}
use Rattle.gim_changes.specs.Trimming.{trimmed}
use Rattle.gim_changes.proofs.FlowKept.{condition_targets}
use Rattle.gim_changes.proofs.Members.{IsMember, all_members}
use Rattle.gim_changes.proofs.ComesBefore.{none_in_own_support}
use Rattle.gim_changes.proofs.SupportChanges.{supports_within}
use Rattle.gim_changes.proofs.ChangedBlocks.{with_blocks, block_holds}
use Rattle.gim_changes.proofs.GoodOperands.{IsGood, good_in_phi, good_in_stmt, good_at_end}
use Rattle.gim_changes.proofs.MappedBlocks.{changed, mapped_in, first_reads, reads_changed, AreGood, AreTyped, valid_changed, block_count, phis_count, stmts_count, bounds_of_count, mapped_alike}

module _ (n : ℕ) (code : Code) (left right : Operand) where
  abbrev end_of : Block → End
  end_of b = cond (eqb b.number n) (with_condition_in_end code left right b.end) b.end

  same_targets : (b : Block) → targets_of (end_of b) ≡ targets_of b.end
  same_targets b = elim (eqb b.number n) as (λ t. targets_of (cond t (with_condition_in_end code left right b.end) b.end) ≡ targets_of b.end)
      [ true ↦ condition_targets code left right b.end | false ↦ refl ]

  abbrev changed_block : Block → Block
  changed_block = changed (λ phi. phi) (λ s. s) end_of (λ phi. refl) (λ phi. refl) (λ s. refl) same_targets

  abbrev changed_in : Function → Function
  changed_in = mapped_in (λ phi. phi) (λ s. s) end_of (λ phi. refl) (λ phi. refl) (λ s. refl) same_targets

  is_changed : (b : Block) → with_condition_in_block n code left right b ≡ changed_block b
  is_changed b =
      by (eqb b.number n)
      ∙ ap (λ phis. record b { phis = phis; stmts = map (λ (s : Stmt). s) b.stmts; end = end_of b }) (sym (map-id b.phis))
    where
      by : (t : Bool) → cond t (record b { end = with_condition_in_end code left right b.end }) b
          ≡ record b { phis = b.phis; stmts = map (λ (s : Stmt). s) b.stmts; end = cond t (with_condition_in_end code left right b.end) b.end }
      by true = ap (λ stmts. record b { stmts = stmts; end = with_condition_in_end code left right b.end }) (sym (map-id b.stmts))
      by false = ap (λ stmts. record b { stmts = stmts }) (sym (map-id b.stmts))

  condition_is : (f : Function) → with_condition n code left right f ≡ changed_in f
  unfolding with_condition
  condition_is f = ap (λ bs. with_blocks bs f) (mapped_alike (with_condition_in_block n code left right) changed_block is_changed f.blocks)

  -- the operands of a changed end
  from_end : (P : Operand → Type 0) (e : End) → ((a : Operand) → IsMember a (operands_of_end e) → P a) → P left → P right →
      (a : Operand) → IsMember a (operands_of_end (with_condition_in_end code left right e)) → P a
  from_end P (Goto to) old new_left new_right a one = old a one
  from_end P (If c u v yes_to no_to) old new_left new_right a one = ⊎_elim
      (λ here. subst P here new_left)
      (λ later. ⊎_elim (λ here. subst P here new_right) (λ none. absurd none) later)
      one
  from_end P (Return b) old new_left new_right a one = old a one

  fits_end : (f : Function) (e : End) → end_fits f e ≡ true → (is_comparison_code code && same_type (type_of left) (type_of right)) ≡ true → end_fits f (with_condition_in_end code left right e) ≡ true
  fits_end f (Goto to) old new = old
  fits_end f (If c u v yes_to no_to) old new = new
  fits_end f (Return b) old new = old

  count_end : (e : End) → length (operands_of_end (with_condition_in_end code left right e)) ≡ length (operands_of_end e)
  count_end (Goto to) = refl
  count_end (If c u v yes_to no_to) = refl
  count_end (Return b) = refl

  same_count : (b : Block) → length (operands_of_block (changed_block b)) ≡ length (operands_of_block b)
  same_count b = block_count b (changed_block b) (phis_count (λ phi. phi) (λ phi. refl) b.phis) (stmts_count (λ s. s) (λ s. refl) b.stmts)
      (elim (eqb b.number n) as (λ t. length (operands_of_end (cond t (with_condition_in_end code left right b.end) b.end)) ≡ length (operands_of_end b.end)) [ true ↦ count_end b.end | false ↦ refl ])

  module _ (f : Function) (valid : IsValid f) (new_left : IsGood f n [] left) (new_right : IsGood f n [] right)
      (fits : (is_comparison_code code && same_type (type_of left) (type_of right)) ≡ true) where
    good : AreGood (λ phi. phi) (λ s. s) end_of (λ phi. refl) (λ phi. refl) (λ s. refl) same_targets f
    good = record {
      phis = λ b one phi mine m a arg. good_in_phi f valid b one phi mine m a arg;
      stmts = λ b one front stmt rest is a mine. good_in_stmt f valid b one front stmt rest is a mine;
      ends = λ b one a mine. by_number b one (eqb b.number n) (eqb-true b.number n) a mine;
    }
      where
        by_number : (b : Block) → IsMember b f.blocks → (t : Bool) → (t ≡ true → b.number ≡ n) → (a : Operand) →
            IsMember a (operands_of_end (cond t (with_condition_in_end code left right b.end) b.end)) → IsGood f b.number [] a
        by_number b one true is a mine =
            from_end (IsGood f b.number []) b.end (good_at_end f valid b one) (subst (λ m. IsGood f m [] left) (sym (is refl)) new_left) (subst (λ m. IsGood f m [] right) (sym (is refl)) new_right) a mine
        by_number b one false is a mine = good_at_end f valid b one a mine

    typed : AreTyped (λ phi. phi) (λ s. s) end_of (λ phi. refl) (λ phi. refl) (λ s. refl) same_targets f
    typed = record {
      phis = λ b one phi mine. all_members (phi_fits f) b.phis (and_parts _ _ (and_parts _ _ (block_holds f valid.well_formed.operands b one).fits).0).0 phi mine;
      stmts = λ b one stmt mine. all_members (stmt_fits f) b.stmts (and_parts _ _ (and_parts _ _ (block_holds f valid.well_formed.operands b one).fits).0).1 stmt mine;
      ends = λ b one.
          let old = (and_parts _ _ (block_holds f valid.well_formed.operands b one).fits).1 in
          elim (eqb b.number n) as (λ t. end_fits f (cond t (with_condition_in_end code left right b.end) b.end) ≡ true) [ true ↦ fits_end f b.end old fits | false ↦ old ];
    }

    pub valid_with_condition : IsValid (trimmed (with_condition n code left right f))
    valid_with_condition =
        subst (λ g. IsValid (trimmed g)) (sym (condition_is f))
        (valid_changed (λ phi. phi) (λ s. s) end_of (λ phi. refl) (λ phi. refl) (λ s. refl) same_targets f good valid typed (bounds_of_count f changed_block same_count valid.well_formed.bounds)
        (λ x supports. none_in_own_support f valid x (supports_within (read_for f) (read_for (changed_in f)) (λ w z reads.
        let found = reads_changed (λ phi. phi) (λ s. s) end_of (λ phi. refl) (λ phi. refl) (λ s. refl) same_targets f w z reads in
        first_reads f w z found.stmt found.first found.reads) x x supports)))
