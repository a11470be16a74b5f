-- A valid function with an operand put for an assigned name is valid, where the operand comes before the name and has its type.
use Rattle.std.proofs.Common.{◌≡◌, ◌⊎◌, ℕ, Bool, true, false, cond, ◌&&◌, Some, None, Option, List, [], ◌∷◌, ◌++◌, length, map, flat_map, eqb, refl, sym, ap, ◌∙◌, subst, inl, inr, ⊎_elim}
use Rattle.std.specs.List.{list_all}
use Rattle.std.specs.Option.{option_map_or}
use Rattle.std.proofs.lemmas.Bool.{and_parts, or_cases, or_left, or_right, both_ways, eqb-true, eq-eqb, cases_eq}
use Rattle.std.proofs.lemmas.List.{length-map, map-append}
use Rattle.pm_ops.specs.Codes.{is_comparison_code}
use Rattle.pm_wide.specs.Types.{Ty, same_type}
use Rattle.pm_wide.specs.Typing.{well_typed_operation}
use Rattle.pm_wide.specs.declared.operand.Operand.{Operand}
use Rattle.pm_wide.specs.declared.operand.Operand.TheVariants.{Name, Const}
use Rattle.pm_wide.proofs.Results.{same_type_is}
use Rattle.gim_ast.specs.declared.function.Function.{Function}
use Rattle.gim_ast.specs.declared.function.Block.{Block}
use Rattle.gim_ast.specs.declared.function.Phi.{Phi}
use Rattle.gim_ast.specs.declared.function.Stmt.{Stmt}
use Rattle.gim_ast.specs.declared.function.NameRow.{NameRow}
use Rattle.gim_ast.specs.declared.function.Rhs.{Rhs}
use Rattle.gim_ast.specs.declared.function.Rhs.TheVariants.{Copy, Op}
use Rattle.gim_ast.specs.declared.function.End.{End}
use Rattle.gim_ast.specs.declared.function.End.TheVariants.{Goto, If, Return}
use Rattle.gim_ast.specs.Functions.{is_name, operands_of_block, operands_of_phi, operands_of_stmt, operands_of_end, operands_of_rhs, row_of, is_used, targets_of}
use Rattle.gim_ast.specs.WellFormed.{is_among, is_assigned, phi_blocks, type_of, operand_holds, rhs_fits, phi_fits, stmt_fits, end_fits, base_holds, row_stands}
use Rattle.gim_ast.specs.Paths.{flow_of, Path}
use Rattle.gim_ast.specs.Readable.{names_among, read_for, is_initial, Supports, IsValid}
use Rattle.gim_changes.specs.Substitution.{put, put_in_rhs, put_in_end, put_in_arg, put_in_phi, put_in_stmt, put_in_block, put_in_all}
use Rattle.gim_changes.specs.Trimming.{stands_in, row_stays, is_empty_text, trimmed}
use Rattle.gim_changes.specs.Validity.{IsAssignedAfter, OperandComesBefore, has_type_of}
use Rattle.gim_changes.proofs.FlowKept.{unseen, put_targets}
use Rattle.gim_changes.proofs.Members.{IsMember, all_members, all_from_members, member_mapped, mapped_member, part_member}
use Rattle.gim_changes.proofs.AssignedBefore.{assigned_where_fresh, assigned_since}
use Rattle.gim_changes.proofs.NamesUsed.{operand_of_phis, operand_of_stmts, operand_of_end, operand_of_block, used_stands, assigned_stands}
use Rattle.gim_changes.proofs.RulesOfNames.{ordered, rows_hold}
use Rattle.gim_changes.proofs.ComesBefore.{none_in_own_support}
use Rattle.gim_changes.proofs.SupportChanges.{supports_within, none_with_name}
use Rattle.gim_changes.proofs.ReadyToTrim.{trimmed_with_all, stays_where_stands}
use Rattle.gim_changes.proofs.ChangedBlocks.{block_holds, used_in_block}
use Rattle.gim_changes.proofs.GoodOperands.{IsGood, good_in_phi, good_in_stmt, good_at_end, named_is_used}
use Rattle.gim_changes.proofs.MappedBlocks.{mapped_in, first_reads, reads_changed, AreGood, AreTyped, valid_changed, same_assigned, block_count, phis_count, stmts_count, bounds_of_count}

-- ---- the operands of changed parts

module _ (x : ℕ) (by : Operand) where
  rhs_operands : (rhs : Rhs) → operands_of_rhs (put_in_rhs x by rhs) ≡ map (put x by) (operands_of_rhs rhs)
  rhs_operands (Copy a) = refl
  rhs_operands (Op code operands) = refl

  end_operands : (e : End) → operands_of_end (put_in_end x by e) ≡ map (put x by) (operands_of_end e)
  end_operands (Goto to) = refl
  end_operands (If code left right yes_to no_to) = refl
  end_operands (Return a) = refl

  -- an operand with the name put in is the new one, or stays
  put_cases : (a : Operand) → ((is_name x a ≡ true) × (put x by a ≡ by)) ⊎ ((is_name x a ≡ false) × (put x by a ≡ a))
  put_cases a = test (is_name x a) refl
    where
      test : (b : Bool) → is_name x a ≡ b → ((is_name x a ≡ true) × (cond b by a ≡ by)) ⊎ ((is_name x a ≡ false) × (cond b by a ≡ a))
      test true is = inl (is, refl)
      test false is = inr (is, refl)

  same_blocks : (phi : Phi) → phi_blocks (put_in_phi x by phi) ≡ phi_blocks phi
  same_blocks phi = unseen (λ (arg : ℕ × Operand). arg.0) (put_in_arg x by) (λ arg. refl) phi.args

  same_targets : (b : Block) → targets_of (put_in_end x by b.end) ≡ targets_of b.end
  same_targets b = put_targets x by b.end

  abbrev end_of : Block → End
  end_of b = put_in_end x by b.end

  -- the names that are read
  names_put : (z : ℕ) (operands : List Operand) → IsMember z (names_among (map (put x by) operands)) → IsMember z (names_among operands) ⊎ (IsMember x (names_among operands) × (is_name z by ≡ true))
  names_put z [] one = absurd one
  names_put z (Const w ∷ operands) one = names_put z operands one
  names_put z (Name v t ∷ operands) one = test (eqb v x) (eqb-true v x) (names_put z operands) one
    where
      later : IsMember z (names_among operands) ⊎ (IsMember x (names_among operands) × (is_name z by ≡ true)) →
          IsMember z (v ∷ names_among operands) ⊎ (IsMember x (v ∷ names_among operands) × (is_name z by ≡ true))
      later found = ⊎_elim (λ old. inl (inr old)) (λ new. inr (inr new.0, new.1)) found

      first : (a : Operand) → (is_name z a ≡ true → is_name z by ≡ true) → v ≡ x → (IsMember z (names_among (map (put x by) operands)) →
          IsMember z (names_among operands) ⊎ (IsMember x (names_among operands) × (is_name z by ≡ true))) → IsMember z (names_among (a ∷ map (put x by) operands)) →
          IsMember z (v ∷ names_among operands) ⊎ (IsMember x (v ∷ names_among operands) × (is_name z by ≡ true))
      first (Name y u) is same rest found = ⊎_elim (λ (here : y ≡ z). inr (inl same, is (eq-eqb y z here))) (λ more. later (rest more)) found
      first (Const w) is same rest found = later (rest found)

      test : (b : Bool) → (b ≡ true → v ≡ x) → (IsMember z (names_among (map (put x by) operands)) →
          IsMember z (names_among operands) ⊎ (IsMember x (names_among operands) × (is_name z by ≡ true))) →
          IsMember z (names_among (cond b by (Name v t) ∷ map (put x by) operands)) → IsMember z (v ∷ names_among operands) ⊎ (IsMember x (v ∷ names_among operands) × (is_name z by ≡ true))
      test true same rest found = first by (λ is. is) (same refl) rest found
      test false same rest found = ⊎_elim (λ here. inl (inl here)) (λ more. later (rest more)) found

  -- ---- as many operands

  count_phi : (phi : Phi) → length (operands_of_phi (put_in_phi x by phi)) ≡ length (operands_of_phi phi)
  count_phi phi =
      length-map (map (put_in_arg x by) phi.args) (λ (arg : ℕ × Operand). arg.1) ∙ (length-map phi.args (put_in_arg x by) ∙ sym (length-map phi.args (λ (arg : ℕ × Operand). arg.1)))

  count_stmt : (s : Stmt) → length (operands_of_stmt (put_in_stmt x by s)) ≡ length (operands_of_stmt s)
  count_stmt s = ap length (rhs_operands s.rhs) ∙ length-map (operands_of_rhs s.rhs) (put x by)

  count_end : (e : End) → length (operands_of_end (put_in_end x by e)) ≡ length (operands_of_end e)
  count_end e = ap length (end_operands e) ∙ length-map (operands_of_end e) (put x by)

  count_block : (b : Block) → length (operands_of_block (put_in_block x by b)) ≡ length (operands_of_block b)
  count_block b = block_count b (put_in_block x by b) (phis_count (put_in_phi x by) count_phi b.phis) (stmts_count (put_in_stmt x by) count_stmt b.stmts) (count_end b.end)

  -- ---- types

  module _ (f : Function) (type : has_type_of f x by ≡ true) where
    type_of_row : (o : Option NameRow) (t : Ty) → option_map_or (λ (row : NameRow). same_type row.ty (type_of by)) o false ≡ true → option_map_or (λ (row : NameRow). same_type row.ty t) o false ≡ true → type_of by ≡ t
    type_of_row None t h k = absurd (both_ways false refl h)
    type_of_row (Some row) t h k = sym (same_type_is row.ty (type_of by) h) ∙ same_type_is row.ty t k

    type_put : (a : Operand) → operand_holds f a ≡ true → type_of (put x by a) ≡ type_of a
    type_put (Const w) holds = refl
    type_put (Name v t) holds = test (eqb v x) (eqb-true v x)
      where
        test : (b : Bool) → (b ≡ true → v ≡ x) → type_of (cond b by (Name v t)) ≡ t
        test true same = type_of_row (row_of f x) t type (subst (λ w. option_map_or (λ (row : NameRow). same_type row.ty t) (row_of f w) false ≡ true) (same refl) holds)
        test false same = refl

    types_put : (operands : List Operand) → ((a : Operand) → IsMember a operands → operand_holds f a ≡ true) → map type_of (map (put x by) operands) ≡ map type_of operands
    types_put [] each = refl
    types_put (a ∷ operands) each =
        ap (λ t. t ∷ map type_of (map (put x by) operands)) (type_put a (each a (inl refl))) ∙ ap (λ l. type_of a ∷ l) (types_put operands (λ b one. each b (inr one)))

    rhs_fits_put : (t : Ty) (rhs : Rhs) → ((a : Operand) → IsMember a (operands_of_rhs rhs) → operand_holds f a ≡ true) → rhs_fits t rhs ≡ true → rhs_fits t (put_in_rhs x by rhs) ≡ true
    rhs_fits_put t (Copy a) each fits = subst (λ u. same_type u t ≡ true) (sym (type_put a (each a (inl refl)))) fits
    rhs_fits_put t (Op code operands) each fits = subst (λ ts. well_typed_operation code t ts ≡ true) (sym (types_put operands each)) fits

    stmt_fits_put : (s : Stmt) → ((a : Operand) → IsMember a (operands_of_stmt s) → operand_holds f a ≡ true) → stmt_fits f s ≡ true → stmt_fits f (put_in_stmt x by s) ≡ true
    stmt_fits_put s each fits = at_row (row_of f s.name) fits
      where
        at_row : (o : Option NameRow) → option_map_or (λ (row : NameRow). rhs_fits row.ty s.rhs) o false ≡ true → option_map_or (λ (row : NameRow). rhs_fits row.ty (put_in_rhs x by s.rhs)) o false ≡ true
        at_row None h = h
        at_row (Some row) h = rhs_fits_put row.ty s.rhs each h

    phi_fits_put : (phi : Phi) → ((a : Operand) → IsMember a (operands_of_phi phi) → operand_holds f a ≡ true) → phi_fits f phi ≡ true → phi_fits f (put_in_phi x by phi) ≡ true
    phi_fits_put phi each fits = at_row (row_of f phi.name) fits
      where
        at_row : (o : Option NameRow) → option_map_or (λ (row : NameRow). list_all (λ (arg : ℕ × Operand). same_type (type_of arg.1) row.ty) phi.args) o false ≡ true →
            option_map_or (λ (row : NameRow). list_all (λ (arg : ℕ × Operand). same_type (type_of arg.1) row.ty) (map (put_in_arg x by) phi.args)) o false ≡ true
        at_row None h = h
        at_row (Some row) h = all_from_members (λ (arg : ℕ × Operand). same_type (type_of arg.1) row.ty) (map (put_in_arg x by) phi.args) (λ arg one.
            let old = member_mapped (put_in_arg x by) arg phi.args one in
            subst (λ (p : ℕ × Operand). same_type (type_of p.1) row.ty ≡ true) old.2
            (subst (λ t. same_type t row.ty ≡ true) (sym (type_put old.0.1 (each old.0.1 (mapped_member (λ (p : ℕ × Operand). p.1) old.0 phi.args old.1))))
            (all_members (λ (p : ℕ × Operand). same_type (type_of p.1) row.ty) phi.args h old.0 old.1)))

    end_fits_put : (e : End) → ((a : Operand) → IsMember a (operands_of_end e) → operand_holds f a ≡ true) → end_fits f e ≡ true → end_fits f (put_in_end x by e) ≡ true
    end_fits_put (Goto to) each fits = fits
    end_fits_put (If code left right yes_to no_to) each fits =
        subst (λ t. (is_comparison_code code && same_type t (type_of (put x by right))) ≡ true) (sym (type_put left (each left (inl refl))))
        (subst (λ t. (is_comparison_code code && same_type (type_of left) t) ≡ true) (sym (type_put right (each right (inr (inl refl))))) fits)
    end_fits_put (Return a) each fits = subst (λ t. same_type t f.result ≡ true) (sym (type_put a (each a (inl refl)))) fits

  -- ---- the whole

  abbrev put_in : Function → Function
  put_in = mapped_in (put_in_phi x by) (put_in_stmt x by) end_of same_blocks (λ phi. refl) (λ s. refl) same_targets

  put_is : (f : Function) → put_in_all x by f ≡ put_in f
  unfolding put_in_all
  put_is f = refl

  module _ (f : Function) (valid : IsValid f) (assigned : is_assigned f x ≡ true) (holds : operand_holds f by ≡ true) (type : has_type_of f x by ≡ true) (before : OperandComesBefore f by x) where
    -- where the name is assigned, the operand may stand
    good_new : (a : Operand) → operand_holds f a ≡ true → OperandComesBefore f a x → (n : ℕ) (left : List ℕ) →
        ((past : List ℕ) → Path (flow_of f) n left past → IsAssignedAfter (is_initial f) x past) → IsGood f n left a
    good_new (Name y t) its comes n left always = record {
      holds = its;
      stands = λ z is. subst (λ v. stands_in f v ≡ true) (eqb-true y z is) comes.stands;
      assigned = λ z is past path. subst (λ v. IsAssignedAfter (is_initial f) v past) (eqb-true y z is)
          (assigned_since (flow_of f) (is_initial f) x y (λ initial. both_ways (is_assigned f x) ((ordered f valid.well_formed).unassigned x initial) assigned)
          (λ m rest earlier to_x. assigned_where_fresh (is_initial f) (read_for f) y earlier ((comes.readable m rest).fresh earlier to_x)) n left past path (always past path));
    }
    good_new (Const w) its comes n left always = record {
      holds = its;
      stands = λ z is. absurd (both_ways false refl is);
      assigned = λ z is past path. absurd (both_ways false refl is);
    }

    good_put : (n : ℕ) (left : List ℕ) (a : Operand) → IsGood f n left a → IsGood f n left (put x by a)
    good_put n left a good = ⊎_elim
        (λ new. subst (IsGood f n left) (sym new.1) (good_new by holds before n left (good.assigned x new.0)))
        (λ old. subst (IsGood f n left) (sym old.1) good)
        (put_cases a)

    good : AreGood (put_in_phi x by) (put_in_stmt x by) end_of same_blocks (λ phi. refl) (λ s. refl) same_targets f
    good = record {
      phis = λ b one phi mine m a arg.
          let old = member_mapped (put_in_arg x by) (m, a) phi.args arg in
          subst (λ (p : ℕ × Operand). IsGood f p.0 [] p.1) old.2 (good_put old.0.0 [] old.0.1 (good_in_phi f valid b one phi mine old.0.0 old.0.1 old.1));
      stmts = λ b one front stmt rest is a mine.
          let old = member_mapped (put x by) a (operands_of_rhs stmt.rhs) (subst (IsMember a) (rhs_operands stmt.rhs) mine) in
          subst (IsGood f b.number (map (λ (s : Stmt). s.name) (stmt ∷ rest))) old.2
          (good_put b.number (map (λ (s : Stmt). s.name) (stmt ∷ rest)) old.0 (good_in_stmt f valid b one front stmt rest is old.0 old.1));
      ends = λ b one a mine.
          let old = member_mapped (put x by) a (operands_of_end b.end) (subst (IsMember a) (end_operands b.end) mine) in
          subst (IsGood f b.number []) old.2 (good_put b.number [] old.0 (good_at_end f valid b one old.0 old.1));
    }

    typed : AreTyped (put_in_phi x by) (put_in_stmt x by) end_of same_blocks (λ phi. refl) (λ s. refl) same_targets f
    typed = record {
      phis = λ b one phi mine.
          let old = block_holds f valid.well_formed.operands b one in
          phi_fits_put f type phi (λ a arg. old.each a (operand_of_phis b a (part_member operands_of_phi a phi b.phis mine arg)))
          (all_members (phi_fits f) b.phis (and_parts _ _ (and_parts _ _ old.fits).0).0 phi mine);
      stmts = λ b one stmt mine.
          let old = block_holds f valid.well_formed.operands b one in
          stmt_fits_put f type stmt (λ a its. old.each a (operand_of_stmts b a (part_member operands_of_stmt a stmt b.stmts mine its)))
          (all_members (stmt_fits f) b.stmts (and_parts _ _ (and_parts _ _ old.fits).0).1 stmt mine);
      ends = λ b one.
          let old = block_holds f valid.well_formed.operands b one in
          end_fits_put f type b.end (λ a its. old.each a (operand_of_end b a its)) (and_parts _ _ old.fits).1;
    }

    read_put : (w z : ℕ) → is_among z (read_for (put_in f) w) ≡ true → (is_among z (read_for f w) ≡ true) ⊎ ((is_among x (read_for f w) ≡ true) × (is_name z by ≡ true))
    read_put w z reads =
        let found = reads_changed (put_in_phi x by) (put_in_stmt x by) end_of same_blocks (λ phi. refl) (λ s. refl) same_targets f w z reads in
        ⊎_elim
        (λ old. inl (first_reads f w z found.stmt found.first old))
        (λ new. inr (first_reads f w x found.stmt found.first new.0, new.1))
        (names_put z (operands_of_stmt found.stmt) (subst (λ operands. IsMember z (names_among operands)) (rhs_operands found.stmt.rhs) found.reads))

    apart : (a : Operand) → by ≡ a → OperandComesBefore f a x → (w : ℕ) → Supports (read_for (put_in f)) w w → ⊥
    apart (Name y t) same comes w supports =
        none_with_name (read_for f) (read_for (put_in f)) x y
        (λ u z reads. ⊎_elim (λ old. inl old) (λ new. inr (new.0, eqb-true y z (subst (λ a. is_name z a ≡ true) same new.1))) (read_put u z reads))
        comes.apart (none_in_own_support f valid) w supports
    apart (Const c) same comes w supports =
        none_in_own_support f valid w (supports_within (read_for f) (read_for (put_in f)) (λ u z reads.
        ⊎_elim (λ old. old) (λ new. absurd (both_ways false refl (subst (λ a. is_name z a ≡ true) same new.1))) (read_put u z reads)) w w supports)

    valid_trimmed : IsValid (trimmed (put_in f))
    valid_trimmed =
        valid_changed (put_in_phi x by) (put_in_stmt x by) end_of same_blocks (λ phi. refl) (λ s. refl) same_targets f good valid typed
        (bounds_of_count f (put_in_block x by) count_block valid.well_formed.bounds) (apart by refl before)

    -- ---- each row still stands

    operands_of_phis : (phis : List Phi) → flat_map operands_of_phi (map (put_in_phi x by) phis) ≡ map (put x by) (flat_map operands_of_phi phis)
    operands_of_phis [] = refl
    operands_of_phis (phi ∷ phis) =
        ap (λ l. l ++ flat_map operands_of_phi (map (put_in_phi x by) phis)) (args phi.args)
        ∙ (ap (λ l. map (put x by) (operands_of_phi phi) ++ l) (operands_of_phis phis) ∙ sym (map-append (put x by) (operands_of_phi phi) (flat_map operands_of_phi phis)))
      where
        args : (pairs : List (ℕ × Operand)) → map (λ (arg : ℕ × Operand). arg.1) (map (put_in_arg x by) pairs) ≡ map (put x by) (map (λ (arg : ℕ × Operand). arg.1) pairs)
        args [] = refl
        args (arg ∷ pairs) = ap (λ l. put x by arg.1 ∷ l) (args pairs)

    operands_of_stmts : (stmts : List Stmt) → flat_map operands_of_stmt (map (put_in_stmt x by) stmts) ≡ map (put x by) (flat_map operands_of_stmt stmts)
    operands_of_stmts [] = refl
    operands_of_stmts (s ∷ stmts) =
        ap (λ l. l ++ flat_map operands_of_stmt (map (put_in_stmt x by) stmts)) (rhs_operands s.rhs)
        ∙ (ap (λ l. map (put x by) (operands_of_stmt s) ++ l) (operands_of_stmts stmts) ∙ sym (map-append (put x by) (operands_of_stmt s) (flat_map operands_of_stmt stmts)))

    operands_of_put : (b : Block) → operands_of_block (put_in_block x by b) ≡ map (put x by) (operands_of_block b)
    operands_of_put b =
        let phis = flat_map operands_of_phi b.phis in
        let stmts = flat_map operands_of_stmt b.stmts in
        ap (λ l. (l ++ flat_map operands_of_stmt (map (put_in_stmt x by) b.stmts)) ++ operands_of_end (put_in_end x by b.end)) (operands_of_phis b.phis)
        ∙ (ap (λ l. (map (put x by) phis ++ l) ++ operands_of_end (put_in_end x by b.end)) (operands_of_stmts b.stmts)
        ∙ (ap (λ l. (map (put x by) phis ++ map (put x by) stmts) ++ l) (end_operands b.end)
        ∙ (ap (λ l. l ++ map (put x by) (operands_of_end b.end)) (sym (map-append (put x by) phis stmts)) ∙ sym (map-append (put x by) (phis ++ stmts) (operands_of_end b.end)))))

    used_still : (y : ℕ) → (y ≡ x → ⊥) → is_used f y ≡ true → is_used (put_in f) y ≡ true
    used_still y other used =
        let found = used_in_block f y used in
        let a = found.2.0 in
        let kept : put x by a ≡ a = ⊎_elim (λ new. absurd (other (both_names y a found.2.2 new.0))) (λ old. old.1) (put_cases a) in
        let among : IsMember a (operands_of_block (put_in_block x by found.0)) =
        subst (IsMember a) (sym (operands_of_put found.0)) (subst (λ c. IsMember c (map (put x by) (operands_of_block found.0))) kept (mapped_member (put x by) a (operands_of_block found.0) found.2.1)) in
        named_is_used (put_in f) y a
        (operand_of_block (put_in f) (put_in_block x by found.0) a (mapped_member (put_in_block x by) found.0 f.blocks found.1) among) found.2.2
      where
        both_names : (z : ℕ) (b : Operand) → is_name z b ≡ true → is_name x b ≡ true → z ≡ x
        both_names z (Name v t) is also = sym (eqb-true v z is) ∙ eqb-true v x also
        both_names z (Const w) is also = absurd (both_ways false refl is)

    stands_still : (y : ℕ) → stands_in f y ≡ true → stands_in (put_in f) y ≡ true
    stands_still y stands = ⊎_elim
        (λ was. assigned_stands (put_in f) y (still y was))
        (λ used. ⊎_elim
        (λ same. assigned_stands (put_in f) y (still y (subst (λ z. is_assigned f z ≡ true) (sym same) assigned)))
        (λ other. used_stands (put_in f) y (used_still y other used))
        (cases_eq y x))
        (or_cases (is_assigned f y) (is_used f y) stands)
      where
        still : (z : ℕ) → is_assigned f z ≡ true → is_assigned (put_in f) z ≡ true
        still z is = subst (λ l. is_among z l ≡ true) (sym (same_assigned (put_in_phi x by) (put_in_stmt x by) end_of same_blocks (λ phi. refl) (λ s. refl) same_targets f)) is

    all_rows_stay : list_all (row_stays (put_in f)) f.names ≡ true
    all_rows_stay = all_from_members (row_stays (put_in f)) f.names (λ row one.
        let holds_row = all_members (λ (r : NameRow). base_holds f r && row_stands f r) f.names (rows_hold f valid.well_formed.names) row one in
        ⊎_elim
        (λ stands. or_left (stands_in (put_in f) row.version) (is_empty_text row.base) (stands_still row.version stands))
        (λ empty. or_right (stands_in (put_in f) row.version) (is_empty_text row.base) empty)
        (or_cases (stands_in f row.version) (is_empty_text row.base) (stays_where_stands f row (and_parts _ _ holds_row).1)))

    pub valid_with_put : IsValid (put_in_all x by f)
    valid_with_put = subst IsValid (trimmed_with_all (put_in f) all_rows_stay ∙ sym (put_is f)) valid_trimmed
