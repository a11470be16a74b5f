-- The first phi that has one operand goes, and that operand is put for it: the function stays valid and keeps its defined runs.
use Rattle.std.proofs.Common.{◌≡◌, ℕ, zero, suc, ◌<◌, true, false, ◌||◌, Option, Some, None, List, [], ◌∷◌, ◌++◌, length, map, eqb, refl, sym, subst, ◌∙◌, inl, ⊎_elim, arith}
use Rattle.std.specs.Bool.{IsTrue}
use Rattle.std.specs.List.{list_all}
use Rattle.std.specs.Option.{option_map_or}
use Rattle.std.proofs.lemmas.Bool.{and_parts, or_cases, or_left, or_right, both_ways, eq-eqb, eqb-true}
use Rattle.pm_wide.specs.Types.{same_type}
use Rattle.pm_wide.specs.declared.operand.Operand.{Operand}
use Rattle.pm_wide.specs.declared.operand.Operand.TheVariants.{Name, Const}
use Rattle.pm_wide.proofs.Results.{same_type_is}
use Rattle.gim_ast.specs.declared.function.Function.{Function}
use Rattle.gim_ast.specs.declared.function.Block.{Block}
use Rattle.gim_ast.specs.declared.function.Phi.{Phi}
use Rattle.gim_ast.specs.declared.function.NameRow.{NameRow}
use Rattle.gim_ast.specs.Functions.{is_name, same_operand, phi_name, stmt_name, assigned, assigned_in, operands_of, operands_of_phi, block_of, right_of, row_of, targets_of}
use Rattle.gim_ast.specs.WellFormed.{is_assigned, is_among, operand_holds, phi_fits, type_of}
use Rattle.gim_ast.specs.Paths.{flow_of, Path}
use Rattle.gim_ast.specs.Readable.{read_for, is_initial, Supports, IsReadable, IsValid}
use Rattle.gim_ast.specs.Runs.{entry_of}
use Rattle.gim_ast.proofs.ReadableLemmas.{support_is_readable}
use Rattle.gim_changes.specs.Substitution.{put_in_phi, put_in_block, put_in_all}
use Rattle.gim_changes.specs.Trimming.{trimmed}
use Rattle.gim_changes.specs.Validity.{OperandComesBefore, has_type_of}
use Rattle.gim_changes.proofs.AssignedBefore.{assigned_where_fresh, assigned_earlier}
use Rattle.gim_changes.proofs.ChangedBlocks.{block_holds}
use Rattle.gim_changes.proofs.GoodOperands.{name_among, named_is_used}
use Rattle.gim_changes.proofs.GrownRules.{same_type_itself}
use Rattle.gim_changes.proofs.Members.{IsMember, all_members, all_from_members, each_member, member_left, member_splits, mapped_member, part_member}
use Rattle.gim_changes.proofs.NamesRead.{by_phi, said_where_read}
use Rattle.gim_changes.proofs.NamesUsed.{operand_of_phis, operand_of_block, used_stands}
use Rattle.gim_changes.proofs.PhiArguments.{argument_comes_before}
use Rattle.gim_changes.proofs.Points.{path_point, one_point}
use Rattle.gim_changes.proofs.AlwaysAssigned.{flow_once}
use Rattle.gim_changes.proofs.RulesOfNames.{IsOrdered, ordered, first_passes, member_among, point_of_block}
use Rattle.gim_changes.proofs.ValidSubstitution.{valid_with_put}
use Rattle.gim_changes.proofs.ValidWithout.{valid_without}
use Rattle.gim_meaning.specs.KeptRuns.{KeepsDefinedRuns}
use Rattle.gim_meaning.proofs.KeptInARow.{keeps_through}
use Rattle.gim_meaning.proofs.PathsBack.{came_by}
use Rattle.gim_meaning.proofs.PhiReading.{has_argument}
use Rattle.gim_meaning.proofs.PhiRemovalRuns.{without_runs_alike}
use Rattle.gim_meaning.proofs.PhisOfOneOperand.{one_operand_keeps_runs, one_operand_runs_alike}
use Rattle.gim_meaning.proofs.RemovalRuns.{removal_keeps_runs}
use Rattle.gim_meaning.proofs.RightSides.{HasNoRight, no_right_at_phis}
use Rattle.gim_meaning.proofs.TrimmingRuns.{trimming_keeps_runs}
use Rattle.cfg_tidy.specs.Phis.{first_copy, replaced}
use Rattle.cfg_tidy.specs.Reached.{IsReached}
use Rattle.cfg_tidy.specs.SameRuns.{RunAlike}
use Rattle.cfg_tidy.specs.Tidying.{AllReached}
use Rattle.cfg_tidy.proofs.FirstCopy.{HasOne, copy_at, same_operand_is, reads_only}
use Rattle.cfg_tidy.proofs.ReachedPaths.{member_is_found, goes_through, head_path}
use Rattle.cfg_tidy.proofs.RunningAlike.{entry_phis}
use Rattle.cfg_tidy.proofs.UnusedNames.{unused_where_put}

module _ (f : Function) (valid : IsValid f) (reached : AllReached f.blocks f.blocks) (home : Block) (one : IsMember home f.blocks)
    (phi : Phi) (mine : IsMember phi home.phis) (by : Operand) (has : HasOne phi by) where
  abbrev x : ℕ
  x = phi.name

  order : IsOrdered f
  order = ordered f valid.well_formed

  split : (front : List Phi) × (rest : List Phi) × (home.phis ≡ front ++ phi ∷ rest)
  split = member_splits phi home.phis mine

  found : block_of f home.number ≡ Some home
  unfolding block_of
  found = member_is_found f.blocks order.numbers home one

  assigned_there : IsMember x (assigned_in home)
  assigned_there = member_left x (map phi_name home.phis) (map stmt_name home.stmts) (mapped_member phi_name phi home.phis mine)

  x_assigned : is_assigned f x ≡ true
  unfolding assigned
  x_assigned = member_among x (assigned f) (part_member assigned_in x home f.blocks one assigned_there)

  not_initial : IsTrue (is_initial f x) → ⊥
  not_initial initial = both_ways (is_assigned f x) (order.unassigned x initial) x_assigned

  -- ---- the operand

  by_member : IsMember by (operands_of_phi phi)
  by_member = subst (λ a. IsMember a (operands_of_phi phi)) has.is (mapped_member (λ (arg : ℕ × Operand). arg.1) has.arg phi.args has.among)

  by_there : IsMember by (operands_of f)
  by_there = operand_of_block f home by one (operand_of_phis home by (part_member operands_of_phi by phi home.phis mine by_member))

  by_holds : operand_holds f by ≡ true
  by_holds = (block_holds f valid.well_formed.operands home one).each by (operand_of_phis home by (part_member operands_of_phi by phi home.phis mine by_member))

  turned : (o : Option NameRow) → option_map_or (λ (row : NameRow). list_all (λ (arg : ℕ × Operand). same_type (type_of arg.1) row.ty) phi.args) o false ≡ true →
      option_map_or (λ (row : NameRow). same_type row.ty (type_of by)) o false ≡ true
  turned None h = h
  turned (Some row) h =
      let same = same_type_is (type_of has.arg.1) row.ty (all_members (λ (arg : ℕ × Operand). same_type (type_of arg.1) row.ty) phi.args h has.arg has.among) in
      subst (λ a. same_type row.ty (type_of a) ≡ true) has.is (subst (λ t. same_type row.ty t ≡ true) (sym same) (same_type_itself row.ty))

  by_typed : has_type_of f x by ≡ true
  by_typed =
      let fits = (block_holds f valid.well_formed.operands home one).fits in
      turned (row_of f x) (all_members (phi_fits f) home.phis (and_parts _ _ (and_parts _ _ fits).0).0 phi mine)

  -- ---- it comes before the phi

  number_is : (n : ℕ) (left past : List ℕ) → Path (flow_of f) n (x ∷ left) past → home.number ≡ n
  number_is n left past path =
      let place = member_splits x (assigned_in home) assigned_there in
      (one_point (flow_of f) (flow_once f order) x home.number n place.1 left (point_of_block f order.numbers home one place.0 (x ∷ place.1) place.2)
      (path_point (flow_of f) n (x ∷ left) past path)).0

  is_not_entry : home.number ≡ entry_of f.blocks → ⊥
  unfolding block_of
  is_not_entry same =
      let plain = (and_parts _ _ (and_parts _ _ (and_parts _ _ valid.well_formed.blocks).0).0).0 in
      let none = entry_phis f.blocks plain home (subst (λ m. block_of f m ≡ Some home) same found) in
      subst (IsMember phi) none mine

  way_to_phi : (left : List ℕ) × (past : List ℕ) × Path (flow_of f) home.number (x ∷ left) past
  way_to_phi =
      let place = member_splits x (assigned_in home) assigned_there in
      let head = head_path f home.number (each_member (λ (block : Block). IsReached f.blocks block.number) f.blocks reached home one) home found in
      let on = goes_through f home.number place.0 (x ∷ place.1) head.0 (subst (λ l. Path (flow_of f) home.number l head.0) place.2 head.1) in
      (place.1, on.0, on.1)

  module _ (y : ℕ) (all : list_all (λ (arg : ℕ × Operand). is_name y arg.1 || is_name x arg.1) phi.args ≡ true) (supports : Supports (read_for f) y x) where
    -- what the phi reads, or has in its support, is readable where it is read
    x_readable : (arg : ℕ × Operand) → IsMember arg phi.args → IsReadable f x arg.0 []
    x_readable arg among = ⊎_elim
        (λ its. support_is_readable f valid y x arg.0 [] (said_where_read (IsReadable f) f valid.readable y arg.0 [] (home, one, by_phi phi arg.1 mine among (name_among y arg.1 (arg.1 ∷ []) (inl refl) its) refl)) supports)
        (λ own. said_where_read (IsReadable f) f valid.readable x arg.0 [] (home, one, by_phi phi arg.1 mine among (name_among x arg.1 (arg.1 ∷ []) (inl refl) own) refl))
        (or_cases (is_name y arg.1) (is_name x arg.1) (all_members (λ (a : ℕ × Operand). is_name y a.1 || is_name x a.1) phi.args all arg among))

    -- so there is no first time that a path comes to the phi
    never_reached : (long n : ℕ) (left past : List ℕ) → length past < long → Path (flow_of f) n (x ∷ left) past → ⊥
    never_reached zero n left past within path = omega (arith, within)
    never_reached (suc long) n left past within path = ⊎_elim
        (λ at_entry. is_not_entry (number_is n left past path ∙ at_entry))
        (λ came.
        let arg = has_argument f valid.well_formed home found split.0 phi split.1 split.2 came.before came.found
        (subst (λ m. is_among m (targets_of came.before.end) ≡ true) (sym (number_is n left past path)) came.jumps) in
        let passes = first_passes (λ (a : ℕ × Operand). eqb a.0 came.before.number) phi.args arg.0 arg.1 in
        let readable = subst (λ m. IsReadable f x m []) (eqb-true arg.0.0 came.before.number passes.1) (x_readable arg.0 passes.0) in
        let assigned_before = assigned_where_fresh (is_initial f) (read_for f) x came.earlier (readable.fresh came.earlier came.path) in
        let earlier = assigned_earlier (flow_of f) (is_initial f) x not_initial came.before.number [] came.earlier came.path assigned_before in
        never_reached long earlier.at earlier.left earlier.before (omega (arith, earlier.shorter, came.shorter, within)) earlier.path)
        (came_by f n (x ∷ left) past path)

  apart : (y : ℕ) → list_all (λ (arg : ℕ × Operand). is_name y arg.1 || is_name x arg.1) phi.args ≡ true → Supports (read_for f) y x → ⊥
  apart y all supports = never_reached y all supports (suc (length way_to_phi.1)) home.number way_to_phi.0 way_to_phi.1 (omega arith) way_to_phi.2

  named_same : (y : ℕ) (a b : Operand) → is_name y a ≡ true → same_operand a b ≡ true → is_name y b ≡ true
  named_same y a b named same = subst (λ c. is_name y c ≡ true) (same_operand_is a b same) named

  all_named : (y : ℕ) → is_name y by ≡ true → list_all (λ (arg : ℕ × Operand). is_name y arg.1 || is_name x arg.1) phi.args ≡ true
  all_named y named = all_from_members (λ (arg : ℕ × Operand). is_name y arg.1 || is_name x arg.1) phi.args (λ arg among. ⊎_elim
      (λ own. or_right (is_name y arg.1) (is_name x arg.1) own)
      (λ same. or_left (is_name y arg.1) (is_name x arg.1) (named_same y by arg.1 named same))
      (or_cases (is_name x arg.1) (same_operand by arg.1) (all_members (λ (a : ℕ × Operand). is_name x a.1 || same_operand by a.1) phi.args has.all arg among)))

  name_comes : (y : ℕ) → is_name y by ≡ true → (y ≡ x → ⊥) → OperandComesBefore f by x
  name_comes y named other = comes by refl
    where
      comes : (a : Operand) → a ≡ by → OperandComesBefore f a x
      comes (Const w) is = tt
      comes (Name z t) is =
          let same : z ≡ y = eqb-true z y (subst (λ a. is_name y a ≡ true) (sym is) named) in
          subst (λ v. OperandComesBefore f (Name v t) x) (sym same)
          (argument_comes_before f valid home one phi mine y (all_named y named) (used_stands f y (named_is_used f y by by_there named)) other (apart y (all_named y named)))

  by_comes : OperandComesBefore f by x
  by_comes = choose by refl
    where
      choose : (a : Operand) → by ≡ a → OperandComesBefore f by x
      choose (Const w) is = subst (λ a. OperandComesBefore f a x) (sym is) tt
      choose (Name y t) is =
          let named : is_name y by ≡ true = subst (λ a. is_name y a ≡ true) (sym is) (eq-eqb y y refl) in
          name_comes y named (λ same. both_ways (is_name x by) has.other (subst (λ z. is_name z by ≡ true) same named))

  -- ---- so it may go

  pub stays_valid : IsValid (trimmed (replaced x by f))
  stays_valid = valid_without x (put_in_all x by f) (valid_with_put x by f valid x_assigned by_holds by_typed by_comes) (unused_where_put x by has.other f)

  put_valid : IsValid (put_in_all x by f)
  put_valid = valid_with_put x by f valid x_assigned by_holds by_typed by_comes

  put_found : block_of (put_in_all x by f) home.number ≡ Some (put_in_block x by home)
  unfolding block_of put_in_all
  put_found = member_is_found (map (put_in_block x by) f.blocks) (ordered (put_in_all x by f) put_valid.well_formed).numbers (put_in_block x by home)
      (mapped_member (put_in_block x by) home f.blocks one)

  -- no statement assigns the phi's name, also where the operand is put for it
  no_right_there : right_of (put_in_all x by f) x ≡ None
  no_right_there = each_member (HasNoRight (put_in_all x by f)) (map (put_in_phi x by) home.phis)
      (no_right_at_phis (put_in_all x by f) put_valid.well_formed home.number (put_in_block x by home) put_found) (put_in_phi x by phi)
      (mapped_member (put_in_phi x by) phi home.phis mine)

  pub runs_alike : RunAlike f (replaced x by f)
  runs_alike args fuel =
      without_runs_alike x (put_in_all x by f) put_valid.well_formed (unused_where_put x by has.other f) no_right_there args fuel
      ∙ one_operand_runs_alike f valid home found split.0 phi split.1 split.2 by (reads_only x by phi.args has.all) by_comes args fuel

  pub keeps_runs : KeepsDefinedRuns f (trimmed (replaced x by f))
  keeps_runs =
      let put = one_operand_keeps_runs f valid home found split.0 phi split.1 split.2 by (reads_only x by phi.args has.all) by_comes in
      let removed = removal_keeps_runs x (put_in_all x by f) (unused_where_put x by has.other f) in
      keeps_through f (put_in_all x by f) (trimmed (replaced x by f)) put
      (keeps_through (put_in_all x by f) (replaced x by f) (trimmed (replaced x by f)) removed (trimming_keeps_runs (replaced x by f)))

pub copy_runs_alike : (f : Function) (x : ℕ) (by : Operand) → IsValid f → AllReached f.blocks f.blocks → first_copy f.blocks ≡ Some (x, by) → RunAlike f (replaced x by f)
copy_runs_alike f x by valid reached is =
    let at = copy_at f.blocks x by is in
    subst (λ z. RunAlike f (replaced z by f)) at.name (runs_alike f valid reached at.home at.one at.phi at.mine by at.has)

pub copy_stays_valid : (f : Function) (x : ℕ) (by : Operand) → IsValid f → AllReached f.blocks f.blocks → first_copy f.blocks ≡ Some (x, by) → IsValid (trimmed (replaced x by f))
copy_stays_valid f x by valid reached is =
    let at = copy_at f.blocks x by is in
    subst (λ z. IsValid (trimmed (replaced z by f))) at.name (stays_valid f valid reached at.home at.one at.phi at.mine by at.has)

pub copy_keeps_runs : (f : Function) (x : ℕ) (by : Operand) → IsValid f → AllReached f.blocks f.blocks → first_copy f.blocks ≡ Some (x, by) → KeepsDefinedRuns f (trimmed (replaced x by f))
copy_keeps_runs f x by valid reached is =
    let at = copy_at f.blocks x by is in
    subst (λ z. KeepsDefinedRuns f (trimmed (replaced z by f))) at.name (keeps_runs f valid reached at.home at.one at.phi at.mine by at.has)
