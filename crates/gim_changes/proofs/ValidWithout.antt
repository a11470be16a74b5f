-- A valid function without the phi or statement of a name that nothing uses is valid, once its rows are trimmed.
use Rattle.std.proofs.Common.{◌≡◌, ◌⊎◌, ℕ, zero, suc, ◌+◌, ◌^◌, ◌<◌, ◌≤◌, Bool, true, false, cond, not, ◌&&◌, Option, Some, None, List, [], ◌∷◌, ◌++◌, length, map, filter, flat_map, eqb, refl, sym, ap, ◌∙◌, subst, inl, inr, ⊎_elim, arith, length-append}
use Rattle.std.specs.Prelude.{nat_lt}
use Rattle.std.specs.List.{list_all}
use Rattle.std.specs.Option.{option_map, option_map_or}
use Rattle.std.proofs.lemmas.Bool.{and_parts, and_from, not-true, both_ways, eqb-true, eq-eqb, false_from_ne_true, cases_eq}
use Rattle.std.proofs.lemmas.List.{length-map}
use Rattle.std.proofs.lemmas.Option.{same_Some, none-some}
use Rattle.std.proofs.lemmas.List.Elements.{filter-append}
use Rattle.pm_wide.specs.declared.operand.Operand.{Operand}
use Rattle.gim_ast.specs.declared.function.Function.{Function}
use Rattle.gim_ast.specs.declared.function.Block.{Block}
use Rattle.gim_ast.specs.declared.function.Stmt.{Stmt}
use Rattle.gim_ast.specs.declared.function.Rhs.{Rhs}
use Rattle.gim_ast.specs.Functions.{row_of, targets_of, operands_of, operands_of_block, operands_of_phi, operands_of_stmt, operands_of_end, operands_of_rhs, assigned, stmt_name, stmts_of, right_of, first_where, is_used}
use Rattle.gim_ast.specs.WellFormed.{is_among, is_assigned, phi_fits, stmt_fits, end_fits, operands_hold, bounds_hold, IsWellFormed}
use Rattle.gim_ast.specs.Paths.{stretch_of, flow_of, Path}
use Rattle.gim_ast.specs.Readable.{names_among, read_for, is_initial, IsValid}
use Rattle.gim_changes.specs.Removal.{phi_stays, stmt_stays, without, without_in_block, last_or, last_unused, unused}
use Rattle.gim_changes.specs.Trimming.{trimmed, tidied}
use Rattle.gim_changes.specs.Validity.{IsAssignedAfter}
use Rattle.gim_changes.proofs.Unused.{fewer_assigned, pruned_end, pruned_more, assigned_without, others_in_block, names_of_others}
use Rattle.gim_changes.proofs.TrimmedFirst.{used_before, tidied_trimmed}
use Rattle.gim_changes.proofs.Members.{first_or, rest_of, IsMember, all_members, all_from_members, member_cases, member_filtered, filtered_member, member_mapped, member_middle, member_of_parts, part_member}
use Rattle.gim_changes.proofs.DistinctNumbers.{AreDistinct, distinct_filtered}
use Rattle.gim_changes.proofs.FilteredLists.{first_of_filtered}
use Rattle.gim_changes.proofs.Unused.{other}
use Rattle.gim_changes.proofs.PathsWithout.{less, assigned_without_it, lifted_to, lifted_to_end}
use Rattle.gim_changes.proofs.NamesRead.{IsReadIn, by_phi, by_stmt, by_end}
use Rattle.gim_changes.proofs.NamesUsed.{read_is_used, used_stands, operand_of_phis, operand_of_stmts, operand_of_end}
use Rattle.gim_changes.proofs.RulesOfNames.{ordered, StandsAt, among_member, member_among, reader}
use Rattle.gim_changes.proofs.AlwaysAssigned.{AreUsesAssigned, uses_assigned, point_of_stmt}
use Rattle.gim_changes.proofs.ComesBefore.{none_in_own_support}
use Rattle.gim_changes.proofs.SupportChanges.{supports_within}
use Rattle.gim_changes.proofs.ReadyToTrim.{IsReadyToTrim, trimmed_valid, trimmed_is, assigned_from_more, below}
use Rattle.gim_changes.proofs.ChangedBlocks.{IsLikeBlock, mapped_like, with_blocks, ready_with_blocks, BlockHolds, block_holds, holds_with_blocks, operands_from}

-- ---- the rules

module _ (x : ℕ) where
  like_without : (b : Block) → IsLikeBlock b (without_in_block x b)
  like_without b = record {
    joint_is = refl;
    phis = λ phi one. (phi, (member_filtered (phi_stays x) phi b.phis one).0, refl);
  }

  operand_before : (b : Block) (a : Operand) → IsMember a (operands_of_block (without_in_block x b)) → IsMember a (operands_of_block b)
  operand_before b a one =
      let phis = filter (phi_stays x) b.phis in
      let stmts = filter (stmt_stays x) b.stmts in
      ⊎_elim
      (λ front. ⊎_elim
      (λ in_phi. let found = member_of_parts operands_of_phi a phis in_phi in
      operand_of_phis b a (part_member operands_of_phi a found.0 b.phis (member_filtered (phi_stays x) found.0 b.phis found.1).0 found.2))
      (λ in_stmt. let found = member_of_parts operands_of_stmt a stmts in_stmt in
      operand_of_stmts b a (part_member operands_of_stmt a found.0 b.stmts (member_filtered (stmt_stays x) found.0 b.stmts found.1).0 found.2))
      (member_cases a (flat_map operands_of_phi phis) (flat_map operands_of_stmt stmts) front))
      (λ at_end. operand_of_end b a at_end)
      (member_cases a (flat_map operands_of_phi phis ++ flat_map operands_of_stmt stmts) (operands_of_end b.end) one)

  fewer_of : {X : Type 0} (g : X → List Operand) (p : X → Bool) (xs : List X) → length (flat_map g (filter p xs)) ≤ length (flat_map g xs)
  fewer_of g p [] = omega arith
  fewer_of {X} g p (y ∷ xs) = by (p y) (fewer_of g p xs)
    where
      by : (b : Bool) → length (flat_map g (filter p xs)) ≤ length (flat_map g xs) → length (flat_map g (cond b (y ∷ filter p xs) (filter p xs))) ≤ length (g y ++ flat_map g xs)
      by true rest = omega (arith, rest, length-append (g y) (flat_map g xs), length-append (g y) (flat_map g (filter p xs)))
      by false rest = omega (arith, rest, length-append (g y) (flat_map g xs))

  fewer_in_block : (b : Block) → length (operands_of_block (without_in_block x b)) ≤ length (operands_of_block b)
  fewer_in_block b =
      let phis = flat_map operands_of_phi b.phis in
      let stmts = flat_map operands_of_stmt b.stmts in
      let few_phis = flat_map operands_of_phi (filter (phi_stays x) b.phis) in
      let few_stmts = flat_map operands_of_stmt (filter (stmt_stays x) b.stmts) in
      let ends = operands_of_end b.end in
      omega (
        arith,
        fewer_of operands_of_phi (phi_stays x) b.phis,
        fewer_of operands_of_stmt (stmt_stays x) b.stmts,
        length-append (phis ++ stmts) ends,
        length-append phis stmts,
        length-append (few_phis ++ few_stmts) ends,
        length-append few_phis few_stmts,
      )

  fewer_in_blocks : (bs : List Block) → length (flat_map operands_of_block (map (without_in_block x) bs)) ≤ length (flat_map operands_of_block bs)
  fewer_in_blocks [] = omega arith
  fewer_in_blocks (b ∷ bs) =
      omega (
        arith,
        fewer_in_block b,
        fewer_in_blocks bs,
        length-append (operands_of_block b) (flat_map operands_of_block bs),
        length-append (operands_of_block (without_in_block x b)) (flat_map operands_of_block (map (without_in_block x) bs)),
      )

  holds_without : (f : Function) (b : Block) → BlockHolds f b → BlockHolds f (without_in_block x b)
  holds_without f b holds =
      let parts = and_parts (list_all (phi_fits f) b.phis && list_all (stmt_fits f) b.stmts) (end_fits f b.end) holds.fits in
      let both = and_parts (list_all (phi_fits f) b.phis) (list_all (stmt_fits f) b.stmts) parts.0 in
      record {
        each = λ a one. holds.each a (operand_before b a one);
        fits = and_from (list_all (phi_fits f) (filter (phi_stays x) b.phis) && list_all (stmt_fits f) (filter (stmt_stays x) b.stmts)) (end_fits f b.end)
            (and_from (list_all (phi_fits f) (filter (phi_stays x) b.phis)) (list_all (stmt_fits f) (filter (stmt_stays x) b.stmts))
            (all_from_members (phi_fits f) (filter (phi_stays x) b.phis) (λ phi one. all_members (phi_fits f) b.phis both.0 phi (member_filtered (phi_stays x) phi b.phis one).0))
            (all_from_members (stmt_fits f) (filter (stmt_stays x) b.stmts) (λ stmt one. all_members (stmt_fits f) b.stmts both.1 stmt (member_filtered (stmt_stays x) stmt b.stmts one).0)))
            parts.1;
      }

  assigned_then : (f : Function) (y : ℕ) → is_assigned (without x f) y ≡ true → is_assigned f y ≡ true
  assigned_then f y is =
      member_among y (assigned f) (member_filtered (other x) y (assigned f) (subst (IsMember y) (assigned_without x f) (among_member y (assigned (without x f)) is))).0

  assigned_still : (f : Function) (y : ℕ) → (y ≡ x → ⊥) → is_assigned f y ≡ true → is_assigned (without x f) y ≡ true
  assigned_still f y apart is =
      member_among y (assigned (without x f)) (subst (IsMember y) (sym (assigned_without x f))
      (filtered_member (other x) y (assigned f) (among_member y (assigned f) is) (ap not (false_from_ne_true (eqb y x) (λ same. apart (eqb-true y x same))))))

  apart_where_used : (f : Function) → is_used f x ≡ false → (y : ℕ) → is_used f y ≡ true → y ≡ x → ⊥
  apart_where_used f unused y used same = both_ways (is_used f x) unused (subst (λ z. is_used f z ≡ true) same used)

  bounds_without : (f : Function) → bounds_hold f ≡ true → bounds_hold (without x f) ≡ true
  unfolding without operands_of
  bounds_without f holds =
      let parts = and_parts (nat_lt (length f.blocks) (2 ^ 31) && nat_lt (length f.names) (2 ^ 31)) (nat_lt (length (operands_of f)) (2 ^ 31)) holds in
      let both = and_parts (nat_lt (length f.blocks) (2 ^ 31)) (nat_lt (length f.names) (2 ^ 31)) parts.0 in
      and_from (nat_lt (length (map (without_in_block x) f.blocks)) (2 ^ 31) && nat_lt (length f.names) (2 ^ 31)) (nat_lt (length (flat_map operands_of_block (map (without_in_block x) f.blocks))) (2 ^ 31))
      (and_from (nat_lt (length (map (without_in_block x) f.blocks)) (2 ^ 31)) (nat_lt (length f.names) (2 ^ 31))
      (subst (λ n. nat_lt n (2 ^ 31) ≡ true) (sym (length-map f.blocks (without_in_block x))) both.0) both.1)
      (below (length (flat_map operands_of_block (map (without_in_block x) f.blocks))) (length (operands_of f)) (2 ^ 31) (fewer_in_blocks f.blocks) parts.1)

  operands_without : (f : Function) → operands_hold f ≡ true → operands_hold (without x f) ≡ true
  unfolding without
  operands_without f holds = operands_from (with_blocks (map (without_in_block x) f.blocks) f) (λ c one.
      let found = member_mapped (without_in_block x) c f.blocks one in
      holds_with_blocks f (map (without_in_block x) f.blocks) c (subst (BlockHolds f) found.2 (holds_without f found.0 (block_holds f holds found.0 found.1))))

  pub ready_without : (f : Function) → IsWellFormed f → is_used f x ≡ false → IsReadyToTrim (without x f)
  unfolding without
  ready_without f well unused =
      ready_with_blocks f (map (without_in_block x) f.blocks) well
      (assigned_then f)
      (subst AreDistinct (sym (assigned_without x f)) (distinct_filtered (other x) (assigned f) (ordered f well).once))
      (λ y used is. assigned_still f y (apart_where_used f unused y (used_before x y f used)) is)
      (λ y used. used_stands f y (used_before x y f used))
      (mapped_like (without_in_block x) like_without f.blocks)
      (operands_without f well.operands) (bounds_without f well.bounds)

  -- ---- supports

  stmts_without : (bs : List Block) → flat_map (λ (b : Block). b.stmts) (map (without_in_block x) bs) ≡ filter (stmt_stays x) (flat_map (λ (b : Block). b.stmts) bs)
  stmts_without [] = refl
  stmts_without (b ∷ bs) = ap (λ l. filter (stmt_stays x) b.stmts ++ l) (stmts_without bs) ∙ sym (filter-append (stmt_stays x) b.stmts (flat_map (λ (c : Block). c.stmts) bs))

  stays_with : (y : ℕ) → (y ≡ x → ⊥) → (stmt : Stmt) → eqb stmt.name y ≡ true → stmt_stays x stmt ≡ true
  stays_with y apart stmt is = ap not (false_from_ne_true (eqb stmt.name x) (λ same. apart (sym (eqb-true stmt.name y is) ∙ eqb-true stmt.name x same)))

  pub reads_same : (f : Function) (y : ℕ) → (y ≡ x → ⊥) → read_for (without x f) y ≡ read_for f y
  unfolding without read_for right_of
  reads_same f y apart =
      ap (λ o. option_map_or (λ (rhs : Rhs). names_among (operands_of_rhs rhs)) (option_map (λ (s : Stmt). s.rhs) o) [])
      (ap (first_where (λ (s : Stmt). eqb s.name y)) (stmts_without f.blocks)
      ∙ first_of_filtered (stmt_stays x) (λ (s : Stmt). eqb s.name y) (stays_with y apart) (stmts_of f))

  -- a block that is left, and what it was
  block_before : (f : Function) (c : Block) → IsMember c (without x f).blocks → (b : Block) × IsMember b f.blocks × (without_in_block x b ≡ c)
  unfolding without
  block_before f c one = member_mapped (without_in_block x) c f.blocks one

  no_stmt_left : (f : Function) (stmt : Stmt) → StandsAt (without x f) x stmt → ⊥
  no_stmt_left f stmt at =
      let found = block_before f at.home at.one in
      let stmts : filter (stmt_stays x) found.0.stmts ≡ at.front ++ stmt ∷ at.rest = ap (λ (b : Block). b.stmts) found.2 ∙ at.is in
      let stays = (member_filtered (stmt_stays x) stmt found.0.stmts (subst (IsMember stmt) (sym stmts) (member_middle stmt at.front at.rest))).1 in
      both_ways (eqb stmt.name x) (not-true (eqb stmt.name x) stays) (eq-eqb stmt.name x at.name)

  reads_within : (f : Function) (y z : ℕ) → is_among z (read_for (without x f) y) ≡ true → is_among z (read_for f y) ≡ true
  reads_within f y z reads = ⊎_elim
      (λ (same : y ≡ x). let found = reader (without x f) y z reads in absurd (no_stmt_left f found.0 (subst (λ w. StandsAt (without x f) w found.0) same found.1)))
      (λ apart. subst (λ l. is_among z l ≡ true) (reads_same f y apart) reads)
      (cases_eq y x)

  -- ---- paths

  flow_in_blocks : (bs : List Block) → map stretch_of (map (without_in_block x) bs) ≡ map (less x) (map stretch_of bs)
  flow_in_blocks [] = refl
  flow_in_blocks (b ∷ bs) =
      ap (λ l. stretch_of (without_in_block x b) ∷ l) (flow_in_blocks bs)
      ∙ ap (λ names. record { number = b.number; assigns = names; targets = targets_of b.end } ∷ map (less x) (map stretch_of bs)) (others_in_block x b)

  pub flow_without : (f : Function) → flow_of (without x f) ≡ map (less x) (flow_of f)
  unfolding without
  flow_without f = flow_in_blocks f.blocks

  -- the place of a statement among all, from its place among those that stay
  pub stmt_before : (stmts front : List Stmt) (stmt : Stmt) (rest : List Stmt) → filter (stmt_stays x) stmts ≡ front ++ stmt ∷ rest →
      (all_front : List Stmt) × (all_rest : List Stmt) × (stmts ≡ all_front ++ stmt ∷ all_rest) × (filter (stmt_stays x) all_rest ≡ rest)
  stmt_before [] front stmt rest e = absurd (none_of_nothing front e)
    where
      none_of_nothing : (us : List Stmt) → [] ≡ us ++ stmt ∷ rest → ⊥
      none_of_nothing us e = let long : 0 ≡ length us + suc (length rest) = ap length e ∙ length-append us (stmt ∷ rest) in omega (arith, long)
  stmt_before (s ∷ stmts) front stmt rest e = by (stmt_stays x s) front (λ us is. stmt_before stmts us stmt rest is) e
    where
      longer : ((us : List Stmt) → filter (stmt_stays x) stmts ≡ us ++ stmt ∷ rest →
          (all_front : List Stmt) × (all_rest : List Stmt) × (stmts ≡ all_front ++ stmt ∷ all_rest) × (filter (stmt_stays x) all_rest ≡ rest)) →
          (us : List Stmt) → filter (stmt_stays x) stmts ≡ us ++ stmt ∷ rest →
          (all_front : List Stmt) × (all_rest : List Stmt) × (s ∷ stmts ≡ all_front ++ stmt ∷ all_rest) × (filter (stmt_stays x) all_rest ≡ rest)
      longer more us is = let found = more us is in (s ∷ found.0, found.1, ap (λ l. s ∷ l) found.2, found.3)

      by : (b : Bool) (us : List Stmt) → ((vs : List Stmt) → filter (stmt_stays x) stmts ≡ vs ++ stmt ∷ rest →
          (all_front : List Stmt) × (all_rest : List Stmt) × (stmts ≡ all_front ++ stmt ∷ all_rest) × (filter (stmt_stays x) all_rest ≡ rest)) →
          cond b (s ∷ filter (stmt_stays x) stmts) (filter (stmt_stays x) stmts) ≡ us ++ stmt ∷ rest →
          (all_front : List Stmt) × (all_rest : List Stmt) × (s ∷ stmts ≡ all_front ++ stmt ∷ all_rest) × (filter (stmt_stays x) all_rest ≡ rest)
      by false us more is = longer more us is
      by true [] more is = ([], stmts, ap (λ z. z ∷ stmts) (ap (first_or stmt) is), ap rest_of is)
      by true (u ∷ us) more is = longer more us (ap rest_of is)

  pub left_before : (stmt : Stmt) (rest all_rest : List Stmt) → stmt_stays x stmt ≡ true → filter (stmt_stays x) all_rest ≡ rest →
      map stmt_name (stmt ∷ rest) ≡ filter (other x) (map stmt_name (stmt ∷ all_rest))
  left_before stmt rest all_rest stays is =
      rw stays (ap (λ l. stmt.name ∷ l) (ap (map stmt_name) (sym is) ∙ names_of_others stmt_name x all_rest))

  module _ (f : Function) (valid : IsValid f) (unused : is_used f x ≡ false) where
    -- what is read in what is left was read before, at a point that led here
    assigned_in_block : (b : Block) → IsMember b f.blocks → (y n : ℕ) (left : List ℕ) → (y ≡ x → ⊥) → IsReadIn (without_in_block x b) y n left → (past : List ℕ) →
        Path (map (less x) (flow_of f)) n left past → IsAssignedAfter (is_initial f) y past
    assigned_in_block b one y n left apart (by_phi phi a mine arg name none) past path =
        let found = lifted_to_end x (flow_of f) n past (subst (λ l. Path (map (less x) (flow_of f)) n l past) none path) in
        subst (IsAssignedAfter (is_initial f) y) found.2 (assigned_without_it x (is_initial f) y apart found.0
        (uses_assigned f valid y n [] (b, one, by_phi phi a (member_filtered (phi_stays x) phi b.phis mine).0 arg name refl) found.0 found.1))
    assigned_in_block b one y n left apart (by_stmt front stmt rest is name at what) past path =
        let place = stmt_before b.stmts front stmt rest is in
        let stays = (member_filtered (stmt_stays x) stmt b.stmts (subst (IsMember stmt) (sym is) (member_middle stmt front rest))).1 in
        let stands : StandsAt f stmt.name stmt = record { home = b; one = one; front = place.0; rest = place.1; is = place.2; name = refl } in
        let before : left ≡ filter (other x) (map stmt_name (stmt ∷ place.1)) = what ∙ left_before stmt rest place.1 stays place.3 in
        let found = lifted_to x (flow_of f) b.number (map stmt_name (stmt ∷ place.1)) past (point_of_stmt f (ordered f valid.well_formed) stmt.name stmt stands)
        (subst (λ m. Path (map (less x) (flow_of f)) m (filter (other x) (map stmt_name (stmt ∷ place.1))) past) at (subst (λ l. Path (map (less x) (flow_of f)) n l past) before path)) in
        subst (IsAssignedAfter (is_initial f) y) found.2 (assigned_without_it x (is_initial f) y apart found.0
        (uses_assigned f valid y b.number (map stmt_name (stmt ∷ place.1)) (b, one, by_stmt place.0 stmt place.1 place.2 name refl refl) found.0 found.1))
    assigned_in_block b one y n left apart (by_end name at what) past path =
        let found = lifted_to_end x (flow_of f) n past (subst (λ l. Path (map (less x) (flow_of f)) n l past) what path) in
        subst (IsAssignedAfter (is_initial f) y) found.2 (assigned_without_it x (is_initial f) y apart found.0
        (uses_assigned f valid y n [] (b, one, by_end name at refl) found.0 found.1))

    initial_same : (y : ℕ) → is_initial (without x f) y ≡ is_initial f y
    unfolding without is_initial row_of
    initial_same y = refl

    all_assigned : AreUsesAssigned (without x f)
    all_assigned y n left (c, one, reads) past path =
        let found = block_before f c one in
        let apart = apart_where_used f unused y (used_before x y f (read_is_used (without x f) y n left (c, one, reads))) in
        assigned_from_more (is_initial f) (is_initial (without x f)) y (λ is. initial_same y ∙ is) past
        (assigned_in_block found.0 found.1 y n left apart (subst (λ (d : Block). IsReadIn d y n left) (sym found.2) reads) past
        (subst (λ flow. Path flow n left past) (flow_without f) path))

    pub valid_without : IsValid (trimmed (without x f))
    valid_without =
        trimmed_valid (without x f) (ready_without f valid.well_formed unused)
        (λ y supports. none_in_own_support f valid y (supports_within (read_for f) (read_for (without x f)) (reads_within f) y y supports)) all_assigned

-- ---- removal to the end

last_member : (found : Option ℕ) (xs : List ℕ) (x : ℕ) → last_or found xs ≡ Some x → (found ≡ Some x) ⊎ IsMember x xs
last_member found [] x is = inl is
last_member found (y ∷ xs) x is = ⊎_elim (λ here. inr (inl (same_Some y x here))) (λ later. inr (inr later)) (last_member (Some y) xs x is)

last_is_unused : (f : Function) (x : ℕ) → last_unused f ≡ Some x → is_used f x ≡ false
unfolding unused
last_is_unused f x is = ⊎_elim
    (λ none. absurd (none-some x none))
    (λ one. not-true (is_used f x) (member_filtered (λ y. not (is_used f y)) x (assigned f) one).1)
    (last_member None (unused f) x is)

assigned_trimmed : (f : Function) → assigned (trimmed f) ≡ assigned f
unfolding trimmed assigned
assigned_trimmed f = refl

tidied_valid_by : (long : ℕ) (f : Function) → length (assigned f) < long → IsValid f → IsValid (tidied f)
tidied_valid_by zero f few valid = absurd (omega arith)
tidied_valid_by (suc long) f few valid = by (last_unused f) refl (λ g fewer good. tidied_valid_by long g fewer good)
  where
    by : (o : Option ℕ) → last_unused f ≡ o → ((g : Function) → length (assigned g) < long → IsValid g → IsValid (tidied g)) → IsValid (tidied f)
    by None none more = subst IsValid (sym (ap trimmed (pruned_end f none) ∙ trimmed_is f valid.well_formed)) valid
    by (Some x) is more =
        let less_valid = valid_without x f valid (last_is_unused f x is) in
        let same_count : length (assigned (trimmed (without x f))) ≡ length (assigned (without x f)) = ap length (assigned_trimmed (without x f)) in
        let rest = more (trimmed (without x f)) (omega (arith, same_count, fewer_assigned f x is)) less_valid in
        subst IsValid (tidied_trimmed (without x f) ∙ ap trimmed (pruned_more f x is)) rest

pub tidied_valid : (f : Function) → IsValid f → IsValid (tidied f)
tidied_valid f valid = tidied_valid_by (suc (length (assigned f))) f (omega arith) valid
