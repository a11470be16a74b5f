-- What a merge takes from `names` is the row of the name that went: what its statement reads is read by the statement of the name that is kept.
use Rattle.std.proofs.Common.{◌≡◌, ◌⊎◌, ℕ, Bool, true, false, cond, not, ◌||◌, ◌&&◌, Some, None, List, [], ◌∷◌, ◌++◌, eqb, map, flat_map, filter, slice_get, refl, sym, ap, ap₂, subst, ◌∙◌, inl, inr, ⊎_elim}
use Rattle.std.specs.List.{list_any}
use Rattle.std.specs.Option.{option_map}
use Rattle.std.proofs.lemmas.Bool.{both_ways, and_parts, or_left, or_right, or_cases, eq-eqb, eqb-true, false_from_ne_true}
use Rattle.std.proofs.lemmas.List.{map-append}
use Rattle.std.proofs.lemmas.Option.{same_Some, none-some, slice_get-map}
use Rattle.pm_wide.specs.declared.operand.Operand.{Operand}
use Rattle.pm_wide.specs.declared.operand.Operand.TheVariants.{Name}
use Rattle.gim_ast.specs.declared.function.Function.{Function}
use Rattle.gim_ast.specs.declared.function.Block.{Block}
use Rattle.gim_ast.specs.declared.function.Phi.{Phi}
use Rattle.gim_ast.specs.declared.function.Stmt.{Stmt}
use Rattle.gim_ast.specs.declared.function.NameRow.{NameRow}
use Rattle.gim_ast.specs.declared.function.Rhs.{Rhs}
use Rattle.gim_ast.specs.Functions.{is_name, is_used, operands_of, operands_of_block, operands_of_phi, operands_of_stmt, operands_of_end, operands_of_rhs, assigned, right_of}
use Rattle.gim_ast.specs.WellFormed.{is_assigned, base_holds, row_stands, same_text}
use Rattle.gim_ast.specs.Readable.{IsValid}
use Rattle.gim_ast.specs.Runs.{name_type}
use Rattle.gim_changes.specs.Removal.{phi_stays, stmt_stays, without_in_block, without}
use Rattle.gim_changes.specs.Substitution.{put_in_rhs, put_in_stmt, put_in_block, put_in_all}
use Rattle.gim_changes.specs.Trimming.{stands_in, is_empty_text, row_stays, trimmed}
use Rattle.gim_changes.proofs.Members.{IsMember, all_members, any_from_member, member_from_any, each_member, member_cases, member_middle, member_splits, member_filtered, filtered_member, member_of_parts, part_member, mapped_member, slice_member}
use Rattle.gim_changes.proofs.NamesUsed.{operand_of_phis, operand_of_stmts, operand_of_end}
use Rattle.gim_changes.proofs.RulesOfNames.{row_cases, rows_hold, among_member, member_among}
use Rattle.gim_changes.proofs.TrimmedFirst.{used_before}
use Rattle.gim_changes.proofs.Unused.{other, assigned_without}
use Rattle.gim_meaning.specs.ReachedPoints.{Lies}
use Rattle.gim_meaning.proofs.BlockOfPlace.{block_at}
use Rattle.gim_meaning.proofs.RightSides.{right_at, HasNoRight, no_right_at_phis}
use Rattle.value_numbers.specs.Merges.{IsMerge, merged}
use Rattle.value_numbers.specs.Rows.{row_is_left}
use Rattle.value_numbers.specs.Spots.{Spot}
use Rattle.value_numbers.proofs.MergedFunctions.{SpotStands, member_place, there, right_of_x, right_of_y, others, by_y, put_for_x, put_is_valid, x_is_unused, spot_of_y, y_stands}

same_filter : {X : Type 0} (p q : X → Bool) (xs : List X) → ((x : X) → IsMember x xs → p x ≡ q x) → filter p xs ≡ filter q xs
same_filter p q [] same = refl
same_filter p q (x ∷ xs) same =
    ap (λ b. cond b (x ∷ filter p xs) (filter p xs)) (same x (inl refl)) ∙ ap (λ l. cond (q x) (x ∷ l) l) (same_filter p q xs (λ y one. same y (inr one)))

empty_is_empty : (text : List ℕ) → same_text text [] ≡ true → is_empty_text text ≡ true
empty_is_empty [] same = refl
empty_is_empty (b ∷ bs) same = absurd (both_ways false refl same)

module _ (f : Function) (valid : IsValid f) (x y : ℕ) (merge : IsMerge f x y) where
  abbrev Put : Function
  Put = put_in_all x (by_y f valid x y merge) f

  abbrev After : Function
  After = without x Put

  valid_put : IsValid Put
  unfolding put_for_x
  valid_put = put_is_valid f valid x y merge

  unused : is_used Put x ≡ false
  unfolding put_for_x
  unused = x_is_unused f valid x y merge

  -- ---- a statement of f, after the name is put

  record PutStands (s : Spot) : Type 0 where
    block : Block
    one : IsMember block Put.blocks
    stmt : IsMember (put_in_stmt x (by_y f valid x y merge) s.stmt) block.stmts
    right : right_of Put s.stmt.name ≡ Some (put_in_rhs x (by_y f valid x y merge) s.stmt.rhs)

  put_stands : (s : Spot) → SpotStands f s → PutStands s
  unfolding put_in_all
  put_stands s at =
      let by = by_y f valid x y merge in
      let block = put_in_block x by at.block in
      let here : slice_get Put.blocks at.place ≡ Some block = slice_get-map (put_in_block x by) f.blocks at.place ∙ ap (option_map (put_in_block x by)) at.at in
      let split : block.stmts ≡ map (put_in_stmt x by) at.front ++ put_in_stmt x by s.stmt ∷ map (put_in_stmt x by) at.rest =
      ap (map (put_in_stmt x by)) at.is ∙ map-append (put_in_stmt x by) at.front (s.stmt ∷ at.rest) in
      let lies : Lies Put block (put_in_stmt x by s.stmt ∷ map (put_in_stmt x by) at.rest) =
      record { found = block_at Put valid_put.well_formed at.place block here; front = map (put_in_stmt x by) at.front; is = split } in
      record {
        block = block;
        one = slice_member Put.blocks at.place block here;
        stmt = subst (IsMember (put_in_stmt x by s.stmt)) (sym split) (member_middle (put_in_stmt x by s.stmt) (map (put_in_stmt x by) at.front) (map (put_in_stmt x by) at.rest));
        right = right_at Put valid_put.well_formed block (put_in_stmt x by s.stmt) (map (put_in_stmt x by) at.rest) lies;
      }

  right_put_of_x : right_of Put x ≡ Some (put_in_rhs x (by_y f valid x y merge) merge.spot.stmt.rhs)
  right_put_of_x = subst (λ z. right_of Put z ≡ Some (put_in_rhs x (by_y f valid x y merge) merge.spot.stmt.rhs)) merge.name
      (put_stands merge.spot (there f valid x y merge)).right

  -- the statement of y, whose right side is that of x
  kept : PutStands (spot_of_y f valid x y merge).0
  kept = put_stands (spot_of_y f valid x y merge).0 (y_stands f valid x y merge)

  -- ---- operands

  into_after : (a : Operand) (b : Block) → IsMember b Put.blocks → IsMember a (operands_of_block (without_in_block x b)) → IsMember a (operands_of After)
  unfolding operands_of without
  into_after a b one in_block =
      part_member operands_of_block a (without_in_block x b) (map (without_in_block x) Put.blocks) (mapped_member (without_in_block x) b Put.blocks one) in_block

  stmt_kept : (a : Operand) (b : Block) → IsMember b Put.blocks → (s : Stmt) → IsMember s b.stmts → eqb s.name x ≡ false → IsMember a (operands_of_stmt s) →
      IsMember a (operands_of After)
  stmt_kept a b one s mine apart reads =
      into_after a b one (operand_of_stmts (without_in_block x b) a
      (part_member operands_of_stmt a s (filter (stmt_stays x) b.stmts) (filtered_member (stmt_stays x) s b.stmts mine (ap not apart)) reads))

  right_in_put : (b : Block) → IsMember b Put.blocks → (s : Stmt) → IsMember s b.stmts → right_of Put s.name ≡ Some s.rhs
  right_in_put b one s mine =
      let place = member_place b Put.blocks one in
      let split = member_splits s b.stmts mine in
      right_at Put valid_put.well_formed b s split.1
      (record { found = block_at Put valid_put.well_formed place.0 b place.1; front = split.0; is = split.2 })

  through_y : (a : Operand) (b : Block) → IsMember b Put.blocks → (s : Stmt) → IsMember s b.stmts → s.name ≡ x → IsMember a (operands_of_stmt s) → IsMember a (operands_of After)
  through_y a b one s mine is reads =
      let by = by_y f valid x y merge in
      let sy = (spot_of_y f valid x y merge).0.stmt in
      let R = merge.spot.stmt.rhs in
      let of_s : s.rhs ≡ put_in_rhs x by R = same_Some s.rhs (put_in_rhs x by R) (sym (right_in_put b one s mine) ∙ (ap (right_of Put) is ∙ right_put_of_x)) in
      let of_y : sy.rhs ≡ R = rhs_of_y in
      stmt_kept a kept.block kept.one (put_in_stmt x by sy) kept.stmt
      (subst (λ z. eqb z x ≡ false) (sym (spot_of_y f valid x y merge).2) (false_from_ne_true (eqb y x) (λ same. others f valid x y merge (eqb-true y x same))))
      (subst (λ r. IsMember a (operands_of_rhs r)) (of_s ∙ ap (put_in_rhs x by) (sym of_y)) reads)
    where
      rhs_of_y : (spot_of_y f valid x y merge).0.stmt.rhs ≡ merge.spot.stmt.rhs
      rhs_of_y = (spot_of_y f valid x y merge).3

  phi_is_other : (b : Block) → IsMember b Put.blocks → (phi : Phi) → IsMember phi b.phis → phi.name ≡ x → ⊥
  phi_is_other b one phi mine is =
      let place = member_place b Put.blocks one in
      let none : right_of Put phi.name ≡ None =
      each_member (HasNoRight Put) b.phis (no_right_at_phis Put valid_put.well_formed b.number b (block_at Put valid_put.well_formed place.0 b place.1)) phi mine in
      none-some (put_in_rhs x (by_y f valid x y merge) merge.spot.stmt.rhs) (sym none ∙ (ap (right_of Put) is ∙ right_put_of_x))

  operand_kept : (a : Operand) → IsMember a (operands_of Put) → IsMember a (operands_of After)
  unfolding operands_of
  operand_kept a one =
      let b = member_of_parts operands_of_block a Put.blocks one in
      let phis = flat_map operands_of_phi b.0.phis in
      let stmts = flat_map operands_of_stmt b.0.stmts in
      ⊎_elim
      (λ front. ⊎_elim
      (λ in_phi. let phi = member_of_parts operands_of_phi a b.0.phis in_phi in by_phi b.0 b.1 phi.0 phi.1 phi.2 (eqb phi.0.name x) refl)
      (λ in_stmt. let s = member_of_parts operands_of_stmt a b.0.stmts in_stmt in by_stmt b.0 b.1 s.0 s.1 s.2 (eqb s.0.name x) refl)
      (member_cases a phis stmts front))
      (λ at_end. into_after a b.0 b.1 (operand_of_end (without_in_block x b.0) a at_end))
      (member_cases a (phis ++ stmts) (operands_of_end b.0.end) b.2)
    where
      by_phi : (b : Block) → IsMember b Put.blocks → (phi : Phi) → IsMember phi b.phis → IsMember a (operands_of_phi phi) → (t : Bool) → eqb phi.name x ≡ t → IsMember a (operands_of After)
      by_phi b home phi mine reads true is = absurd (phi_is_other b home phi mine (eqb-true phi.name x is))
      by_phi b home phi mine reads false is =
          into_after a b home (operand_of_phis (without_in_block x b) a
          (part_member operands_of_phi a phi (filter (phi_stays x) b.phis) (filtered_member (phi_stays x) phi b.phis mine (ap not is)) reads))

      by_stmt : (b : Block) → IsMember b Put.blocks → (s : Stmt) → IsMember s b.stmts → IsMember a (operands_of_stmt s) → (t : Bool) → eqb s.name x ≡ t → IsMember a (operands_of After)
      by_stmt b home s mine reads true is = through_y a b home s mine (eqb-true s.name x is) reads
      by_stmt b home s mine reads false is = stmt_kept a b home s mine is reads

  used_after : (v : ℕ) → is_used Put v ≡ true → is_used After v ≡ true
  used_after v used =
      let a = member_from_any (is_name v) (operands_of Put) used in
      any_from_member (is_name v) (operands_of After) a.0 (operand_kept a.0 a.1) a.2

  assigned_after : (v : ℕ) → eqb v x ≡ false → is_assigned Put v ≡ true → is_assigned After v ≡ true
  assigned_after v apart is =
      member_among v (assigned After) (subst (IsMember v) (sym (assigned_without x Put))
      (filtered_member (other x) v (assigned Put) (among_member v (assigned Put) is) (ap not apart)))

  -- ---- rows

  x_stands_not : stands_in After x ≡ false
  x_stands_not = false_from_ne_true (stands_in After x) (λ stands. ⊎_elim
      (λ is_there. both_ways (other x x) (ap not (eq-eqb x x refl))
      (member_filtered (other x) x (assigned Put) (subst (IsMember x) (assigned_without x Put) (among_member x (assigned After) is_there))).1)
      (λ used. both_ways (is_used Put x) unused (used_before x x Put used))
      (or_cases (is_assigned After x) (is_used After x) stands))

  row_kept : (row : NameRow) → IsMember row Put.names → eqb row.version x ≡ false → row_stays After row ≡ true
  row_kept row one apart =
      let holds = and_parts (base_holds Put row) (row_stands Put row)
      (all_members (λ (r : NameRow). base_holds Put r && row_stands Put r) Put.names (rows_hold Put valid_put.well_formed.names) row one) in
      let stands = stands_in After row.version in
      let empty = is_empty_text row.base in
      ⊎_elim
      (λ initial. or_left stands empty (or_right (is_assigned After row.version) (is_used After row.version) (used_after row.version initial.2)))
      (λ declared. ⊎_elim
      (λ assigned_there. or_left stands empty (or_left (is_assigned After row.version) (is_used After row.version) (assigned_after row.version apart assigned_there)))
      (λ anonymous. or_right stands empty (empty_is_empty row.base (and_parts (same_text row.base []) (not (is_used Put row.version)) anonymous).0))
      (or_cases (is_assigned Put row.version) (same_text row.base [] && not (is_used Put row.version)) declared.1))
      (row_cases Put row holds.1)

  same_choice : (row : NameRow) → IsMember row Put.names → row_stays After row ≡ row_is_left x row
  same_choice row one = choose (eqb row.version x) refl
    where
      choose : (t : Bool) → eqb row.version x ≡ t → row_stays After row ≡ (not (eqb row.version x) || is_empty_text row.base)
      choose true is = ap (λ b. b || is_empty_text row.base) (ap (stands_in After) (eqb-true row.version x is) ∙ (x_stands_not ∙ sym (ap not is)))
      choose false is = row_kept row one is ∙ sym (ap (λ b. not b || is_empty_text row.base) is)

  pub rows_after_merge : merged x y f ≡ record (without x Put) { names = filter (row_is_left x) f.names }
  unfolding trimmed without put_in_all by_y
  rows_after_merge = ap (λ rows. let g : Function = record (without x Put) { names = rows } in g) (same_filter (row_stays After) (row_is_left x) f.names same_choice)

  -- so carried out step by step
  pub merged_by_steps : (put g : Function) (rows : List NameRow) → put ≡ put_in_all x (Name y (name_type f y)) f → g ≡ without x put → rows ≡ filter (row_is_left x) g.names →
      record g { names = rows } ≡ merged x y f
  unfolding without put_in_all by_y
  merged_by_steps put g rows is_put is_g is_rows =
      let is : g ≡ without x Put = is_g ∙ ap (without x) is_put in
      ap₂ (λ (h : Function) (r : List NameRow). let n : Function = record h { names = r } in n) is (is_rows ∙ ap (λ (h : Function). filter (row_is_left x) h.names) is)
      ∙ sym rows_after_merge
