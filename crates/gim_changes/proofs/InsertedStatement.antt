-- A function with a new statement is the function again without the new name.
use Rattle.std.proofs.Common.{◌≡◌, ◌⊎◌, ℕ, zero, suc, ◌<◌, Bool, true, false, not, Some, None, Option, List, [], ◌∷◌, ◌++◌, map, filter, flat_map, take, drop, insert, slice_get, eqb, refl, sym, ap, ◌∙◌, subst, inl, inr, ⊎_elim, arith, append_assoc}
use Rattle.std.specs.Prelude.{nat_lt}
use Rattle.std.specs.List.{list_all}
use Rattle.std.specs.Option.{option_map_or}
use Rattle.std.proofs.lemmas.Bool.{and_parts, both_ways, eqb-true, eq-eqb, false_from_ne_true, ltb-true, or_cases}
use Rattle.std.proofs.lemmas.Option.{same_Some, none-some}
use Rattle.std.proofs.lemmas.List.{take-append-drop, map-append}
use Rattle.std.proofs.lemmas.List.Elements.{filter-append}
use Rattle.pm_wide.specs.declared.operand.Operand.{Operand}
use Rattle.pm_wide.specs.declared.operand.Operand.TheVariants.{Name, Const}
use Rattle.gim_ast.specs.declared.function.Function.{Function}
use Rattle.gim_ast.specs.declared.function.Block.{Block}
use Rattle.gim_ast.specs.declared.function.Stmt.{Stmt}
use Rattle.gim_ast.specs.declared.function.Decl.{Decl}
use Rattle.gim_ast.specs.declared.function.NameRow.{NameRow}
use Rattle.gim_ast.specs.Functions.{first_where, is_name, operands_of, assigned, assigned_in, phi_name, stmt_name, row_of, is_used, right_of}
use Rattle.gim_ast.specs.WellFormed.{is_assigned, operand_holds, phi_fits, stmt_fits, IsWellFormed}
use Rattle.gim_ast.specs.Paths.{flow_of}
use Rattle.gim_ast.specs.Readable.{read_for}
use Rattle.gim_changes.specs.Insertion.{changed_at, insert_in_block, row_for}
use Rattle.gim_changes.specs.Removal.{phi_stays, stmt_stays, without, without_in_block}
use Rattle.gim_changes.specs.Trimming.{stands_in}
use Rattle.gim_changes.proofs.Members.{IsMember, all_members, member_left, member_right, member_cases, member_mapped, mapped_member, member_of_parts, part_member}
use Rattle.gim_changes.proofs.DistinctNumbers.{AreDistinct, distinct_from, not_later}
use Rattle.gim_changes.proofs.RulesOfNames.{first_passes, among_member}
use Rattle.gim_changes.proofs.ChangedBlocks.{block_holds, used_in_block}

-- ---- lists

pub changed_member : {X : Type 0} (place : ℕ) (change : X → X) (xs : List X) (x : X) → slice_get xs place ≡ Some x → IsMember (change x) (changed_at place change xs)
changed_member place change [] x is = absurd (none-some x is)
changed_member zero change (y ∷ xs) x is = inl (ap change (same_Some y x is))
changed_member (suc place) change (y ∷ xs) x is = inr (changed_member place change xs x is)

pub changed_there : {X : Type 0} (place : ℕ) (change : X → X) (xs : List X) (x : X) → slice_get xs place ≡ Some x → slice_get (changed_at place change xs) place ≡ Some (change x)
changed_there place change [] x is = absurd (none-some x is)
changed_there zero change (y ∷ xs) x is = ap (λ z. Some (change z)) (same_Some y x is)
changed_there (suc place) change (y ∷ xs) x is = changed_there place change xs x is

-- an element of the changed list is an old one, or the changed one
pub member_changed : {X : Type 0} (place : ℕ) (change : X → X) (xs : List X) (x : X) → slice_get xs place ≡ Some x → (y : X) → IsMember y (changed_at place change xs) → IsMember y xs ⊎ (change x ≡ y)
member_changed place change [] x is y one = absurd one
member_changed zero change (z ∷ xs) x is y one = ⊎_elim (λ here. inr (ap change (sym (same_Some z x is)) ∙ here)) (λ later. inl (inr later)) one
member_changed (suc place) change (z ∷ xs) x is y one = ⊎_elim
    (λ here. inl (inl here))
    (λ later. ⊎_elim (λ old. inl (inr old)) (λ new. inr new) (member_changed place change xs x is y later))
    one

pub inserted_member : (stmts : List Stmt) (before : ℕ) (stmt s : Stmt) → IsMember s (insert stmts before stmt) → IsMember s stmts ⊎ (stmt ≡ s)
inserted_member stmts before stmt s one = ⊎_elim
    (λ front. inl (subst (IsMember s) (take-append-drop before stmts) (member_left s (take before stmts) (drop before stmts) front)))
    (λ back. ⊎_elim (λ here. inr here) (λ later. inl (subst (IsMember s) (take-append-drop before stmts) (member_right s (take before stmts) (drop before stmts) later))) back)
    (member_cases s (take before stmts) (stmt ∷ drop before stmts) one)

distinct_inserted : (v : ℕ) (us ws : List ℕ) → AreDistinct (us ++ ws) → (IsMember v (us ++ ws) → ⊥) → AreDistinct (us ++ v ∷ ws)
distinct_inserted v [] ws once none = distinct_from v ws none once
distinct_inserted v (u ∷ us) ws once none =
    distinct_from u (us ++ v ∷ ws)
    (λ one. ⊎_elim
    (λ front. not_later u (us ++ ws) once (member_left u us ws front))
    (λ back. ⊎_elim (λ (here : v ≡ u). none (inl (sym here))) (λ later. not_later u (us ++ ws) once (member_right u us ws later)) back)
    (member_cases u us (v ∷ ws) one))
    (distinct_inserted v us ws ((and_parts _ _ once).1) (λ one. none (inr one)))

stays_whole : {X : Type 0} (name : X → ℕ) (v : ℕ) (xs : List X) → ((x : X) → IsMember x xs → name x ≡ v → ⊥) → filter (λ x. not (eqb (name x) v)) xs ≡ xs
stays_whole name v [] none = refl
stays_whole name v (x ∷ xs) none =
    let here : eqb (name x) v ≡ false = false_from_ne_true (eqb (name x) v) (λ same. none x (inl refl) (eqb-true (name x) v same)) in
    rw here (ap (λ l. x ∷ l) (stays_whole name v xs (λ y one. none y (inr one))))

-- ---- the function without the new name

module _ (before : ℕ) (stmt : Stmt) where
  abbrev NotAssignedIn : Block → Type 0
  NotAssignedIn b = (y : ℕ) → IsMember y (assigned_in b) → y ≡ stmt.name → ⊥

  phis_stay : (b : Block) → NotAssignedIn b → filter (phi_stays stmt.name) b.phis ≡ b.phis
  phis_stay b none = stays_whole phi_name stmt.name b.phis (λ phi one. none phi.name (member_left phi.name (map phi_name b.phis) (map stmt_name b.stmts) (mapped_member phi_name phi b.phis one)))

  stmts_stay : (b : Block) → NotAssignedIn b → filter (stmt_stays stmt.name) b.stmts ≡ b.stmts
  stmts_stay b none = stays_whole stmt_name stmt.name b.stmts (λ s one. none s.name (member_right s.name (map phi_name b.phis) (map stmt_name b.stmts) (mapped_member stmt_name s b.stmts one)))

  old_stays : (b : Block) → NotAssignedIn b → without_in_block stmt.name b ≡ b
  old_stays b none =
      ap (λ phis. record b { phis = phis; stmts = filter (stmt_stays stmt.name) b.stmts }) (phis_stay b none) ∙ ap (λ stmts. record b { stmts = stmts }) (stmts_stay b none)

  new_goes : (stmts : List Stmt) → filter (stmt_stays stmt.name) (insert stmts before stmt) ≡ filter (stmt_stays stmt.name) stmts
  new_goes stmts =
      let own : not (eqb stmt.name stmt.name) ≡ false = ap not (eq-eqb stmt.name stmt.name refl) in
      filter-append (stmt_stays stmt.name) (take before stmts) (stmt ∷ drop before stmts)
      ∙ (rw own refl ∙ (sym (filter-append (stmt_stays stmt.name) (take before stmts) (drop before stmts)) ∙ ap (filter (stmt_stays stmt.name)) (take-append-drop before stmts)))

  new_block_back : (b : Block) → NotAssignedIn b → without_in_block stmt.name (insert_in_block before stmt b) ≡ b
  new_block_back b none =
      ap (λ phis. record b { phis = phis; stmts = filter (stmt_stays stmt.name) (insert b.stmts before stmt) }) (phis_stay b none)
      ∙ ap (λ stmts. record b { stmts = stmts }) (new_goes b.stmts ∙ stmts_stay b none)

  blocks_back : (place : ℕ) (bs : List Block) → ((b : Block) → IsMember b bs → NotAssignedIn b) → map (without_in_block stmt.name) (changed_at place (insert_in_block before stmt) bs) ≡ bs
  blocks_back place [] none = refl
  blocks_back zero (b ∷ bs) none =
      ap (λ c. c ∷ map (without_in_block stmt.name) bs) (new_block_back b (none b (inl refl))) ∙ ap (λ l. b ∷ l) (all_back bs (λ c one. none c (inr one)))
    where
      all_back : (cs : List Block) → ((c : Block) → IsMember c cs → NotAssignedIn c) → map (without_in_block stmt.name) cs ≡ cs
      all_back [] each = refl
      all_back (c ∷ cs) each = ap (λ d. d ∷ map (without_in_block stmt.name) cs) (old_stays c (each c (inl refl))) ∙ ap (λ l. c ∷ l) (all_back cs (λ d one. each d (inr one)))
  blocks_back (suc place) (b ∷ bs) none =
      ap (λ c. c ∷ map (without_in_block stmt.name) (changed_at place (insert_in_block before stmt) bs)) (old_stays b (none b (inl refl)))
      ∙ ap (λ l. b ∷ l) (blocks_back place bs (λ c one. none c (inr one)))

  -- where the new name stands among all that are assigned
  pub assigned_splits : (place : ℕ) (bs : List Block) (home : Block) → slice_get bs place ≡ Some home →
      (us : List ℕ) × (ws : List ℕ) × (flat_map assigned_in bs ≡ us ++ ws) × (flat_map assigned_in (changed_at place (insert_in_block before stmt) bs) ≡ us ++ stmt.name ∷ ws)
  assigned_splits place [] home is = absurd (none-some home is)
  assigned_splits zero (b ∷ bs) home is =
      let phis = map phi_name b.phis in
      let front = map stmt_name (take before b.stmts) in
      let back = map stmt_name (drop before b.stmts) in
      let after = flat_map assigned_in bs in (
        phis ++ front,
        back ++ after,
        ap (λ l. (phis ++ l) ++ after) (ap (map stmt_name) (sym (take-append-drop before b.stmts)) ∙ map-append stmt_name (take before b.stmts) (drop before b.stmts))
            ∙ (ap (λ l. l ++ after) (sym (append_assoc phis front back)) ∙ append_assoc (phis ++ front) back after),
        ap (λ l. (phis ++ l) ++ after) (map-append stmt_name (take before b.stmts) (stmt ∷ drop before b.stmts))
            ∙ (ap (λ l. l ++ after) (sym (append_assoc phis front (stmt.name ∷ back))) ∙ append_assoc (phis ++ front) (stmt.name ∷ back) after),
      )
  assigned_splits (suc place) (b ∷ bs) home is =
      let found = assigned_splits place bs home is in (
        assigned_in b ++ found.0,
        found.1,
        ap (λ l. assigned_in b ++ l) found.2 ∙ sym (append_assoc (assigned_in b) found.0 found.1),
        ap (λ l. assigned_in b ++ l) found.3 ∙ sym (append_assoc (assigned_in b) found.0 (stmt.name ∷ found.1)),
      )

-- ---- names of a well-formed function have rows

row_there : (f : Function) (p : NameRow → Bool) (y : ℕ) → option_map_or p (row_of f y) false ≡ true → (row : NameRow) × IsMember row f.names × (row.version ≡ y)
unfolding row_of
row_there f p y holds = by (first_where (λ (row : NameRow). eqb row.version y) f.names) refl holds
  where
    by : (o : Option NameRow) → first_where (λ (row : NameRow). eqb row.version y) f.names ≡ o → option_map_or p o false ≡ true → (row : NameRow) × IsMember row f.names × (row.version ≡ y)
    by None found h = absurd (both_ways false refl h)
    by (Some row) found h = let passes = first_passes (λ (r : NameRow). eqb r.version y) f.names row found in (row, passes.0, eqb-true row.version y passes.1)

assigned_has_row : (f : Function) → IsWellFormed f → (y : ℕ) → IsMember y (assigned f) → (row : NameRow) × IsMember row f.names × (row.version ≡ y)
unfolding assigned
assigned_has_row f well y one =
    let home = member_of_parts assigned_in y f.blocks one in
    let holds = block_holds f well.operands home.0 home.1 in
    ⊎_elim
    (λ in_phis. let found = member_mapped phi_name y home.0.phis in_phis in
    subst (λ z. (row : NameRow) × IsMember row f.names × (row.version ≡ z)) found.2 (row_there f _ found.0.name (all_members (phi_fits f) home.0.phis (and_parts _ _ (and_parts _ _ holds.fits).0).0 found.0 found.1)))
    (λ in_stmts. let found = member_mapped stmt_name y home.0.stmts in_stmts in
    subst (λ z. (row : NameRow) × IsMember row f.names × (row.version ≡ z)) found.2 (row_there f _ found.0.name (all_members (stmt_fits f) home.0.stmts (and_parts _ _ (and_parts _ _ holds.fits).0).1 found.0 found.1)))
    (member_cases y (map phi_name home.0.phis) (map stmt_name home.0.stmts) home.2)

used_has_row : (f : Function) → IsWellFormed f → (y : ℕ) → is_used f y ≡ true → (row : NameRow) × IsMember row f.names × (row.version ≡ y)
used_has_row f well y used =
    let found = used_in_block f y used in
    by found.2.0 found.2.2 ((block_holds f well.operands found.0 found.1).each found.2.0 found.2.1)
  where
    by : (a : Operand) → is_name y a ≡ true → operand_holds f a ≡ true → (row : NameRow) × IsMember row f.names × (row.version ≡ y)
    by (Name z t) is holds = let row = row_there f _ z holds in (row.0, row.1, row.2 ∙ eqb-true z y is)
    by (Const w) is holds = absurd (both_ways false refl is)

-- a version above all rows is that of no name
module _ (f : Function) (well : IsWellFormed f) (v : ℕ) (new : list_all (λ (row : NameRow). nat_lt row.version v) f.names ≡ true) where
  pub row_below : (row : NameRow) → IsMember row f.names → row.version < v
  row_below row one = ltb-true row.version v (all_members (λ (r : NameRow). nat_lt r.version v) f.names new row one)

  pub row_is_old : (row : NameRow) → IsMember row f.names → row.version ≡ v → ⊥
  row_is_old row one same = let less = row_below row one in omega (arith, less, same)

  pub assigned_is_old : (y : ℕ) → IsMember y (assigned f) → y ≡ v → ⊥
  assigned_is_old y one same = let row = assigned_has_row f well y one in row_is_old row.0 row.1 (row.2 ∙ same)

  pub used_is_old : (y : ℕ) → is_used f y ≡ true → y ≡ v → ⊥
  used_is_old y used same = let row = used_has_row f well y used in row_is_old row.0 row.1 (row.2 ∙ same)

  pub stands_is_old : (y : ℕ) → stands_in f y ≡ true → y ≡ v → ⊥
  stands_is_old y stands same = ⊎_elim
      (λ is. assigned_is_old y (among_member y (assigned f) is) same)
      (λ used. used_is_old y used same)
      (or_cases (is_assigned f y) (is_used f y) stands)

-- ---- the grown function

abbrev pub grown : ℕ → ℕ → Stmt → Decl → Function → Function
grown place before stmt decl f = record f {
  decls = f.decls ++ decl ∷ [];
  names = f.names ++ row_for stmt decl ∷ [];
  blocks = changed_at place (insert_in_block before stmt) f.blocks;
}

module _ (place before : ℕ) (stmt : Stmt) (decl : Decl) (f : Function) (well : IsWellFormed f) (new : list_all (λ (row : NameRow). nat_lt row.version stmt.name) f.names ≡ true) where
  pub without_is : (without stmt.name (grown place before stmt decl f)).blocks ≡ f.blocks
  unfolding without assigned
  without_is = blocks_back before stmt place f.blocks (λ b one y mine. assigned_is_old f well stmt.name new y (part_member assigned_in y b f.blocks one mine))

  pub assigned_without_new : assigned (without stmt.name (grown place before stmt decl f)) ≡ assigned f
  unfolding assigned
  assigned_without_new = ap (flat_map assigned_in) without_is

  pub used_without_new : (y : ℕ) → is_used (without stmt.name (grown place before stmt decl f)) y ≡ is_used f y
  unfolding operands_of
  used_without_new y = ap (λ bs. is_used (record f { blocks = bs }) y) without_is

  pub flow_without_new : flow_of (without stmt.name (grown place before stmt decl f)) ≡ flow_of f
  flow_without_new = ap (λ bs. flow_of (record f { blocks = bs })) without_is

  pub reads_without_new : (y : ℕ) → read_for (without stmt.name (grown place before stmt decl f)) y ≡ read_for f y
  unfolding read_for right_of
  reads_without_new y = ap (λ bs. read_for (record f { blocks = bs }) y) without_is

  pub once_grown : (home : Block) → slice_get f.blocks place ≡ Some home → AreDistinct (assigned f) → AreDistinct (assigned (grown place before stmt decl f))
  unfolding assigned
  once_grown home at once =
      let found = assigned_splits before stmt place f.blocks home at in
      subst AreDistinct (sym found.3) (distinct_inserted stmt.name found.0 found.1 (subst AreDistinct found.2 once)
      (λ one. assigned_is_old f well stmt.name new stmt.name (subst (IsMember stmt.name) (sym found.2) one) refl))
