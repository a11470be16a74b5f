-- A valid function with a new statement that may be inserted is valid; what was readable stays so, and the new name is readable behind its statement.
use Rattle.std.proofs.Common.{◌≡◌, ◌⊎◌, ℕ, true, false, cond, not, List, [], ◌∷◌, ◌++◌, map, filter, take, drop, eqb, refl, sym, ap, ◌∙◌, subst, inl, inr, ⊎_elim}
use Rattle.std.specs.Prelude.{◌&&◌}
use Rattle.std.proofs.lemmas.List.{take-append-drop}
use Rattle.std.proofs.lemmas.List.Elements.{filter-append}
use Rattle.std.specs.List.{list_all}
use Rattle.std.proofs.lemmas.Bool.{and_parts, or_cases, or_left, or_right, eqb-true, eq-eqb, false_from_ne_true, cases_eq}
use Rattle.pm_wide.specs.declared.operand.Operand.TheVariants.{Name}
use Rattle.gim_ast.specs.declared.function.Function.{Function}
use Rattle.gim_ast.specs.declared.function.Block.{Block}
use Rattle.gim_ast.specs.declared.function.Stmt.{Stmt}
use Rattle.gim_ast.specs.declared.function.Decl.{Decl}
use Rattle.gim_ast.specs.declared.function.NameRow.{NameRow}
use Rattle.gim_ast.specs.Functions.{operands_of_stmt, operands_of_end, operands_of_rhs, assigned, assigned_in, phi_name, stmt_name, is_used}
use Rattle.gim_ast.specs.WellFormed.{is_among, is_assigned, base_holds, row_stands}
use Rattle.gim_ast.specs.Paths.{flow_of, Path}
use Rattle.gim_ast.specs.Readable.{names_among, read_for, is_initial, Supports, IsReadable, IsValid}
use Rattle.gim_changes.specs.Insertion.{insert_in_block, row_for, with_stmt, MayBeInserted}
use Rattle.gim_changes.specs.Removal.{stmt_stays, without, without_in_block}
use Rattle.gim_changes.specs.Trimming.{stands_in, is_empty_text, row_stays}
use Rattle.gim_changes.specs.Validity.{IsAssignedAfter}
use Rattle.gim_changes.proofs.Members.{first_or, rest_of, IsMember, all_members, all_from_members, slice_member, member_right, member_cases, mapped_member, member_middle, part_member}
use Rattle.gim_changes.proofs.Unused.{other}
use Rattle.gim_changes.proofs.PathsWithout.{path_without, assigned_with_it}
use Rattle.gim_changes.proofs.AssignedBefore.{assigned_where_fresh}
use Rattle.gim_changes.proofs.NamesRead.{IsRead, IsReadIn, by_phi, by_stmt, by_end}
use Rattle.gim_changes.proofs.NamesUsed.{named, used_stands, assigned_stands}
use Rattle.gim_changes.proofs.RulesOfNames.{rows_hold, reader}
use Rattle.gim_changes.proofs.AlwaysAssigned.{AreUsesAssigned, uses_assigned}
use Rattle.gim_changes.proofs.ComesBefore.{none_in_own_support, readable_where_assigned, support_comes_before}
use Rattle.gim_changes.proofs.SupportChanges.{none_with_new}
use Rattle.gim_changes.proofs.TrimmedFirst.{used_before}
use Rattle.gim_changes.proofs.ReadyToTrim.{trimmed_valid, trimmed_with_all, stays_where_stands, assigned_from_more}
use Rattle.gim_changes.proofs.ValidWithout.{flow_without, reads_same, left_before}
use Rattle.gim_changes.proofs.InsertedStatement.{grown, member_changed, without_is, used_without_new, flow_without_new, reads_without_new, assigned_is_old, stands_is_old}
use Rattle.gim_changes.proofs.GrownRules.{assigned_still, new_good, row_more, ready_grown}

-- ---- where a statement of one name stands

-- where no other statement assigns its name, a statement stands at one place
one_place : (stmt : Stmt) (front rest us : List Stmt) (s : Stmt) (vs : List Stmt) → ((t : Stmt) → IsMember t (front ++ rest) → t.name ≡ stmt.name → ⊥) → s.name ≡ stmt.name →
    front ++ stmt ∷ rest ≡ us ++ s ∷ vs → (stmt ≡ s) × (rest ≡ vs)
one_place stmt [] rest [] s vs none name e = (ap (first_or stmt) e, ap rest_of e)
one_place stmt [] rest (u ∷ us) s vs none name e =
    absurd (none s (subst (IsMember s) (sym (ap rest_of e)) (member_middle s us vs)) name)
one_place stmt (t ∷ front) rest [] s vs none name e =
    absurd (none t (inl refl) (ap (λ (w : Stmt). w.name) (ap (first_or stmt) e) ∙ name))
one_place stmt (t ∷ front) rest (u ∷ us) s vs none name e = one_place stmt front rest us s vs (λ w one. none w (inr one)) name (ap rest_of e)

-- the names of statements none of which assigns x
unfiltered : (x : ℕ) (stmts : List Stmt) → ((t : Stmt) → IsMember t stmts → t.name ≡ x → ⊥) → filter (other x) (map stmt_name stmts) ≡ map stmt_name stmts
unfiltered x [] none = refl
unfiltered x (s ∷ stmts) none =
    let stays : eqb s.name x ≡ false = false_from_ne_true (eqb s.name x) (λ same. none s (inl refl) (eqb-true s.name x same)) in
    rw stays (ap (λ l. s.name ∷ l) (unfiltered x stmts (λ t one. none t (inr one))))

stmt_is_assigned : (f : Function) (b : Block) → IsMember b f.blocks → (s : Stmt) → IsMember s b.stmts → IsMember s.name (assigned f)
unfolding assigned
stmt_is_assigned f b one s mine =
    part_member assigned_in s.name b f.blocks one (member_right s.name (map phi_name b.phis) (map stmt_name b.stmts) (mapped_member stmt_name s b.stmts mine))

module _ (place before : ℕ) (stmt : Stmt) (decl : Decl) (f : Function) (valid : IsValid f) (may : MayBeInserted f place before stmt decl) where
  abbrev g : Function
  g = grown place before stmt decl f

  abbrev left_there : List ℕ
  left_there = map stmt_name (drop before may.home.stmts)

  old_stmt : (b : Block) → IsMember b f.blocks → (s : Stmt) → IsMember s b.stmts → s.name ≡ stmt.name → ⊥
  old_stmt b one s mine =
      assigned_is_old f valid.well_formed stmt.name may.new s.name (stmt_is_assigned f b one s mine)

  pub home_is : IsMember may.home f.blocks
  home_is = slice_member f.blocks place may.home may.at

  -- ---- supports

  -- a statement of the new name is the new one
  the_new_stmt : (c : Block) → IsMember c g.blocks → (front : List Stmt) (s : Stmt) (rest : List Stmt) → c.stmts ≡ front ++ s ∷ rest → s.name ≡ stmt.name →
      (insert_in_block before stmt may.home ≡ c) × (stmt ≡ s) × (drop before may.home.stmts ≡ rest)
  the_new_stmt c one front s rest is name = ⊎_elim
      (λ old. absurd (old_stmt c old s (subst (IsMember s) (sym is) (member_middle s front rest)) name))
      (λ (new : insert_in_block before stmt may.home ≡ c).
      let met = one_place stmt (take before may.home.stmts) (drop before may.home.stmts) front s rest
      (λ t mine same. old_stmt may.home home_is t (subst (IsMember t) (take-append-drop before may.home.stmts) mine) same) name (ap (λ (b : Block). b.stmts) new ∙ is) in
      (new, met.0, met.1))
      (member_changed place (insert_in_block before stmt) f.blocks may.home may.at c one)

  pub read_new : (w z : ℕ) → is_among z (read_for g w) ≡ true → (is_among z (read_for f w) ≡ true) ⊎ ((w ≡ stmt.name) × IsMember z (names_among (operands_of_rhs stmt.rhs)))
  read_new w z reads = ⊎_elim
      (λ (same : w ≡ stmt.name).
      let found = reader g w z reads in
      let at = found.1 in
      let new = the_new_stmt at.home at.one at.front found.0 at.rest at.is (at.name ∙ same) in
      inr (same, subst (λ (s : Stmt). IsMember z (names_among (operands_of_stmt s))) (sym new.1) found.2))
      (λ apart. inl (subst (λ l. is_among z l ≡ true) (sym (reads_same stmt.name g w apart) ∙ reads_without_new place before stmt decl f valid.well_formed may.new w) reads))
      (cases_eq w stmt.name)

  pub new_apart : (y : ℕ) → IsMember y (names_among (operands_of_rhs stmt.rhs)) → (y ≡ stmt.name) ⊎ Supports (read_for f) y stmt.name → ⊥
  new_apart y new back =
      let found = named y (operands_of_rhs stmt.rhs) new in
      let stands = (new_good place before stmt decl f valid may (Name y found.0) found.1).stands y (eq-eqb y y refl) in
      ⊎_elim
      (λ same. stands_is_old f valid.well_formed stmt.name may.new y stands same)
      (λ supports. stands_is_old f valid.well_formed stmt.name may.new stmt.name (support_comes_before f valid y stmt.name supports).stands refl)
      back

  none_grown : (y : ℕ) → Supports (read_for g) y y → ⊥
  none_grown = none_with_new (read_for f) (read_for g) stmt.name (λ z. IsMember z (names_among (operands_of_rhs stmt.rhs))) read_new new_apart (none_in_own_support f valid)

  -- ---- paths

  block_without : (c : Block) → IsMember c g.blocks → IsMember (without_in_block stmt.name c) f.blocks
  unfolding without
  block_without c one =
      subst (IsMember (without_in_block stmt.name c)) (without_is place before stmt decl f valid.well_formed may.new) (mapped_member (without_in_block stmt.name) c g.blocks one)

  path_before : (n : ℕ) (left past : List ℕ) → Path (flow_of g) n left past → Path (flow_of f) n (filter (other stmt.name) left) (filter (other stmt.name) past)
  path_before n left past path =
      subst (λ flow. Path flow n (filter (other stmt.name) left) (filter (other stmt.name) past))
      (sym (flow_without stmt.name g) ∙ flow_without_new place before stmt decl f valid.well_formed may.new)
      (path_without stmt.name (flow_of g) n left past path)

  initial_more : (y : ℕ) → is_initial f y ≡ true → is_initial g y ≡ true
  unfolding is_initial
  initial_more y is = row_more place before stmt decl f valid may (λ (row : NameRow). row.initial) y is

  -- what each path to the point assigned is assigned on each path to it now
  pub assigned_on_grown : (y n : ℕ) (left : List ℕ) → ((past : List ℕ) → Path (flow_of f) n (filter (other stmt.name) left) past → IsAssignedAfter (is_initial f) y past) →
      (past : List ℕ) → Path (flow_of g) n left past → IsAssignedAfter (is_initial g) y past
  assigned_on_grown y n left always past path =
      assigned_from_more (is_initial f) (is_initial g) y (initial_more y) past
      (assigned_with_it stmt.name (is_initial f) y past (always (filter (other stmt.name) past) (path_before n left past path)))

  -- what is read in a block was read there before, or is read by the new statement
  read_before : (c : Block) → IsMember c g.blocks → (y n : ℕ) (left : List ℕ) → IsReadIn c y n left →
      IsRead f y n (filter (other stmt.name) left)
      ⊎ ((IsMember y (names_among (operands_of_rhs stmt.rhs))) × (n ≡ may.home.number) × (filter (other stmt.name) left ≡ left_there))
  read_before c one y n left (by_phi phi a mine arg name none) =
      let nothing : filter (other stmt.name) left ≡ [] = ap (filter (other stmt.name)) none in
      ⊎_elim
      (λ old. inl (c, old, by_phi phi a mine arg name nothing))
      (λ (new : insert_in_block before stmt may.home ≡ c). inl (may.home, home_is, by_phi phi a (subst (λ (b : Block). IsMember phi b.phis) (sym new) mine) arg name nothing))
      (member_changed place (insert_in_block before stmt) f.blocks may.home may.at c one)
  read_before c one y n left (by_end name at what) =
      let nothing : filter (other stmt.name) left ≡ [] = ap (filter (other stmt.name)) what in
      ⊎_elim
      (λ old. inl (c, old, by_end name at nothing))
      (λ (new : insert_in_block before stmt may.home ≡ c). inl (
        may.home,
        home_is,
        by_end (subst (λ (b : Block). IsMember y (names_among (operands_of_end b.end))) (sym new) name) (at ∙ ap (λ (b : Block). b.number) (sym new)) nothing,
      ))
      (member_changed place (insert_in_block before stmt) f.blocks may.home may.at c one)
  read_before c one y n left (by_stmt front s rest is name at what) = ⊎_elim
      (λ (same : s.name ≡ stmt.name).
      let new = the_new_stmt c one front s rest is same in
      inr (
        subst (λ (t : Stmt). IsMember y (names_among (operands_of_stmt t))) (sym new.1) name,
        at ∙ ap (λ (b : Block). b.number) (sym new.0),
        ap (filter (other stmt.name)) (what ∙ ap (λ z. z ∷ map stmt_name rest) same)
            ∙ (ap (λ b. cond (not b) (stmt.name ∷ filter (other stmt.name) (map stmt_name rest)) (filter (other stmt.name) (map stmt_name rest))) (eq-eqb stmt.name stmt.name refl)
            ∙ (ap (λ l. filter (other stmt.name) (map stmt_name l)) (sym new.2)
            ∙ unfiltered stmt.name (drop before may.home.stmts) (λ t mine its. old_stmt may.home home_is t
            (subst (IsMember t) (take-append-drop before may.home.stmts) (member_right t (take before may.home.stmts) (drop before may.home.stmts) mine)) its))),
      ))
      (λ apart.
      let old = block_without c one in
      let stays : stmt_stays stmt.name s ≡ true = ap not (false_from_ne_true (eqb s.name stmt.name) (λ same. apart (eqb-true s.name stmt.name same))) in
      inl (
        without_in_block stmt.name c,
        old,
        by_stmt (filter (stmt_stays stmt.name) front) s (filter (stmt_stays stmt.name) rest)
            (ap (filter (stmt_stays stmt.name)) is ∙ (filter-append (stmt_stays stmt.name) front (s ∷ rest)
            ∙ ap (λ b. filter (stmt_stays stmt.name) front ++ cond b (s ∷ filter (stmt_stays stmt.name) rest) (filter (stmt_stays stmt.name) rest)) stays))
            name at (ap (filter (other stmt.name)) what ∙ sym (left_before stmt.name s (filter (stmt_stays stmt.name) rest) rest stays refl)),
      ))
      (cases_eq s.name stmt.name)

  all_assigned : AreUsesAssigned g
  all_assigned y n left (c, one, reads) past path = ⊎_elim
      (λ old. assigned_on_grown y n left (λ earlier to_point. uses_assigned f valid y n (filter (other stmt.name) left) old earlier to_point) past path)
      (λ new.
      let found = named y (operands_of_rhs stmt.rhs) new.0 in
      let good = new_good place before stmt decl f valid may (Name y found.0) found.1 in
      assigned_on_grown y n left (λ earlier to_point. good.assigned y (eq-eqb y y refl) earlier
      (subst (λ m. Path (flow_of f) m left_there earlier) new.1 (subst (λ l. Path (flow_of f) n l earlier) new.2 to_point))) past path)
      (read_before c one y n left reads)

  -- ---- each row stands

  pub stands_still : (y : ℕ) → stands_in f y ≡ true → stands_in g y ≡ true
  stands_still y stands = ⊎_elim
      (λ is. assigned_stands g y (assigned_still place before stmt decl f valid may y is))
      (λ used. used_stands g y (used_before stmt.name y g (used_without_new place before stmt decl f valid.well_formed may.new y ∙ used)))
      (or_cases (is_assigned f y) (is_used f y) stands)

  all_rows_stay : list_all (row_stays g) g.names ≡ true
  all_rows_stay = all_from_members (row_stays g) g.names (λ row one. ⊎_elim
      (λ old.
      let holds_row = all_members (λ (r : NameRow). base_holds f r && row_stands f r) f.names (rows_hold f valid.well_formed.names) row old in
      ⊎_elim
      (λ stands. or_left (stands_in g row.version) (is_empty_text row.base) (stands_still row.version stands))
      (λ empty. or_right (stands_in g row.version) (is_empty_text row.base) empty)
      (or_cases (stands_in f row.version) (is_empty_text row.base) (stays_where_stands f row (and_parts _ _ holds_row).1)))
      (λ last. ⊎_elim
      (λ (here : row_for stmt decl ≡ row). subst (λ (r : NameRow). row_stays g r ≡ true) here (or_right (stands_in g stmt.name) true refl))
      (λ none. absurd none) last)
      (member_cases row f.names (row_for stmt decl ∷ []) one))

  pub grown_valid : IsValid g
  grown_valid = subst IsValid (trimmed_with_all g all_rows_stay) (trimmed_valid g (ready_grown place before stmt decl f valid may) none_grown all_assigned)

  pub grown_is : with_stmt place before stmt decl f ≡ g
  unfolding with_stmt
  grown_is = refl

  pub valid_with_stmt : IsValid (with_stmt place before stmt decl f)
  valid_with_stmt = subst IsValid (sym grown_is) grown_valid

  -- ---- what is readable now

  -- what was readable stays so
  pub readable_still : (y n : ℕ) (left : List ℕ) → IsReadable f y n (filter (other stmt.name) left) → IsReadable (with_stmt place before stmt decl f) y n left
  readable_still y n left readable =
      subst (λ (h : Function). IsReadable h y n left) (sym grown_is)
      (readable_where_assigned g grown_valid y n left (assigned_on_grown y n left (λ past path. assigned_where_fresh (is_initial f) (read_for f) y past (readable.fresh past path))))
