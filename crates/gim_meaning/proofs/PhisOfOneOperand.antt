-- An operand that is all that a phi reads, beside its own name, is put for the phi's name: since it
-- was read no path assigns it.
use Rattle.std.proofs.Common.{◌≡◌, ◌≢◌, ℕ, Bool, true, false, cond, eqb, Some, None}
use Rattle.std.proofs.Common.{List, [], ◌∷◌, ◌++◌, ◌⊎◌, ◌||◌, map, refl, sym, ap, subst, ◌∙◌}
use Rattle.std.proofs.Common.{⊎_elim}
use Rattle.std.proofs.Common.{zero, suc, ◌<◌, length, inl, inr, arith}
use Rattle.gim_ast.specs.Functions.{assigned_in}
use Rattle.std.specs.Bool.{IsTrue}
use Rattle.std.specs.Option.{option_map_or}
use Rattle.std.specs.List.{list_any, AllByRecursion}
use Rattle.std.proofs.lemmas.Bool.{or_cases, or_left, or_right}
use Rattle.std.proofs.lemmas.Bool.{both_ways, eq-eqb, eqb-true}
use Rattle.std.proofs.lemmas.Option.{none-some}
use Rattle.pm_wide.specs.Types.{Ty, Word}
use Rattle.pm_wide.specs.declared.operand.Operand.{Operand}
use Rattle.pm_wide.specs.declared.operand.Operand.TheVariants.{Name, Const}
use Rattle.gim_ast.specs.declared.function.Function.{Function}
use Rattle.gim_ast.specs.declared.function.Block.{Block}
use Rattle.gim_ast.specs.declared.function.Phi.{Phi}
use Rattle.gim_ast.specs.declared.function.Stmt.{Stmt}
use Rattle.gim_ast.specs.Functions.{is_name, phi_name, stmt_name, block_of, right_of}
use Rattle.gim_ast.specs.Functions.{targets_of}
use Rattle.gim_ast.specs.WellFormed.{is_among, is_assigned}
use Rattle.gim_ast.specs.Paths.{stretch_of, flow_of, Path}
use Rattle.gim_ast.specs.Readable.{names_among, read_for, operand, Fresh, is_initial, IsReadable}
use Rattle.gim_ast.specs.Readable.{Use, uses_at, uses_in_phis, uses_in_block, uses_in}
use Rattle.gim_ast.specs.Readable.{IsReadableUse, IsValid}
use Rattle.gim_ast.specs.Runs.{entry_of, start_of, run_of}
use Rattle.gim_ast.specs.Runs.{Env, assign, assign_each, word_of_operand, zero_of, name_type}
use Rattle.gim_ast.specs.Runs.{phi_word, after_phis, lead_of, To}
use Rattle.gim_run.specs.Blocks.{phi_pair}
use Rattle.gim_changes.specs.Substitution.{put_in_all}
use Rattle.gim_changes.specs.Validity.{IsAssignedAfter, OperandComesBefore}
use Rattle.gim_changes.proofs.AlwaysAssigned.{flow_once, plain_where_assigned}
use Rattle.gim_changes.proofs.AssignedBefore.{assigned_earlier, assigned_where_fresh}
use Rattle.gim_changes.proofs.AssignedBefore.{fresh_where_assigned}
use Rattle.gim_changes.proofs.Points.{IsPoint, path_point, one_point}
use Rattle.gim_changes.proofs.RulesOfNames.{IsOrdered, ordered}
use Rattle.gim_meaning.specs.KeptRuns.{KeepsDefinedRuns}
use Rattle.gim_meaning.specs.PhiArguments.{ReadsOnly}
use Rattle.gim_meaning.specs.ReachedPoints.{Inside, Reaches}
use Rattle.gim_meaning.proofs.Agreement.{OperandStands, same_word}
use Rattle.gim_meaning.proofs.AlongRuns.{passed, Known, known_inside, lead_is_target, stretch_found}
use Rattle.gim_meaning.proofs.AlongRuns.{start_has_no_phi}
use Rattle.gim_meaning.proofs.ListSearch.{found_passes, parts_of_found}
use Rattle.gim_meaning.proofs.ListSearch.{held_by_found, held_in_middle}
use Rattle.gim_meaning.proofs.OnePlace.{one_block}
use Rattle.gim_meaning.proofs.OperandsStand.{unused_stand}
use Rattle.gim_meaning.proofs.ReadableValues.{IsOther, others_agree, own_word, others_stand}
use Rattle.gim_meaning.proofs.Reached.{lies, number_of_found}
use Rattle.gim_meaning.proofs.RightSides.{Has, AreDistinct, in_front, front_distinct}
use Rattle.gim_meaning.proofs.RightSides.{block_distinct, names_distinct, is_assigned_in}
use Rattle.gim_meaning.proofs.RightSides.{HasNoRight, no_right_at_phis, right_at}
use Rattle.gim_meaning.proofs.SubstitutionRuns.{each_of, uses_of_args, uses_of_block}
use Rattle.gim_meaning.proofs.SubstitutionRuns.{ReadsAlikeOn, put_runs_alike}
use Rattle.gim_meaning.proofs.PathsBack.{came_by, has_splits}
use Rattle.gim_meaning.proofs.PhiReading.{has_phi, none_named, only_phi, uses_of_phi, named_word}
use Rattle.gim_meaning.proofs.PhiReading.{named_readable, has_argument}

-- none of the phis assigns the operand
abbrev AreOthers : Operand → List Phi → Type 0
AreOthers by phis = AllByRecursion (λ (phi : Phi). is_name phi.name by ≡ false) phis

-- ---- a phi of one operand

module _ (f : Function) (valid : IsValid f) (block : Block)
    (found : block_of f block.number ≡ Some block) (front : List Phi) (phi : Phi) (rest : List Phi)
    (split : block.phis ≡ front ++ phi ∷ rest)
    (by : Operand) (reads : ReadsOnly by phi)
    (comes : OperandComesBefore f by phi.name) where
  -- as if the phi were a statement that reads the operand
  abbrev own : ℕ → List ℕ
  own z = cond (eqb z phi.name) (names_among (by ∷ [])) []

  order : IsOrdered f
  order = ordered f valid.well_formed

  own_read : (z y : ℕ) → is_among y (own z) ≡ true →
      (z ≡ phi.name) × (is_among y (names_among (by ∷ [])) ≡ true)
  own_read z y = choose (eqb z phi.name) refl
    where
      choose : (b : Bool) → eqb z phi.name ≡ b →
          is_among y (cond b (names_among (by ∷ [])) []) ≡ true →
          (z ≡ phi.name) × (is_among y (names_among (by ∷ [])) ≡ true)
      choose true is h = (eqb-true z phi.name is, h)
      choose false is h = absurd (both_ways false refl h)

  own_reads : (y : ℕ) → is_among y (names_among (by ∷ [])) ≡ true → is_among y (own phi.name) ≡ true
  own_reads y h = subst (λ b. is_among y (cond b (names_among (by ∷ [])) []) ≡ true)
      (sym (eq-eqb phi.name phi.name refl)) h

  assigned_before : (a : Operand) → OperandComesBefore f a phi.name → (y : ℕ) →
      is_among y (names_among (a ∷ [])) ≡ true → (n : ℕ) (left past : List ℕ) →
      Path (flow_of f) n (phi.name ∷ left) past →
      IsAssignedAfter (is_initial f) y past
  assigned_before (Name z t) before y among n left past path =
      ⊎_elim
      (λ here. subst (λ w. IsAssignedAfter (is_initial f) w past) (eqb-true z y here)
      (assigned_where_fresh (is_initial f) (read_for f) z past
      ((before.readable n left).fresh past path)))
      (λ later. absurd (both_ways false refl later))
      (or_cases (eqb z y) false among)
  assigned_before (Const w) before y among n left past path = absurd (both_ways false refl among)

  has_x : Has phi.name (map phi_name block.phis)
  has_x = subst (λ ps. Has phi.name (map phi_name ps)) (sym split) (has_phi front phi rest)

  x_assigned : is_assigned f phi.name ≡ true
  x_assigned = is_assigned_in f block.number block phi.name found
      (in_front phi.name (map phi_name block.phis) (map stmt_name block.stmts) has_x)

  not_initial : IsTrue (is_initial f phi.name) → ⊥
  not_initial initial =
      both_ways (is_assigned f phi.name) (order.unassigned phi.name initial) x_assigned

  phi_not_initial : (z : ℕ) → Has z (map phi_name block.phis) → IsTrue (is_initial f z) → ⊥
  phi_not_initial z has initial =
      both_ways (is_assigned f z) (order.unassigned z initial)
      (is_assigned_in f block.number block z found
      (in_front z (map phi_name block.phis) (map stmt_name block.stmts) has))

  phi_point : (z : ℕ) → Has z (map phi_name block.phis) →
      (after : List ℕ) × IsPoint (flow_of f) block.number (z ∷ after)
  phi_point z has =
      let parts = has_splits z (assigned_in block)
      (in_front z (map phi_name block.phis) (map stmt_name block.stmts) has) in (
        parts.1,
        record {
          home = stretch_of block;
          at =
              stretch_found f block.number block found;
          front = parts.0;
          is = parts.2;
        },
      )

  has_no_entry : block.number ≡ entry_of f.blocks → ⊥
  unfolding start_of
  has_no_entry number =
      let none = start_has_no_phi f [] valid.well_formed block
      (subst (λ m. block_of f m ≡ Some block) number found) in
      both_ways false refl (subst (λ ps. Has phi.name (map phi_name ps)) none has_x)

  -- where x is readable, the operand wasn't assigned since x was
  fresh_there : (n : ℕ) (left past : List ℕ) → Path (flow_of f) n left past →
      IsReadable f phi.name n left → Fresh (is_initial f) own phi.name past
  fresh_there n left past path readable =
      fresh_where_assigned (flow_of f) (is_initial f) own (flow_once f order)
      (λ m z y before earlier to reads_it. let is = own_read z y reads_it in
      assigned_before by comes y is.1 m before earlier
      (subst (λ w. Path (flow_of f) m (w ∷ before) earlier) is.0 to))
      (plain_where_assigned f order)
      (λ z y initial reads_it. not_initial
      (subst (λ w. IsTrue (is_initial f w)) (own_read z y reads_it).0 initial))
      phi.name n left past path
      (λ other to. assigned_where_fresh (is_initial f) (read_for f) phi.name other
      (readable.fresh other to))

  -- while the operand isn't assigned since x was, x has its word
  abbrev HasItsWord : List ℕ → Env → Type 0
  HasItsWord past e = Fresh (is_initial f) own phi.name past → e phi.name ≡ word_of_operand e by

  word_kept : (e : Env) (z : ℕ) (w : Word) → OperandStands (IsOther z) by →
      word_of_operand (assign z w e) by ≡ word_of_operand e by
  word_kept e z w stands = same_word (IsOther z) e (assign z w e) (others_agree e z w) by stands

  other_assigned : (past : List ℕ) (e : Env) (z : ℕ) (w : Word) → z ≢ phi.name → HasItsWord past e →
      HasItsWord (z ∷ past) (assign z w e)
  other_assigned past e z w other known fresh = ⊎_elim
      (λ here. absurd (other here))
      (λ earlier. let stands =
      others_stand z (by ∷ []) (λ among. earlier.0 (operand phi.name z (own_reads z among))) in
      others_agree e z w phi.name (λ same. other (sym same)) ∙ known earlier.1
      ∙ sym (word_kept e z w stands.0))
      fresh

  phis_elsewhere : (from : ℕ) (old : Env) (phis : List Phi) (past : List ℕ) (e : Env) →
      AllByRecursion (λ (p : Phi). p.name ≢ phi.name) phis → HasItsWord past e →
      HasItsWord (passed (map phi_name phis) past) (assign_each (map (phi_pair f from old) phis) e)
  phis_elsewhere from old [] past e apart known = known
  phis_elsewhere from old (p ∷ phis) past e apart known =
      phis_elsewhere from old phis (p.name ∷ past) (assign p.name (phi_word f from old p) e) apart.1
      (other_assigned past e p.name (phi_word f from old p) apart.0 known)

  -- the phis of the block itself, where the phi reads the operand's word
  phis_here : (from : ℕ) (old : Env) → phi_word f from old phi ≡ word_of_operand old by →
      (phis : List Phi) → AllByRecursion (λ (p : Phi). p.name ≡ phi.name → p ≡ phi) phis →
      AreOthers by phis →
      (past : List ℕ) (e : Env) → word_of_operand e by ≡ word_of_operand old by →
      HasItsWord past e →
      HasItsWord (passed (map phi_name phis) past) (assign_each (map (phi_pair f from old) phis) e)
  phis_here from old read [] only apart past e same known = known
  phis_here from old read (p ∷ phis) only apart past e same known =
      phis_here from old read phis only.1 apart.1 (p.name ∷ past) (assign p.name w e) (kept ∙ same)
      (choose (eqb p.name phi.name) refl)
    where
      w : Word
      w = phi_word f from old p

      kept : word_of_operand (assign p.name w e) by ≡ word_of_operand e by
      kept = word_kept e p.name w (unused_stand p.name (by ∷ []) (ap (λ b. b || false) apart.0)).0

      choose : (b : Bool) → eqb p.name phi.name ≡ b → HasItsWord (p.name ∷ past) (assign p.name w e)
      choose true is =
          let name = eqb-true p.name phi.name is in
          λ fresh. ap (assign p.name w e) (sym name) ∙ own_word e p.name w
          ∙ ap (phi_word f from old) (only.0 name) ∙ read ∙ sym same ∙ sym kept
      choose false is = other_assigned past e p.name w
          (λ same_name. both_ways (eqb p.name phi.name) is (eq-eqb p.name phi.name same_name)) known

  uses_here : (k : ℕ) ×
      AllByRecursion (λ (a : ℕ × Operand). AllByRecursion (IsReadableUse f)
      (uses_at block.number k a.0 [] (a.1 ∷ []))) phi.args
  unfolding block_of
  uses_here =
      let all = parts_of_found (λ (b : Block). eqb b.number block.number)
      (IsReadableUse f) uses_in_block f.blocks block found valid.readable in
      let phis = subst (λ ps. AllByRecursion (IsReadableUse f) (uses_in_phis block.number 1 ps))
      split (uses_of_block (IsReadableUse f) block all).0 in
      let mine = uses_of_phi (IsReadableUse f) block.number 1 front phi rest phis in
      (mine.0, uses_of_args (IsReadableUse f) block.number mine.0 phi.args mine.1)

  only_here : AllByRecursion (λ (p : Phi). p.name ≡ phi.name → p ≡ phi) block.phis
  unfolding block_of
  only_here =
      let apart = front_distinct (map phi_name block.phis) (map stmt_name block.stmts)
      (block_distinct (λ (b : Block). eqb b.number block.number) f.blocks block found
      (names_distinct f valid.well_formed)) in
      subst (AllByRecursion (λ (p : Phi). p.name ≡ phi.name → p ≡ phi)) (sym split)
      (only_phi front phi rest (subst (λ ps. AreDistinct (map phi_name ps)) split apart))

  that_block : (n : ℕ) (other : Block) → block_of f n ≡ Some other →
      Has phi.name (map phi_name other.phis) → other ≡ block
  unfolding block_of
  that_block n other is has =
      one_block (λ (b : Block). eqb b.number n)
      (λ (b : Block). eqb b.number block.number) phi.name f.blocks other block is found
      (names_distinct f valid.well_formed)
      (in_front phi.name (map phi_name other.phis) (map stmt_name other.stmts) has)
      (in_front phi.name (map phi_name block.phis) (map stmt_name block.stmts) has_x)

  -- what the phi reads from the block that was left
  word_read : (before : Block) (e : Env) (past : List ℕ) → block_of f before.number ≡ Some before →
      is_among block.number (targets_of before.end) ≡ true →
      Path (flow_of f) before.number [] past → HasItsWord past e →
      phi_word f before.number e phi ≡ word_of_operand e by
  word_read before e past before_found jumps path known =
      let arg = has_argument f valid.well_formed block found front phi rest split before
      before_found jumps in
      let uses = uses_here in
      let only = held_by_found (λ (a : ℕ × Operand). eqb a.0 before.number)
      (λ (a : ℕ × Operand). (a.1 ≡ by) ⊎ IsTrue (is_name phi.name a.1)) phi.args arg.0 arg.1
      reads in
      let read_there = held_by_found (λ (a : ℕ × Operand). eqb a.0 before.number)
      (λ (a : ℕ × Operand). AllByRecursion (IsReadableUse f)
      (uses_at block.number uses.0 a.0 [] (a.1 ∷ []))) phi.args arg.0 arg.1 uses.1 in
      let from = eqb-true arg.0.0 before.number
      (found_passes (λ (a : ℕ × Operand). eqb a.0 before.number) phi.args arg.0 arg.1) in
      ap (λ o. option_map_or (λ (a : ℕ × Operand). word_of_operand e a.1) o
      (zero_of (name_type f phi.name))) arg.1
      ∙ ⊎_elim
      (λ same. ap (word_of_operand e) same)
      (λ named. named_word phi.name e arg.0.1 named
      ∙ known (fresh_there before.number [] past path
      (subst (λ m. IsReadable f phi.name m []) from
      (named_readable f phi.name block.number uses.0 arg.0.0 arg.0.1 named read_there))))
      only

  -- a name that the phi reads from a block that jumps here: the operand's, or its own
  record ReadsFrom (y : ℕ) (before : Block) : Type 0 where
    name : ℕ
    either : (name ≡ y) ⊎ (name ≡ phi.name)
    readable : IsReadable f name before.number []

  reads_from : (y : ℕ) (t : Ty) → by ≡ Name y t → (before : Block) →
      block_of f before.number ≡ Some before →
      is_among block.number (targets_of before.end) ≡ true → ReadsFrom y before
  reads_from y t is before before_found jumps =
      let p = λ (a : ℕ × Operand). eqb a.0 before.number in
      let arg = has_argument f valid.well_formed block found front phi rest split before
      before_found jumps in
      let only = held_by_found p (λ (a : ℕ × Operand). (a.1 ≡ by) ⊎ IsTrue (is_name phi.name a.1))
      phi.args arg.0 arg.1 reads in
      let there = held_by_found p (λ (a : ℕ × Operand). AllByRecursion (IsReadableUse f)
      (uses_at block.number uses_here.0 a.0 [] (a.1 ∷ []))) phi.args arg.0 arg.1 uses_here.1 in
      let from = eqb-true arg.0.0 before.number (found_passes p phi.args arg.0 arg.1) in
      ⊎_elim
      (λ same. record {
        name = y;
        either = inl refl;
        readable = subst (λ m. IsReadable f y m []) from
            (named_readable f y block.number uses_here.0 arg.0.0 arg.0.1
            (subst (λ a. is_name y a ≡ true) (sym (same ∙ is)) (eq-eqb y y refl)) there);
      })
      (λ named. record {
        name = phi.name;
        either = inr refl;
        readable = subst (λ m. IsReadable f phi.name m []) from
            (named_readable f phi.name block.number uses_here.0 arg.0.0 arg.0.1 named there);
      })
      only

  -- no path comes here where a phi beside this one assigns the operand: each turn would need one
  -- before it
  never : (y : ℕ) (t : Ty) → by ≡ Name y t → Has y (map phi_name block.phis) →
      (k : ℕ) (past : List ℕ) → length past < k → (before : Block) →
      block_of f before.number ≡ Some before →
      is_among block.number (targets_of before.end) ≡ true →
      Path (flow_of f) before.number [] past → ⊥
  never y t is has zero past within before before_found jumps path = omega arith
  never y t is has (suc k) past within before before_found jumps path =
      let read = reads_from y t is before before_found jumps in
      let z = read.name in
      let has_z : Has z (map phi_name block.phis) =
      ⊎_elim (λ same. subst (λ w. Has w (map phi_name block.phis)) (sym same) has)
      (λ same. subst (λ w. Has w (map phi_name block.phis)) (sym same) has_x) read.either in
      let assigned = assigned_where_fresh (is_initial f) (read_for f) z past
      (read.readable.fresh past path) in
      let earlier = assigned_earlier (flow_of f) (is_initial f) z
      (phi_not_initial z has_z) before.number [] past path assigned in
      let point = phi_point z has_z in
      let met = one_point (flow_of f) (flow_once f order) z earlier.at block.number earlier.left
      point.0 (path_point (flow_of f) earlier.at (z ∷ earlier.left) earlier.before earlier.path)
      point.1 in
      ⊎_elim
      (λ at_entry. has_no_entry (sym met.0 ∙ at_entry))
      (λ came. never y t is has k came.earlier
      (omega (arith, came.shorter, earlier.shorter)) came.before came.found
      (subst (λ m. is_among m (targets_of came.before.end) ≡ true) met.0 came.jumps) came.path)
      (came_by f earlier.at (z ∷ earlier.left) earlier.before earlier.path)

  others_there : (before : Block) (past : List ℕ) → block_of f before.number ≡ Some before →
      is_among block.number (targets_of before.end) ≡ true →
      Path (flow_of f) before.number [] past → AreOthers by block.phis
  others_there before past before_found jumps path = each by refl block.phis (λ y has. has)
    where
      each : (a : Operand) → by ≡ a → (phis : List Phi) →
          ((y : ℕ) → Has y (map phi_name phis) → Has y (map phi_name block.phis)) → AreOthers a phis
      each (Const w) same [] within = tt
      each (Const w) same (p ∷ phis) within = (
        refl,
        each (Const w) same phis
            (λ y h. within y (or_right (eqb y p.name) (list_any (eqb y) (map phi_name phis)) h)),
      )
      each (Name y t) same [] within = tt
      each (Name y t) same (p ∷ phis) within = (
        other (eqb y p.name) refl,
        each (Name y t) same phis (λ z h. within z
            (or_right (eqb z p.name) (list_any (eqb z) (map phi_name phis)) h)),
      )
        where
          other : (b : Bool) → eqb y p.name ≡ b → b ≡ false
          other true h = absurd (never y t same
              (within y (or_left (eqb y p.name) (list_any (eqb y) (map phi_name phis)) h))
              (suc (length past)) past (omega arith) before before_found jumps path)
          other false h = refl

  at_phis : (args : List Word) (before other : Block) (e : Env) (n : ℕ) (past : List ℕ) →
      Reaches f args (Inside before [] e) → lead_of e before.end ≡ To n →
      block_of f n ≡ Some other →
      Path (flow_of f) before.number [] past → HasItsWord past e →
      HasItsWord (passed (map phi_name other.phis) past)
      (after_phis f before.number other.phis e)
  at_phis args before other e n past reached leads is path known =
      choose (list_any (eqb phi.name) (map phi_name other.phis)) refl
    where
      here : Has phi.name (map phi_name other.phis) →
          HasItsWord (passed (map phi_name other.phis) past)
          (after_phis f before.number other.phis e)
      here has =
          let same = that_block n other is has in
          let number : n ≡ block.number =
          sym (number_of_found f n other is) ∙ ap (λ (b : Block). b.number) same in
          let jumps = subst (λ m. is_among m (targets_of before.end) ≡ true) number
          (lead_is_target e before.end n leads) in
          let word = word_read before e past (lies reached).found jumps path known in
          subst (λ (b : Block). HasItsWord (passed (map phi_name b.phis) past)
          (after_phis f before.number b.phis e)) (sym same)
          (phis_here before.number e word block.phis only_here
          (others_there before past (lies reached).found jumps path) past e refl known)

      choose : (b : Bool) → list_any (eqb phi.name) (map phi_name other.phis) ≡ b →
          HasItsWord (passed (map phi_name other.phis) past)
          (after_phis f before.number other.phis e)
      choose false none = phis_elsewhere before.number e other.phis past e
          (none_named phi.name other.phis none) known
      choose true has = here has

  has_no_right : right_of f phi.name ≡ None
  has_no_right = held_in_middle (HasNoRight f) front phi rest
      (subst (AllByRecursion (HasNoRight f)) split
      (no_right_at_phis f valid.well_formed block.number block found))

  word_there : (args : List Word) (home : Block) (stmts : List Stmt) (e : Env) →
      Reaches f args (Inside home stmts e) →
      Known f args HasItsWord home.number (map stmt_name stmts) e
  word_there args =
      known_inside f args HasItsWord valid.well_formed (λ fresh. absurd (not_initial fresh))
      (at_phis args)
      (λ home stmt stmts e w past reached value known.
      other_assigned past e stmt.name w
      (λ same. none-some stmt.rhs
      (sym has_no_right ∙ ap (right_of f) (sym same)
      ∙ right_at f valid.well_formed home stmt stmts (lies reached))) known)

  at_use : (args : List Word) (place : Use) → IsReadableUse f place →
      ReadsAlikeOn f phi.name by args place
  at_use args place readable name home stmts e reached at left =
      let known = word_there args home stmts e reached in
      let there = subst (λ n. IsReadable f phi.name n (map stmt_name stmts)) (sym at)
      (subst (λ l. IsReadable f phi.name place.at l) (sym left)
      (subst (λ y. IsReadable f y place.at place.left) name readable)) in
      sym (known.keeps (fresh_there home.number (map stmt_name stmts) known.past known.path there))

  -- on all arguments each run is as before
  pub one_operand_runs_alike : (args : List Word) (fuel : ℕ) →
      run_of (put_in_all phi.name by f) args fuel ≡ run_of f args fuel
  one_operand_runs_alike args =
      put_runs_alike f valid.well_formed phi.name by args
      (each_of (IsReadableUse f) (ReadsAlikeOn f phi.name by args) (at_use args) (uses_in f)
      valid.readable)

  pub one_operand_keeps_runs : KeepsDefinedRuns f (put_in_all phi.name by f)
  unfolding put_in_all
  one_operand_keeps_runs = record {
    params = refl;
    runs = λ args words fuel defined. one_operand_runs_alike args fuel;
  }
