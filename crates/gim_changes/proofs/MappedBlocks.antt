-- A function whose phis, statements and ends are changed where they stand, so that paths see the same: it is valid where each new operand may stand at
-- its point, each part is well typed, and no name gets into its own support.
use Rattle.std.proofs.Common.{◌≡◌, ℕ, suc, ◌+◌, ◌^◌, Bool, true, false, cond, Option, Some, None, List, [], ◌∷◌, ◌++◌, length, map, flat_map, eqb, option_map, refl, sym, ap, ◌∙◌, subst, ⊎_elim, arith, length-append}
use Rattle.std.specs.Option.{option_map_or}
use Rattle.std.proofs.lemmas.Bool.{and_from, both_ways, eqb-true, eq-eqb}
use Rattle.std.proofs.lemmas.List.{map-append, length-map}
use Rattle.std.specs.Prelude.{nat_lt, ◌&&◌}
use Rattle.pm_wide.specs.declared.operand.Operand.{Operand}
use Rattle.pm_wide.specs.declared.operand.Operand.TheVariants.{Name}
use Rattle.gim_ast.specs.declared.function.Function.{Function}
use Rattle.gim_ast.specs.declared.function.Block.{Block}
use Rattle.gim_ast.specs.declared.function.Phi.{Phi}
use Rattle.gim_ast.specs.declared.function.Stmt.{Stmt}
use Rattle.gim_ast.specs.declared.function.Rhs.{Rhs}
use Rattle.gim_ast.specs.declared.function.End.{End}
use Rattle.gim_ast.specs.Functions.{is_name, operands_of, operands_of_block, operands_of_phi, operands_of_stmt, operands_of_end, operands_of_rhs, assigned, phi_name, stmt_name, stmts_of, right_of, row_of, targets_of, first_where, is_used}
use Rattle.gim_ast.specs.WellFormed.{is_among, phi_blocks, phi_fits, stmt_fits, end_fits, operands_hold, bounds_hold}
use Rattle.gim_ast.specs.Paths.{Stretch, stretch_of, flow_of, Path}
use Rattle.gim_ast.specs.Readable.{names_among, read_for, is_initial, Supports, IsValid}
use Rattle.gim_changes.specs.Trimming.{stands_in, trimmed}
use Rattle.gim_changes.specs.Validity.{IsAssignedAfter}
use Rattle.gim_changes.proofs.FlowKept.{unseen}
use Rattle.gim_changes.proofs.Members.{first_or, rest_of, IsMember, all_from_members, member_cases, member_mapped, member_of_parts, member_splits}
use Rattle.gim_changes.proofs.DistinctNumbers.{AreDistinct}
use Rattle.gim_changes.proofs.NamesRead.{IsReadIn, by_phi, by_stmt, by_end}
use Rattle.gim_changes.proofs.NamesUsed.{named}
use Rattle.gim_changes.proofs.RulesOfNames.{ordered, assigned_in_flow, among_member, member_among, first_passes}
use Rattle.gim_changes.proofs.AlwaysAssigned.{AreUsesAssigned}
use Rattle.gim_changes.proofs.ReadyToTrim.{trimmed_valid, assigned_from_more}
use Rattle.gim_changes.proofs.ChangedBlocks.{IsLikeBlock, mapped_like, with_blocks, ready_with_blocks, BlockHolds, holds_with_blocks, operands_from, used_in_block}
use Rattle.gim_changes.proofs.GoodOperands.{IsGood}

-- the place of a changed statement is that of the statement
pub changed_place : (change : Stmt → Stmt) (stmts front : List Stmt) (stmt : Stmt) (rest : List Stmt) → map change stmts ≡ front ++ stmt ∷ rest →
    (before : List Stmt) × (old : Stmt) × (after : List Stmt) × (stmts ≡ before ++ old ∷ after) × (change old ≡ stmt) × (map change after ≡ rest)
changed_place change [] front stmt rest e =
    let long : 0 ≡ length front + suc (length rest) = ap length e ∙ length-append front (stmt ∷ rest) in absurd (omega (arith, long))
changed_place change (s ∷ stmts) [] stmt rest e = ([], s, stmts, refl, ap (first_or stmt) e, ap rest_of e)
changed_place change (s ∷ stmts) (u ∷ front) stmt rest e =
    let found = changed_place change stmts front stmt rest (ap rest_of e) in
    (s ∷ found.0, found.1, found.2, ap (λ l. s ∷ l) found.3, found.4, found.5)

first_of_mapped : (change : Stmt → Stmt) (p : Stmt → Bool) → ((s : Stmt) → p (change s) ≡ p s) → (stmts : List Stmt) → first_where p (map change stmts) ≡ option_map change (first_where p stmts)
first_of_mapped change p same [] = refl
first_of_mapped change p same (s ∷ stmts) = by (p s) (same s) (first_of_mapped change p same stmts)
  where
    by : (b : Bool) → p (change s) ≡ b → first_where p (map change stmts) ≡ option_map change (first_where p stmts) →
        cond (p (change s)) (Some (change s)) (first_where p (map change stmts)) ≡ option_map change (cond b (Some s) (first_where p stmts))
    by true is rest = rw is refl
    by false is rest = rw is rest

-- the first statement of a name, and what it reads
pub record FirstReads (f : Function) (change : Stmt → Stmt) (w z : ℕ) : Type 0 where
  pub stmt : Stmt
  pub first : first_where (λ (s : Stmt). eqb s.name w) (stmts_of f) ≡ Some stmt
  pub name : stmt.name ≡ w
  pub reads : IsMember z (names_among (operands_of_stmt (change stmt)))

pub first_reads : (f : Function) (w z : ℕ) (stmt : Stmt) → first_where (λ (s : Stmt). eqb s.name w) (stmts_of f) ≡ Some stmt →
    IsMember z (names_among (operands_of_stmt stmt)) → is_among z (read_for f w) ≡ true
unfolding read_for right_of
first_reads f w z stmt first reads = rw first (member_among z (names_among (operands_of_stmt stmt)) reads)

module _ (change_phi : Phi → Phi) (change_stmt : Stmt → Stmt) (end_of : Block → End) (same_blocks : (phi : Phi) → phi_blocks (change_phi phi) ≡ phi_blocks phi)
    (same_phi : (phi : Phi) → (change_phi phi).name ≡ phi.name) (same_stmt : (s : Stmt) → (change_stmt s).name ≡ s.name) (same_targets : (b : Block) → targets_of (end_of b) ≡ targets_of b.end) where
  abbrev pub changed : Block → Block
  changed b = record b { phis = map change_phi b.phis; stmts = map change_stmt b.stmts; end = end_of b }

  abbrev pub mapped_in : Function → Function
  mapped_in f = with_blocks (map changed f.blocks) f

  -- ---- what paths see

  same_stretch : (b : Block) → stretch_of (changed b) ≡ stretch_of b
  same_stretch b =
      ap (λ names. record { number = b.number; assigns = names ++ map stmt_name (map change_stmt b.stmts); targets = targets_of (end_of b) }) (unseen phi_name change_phi same_phi b.phis)
      ∙ (ap (λ names. record { number = b.number; assigns = map phi_name b.phis ++ names; targets = targets_of (end_of b) }) (unseen stmt_name change_stmt same_stmt b.stmts)
      ∙ ap (λ targets. record { number = b.number; assigns = map phi_name b.phis ++ map stmt_name b.stmts; targets = targets }) (same_targets b))

  same_flow : (bs : List Block) → map stretch_of (map changed bs) ≡ map stretch_of bs
  same_flow bs = unseen stretch_of changed same_stretch bs

  pub same_assigned : (f : Function) → assigned (mapped_in f) ≡ assigned f
  same_assigned f =
      sym (assigned_in_flow (mapped_in f)) ∙ (ap (λ flow. flat_map (λ (s : Stretch). s.assigns) flow) (same_flow f.blocks) ∙ assigned_in_flow f)

  like_changed : (b : Block) → IsLikeBlock b (changed b)
  like_changed b = record {
    joint_is = ap (λ targets. (b.number, targets)) (same_targets b);
    phis = λ phi one. let found = member_mapped change_phi phi b.phis one in
        (found.0, found.1, sym (ap phi_blocks found.2) ∙ same_blocks found.0);
  }

  -- ---- what names read

  stmts_changed : (bs : List Block) → flat_map (λ (b : Block). b.stmts) (map changed bs) ≡ map change_stmt (flat_map (λ (b : Block). b.stmts) bs)
  stmts_changed [] = refl
  stmts_changed (b ∷ bs) = ap (λ l. map change_stmt b.stmts ++ l) (stmts_changed bs) ∙ sym (map-append change_stmt b.stmts (flat_map (λ (c : Block). c.stmts) bs))

  pub reads_changed : (f : Function) (w z : ℕ) → is_among z (read_for (mapped_in f) w) ≡ true → FirstReads f change_stmt w z
  unfolding read_for right_of
  reads_changed f w z reads = by (first_where (λ (s : Stmt). eqb s.name w) (stmts_of f)) refl
      (subst (λ o. is_among z (option_map_or (λ (rhs : Rhs). names_among (operands_of_rhs rhs)) (option_map (λ (s : Stmt). s.rhs) o) []) ≡ true)
      (ap (first_where (λ (s : Stmt). eqb s.name w)) (stmts_changed f.blocks) ∙ first_of_mapped change_stmt (λ (s : Stmt). eqb s.name w) (λ s. ap (λ v. eqb v w) (same_stmt s)) (stmts_of f)) reads)
    where
      by : (o : Option Stmt) → first_where (λ (s : Stmt). eqb s.name w) (stmts_of f) ≡ o →
          is_among z (option_map_or (λ (rhs : Rhs). names_among (operands_of_rhs rhs)) (option_map (λ (s : Stmt). s.rhs) (option_map change_stmt o)) []) ≡ true → FirstReads f change_stmt w z
      by None first h = absurd (both_ways false refl h)
      by (Some stmt) first h = record {
        stmt = stmt;
        first = first;
        name = eqb-true stmt.name w (first_passes (λ (s : Stmt). eqb s.name w) (stmts_of f) stmt first).1;
        reads = among_member z (names_among (operands_of_stmt (change_stmt stmt))) h;
      }

  -- ---- the whole

  -- each operand of the changed blocks may stand where it stands
  pub record AreGood (f : Function) : Type 0 where
    pub phis : (b : Block) → IsMember b f.blocks → (phi : Phi) → IsMember phi b.phis → (m : ℕ) (a : Operand) → IsMember (m, a) (change_phi phi).args → IsGood f m [] a
    pub stmts : (b : Block) → IsMember b f.blocks → (front : List Stmt) (stmt : Stmt) (rest : List Stmt) → b.stmts ≡ front ++ stmt ∷ rest →
        (a : Operand) → IsMember a (operands_of_stmt (change_stmt stmt)) → IsGood f b.number (map stmt_name (stmt ∷ rest)) a
    pub ends : (b : Block) → IsMember b f.blocks → (a : Operand) → IsMember a (operands_of_end (end_of b)) → IsGood f b.number [] a

  -- each part is well typed
  pub record AreTyped (f : Function) : Type 0 where
    pub phis : (b : Block) → IsMember b f.blocks → (phi : Phi) → IsMember phi b.phis → phi_fits f (change_phi phi) ≡ true
    pub stmts : (b : Block) → IsMember b f.blocks → (stmt : Stmt) → IsMember stmt b.stmts → stmt_fits f (change_stmt stmt) ≡ true
    pub ends : (b : Block) → IsMember b f.blocks → end_fits f (end_of b) ≡ true

  module _ (f : Function) (good : AreGood f) where
    -- each operand may stand somewhere
    good_somewhere : (b : Block) → IsMember b f.blocks → (a : Operand) → IsMember a (operands_of_block (changed b)) → (n : ℕ) × (left : List ℕ) × IsGood f n left a
    good_somewhere b one a among =
        let phis = map change_phi b.phis in
        let stmts = map change_stmt b.stmts in
        ⊎_elim
        (λ front. ⊎_elim
        (λ in_phis.
        let found = member_of_parts operands_of_phi a phis in_phis in
        let old = member_mapped change_phi found.0 b.phis found.1 in
        let arg = member_mapped (λ (p : ℕ × Operand). p.1) a (change_phi old.0).args (subst (λ (phi : Phi). IsMember a (operands_of_phi phi)) (sym old.2) found.2) in
        (arg.0.0, [], subst (IsGood f arg.0.0 []) arg.2 (good.phis b one old.0 old.1 arg.0.0 arg.0.1 arg.1)))
        (λ in_stmts.
        let found = member_of_parts operands_of_stmt a stmts in_stmts in
        let old = member_mapped change_stmt found.0 b.stmts found.1 in
        let place = member_splits old.0 b.stmts old.1 in
        (b.number, map stmt_name (old.0 ∷ place.1), good.stmts b one place.0 old.0 place.1 place.2 a (subst (λ (s : Stmt). IsMember a (operands_of_stmt s)) (sym old.2) found.2)))
        (member_cases a (flat_map operands_of_phi phis) (flat_map operands_of_stmt stmts) front))
        (λ at_end. (b.number, [], good.ends b one a at_end))
        (member_cases a (flat_map operands_of_phi phis ++ flat_map operands_of_stmt stmts) (operands_of_end (end_of b)) among)

    holds_changed : AreTyped f → (b : Block) → IsMember b f.blocks → BlockHolds f (changed b)
    holds_changed typed b one = record {
      each = λ a among. (good_somewhere b one a among).2.holds;
      fits = and_from _ _ (and_from _ _
          (all_from_members (phi_fits f) (map change_phi b.phis) (λ phi mine. let old = member_mapped change_phi phi b.phis mine in subst (λ (p : Phi). phi_fits f p ≡ true) old.2 (typed.phis b one old.0 old.1)))
          (all_from_members (stmt_fits f) (map change_stmt b.stmts) (λ stmt mine. let old = member_mapped change_stmt stmt b.stmts mine in subst (λ (s : Stmt). stmt_fits f s ≡ true) old.2 (typed.stmts b one old.0 old.1))))
          (typed.ends b one);
    }

    operands_changed : AreTyped f → operands_hold (mapped_in f) ≡ true
    operands_changed typed = operands_from (mapped_in f) (λ c one.
        let found = member_mapped changed c f.blocks one in
        holds_with_blocks f (map changed f.blocks) c (subst (BlockHolds f) found.2 (holds_changed typed found.0 found.1)))

    stood_changed : (x : ℕ) → is_used (mapped_in f) x ≡ true → stands_in f x ≡ true
    stood_changed x used =
        let found = used_in_block (mapped_in f) x used in
        let old = member_mapped changed found.0 f.blocks found.1 in
        let at = good_somewhere old.0 old.1 found.2.0 (subst (λ (b : Block). IsMember found.2.0 (operands_of_block b)) (sym old.2) found.2.1) in
        at.2.stands x found.2.2

    assigned_in_changed : (b : Block) → IsMember b f.blocks → (y n : ℕ) (left : List ℕ) → IsReadIn (changed b) y n left → (past : List ℕ) → Path (flow_of f) n left past →
        IsAssignedAfter (is_initial f) y past
    assigned_in_changed b one y n left (by_phi phi a mine arg name none) past path =
        let old = member_mapped change_phi phi b.phis mine in
        let found = named y (a ∷ []) name in
        let same : a ≡ Name y found.0 = ⊎_elim (λ here. here) (λ later. absurd later) found.1 in
        let at = good.phis b one old.0 old.1 n a (subst (λ (p : Phi). IsMember (n, a) p.args) (sym old.2) arg) in
        at.assigned y (subst (λ c. is_name y c ≡ true) (sym same) (eq-eqb y y refl)) past (subst (λ l. Path (flow_of f) n l past) none path)
    assigned_in_changed b one y n left (by_stmt front stmt rest is name here what) past path =
        let place = changed_place change_stmt b.stmts front stmt rest is in
        let found = named y (operands_of_stmt stmt) name in
        let at = good.stmts b one place.0 place.1 place.2 place.3 (Name y found.0) (subst (λ (s : Stmt). IsMember (Name y found.0) (operands_of_stmt s)) (sym place.4) found.1) in
        let names : map stmt_name (stmt ∷ rest) ≡ map stmt_name (place.1 ∷ place.2) =
        ap (λ (s : Stmt). s.name ∷ map stmt_name rest) (sym place.4)
        ∙ (ap (λ z. z ∷ map stmt_name rest) (same_stmt place.1) ∙ ap (λ l. place.1.name ∷ l) (ap (map stmt_name) (sym place.5) ∙ unseen stmt_name change_stmt same_stmt place.2)) in
        at.assigned y (eq-eqb y y refl) past (subst (λ m. Path (flow_of f) m (map stmt_name (place.1 ∷ place.2)) past) here (subst (λ l. Path (flow_of f) n l past) (what ∙ names) path))
    assigned_in_changed b one y n left (by_end name here what) past path =
        let found = named y (operands_of_end (end_of b)) name in
        (good.ends b one (Name y found.0) found.1).assigned y (eq-eqb y y refl) past (subst (λ m. Path (flow_of f) m [] past) here (subst (λ l. Path (flow_of f) n l past) what path))

    initial_same : (y : ℕ) → is_initial (mapped_in f) y ≡ is_initial f y
    unfolding is_initial row_of
    initial_same y = refl

    assigned_changed : AreUsesAssigned (mapped_in f)
    assigned_changed y n left (c, one, reads) past path =
        let old = member_mapped changed c f.blocks one in
        assigned_from_more (is_initial f) (is_initial (mapped_in f)) y (λ is. initial_same y ∙ is) past
        (assigned_in_changed old.0 old.1 y n left (subst (λ (d : Block). IsReadIn d y n left) (sym old.2) reads) past
        (subst (λ flow. Path flow n left past) (same_flow f.blocks) path))

    pub valid_changed : IsValid f → AreTyped f → bounds_hold (mapped_in f) ≡ true → ((x : ℕ) → Supports (read_for (mapped_in f)) x x → ⊥) → IsValid (trimmed (mapped_in f))
    valid_changed valid typed bounds apart =
        trimmed_valid (mapped_in f)
        (ready_with_blocks f (map changed f.blocks) valid.well_formed
        (λ x is. subst (λ l. is_among x l ≡ true) (same_assigned f) is)
        (subst AreDistinct (sym (same_assigned f)) (ordered f valid.well_formed).once)
        (λ x used is. subst (λ l. is_among x l ≡ true) (sym (same_assigned f)) is)
        stood_changed (mapped_like changed like_changed f.blocks) (operands_changed typed) bounds)
        apart assigned_changed

-- ---- as many operands as before

same_count : {X Y : Type 0} (g : X → List Y) (change : X → X) → ((x : X) → length (g (change x)) ≡ length (g x)) → (xs : List X) → length (flat_map g (map change xs)) ≡ length (flat_map g xs)
same_count g change same [] = refl
same_count g change same (x ∷ xs) =
    length-append (g (change x)) (flat_map g (map change xs)) ∙ (ap (λ n. n + length (flat_map g (map change xs))) (same x)
    ∙ (ap (λ n. length (g x) + n) (same_count g change same xs) ∙ sym (length-append (g x) (flat_map g xs))))

-- a block with as many operands
pub block_count : (b c : Block) → length (flat_map operands_of_phi c.phis) ≡ length (flat_map operands_of_phi b.phis) → length (flat_map operands_of_stmt c.stmts) ≡ length (flat_map operands_of_stmt b.stmts) →
    length (operands_of_end c.end) ≡ length (operands_of_end b.end) → length (operands_of_block c) ≡ length (operands_of_block b)
block_count b c phis stmts ends =
    let old = length-append (flat_map operands_of_phi b.phis ++ flat_map operands_of_stmt b.stmts) (operands_of_end b.end) in
    let old_front = length-append (flat_map operands_of_phi b.phis) (flat_map operands_of_stmt b.stmts) in
    let new = length-append (flat_map operands_of_phi c.phis ++ flat_map operands_of_stmt c.stmts) (operands_of_end c.end) in
    let new_front = length-append (flat_map operands_of_phi c.phis) (flat_map operands_of_stmt c.stmts) in
    omega (arith, phis, stmts, ends, old, old_front, new, new_front)

pub phis_count : (change : Phi → Phi) → ((phi : Phi) → length (operands_of_phi (change phi)) ≡ length (operands_of_phi phi)) → (phis : List Phi) →
    length (flat_map operands_of_phi (map change phis)) ≡ length (flat_map operands_of_phi phis)
phis_count change same phis = same_count operands_of_phi change same phis

pub stmts_count : (change : Stmt → Stmt) → ((s : Stmt) → length (operands_of_stmt (change s)) ≡ length (operands_of_stmt s)) → (stmts : List Stmt) →
    length (flat_map operands_of_stmt (map change stmts)) ≡ length (flat_map operands_of_stmt stmts)
stmts_count change same stmts = same_count operands_of_stmt change same stmts

pub bounds_of_count : (f : Function) (change : Block → Block) → ((b : Block) → length (operands_of_block (change b)) ≡ length (operands_of_block b)) → bounds_hold f ≡ true →
    bounds_hold (with_blocks (map change f.blocks) f) ≡ true
unfolding operands_of
bounds_of_count f change same holds =
    subst (λ n. (nat_lt n (2 ^ 31) && nat_lt (length f.names) (2 ^ 31) && nat_lt (length (flat_map operands_of_block (map change f.blocks))) (2 ^ 31)) ≡ true) (sym (length-map f.blocks change))
    (subst (λ n. (nat_lt (length f.blocks) (2 ^ 31) && nat_lt (length f.names) (2 ^ 31) && nat_lt n (2 ^ 31)) ≡ true) (sym (same_count operands_of_block change same f.blocks)) holds)

pub mapped_alike : {X Y : Type 0} (g h : X → Y) → ((x : X) → g x ≡ h x) → (xs : List X) → map g xs ≡ map h xs
mapped_alike g h same [] = refl
mapped_alike g h same (x ∷ xs) = ap (λ y. y ∷ map g xs) (same x) ∙ ap (λ l. h x ∷ l) (mapped_alike g h same xs)
