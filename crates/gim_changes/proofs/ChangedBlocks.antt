-- What of the rules stays where the blocks of a function are changed one by one.
use Rattle.std.proofs.Common.{◌≡◌, ℕ, Bool, true, false, cond, not, ◌&&◌, List, [], ◌∷◌, ◌++◌, map, flat_map, eqb, refl, sym, ap, ◌∙◌, subst, inl, inr, ⊎_elim}
use Rattle.std.specs.List.{list_any, list_all}
use Rattle.std.proofs.lemmas.Bool.{and_parts, and_from, or_cases, not-true, both_ways, false_from_ne_true}
use Rattle.pm_wide.specs.declared.operand.Operand.{Operand}
use Rattle.gim_ast.specs.declared.function.Function.{Function}
use Rattle.gim_ast.specs.declared.function.Block.{Block}
use Rattle.gim_ast.specs.declared.function.Phi.{Phi}
use Rattle.gim_ast.specs.declared.function.NameRow.{NameRow}
use Rattle.gim_ast.specs.Functions.{is_name, operands_of, operands_of_block, assigned, targets_of, row_of, is_used}
use Rattle.gim_ast.specs.WellFormed.{all_distinct, is_among, is_assigned, is_empty, entry_has_no_phi, numbers_of, predecessors, phi_blocks, phi_holds, blocks_hold, operand_holds, block_fits, operands_hold, bounds_hold, base_holds, row_stands, IsWellFormed}
use Rattle.gim_changes.specs.Trimming.{stands_in}
use Rattle.gim_changes.proofs.Members.{IsMember, all_members, all_from_members, member_from_any, member_of_parts, part_member}
use Rattle.gim_changes.proofs.DistinctNumbers.{AreDistinct}
use Rattle.gim_changes.proofs.RulesOfNames.{row_cases, rows_hold}
use Rattle.gim_changes.proofs.ReadyToTrim.{MayStay, IsReadyToTrim}

-- ---- rules of blocks

-- where a block is and where it leads
abbrev pub joint : Block → ℕ × List ℕ
joint b = (b.number, targets_of b.end)

-- the changed block has the number and the targets, and no phi of other blocks than before
pub record IsLikeBlock (b c : Block) : Type 0 where
  pub joint_is : joint c ≡ joint b
  pub phis : (phi : Phi) → IsMember phi c.phis → (old : Phi) × IsMember old b.phis × (phi_blocks phi ≡ phi_blocks old)

abbrev pub AreLikeBlocks : List Block → List Block → Type 0
AreLikeBlocks [] [] = Unit {0}
AreLikeBlocks [] (c ∷ cs) = ⊥
AreLikeBlocks (b ∷ bs) [] = ⊥
AreLikeBlocks (b ∷ bs) (c ∷ cs) = IsLikeBlock b c × AreLikeBlocks bs cs

pub mapped_like : (change : Block → Block) → ((b : Block) → IsLikeBlock b (change b)) → (bs : List Block) → AreLikeBlocks bs (map change bs)
mapped_like change each [] = tt
mapped_like change each (b ∷ bs) = (each b, mapped_like change each bs)

joints_same : (bs cs : List Block) → AreLikeBlocks bs cs → map joint cs ≡ map joint bs
joints_same [] [] like = refl
joints_same [] (c ∷ cs) like = absurd like
joints_same (b ∷ bs) [] like = absurd like
joints_same (b ∷ bs) (c ∷ cs) like = ap (λ j. j ∷ map joint cs) like.0.joint_is ∙ ap (λ l. joint b ∷ l) (joints_same bs cs like.1)

numbers_by_joints : (bs : List Block) → map (λ (b : Block). b.number) bs ≡ map (λ (j : ℕ × List ℕ). j.0) (map joint bs)
numbers_by_joints [] = refl
numbers_by_joints (b ∷ bs) = ap (λ l. b.number ∷ l) (numbers_by_joints bs)

targets_by_joints : (bs : List Block) → flat_map (λ (b : Block). targets_of b.end) bs ≡ flat_map (λ (j : ℕ × List ℕ). j.1) (map joint bs)
targets_by_joints [] = refl
targets_by_joints (b ∷ bs) = ap (λ l. targets_of b.end ++ l) (targets_by_joints bs)

abbrev jumps_from : ℕ → ℕ × List ℕ → List ℕ
jumps_from n j = cond (list_any (λ to. eqb to n) j.1) (j.0 ∷ []) []

predecessors_by_joints : (n : ℕ) (bs : List Block) → flat_map (λ (b : Block). cond (list_any (λ to. eqb to n) (targets_of b.end)) (b.number ∷ []) []) bs ≡ flat_map (jumps_from n) (map joint bs)
predecessors_by_joints n [] = refl
predecessors_by_joints n (b ∷ bs) = ap (λ l. jumps_from n (joint b) ++ l) (predecessors_by_joints n bs)

empty_blocks : (args : List (ℕ × Operand)) → is_empty args ≡ is_empty (map (λ (arg : ℕ × Operand). arg.0) args)
empty_blocks [] = refl
empty_blocks (arg ∷ args) = refl

abbrev phi_rule : List ℕ → List ℕ → Bool
phi_rule blocks from = all_distinct eqb blocks && list_all (λ m. is_among m from) blocks && list_all (λ m. is_among m blocks) from && not (is_empty blocks)

phi_by_rule : (f : Function) (n : ℕ) (phi : Phi) → phi_holds f n phi ≡ phi_rule (phi_blocks phi) (predecessors f n)
phi_by_rule f n phi =
    ap (λ e. all_distinct eqb (phi_blocks phi) && list_all (λ m. is_among m (predecessors f n)) (phi_blocks phi) && list_all (λ m. is_among m (phi_blocks phi)) (predecessors f n) && not e)
    (empty_blocks phi.args)

no_member : (phis : List Phi) → ((phi : Phi) → IsMember phi phis → ⊥) → is_empty phis ≡ true
no_member [] none = refl
no_member (phi ∷ phis) none = absurd (none phi (inl refl))

pub none_of_empty : (phis : List Phi) → is_empty phis ≡ true → (phi : Phi) → IsMember phi phis → ⊥
none_of_empty [] empty phi one = one
none_of_empty (first ∷ phis) empty phi one = both_ways false refl empty

entry_kept : (bs cs : List Block) → AreLikeBlocks bs cs → entry_has_no_phi bs ≡ true → entry_has_no_phi cs ≡ true
entry_kept [] [] like h = h
entry_kept [] (c ∷ cs) like h = absurd like
entry_kept (b ∷ bs) [] like h = absurd like
entry_kept (b ∷ bs) (c ∷ cs) like h = no_member c.phis (λ phi one. let old = like.0.phis phi one in none_of_empty b.phis h old.0 old.1)

pub like_of : (bs cs : List Block) → AreLikeBlocks bs cs → (c : Block) → IsMember c cs → (b : Block) × IsMember b bs × IsLikeBlock b c
like_of [] [] like c one = absurd one
like_of [] (d ∷ cs) like c one = absurd like
like_of (b ∷ bs) [] like c one = absurd one
like_of (b ∷ bs) (d ∷ cs) like c one = ⊎_elim
    (λ (here : d ≡ c). (b, inl refl, subst (IsLikeBlock b) here like.0))
    (λ later. let found = like_of bs cs like.1 c later in (found.0, inr found.1, found.2))
    one

pub blocks_kept : (f g : Function) → AreLikeBlocks f.blocks g.blocks → blocks_hold f ≡ true → blocks_hold g ≡ true
blocks_kept f g like h =
    let joints = joints_same f.blocks g.blocks like in
    let numbers : numbers_of g ≡ numbers_of f = numbers_by_joints g.blocks ∙ (ap (map (λ (j : ℕ × List ℕ). j.0)) joints ∙ sym (numbers_by_joints f.blocks)) in
    let targets : flat_map (λ (b : Block). targets_of b.end) g.blocks ≡ flat_map (λ (b : Block). targets_of b.end) f.blocks =
    targets_by_joints g.blocks ∙ (ap (flat_map (λ (j : ℕ × List ℕ). j.1)) joints ∙ sym (targets_by_joints f.blocks)) in
    let from : (n : ℕ) → predecessors g n ≡ predecessors f n =
    λ n. predecessors_by_joints n g.blocks ∙ (ap (flat_map (jumps_from n)) joints ∙ sym (predecessors_by_joints n f.blocks)) in
    let parts = and_parts (entry_has_no_phi f.blocks && all_distinct eqb (numbers_of f) && list_all (λ n. is_among n (numbers_of f)) (flat_map (λ (b : Block). targets_of b.end) f.blocks))
    (list_all (λ (b : Block). list_all (phi_holds f b.number) b.phis) f.blocks) h in
    let more = and_parts (entry_has_no_phi f.blocks && all_distinct eqb (numbers_of f)) (list_all (λ n. is_among n (numbers_of f)) (flat_map (λ (b : Block). targets_of b.end) f.blocks)) parts.0 in
    let most = and_parts (entry_has_no_phi f.blocks) (all_distinct eqb (numbers_of f)) more.0 in
    and_from _ _
    (and_from _ _
    (and_from _ _ (entry_kept f.blocks g.blocks like most.0) (subst AreDistinct (sym numbers) most.1))
    (subst (λ l. list_all (λ n. is_among n l) (flat_map (λ (b : Block). targets_of b.end) g.blocks) ≡ true) (sym numbers)
    (subst (λ l. list_all (λ n. is_among n (numbers_of f)) l ≡ true) (sym targets) more.1)))
    (all_from_members (λ (c : Block). list_all (phi_holds g c.number) c.phis) g.blocks (λ c one.
    let old = like_of f.blocks g.blocks like c one in
    all_from_members (phi_holds g c.number) c.phis (λ phi mine.
    let old_phi = old.2.phis phi mine in
    let number : c.number ≡ old.0.number = ap (λ (j : ℕ × List ℕ). j.0) old.2.joint_is in
    let held = all_members (phi_holds f old.0.number) old.0.phis (all_members (λ (b : Block). list_all (phi_holds f b.number) b.phis) f.blocks parts.1 old.0 old.1) old_phi.0 old_phi.1 in
    phi_by_rule g c.number phi
    ∙ (ap (phi_rule (phi_blocks phi)) (from c.number ∙ ap (predecessors f) number)
    ∙ (ap (λ l. phi_rule l (predecessors f old.0.number)) old_phi.2 ∙ (sym (phi_by_rule f old.0.number old_phi.0) ∙ held))))))

-- ---- rows

-- where the blocks assign nothing new, and what they use is assigned if it was, a row is still that of its name, or stays behind
pub row_may_stay : (f g : Function) → IsWellFormed f → (row : NameRow) → IsMember row f.names → (is_assigned g row.version ≡ true → is_assigned f row.version ≡ true) →
    (is_used g row.version ≡ true → is_assigned f row.version ≡ true → is_assigned g row.version ≡ true) → (is_used g row.version ≡ true → stands_in f row.version ≡ true) → MayStay g row
row_may_stay f g well row one fewer still stood =
    let holds = all_members (λ (r : NameRow). base_holds f r && row_stands f r) f.names (rows_hold f well.names) row one in
    ⊎_elim
    (λ initial. record {
      initial = λ is. false_from_ne_true (is_assigned g row.version) (λ assigned. both_ways (is_assigned f row.version) initial.1 (fewer assigned));
      other = λ plain used. absurd (both_ways row.initial plain initial.0);
    })
    (λ plain. record {
      initial = λ is. absurd (both_ways row.initial plain.0 is);
      other = λ is used. still used (⊎_elim
          (λ assigned. assigned)
          (λ used_before. ⊎_elim
          (λ assigned. assigned)
          (λ alone. absurd (both_ways (is_used f row.version) (not-true (is_used f row.version) (and_parts _ _ alone).1) used_before))
          (or_cases (is_assigned f row.version) _ plain.1))
          (or_cases (is_assigned f row.version) (is_used f row.version) (stood used)));
    })
    (row_cases f row (and_parts _ _ holds).1)

abbrev pub with_blocks : List Block → Function → Function
with_blocks bs f = record f { blocks = bs }

pub ready_with_blocks : (f : Function) (bs : List Block) → IsWellFormed f → ((x : ℕ) → is_assigned (with_blocks bs f) x ≡ true → is_assigned f x ≡ true) →
    AreDistinct (assigned (with_blocks bs f)) → ((x : ℕ) → is_used (with_blocks bs f) x ≡ true → is_assigned f x ≡ true → is_assigned (with_blocks bs f) x ≡ true) →
    ((x : ℕ) → is_used (with_blocks bs f) x ≡ true → stands_in f x ≡ true) → AreLikeBlocks f.blocks bs →
    operands_hold (with_blocks bs f) ≡ true → bounds_hold (with_blocks bs f) ≡ true → IsReadyToTrim (with_blocks bs f)
ready_with_blocks f bs well fewer once still stood like operands bounds = record {
  declarations = well.declarations;
  types = well.types;
  rise = (and_parts _ _ (and_parts _ _ (and_parts _ _ (and_parts _ _ well.names).0).0).0).0;
  bases = λ row one. (and_parts _ _ (all_members (λ (r : NameRow). base_holds f r && row_stands f r) f.names (rows_hold f well.names) row one)).0;
  rows = λ row one. row_may_stay f (with_blocks bs f) well row one (fewer row.version) (still row.version) (stood row.version);
  initials = (and_parts _ _ (and_parts _ _ (and_parts _ _ well.names).0).0).1;
  locals = (and_parts _ _ (and_parts _ _ well.names).0).1;
  once = once;
  blocks = blocks_kept f (with_blocks bs f) like well.blocks;
  operands = operands;
  bounds = bounds;
}

-- ---- operands

-- each operand of a block holds, and the block is well typed
pub record BlockHolds (f : Function) (b : Block) : Type 0 where
  pub each : (a : Operand) → IsMember a (operands_of_block b) → operand_holds f a ≡ true
  pub fits : block_fits f b ≡ true

pub block_holds : (f : Function) → operands_hold f ≡ true → (b : Block) → IsMember b f.blocks → BlockHolds f b
unfolding operands_of
block_holds f h b one =
    let parts = and_parts (list_all (operand_holds f) (operands_of f)) (list_all (block_fits f) f.blocks) h in
    record {
      each = λ a mine. all_members (operand_holds f) (operands_of f) parts.0 a (part_member operands_of_block a b f.blocks one mine);
      fits = all_members (block_fits f) f.blocks parts.1 b one;
    }

-- whether a block holds doesn't go by the blocks of the function
pub holds_with_blocks : (f : Function) (bs : List Block) (b : Block) → BlockHolds f b → BlockHolds (with_blocks bs f) b
unfolding row_of
holds_with_blocks f bs b holds = record { each = holds.each; fits = holds.fits }

pub operands_from : (f : Function) → ((b : Block) → IsMember b f.blocks → BlockHolds f b) → operands_hold f ≡ true
unfolding operands_of
operands_from f each =
    and_from (list_all (operand_holds f) (operands_of f)) (list_all (block_fits f) f.blocks)
    (all_from_members (operand_holds f) (operands_of f) (λ a one. let found = member_of_parts operands_of_block a f.blocks one in (each found.0 found.1).each a found.2))
    (all_from_members (block_fits f) f.blocks (λ b one. (each b one).fits))

-- a used name is an operand of a block
pub used_in_block : (f : Function) (x : ℕ) → is_used f x ≡ true → (b : Block) × IsMember b f.blocks × ((a : Operand) × IsMember a (operands_of_block b) × (is_name x a ≡ true))
unfolding operands_of
used_in_block f x used =
    let found = member_from_any (is_name x) (operands_of f) used in
    let home = member_of_parts operands_of_block found.0 f.blocks found.1 in
    (home.0, home.1, (found.0, home.2, found.2))
