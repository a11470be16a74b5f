-- A new statement leaves what terms stand for, and its own name stands for what it computes.
use Rattle.std.proofs.Common.{◌≡◌, ◌≢◌, ℕ, zero, suc, Bool, true, false, cond, eqb, Option, Some}
use Rattle.std.proofs.Common.{None, List, [], ◌∷◌, ◌++◌, take, drop, insert, slice_get, refl, sym}
use Rattle.std.proofs.Common.{ap, subst, ◌∙◌, arith, take-append-drop}
use Rattle.std.specs.Option.{option_map_or}
use Rattle.std.specs.List.{list_all, flat_map}
use Rattle.std.proofs.lemmas.Bool.{and_parts, eqb-true, eq-eqb}
use Rattle.std.proofs.lemmas.Bool.Decides.{nat_tests}
use Rattle.std.proofs.lemmas.List.Folds.{list_all-append}
use Rattle.std.proofs.lemmas.Option.{same_Some, none-some}
use Rattle.pm_wide.specs.Types.{Ty, same_type}
use Rattle.pm_wide.specs.declared.operand.Operand.{Operand}
use Rattle.pm_wide.specs.declared.operand.Operand.TheVariants.{Name, Const}
use Rattle.pm_term.specs.Trees.{Tree, node, Trees}
use Rattle.gim_ast.specs.declared.function.Function.{Function}
use Rattle.gim_ast.specs.declared.function.Block.{Block}
use Rattle.gim_ast.specs.declared.function.Decl.{Decl}
use Rattle.gim_ast.specs.declared.function.Stmt.{Stmt}
use Rattle.gim_ast.specs.declared.function.NameRow.{NameRow}
use Rattle.gim_ast.specs.declared.function.Rhs.{Rhs}
use Rattle.gim_ast.specs.declared.function.Rhs.TheVariants.{Copy, Op}
use Rattle.gim_ast.specs.Functions.{first_where, operands_of_rhs, operands_of_stmt, right_of}
use Rattle.gim_ast.specs.Functions.{row_of, stmts_of}
use Rattle.gim_ast.specs.WellFormed.{IsWellFormed, operand_holds, stmt_fits, rhs_fits}
use Rattle.gim_ast.specs.Runs.{name_type}
use Rattle.gim_meaning.proofs.RightSides.{stmts_in, assigns}
use Rattle.gim_meaning.proofs.RightSides.{rhs_of_found}
use Rattle.gim_run.specs.Slots.{stmt_holds}
use Rattle.gim_run.specs.Blocks.{block_holds}
use Rattle.gim_run.proofs.HoldLemmas.{blocks_hold}
use Rattle.gim_run.proofs.PhiLemmas.{block_stmts}
use Rattle.gim_run.proofs.SlotLemmas.{stmt_typed, stmt_known}
use Rattle.gim_changes.specs.Insertion.{changed_at, insert_in_block, with_stmt}
use Rattle.gim_meaning.specs.Unfolding.{Unfolds, itself, copied, computed, EachUnfolds, no_operand}
use Rattle.gim_meaning.specs.Unfolding.{one_more, UnfoldsRight}
use Rattle.gim_meaning.proofs.ListSearch.{found_passes, first_of_front, first_behind, all_of_found}
use Rattle.gim_meaning.proofs.NewRows.{IsNewStmt, has_row_other, row_other, typed_other, typed_new}

-- ---- the statement of a name

stmts_are_right : (f : Function) (blocks : List Block) → list_all (block_holds f) blocks ≡ true →
    list_all (stmt_holds f) (flat_map stmts_in blocks) ≡ true
stmts_are_right f [] h = refl
stmts_are_right f (block ∷ blocks) h =
    let parts = and_parts (block_holds f block) (list_all (block_holds f) blocks) h in
    let here : list_all (stmt_holds f) block.stmts ≡ true = block_stmts f block parts.0 in
    let rest : list_all (stmt_holds f) (flat_map stmts_in blocks) ≡ true =
    stmts_are_right f blocks parts.1 in
    list_all-append (stmt_holds f) block.stmts (flat_map stmts_in blocks) ∙ rw (here, rest) refl

found_is_right : (f : Function) → IsWellFormed f → (y : ℕ) (stmt : Stmt) →
    first_where (assigns y) (stmts_of f) ≡ Some stmt → (stmt.name ≡ y) × (stmt_holds f stmt ≡ true)
found_is_right f well y stmt found = (
  eqb-true stmt.name y (found_passes (assigns y) (stmts_of f) stmt found),
  all_of_found (assigns y) (stmt_holds f) (stmts_of f) stmt found
      (stmts_are_right f f.blocks (blocks_hold f well)),
)

-- in a well-formed function the right side of a name fits the name, and so do its operands
pub record FitsItsName (f : Function) (y : ℕ) (rhs : Rhs) : Type 0 where
  pub fits : rhs_fits (name_type f y) rhs ≡ true
  pub operands : list_all (operand_holds f) (operands_of_rhs rhs) ≡ true

pub right_fits_its_name : (f : Function) → IsWellFormed f → (y : ℕ) (rhs : Rhs) →
    right_of f y ≡ Some rhs → FitsItsName f y rhs
unfolding right_of
right_fits_its_name f well y rhs is = by (first_where (assigns y) (stmts_of f)) refl is
  where
    by : (found : Option Stmt) → first_where (assigns y) (stmts_of f) ≡ found →
        rhs_of_found found ≡ Some rhs → FitsItsName f y rhs
    by None none e = absurd (none-some rhs e)
    by (Some stmt) found e =
        let right = found_is_right f well y stmt found in
        let same = same_Some stmt.rhs rhs e in
        record {
          fits = subst (λ z. rhs_fits (name_type f z) rhs ≡ true) right.0
              (subst (λ r. rhs_fits (name_type f stmt.name) r ≡ true) same
              (stmt_typed f stmt right.1));
          operands = subst (λ r. list_all (operand_holds f) (operands_of_rhs r) ≡ true) same
              (stmt_known f stmt right.1);
        }

none_without_row : (f : Function) → IsWellFormed f → (new : ℕ) → row_of f new ≡ None →
    first_where (assigns new) (stmts_of f) ≡ None
none_without_row f well new none = by (first_where (assigns new) (stmts_of f)) refl
  where
    by : (found : Option Stmt) → first_where (assigns new) (stmts_of f) ≡ found → found ≡ None
    by None is = refl
    by (Some stmt) is =
        let right = found_is_right f well new stmt is in
        let fits = (and_parts (stmt_fits f stmt)
        (list_all (operand_holds f) (operands_of_stmt stmt)) right.1).0 in
        absurd (has_row_other f new none
        (λ (row : NameRow). rhs_fits row.ty stmt.rhs) stmt.name fits right.0)

-- ---- searches past a new statement

module _ (p : Stmt → Bool) where
  first_of_both : (front other rest after : List Stmt) → first_where p front ≡ first_where p other →
      first_where p rest ≡ first_where p after →
      first_where p (front ++ rest) ≡ first_where p (other ++ after)
  first_of_both front other rest after fronts backs = by (first_where p other) refl
    where
      by : (found : Option Stmt) → first_where p other ≡ found →
          first_where p (front ++ rest) ≡ first_where p (other ++ after)
      by None none = first_behind p front rest (fronts ∙ none) ∙ backs
          ∙ sym (first_behind p other after none)
      by (Some stmt) found = first_of_front p front rest stmt (fronts ∙ found)
          ∙ sym (first_of_front p other after stmt found)

  none_in_front : (front rest : List Stmt) → first_where p (front ++ rest) ≡ None →
      first_where p front ≡ None
  none_in_front front rest none = by (first_where p front) refl
    where
      by : (found : Option Stmt) → first_where p front ≡ found → found ≡ None
      by None is = refl
      by (Some stmt) is = absurd (none-some stmt (sym none ∙ first_of_front p front rest stmt is))

  module _ (new : Stmt) (before : ℕ) where
    unseen_in_block : p new ≡ false → (stmts : List Stmt) →
        first_where p (insert stmts before new) ≡ first_where p stmts
    unseen_in_block fails stmts =
        first_of_both (take before stmts) (take before stmts) (new ∷ drop before stmts)
        (drop before stmts) refl (ap
        (λ b. cond b (Some new) (first_where p (drop before stmts))) fails)
        ∙ ap (first_where p) (take-append-drop before stmts)

    unseen_in_blocks : p new ≡ false → (place : ℕ) (blocks : List Block) →
        first_where p (flat_map stmts_in (changed_at place (insert_in_block before new) blocks))
        ≡ first_where p (flat_map stmts_in blocks)
    unseen_in_blocks fails place [] = refl
    unseen_in_blocks fails zero (block ∷ blocks) =
        first_of_both (insert block.stmts before new) block.stmts (flat_map stmts_in blocks)
        (flat_map stmts_in blocks) (unseen_in_block fails block.stmts) refl
    unseen_in_blocks fails (suc place) (block ∷ blocks) =
        first_of_both block.stmts block.stmts
        (flat_map stmts_in (changed_at place (insert_in_block before new) blocks))
        (flat_map stmts_in blocks) refl (unseen_in_blocks fails place blocks)

    -- what none passed before finds the new one
    found_in_block : p new ≡ true → (stmts : List Stmt) → first_where p stmts ≡ None →
        first_where p (insert stmts before new) ≡ Some new
    found_in_block passes stmts none =
        let whole = ap (first_where p) (take-append-drop before stmts) ∙ none in
        first_behind p (take before stmts) (new ∷ drop before stmts)
        (none_in_front (take before stmts) (drop before stmts) whole)
        ∙ ap (λ b. cond b (Some new) (first_where p (drop before stmts))) passes

    found_in_blocks : p new ≡ true → (place : ℕ) (home : Block) (blocks : List Block) →
        slice_get blocks place ≡ Some home → first_where p (flat_map stmts_in blocks) ≡ None →
        first_where p (flat_map stmts_in (changed_at place (insert_in_block before new) blocks))
        ≡ Some new
    found_in_blocks passes place home [] at none = absurd (none-some home at)
    found_in_blocks passes zero home (block ∷ blocks) at none =
        first_of_front p (insert block.stmts before new) (flat_map stmts_in blocks) new
        (found_in_block passes block.stmts
        (none_in_front block.stmts (flat_map stmts_in blocks) none))
    found_in_blocks passes (suc place) home (block ∷ blocks) at none =
        let changed = changed_at place (insert_in_block before new) blocks in
        let first = none_in_front block.stmts (flat_map stmts_in blocks) none in
        let rest = sym (first_behind p block.stmts (flat_map stmts_in blocks) first) ∙ none in
        first_behind p block.stmts (flat_map stmts_in changed) first
        ∙ found_in_blocks passes place home blocks at rest

-- ---- terms

module _ (f : Function) (well : IsWellFormed f) (place : ℕ) (home : Block)
    (at : slice_get f.blocks place ≡ Some home) (before : ℕ) (stmt : Stmt) (decl : Decl)
    (is_new : IsNewStmt f stmt) where
  abbrev g : Function
  g = with_stmt place before stmt decl f

  same_right : (y : ℕ) → y ≢ stmt.name → right_of g y ≡ right_of f y
  unfolding right_of with_stmt
  same_right y other =
      let fails : eqb stmt.name y ≡ false = grind (arith, nat_tests) in
      ap rhs_of_found (unseen_in_blocks (assigns y) stmt before fails place f.blocks)

  -- the new name has the new right side and its type
  pub new_right : right_of g stmt.name ≡ Some stmt.rhs
  unfolding right_of with_stmt
  new_right = ap rhs_of_found (found_in_blocks (assigns stmt.name) stmt before
      (eq-eqb stmt.name stmt.name refl) place home f.blocks at
      (none_without_row f well stmt.name is_new.new))

  has_right_other : (y : ℕ) (rhs : Rhs) → right_of f y ≡ Some rhs → y ≢ stmt.name
  unfolding right_of
  has_right_other y rhs is same = none-some rhs
      (sym (ap rhs_of_found (none_without_row f well stmt.name is_new.new))
      ∙ ap (right_of f) (sym same) ∙ is)

  holds_still : (a : Operand) → operand_holds f a ≡ true → operand_holds g a ≡ true
  holds_still (Name x t) h =
      let other = has_row_other f stmt.name is_new.new
      (λ (row : NameRow). same_type row.ty t) x h in
      ap (λ found. option_map_or (λ (row : NameRow). same_type row.ty t) found false)
      (row_other f place before stmt decl x other) ∙ h
  holds_still (Const w) h = h

  -- a right side is found still
  right_still : (y : ℕ) (rhs : Rhs) → right_of f y ≡ Some rhs → right_of g y ≡ Some rhs
  right_still y rhs is = same_right y (has_right_other y rhs is) ∙ is

  mutual
    pub stands_still : (a : Operand) (term : Tree) → Unfolds f a term → Unfolds g a term
    stands_still _ _ (itself a holds) = itself a (holds_still a holds)
    stands_still _ _ (copied x t a term is unfolds) =
        copied x t a term (right_still x (Copy a) is) (stands_still a term unfolds)
    stands_still _ _ (computed x t code operands terms is each_unfolds) =
        subst (λ ty. Unfolds g (Name x t) (node code ty terms))
        (typed_other f place before stmt decl x (has_right_other x (Op code operands) is))
        (computed x t code operands terms (right_still x (Op code operands) is)
        (each_stands_still operands terms each_unfolds))

    each_stands_still : (operands : List Operand) (terms : Trees) → EachUnfolds f operands terms →
        EachUnfolds g operands terms
    each_stands_still _ _ no_operand = no_operand
    each_stands_still _ _ (one_more a operands term terms unfolds each_unfolds) =
        one_more a operands term terms (stands_still a term unfolds)
        (each_stands_still operands terms each_unfolds)

  pub right_stands_still : (t : Ty) (rhs : Rhs) (term : Tree) → UnfoldsRight f t rhs term →
      UnfoldsRight g t rhs term
  right_stands_still t (Copy a) term unfolds = stands_still a term unfolds
  right_stands_still t (Op code operands) term unfolds =
      (unfolds.0, unfolds.1, each_stands_still operands unfolds.0 unfolds.2)

  -- the new name stands for what its right side stands for
  pub new_stands_for : (t : Ty) (term : Tree) → UnfoldsRight f decl.ty stmt.rhs term →
      Unfolds g (Name stmt.name t) term
  new_stands_for t term unfolds = by stmt.rhs refl
      (right_stands_still decl.ty stmt.rhs term unfolds)
    where
      by : (rhs : Rhs) → stmt.rhs ≡ rhs → UnfoldsRight g decl.ty stmt.rhs term →
          Unfolds g (Name stmt.name t) term
      by (Copy a) is still = copied stmt.name t a term (new_right ∙ ap Some is)
          (subst (λ r. UnfoldsRight g decl.ty r term) is still)
      by (Op code operands) is still =
          let there = subst (λ r. UnfoldsRight g decl.ty r term) is still in
          subst (λ tree. Unfolds g (Name stmt.name t) tree) (sym there.1)
          (subst (λ ty. Unfolds g (Name stmt.name t) (node code ty there.0))
          (typed_new f place before stmt decl is_new.new)
          (computed stmt.name t code operands there.0 (new_right ∙ ap Some is) there.2))
