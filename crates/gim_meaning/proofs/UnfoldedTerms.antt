-- A term that stands for an operand has the operand's word; so what holds of terms holds of
-- functions.
use Rattle.std.proofs.Common.{◌≡◌, ℕ, ◌+◌, Bool, true, false, cond, Option, Some, None, List, []}
use Rattle.std.proofs.Common.{◌∷◌, ◌++◌, ◌&&◌, map, length, is_some, refl, sym, ap, ap₂, subst, ◌∙◌}
use Rattle.std.proofs.Common.{arith, append-nil}
use Rattle.std.specs.Prelude.{IsSome, ◌==◌, slice_get}
use Rattle.std.specs.Option.{option_map_or}
use Rattle.std.specs.List.{list_all, AllByRecursion}
use Rattle.std.proofs.lemmas.Bool.{and_parts, or_left, or_right, both_ways, eq-eqb}
use Rattle.std.proofs.lemmas.Option.{same_Some}
use Rattle.pm_ops.specs.Codes.{is_comparison_code}
use Rattle.pm_ops.specs.declared.code.Code.{Code}
use Rattle.pm_ops.specs.declared.code.Code.TheVariants.{Eq, Ne, Lt, Le, Gt, Ge}
use Rattle.pm_wide.specs.Types.{Ty, Word, IsWord, same_type, bool_type}
use Rattle.pm_wide.specs.Operations.{operation_value}
use Rattle.pm_wide.specs.declared.operand.Operand.{Operand}
use Rattle.pm_wide.specs.declared.operand.Operand.TheVariants.{Name, Const}
use Rattle.pm_wide.proofs.Results.{same_type_is}
use Rattle.pm_term.specs.Terms.{term_value, term_values, operation_on, with_value}
use Rattle.pm_term.specs.Trees.{Tree, Trees, leaf}
use Rattle.gim_ast.specs.declared.function.Function.{Function}
use Rattle.gim_ast.specs.declared.function.Block.{Block}
use Rattle.gim_ast.specs.declared.function.Decl.{Decl}
use Rattle.gim_ast.specs.declared.function.Stmt.{Stmt}
use Rattle.gim_ast.specs.declared.function.Rhs.{Rhs}
use Rattle.gim_ast.specs.declared.function.Rhs.TheVariants.{Copy, Op}
use Rattle.gim_ast.specs.declared.function.End.TheVariants.{If}
use Rattle.gim_ast.specs.Functions.{right_of, block_of, stmt_name, operands_of_rhs}
use Rattle.gim_ast.specs.Functions.{operands_of_stmt, operands_of_end}
use Rattle.gim_ast.specs.Readable.{names_among, operand, IsReadable, Use, uses_in_stmts}
use Rattle.gim_ast.specs.Readable.{uses_in_block, uses_in, IsReadableUse, IsValid}
use Rattle.gim_ast.specs.WellFormed.{is_assigned, is_among, type_of, operand_holds, end_fits}
use Rattle.gim_ast.specs.Runs.{Env, word_of_operand, zero_of, rhs_value, name_type, holds}
use Rattle.gim_run.specs.Blocks.{phi_holds, end_holds, block_holds}
use Rattle.gim_run.specs.Slots.{stmt_holds}
use Rattle.gim_ast.proofs.ReadableLemmas.{support_is_readable}
use Rattle.gim_changes.specs.Substitution.{put_in_all, with_rhs, with_condition}
use Rattle.gim_changes.specs.Insertion.{with_stmt}
use Rattle.gim_changes.specs.Validity.{OperandComesBefore}
use Rattle.gim_changes.proofs.ComesBefore.{before_is_readable}
use Rattle.gim_meaning.specs.KeptRuns.{KeepsDefinedRuns}
use Rattle.gim_meaning.specs.PresentValues.{AreTyped, ArePossible}
use Rattle.gim_meaning.specs.ReachedPoints.{Lies}
use Rattle.gim_meaning.specs.SameReading.{AlwaysReadsAlike, AlwaysDecidesAlike, AlwaysHasValueThere}
use Rattle.gim_meaning.specs.Unfolding.{Unfolds, itself, copied, computed, EachUnfolds, no_operand}
use Rattle.gim_meaning.specs.Unfolding.{one_more, UnfoldsRight, MayRead, IsOfSupport, words_in}
use Rattle.gim_meaning.specs.Unfolding.{AreWordsOfNames, Refines, IsDefinedWith}
use Rattle.gim_meaning.proofs.NewRows.{IsNewStmt}
use Rattle.gim_meaning.proofs.ListSearch.{parts_of_found}
use Rattle.gim_meaning.proofs.PossibleWords.{always_read_alike_keeps_runs, always_given_keeps_runs}
use Rattle.gim_meaning.proofs.PossibleWords.{always_decided_keeps_runs, always_defined_keeps_runs}
use Rattle.gim_meaning.proofs.ReadableValues.{reads_of}
use Rattle.gim_meaning.proofs.SubstitutionRuns.{each_of, names_at, uses_of_stmt, uses_of_block}
use Rattle.gim_meaning.proofs.TypedWords.{type_that_holds, zero_is_word, block_is_right}

-- ---- words

pub same_type_with_itself : (t : Ty) → same_type t t ≡ true
same_type_with_itself t = grind arith

module _ (f : Function) (env : Env) (typed : AreTyped f env) where
  pub words_are_of_names : AreWordsOfNames (words_in env)
  words_are_of_names x t is = by (same_type (env x).ty t) refl
    where
      by : (b : Bool) → same_type (env x).ty t ≡ b →
          ((cond b (env x) (zero_of t)).ty ≡ t) × IsWord (cond b (env x) (zero_of t))
      by true same = (same_type_is (env x).ty t same, (typed x).1)
      by false other = (refl, zero_is_word t is)

  leaf_value : (a : Operand) → operand_holds f a ≡ true →
      term_value (words_in env) (leaf a) ≡ Some (word_of_operand env a)
  leaf_value (Name x t) h =
      let is = (typed x).0 ∙ type_that_holds f x t h in
      let same = subst (λ s. same_type s t ≡ true) (sym is) (same_type_with_itself t) in
      ap (λ b. Some (cond b (env x) (zero_of t))) same
  leaf_value (Const w) h = refl

-- ---- terms at a point

module _ (f : Function) (valid : IsValid f) (n : ℕ) (left : List ℕ) (env : Env)
    (possible : ArePossible f n left env) where
  -- what the statement of a readable name reads may be read
  reads_may : (x : ℕ) (rhs : Rhs) → IsReadable f x n left → right_of f x ≡ Some rhs →
      AllByRecursion (MayRead f n left) (operands_of_rhs rhs)
  reads_may x rhs readable is = each (operands_of_rhs rhs)
      (λ y reads. support_is_readable f valid x y n left readable
      (operand x y (subst (λ l. is_among y l ≡ true) (sym (reads_of f x rhs is)) reads)))
    where
      each : (operands : List Operand) →
          ((y : ℕ) → is_among y (names_among operands) ≡ true → IsReadable f y n left) →
          AllByRecursion (MayRead f n left) operands
      each [] may = tt
      each (Name y t ∷ operands) may = (
        may y
            (or_left (y == y) (is_among y (names_among operands)) (eq-eqb y y refl)),
        each operands
            (λ z h. may z (or_right (y == z) (is_among z (names_among operands)) h)),
      )
      each (Const w ∷ operands) may = (tt, each operands may)

  mutual
    pub unfolded_value : (a : Operand) (term : Tree) → Unfolds f a term → MayRead f n left a →
        term_value (words_in env) term ≡ Some (word_of_operand env a)
    unfolded_value _ _ (itself a holds) may = leaf_value f env possible.typed a holds
    unfolded_value _ _ (copied x t a term is unfolds) may =
        unfolded_value a term unfolds (reads_may x (Copy a) may is).0
        ∙ possible.values x may (Copy a) is
    unfolded_value _ _ (computed x t code operands terms is each_unfolds) may =
        ap (operation_on code (name_type f x))
        (unfolded_values operands terms each_unfolds (reads_may x (Op code operands) may is))
        ∙ possible.values x may (Op code operands) is

    unfolded_values : (operands : List Operand) (terms : Trees) → EachUnfolds f operands terms →
        AllByRecursion (MayRead f n left) operands →
        term_values (words_in env) terms ≡ Some (map (word_of_operand env) operands)
    unfolded_values _ _ no_operand may = refl
    unfolded_values _ _ (one_more a operands term terms unfolds each_unfolds) may =
        ap₂ with_value (unfolded_value a term unfolds may.0)
        (unfolded_values operands terms each_unfolds may.1)

  pub right_value : (t : Ty) (rhs : Rhs) (term : Tree) → UnfoldsRight f t rhs term →
      AllByRecursion (MayRead f n left) (operands_of_rhs rhs) →
      term_value (words_in env) term ≡ rhs_value t env rhs
  right_value t (Copy a) term unfolds may = unfolded_value a term unfolds may.0
  right_value t (Op code operands) term unfolds may =
      ap (term_value (words_in env)) unfolds.1
      ∙ ap (operation_on code t) (unfolded_values operands unfolds.0 unfolds.2 may)

  pub refined_right : (t : Ty) (old new : Rhs) (before after : Tree) → UnfoldsRight f t old before →
      AllByRecursion (MayRead f n left) (operands_of_rhs old) →
      UnfoldsRight f t new after → AllByRecursion (MayRead f n left) (operands_of_rhs new) →
      Refines before after → (w : Word) → rhs_value t env old ≡ Some w →
      rhs_value t env new ≡ Some w
  refined_right t old new before after old_is old_may new_is new_may refines w value =
      sym (right_value t new after new_is new_may)
      ∙ refines (words_in env) (words_are_of_names f env possible.typed) w
      (right_value t old before old_is old_may ∙ value)

-- ---- what a valid function reads

may_read_names : (f : Function) (n : ℕ) (left : List ℕ) (operands : List Operand) →
    AllByRecursion (λ y. IsReadable f y n left) (names_among operands) →
    AllByRecursion (MayRead f n left) operands
may_read_names f n left [] all = tt
may_read_names f n left (Name y t ∷ operands) all = (all.0, may_read_names f n left operands all.1)
may_read_names f n left (Const w ∷ operands) all = (tt, may_read_names f n left operands all)

module _ (f : Function) (valid : IsValid f) where
  readable_in : (block : Block) → block_of f block.number ≡ Some block →
      AllByRecursion (IsReadableUse f) (uses_in_block block)
  unfolding block_of
  readable_in block found = parts_of_found (λ (b : Block). b.number == block.number)
      (IsReadableUse f) uses_in_block f.blocks block found valid.readable

  pub stmt_may_read : (block : Block) (stmt : Stmt) (stmts : List Stmt) →
      Lies f block (stmt ∷ stmts) → AllByRecursion
      (MayRead f block.number (map stmt_name (stmt ∷ stmts))) (operands_of_stmt stmt)
  stmt_may_read block stmt stmts there =
      let n = block.number in
      let uses = (uses_of_block (IsReadableUse f) block (readable_in block there.found)).1 in
      let own = uses_of_stmt (IsReadableUse f) n (1 + length block.phis) there.front stmt stmts
      (subst (λ ss. AllByRecursion (IsReadableUse f)
      (uses_in_stmts n (1 + length block.phis) ss)) there.is uses) in
      may_read_names f n (map stmt_name (stmt ∷ stmts)) (operands_of_stmt stmt)
      (names_at (IsReadableUse f) n own.0 n (map stmt_name (stmt ∷ stmts)) (λ y readable. readable)
      (operands_of_stmt stmt) own.1)

  pub end_may_read : (block : Block) → block_of f block.number ≡ Some block →
      AllByRecursion (MayRead f block.number []) (operands_of_end block.end)
  end_may_read block found =
      let n = block.number in
      let k = 1 + length block.phis + length block.stmts in
      may_read_names f n [] (operands_of_end block.end)
      (names_at (IsReadableUse f) n k n [] (λ y readable. readable) (operands_of_end block.end)
      (uses_of_block (IsReadableUse f) block (readable_in block found)).2)

-- ---- the laws

pub refining_right_side_keeps_runs : (f : Function) (block : Block) (stmt : Stmt)
    (stmts : List Stmt) (rhs : Rhs) (before after : Tree) → IsValid f →
    Lies f block (stmt ∷ stmts) →
    AllByRecursion (MayRead f block.number (map stmt_name (stmt ∷ stmts))) (operands_of_rhs rhs) →
    UnfoldsRight f (name_type f stmt.name) stmt.rhs before →
    UnfoldsRight f (name_type f stmt.name) rhs after → Refines before after →
    KeepsDefinedRuns f (with_rhs stmt.name rhs f)
refining_right_side_keeps_runs f block stmt stmts rhs before after valid there may old_is new_is
    refines =
    always_given_keeps_runs f block stmt stmts rhs valid.well_formed there
    (λ env w possible value. refined_right f valid block.number
    (map stmt_name (stmt ∷ stmts)) env possible
    (name_type f stmt.name) stmt.rhs rhs before after
    old_is (stmt_may_read f valid block stmt stmts there) new_is may refines w value)

pub refining_operand_keeps_runs : (f : Function) (x : ℕ) (t : Ty) (by : Operand)
    (before after : Tree) → IsValid f → AllByRecursion
    (λ (place : Use). place.name ≡ x → MayRead f place.at place.left by) (uses_in f) →
    Unfolds f (Name x t) before → Unfolds f by after → Refines before after →
    KeepsDefinedRuns f (put_in_all x by f)
refining_operand_keeps_runs f x t by before after valid may old_is new_is refines =
    always_read_alike_keeps_runs f x by valid.well_formed (each_use (uses_in f) valid.readable may)
  where
    at_use : (place : Use) → IsReadableUse f place →
        (place.name ≡ x → MayRead f place.at place.left by) → AlwaysReadsAlike f x by place
    at_use place readable may_there name env possible =
        let there = subst (λ y. IsReadable f y place.at place.left) name readable in
        let old_value = unfolded_value f valid place.at place.left env possible
        (Name x t) before old_is there in
        let new_value = unfolded_value f valid place.at place.left env possible by after new_is
        (may_there name) in
        same_Some (word_of_operand env by) (env x)
        (sym new_value ∙ refines (words_in env) (words_are_of_names f env possible.typed)
        (env x) old_value)

    each_use : (places : List Use) → AllByRecursion (IsReadableUse f) places →
        AllByRecursion (λ (place : Use). place.name ≡ x → MayRead f place.at place.left by) places →
        AllByRecursion (AlwaysReadsAlike f x by) places
    each_use [] readable may_each = tt
    each_use (place ∷ places) readable may_each =
        (at_use place readable.0 may_each.0, each_use places readable.1 may_each.1)

pub refining_support_keeps_runs : (f : Function) (x : ℕ) (t : Ty) (by : Operand)
    (before after : Tree) → IsValid f → IsOfSupport f x by →
    Unfolds f (Name x t) before → Unfolds f by after → Refines before after →
    KeepsDefinedRuns f (put_in_all x by f)
refining_support_keeps_runs f x t by before after valid supports =
    refining_operand_keeps_runs f x t by before after valid
    (each_of (IsReadableUse f) (λ (place : Use). place.name ≡ x → MayRead f place.at place.left by)
    (λ place readable name. reads by supports place.at place.left
    (subst (λ y. IsReadable f y place.at place.left) name readable)) (uses_in f) valid.readable)
  where
    reads : (a : Operand) → IsOfSupport f x a → (n : ℕ) (left : List ℕ) → IsReadable f x n left →
        MayRead f n left a
    reads (Name y u) of_support n left readable =
        support_is_readable f valid x y n left readable of_support
    reads (Const w) of_support n left readable = tt

pub refining_earlier_keeps_runs : (f : Function) (x : ℕ) (t : Ty) (by : Operand)
    (before after : Tree) → IsValid f → is_assigned f x ≡ true → OperandComesBefore f by x →
    Unfolds f (Name x t) before → Unfolds f by after → Refines before after →
    KeepsDefinedRuns f (put_in_all x by f)
refining_earlier_keeps_runs f x t by before after valid assigned comes =
    refining_operand_keeps_runs f x t by before after valid
    (each_of (IsReadableUse f) (λ (place : Use). place.name ≡ x → MayRead f place.at place.left by)
    (λ place readable name. reads by comes place.at place.left
    (subst (λ y. IsReadable f y place.at place.left) name readable)) (uses_in f) valid.readable)
  where
    reads : (a : Operand) → OperandComesBefore f a x → (n : ℕ) (left : List ℕ) →
        IsReadable f x n left → MayRead f n left a
    reads (Name y u) earlier n left readable =
        before_is_readable f valid x y n left assigned earlier.readable readable
    reads (Const w) earlier n left readable = tt

-- a comparison always has a value
comparison_has_value : (code : Code) (a b : Word) → is_comparison_code code ≡ true →
    IsSome (operation_value code bool_type (a ∷ b ∷ []))
unfolding operation_value
comparison_has_value Eq a b h = refl
comparison_has_value Ne a b h = refl
comparison_has_value Lt a b h = refl
comparison_has_value Le a b h = refl
comparison_has_value Gt a b h = refl
comparison_has_value Ge a b h = refl
comparison_has_value _ a b h = cc

condition_has_value : (f : Function) → IsValid f →
    (block : Block) (old : Code) (left right : Operand) (yes_to no_to : ℕ) (env : Env) →
    block_of f block.number ≡ Some block →
    block.end ≡ If old left right yes_to no_to →
    IsSome (rhs_value bool_type env (Op old (left ∷ right ∷ [])))
condition_has_value f valid block old left right yes_to no_to env found end =
    let fits : end_fits f (If old left right yes_to no_to) ≡ true =
    subst (λ e. end_fits f e ≡ true) end
    (end_is_right (block_is_right f valid.well_formed block.number block found)) in
    comparison_has_value old (word_of_operand env left) (word_of_operand env right)
    ((and_parts (is_comparison_code old) (same_type (type_of left) (type_of right)) fits).0)
  where
    end_is_right : block_holds f block ≡ true → end_fits f block.end ≡ true
    end_is_right h =
        let ends = (and_parts (list_all (phi_holds f) block.phis && list_all
        (stmt_holds f) block.stmts) (end_holds f block) h).1 in
        (and_parts (end_fits f block.end)
        (list_all (operand_holds f) (operands_of_end block.end)) ends).0

pub refining_condition_keeps_runs : (f : Function) (block : Block) (old : Code)
    (left right : Operand) (yes_to no_to : ℕ) (code : Code) (a b : Operand) (before after : Tree) →
    IsValid f →
    block_of f block.number ≡ Some block → block.end ≡ If old left right yes_to no_to →
    AllByRecursion (MayRead f block.number []) (a ∷ b ∷ []) →
    UnfoldsRight f bool_type (Op old (left ∷ right ∷ [])) before →
    UnfoldsRight f bool_type (Op code (a ∷ b ∷ [])) after → Refines before after →
    KeepsDefinedRuns f (with_condition block.number code a b f)
refining_condition_keeps_runs f block old left right yes_to no_to code a b before after valid found
    end may old_is new_is refines =
    always_decided_keeps_runs f block old left right yes_to no_to code a b valid.well_formed found
    end decides
  where
    old_may : AllByRecursion (MayRead f block.number []) (left ∷ right ∷ [])
    old_may = subst (λ e. AllByRecursion (MayRead f block.number []) (operands_of_end e)) end
        (end_may_read f valid block found)

    decides : AlwaysDecidesAlike f block.number old left right code a b
    decides env possible = by (rhs_value bool_type env (Op old (left ∷ right ∷ []))) refl
        (condition_has_value f valid block old left right yes_to no_to env found end)
      where
        by : (value : Option Word) → rhs_value bool_type env (Op old (left ∷ right ∷ [])) ≡ value →
            IsSome value → holds env code a b ≡ option_map_or
            (λ (w : Word). w.bits == 1) value false
        by None is some = absurd (both_ways false refl some)
        by (Some w) is some =
            ap (λ value. option_map_or (λ (v : Word). v.bits == 1) value false)
            (refined_right f valid block.number [] env possible bool_type
            (Op old (left ∷ right ∷ []))
            (Op code (a ∷ b ∷ [])) before after old_is old_may new_is may refines w is)

-- ---- a statement before others

pub defined_insertion_keeps_runs : (f : Function) (place : ℕ) (home : Block) (front : List Stmt)
    (next : Stmt) (rest : List Stmt) (stmt : Stmt) (decl : Decl) (before part : Tree) → IsValid f →
    slice_get f.blocks place ≡ Some home → home.stmts ≡ front ++ next ∷ rest → IsNewStmt f stmt →
    AllByRecursion (MayRead f home.number (map stmt_name (next ∷ rest)))
    (operands_of_stmt stmt) →
    UnfoldsRight f (name_type f next.name) next.rhs before → UnfoldsRight f decl.ty stmt.rhs part →
    IsDefinedWith before part → KeepsDefinedRuns f (with_stmt place (length front) stmt decl f)
defined_insertion_keeps_runs f place home front next rest stmt decl before part valid at split
    is_new may next_is part_is defined =
    always_defined_keeps_runs f place home front
    (next ∷ rest) stmt decl valid.well_formed at split is_new has_value
  where
    left : List ℕ
    left = map stmt_name (next ∷ rest)

    has_value : Lies f home (next ∷ rest) → AlwaysHasValueThere f home
        (next ∷ rest) decl.ty stmt.rhs
    has_value there env possible goes_on =
        let old_value = right_value f valid home.number left env possible
        (name_type f next.name) next.rhs before next_is
        (stmt_may_read f valid home next rest there) in
        let new_value = right_value f valid home.number left env possible decl.ty stmt.rhs part
        part_is may in
        ap is_some (sym new_value) ∙ defined (words_in env)
        (words_are_of_names f env possible.typed) (ap is_some old_value ∙ goes_on)

pub defined_insertion_at_end_keeps_runs : (f : Function) (place : ℕ) (home : Block) (old : Code)
    (a b : Operand) (yes_to no_to : ℕ) (stmt : Stmt) (decl : Decl) (before part : Tree) →
    IsValid f →
    slice_get f.blocks place ≡ Some home → home.end ≡ If old a b yes_to no_to → IsNewStmt f stmt →
    AllByRecursion (MayRead f home.number []) (operands_of_stmt stmt) →
    UnfoldsRight f bool_type (Op old (a ∷ b ∷ [])) before → UnfoldsRight f decl.ty stmt.rhs part →
    IsDefinedWith before part →
    KeepsDefinedRuns f (with_stmt place (length home.stmts) stmt decl f)
defined_insertion_at_end_keeps_runs f place home old a b yes_to no_to stmt decl before part valid at
    end is_new may old_is part_is defined =
    always_defined_keeps_runs f place home home.stmts [] stmt decl valid.well_formed at
    (sym (append-nil home.stmts)) is_new has_value
  where
    has_value : Lies f home [] → AlwaysHasValueThere f home [] decl.ty stmt.rhs
    has_value there env possible goes_on =
        let old_may : AllByRecursion (MayRead f home.number []) (a ∷ b ∷ []) =
        subst (λ e. AllByRecursion (MayRead f home.number []) (operands_of_end e)) end
        (end_may_read f valid home there.found) in
        let old_value = right_value f valid home.number [] env possible bool_type
        (Op old (a ∷ b ∷ [])) before old_is old_may in
        let new_value = right_value f valid home.number [] env possible decl.ty stmt.rhs part
        part_is may in
        ap is_some (sym new_value)
        ∙ defined (words_in env) (words_are_of_names f env possible.typed)
        (ap is_some old_value ∙ condition_has_value f valid home old a b yes_to no_to env
        there.found end)
