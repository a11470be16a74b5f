-- No rule of shape is broken by trees that write well-formed functions.
use Rattle.std.proofs.Common.{◌≡◌, ℕ, ◌<◌, Bool, true, false, cond, Option, Some, None}
use Rattle.std.proofs.Common.{List, [], ◌∷◌, ◌++◌, map, refl, sym, ap, ◌∙◌, inl, inr}
use Rattle.std.specs.Prelude.{◌==◌, ◌||◌, filter}
use Rattle.std.specs.List.{AllZip, flat_map, list_any, list_all}
use Rattle.std.specs.Fmt.{decimal}
use Rattle.std.proofs.lemmas.Bool.{and_parts, and_from, false≢true}
use Rattle.pm_wide.specs.declared.operand.Operand.{Operand}
use Rattle.gim_ast.specs.declared.function.Function.{Function}
use Rattle.gim_ast.specs.declared.function.Block.{Block}
use Rattle.gim_ast.specs.declared.function.Phi.{Phi}
use Rattle.gim_ast.specs.declared.function.Stmt.{Stmt}
use Rattle.gim_ast.specs.declared.function.End.{End}
use Rattle.gim_ast.specs.declared.function.End.TheVariants as ends
use Rattle.gim_ast.specs.Functions.{targets_of}
use Rattle.gim_ast.specs.WellFormed as ast
use Rattle.gim_ast.specs.WellFormed.{IsWellFormed, same_text, all_distinct, is_empty, entry_has_no_phi, phi_blocks, phi_holds, numbers_of}
use Rattle.pm_places.specs.declared.span.Span.{Span}
use Rattle.gim_text.specs.Occurrences.{targets_in_end}
use Rattle.gim_text.specs.declared.limits.TheConstants.{NUMBER_LIMIT}
use Rattle.gim_text.specs.declared.tree.ArgText.{ArgText}
use Rattle.gim_text.specs.declared.tree.BlockText.{BlockText}
use Rattle.gim_text.specs.declared.tree.EndText.{EndText}
use Rattle.gim_text.specs.declared.tree.EndText.TheVariants.{Goto, If, Return}
use Rattle.gim_text.specs.declared.tree.FunctionText.{FunctionText}
use Rattle.gim_text.specs.declared.tree.ItemText.{ItemText}
use Rattle.gim_text.specs.declared.tree.ItemText.TheVariants as items
use Rattle.pm_places.specs.FirstFaults.{first_fault}
use Rattle.pm_places.specs.Spans.{text_of}
use Rattle.gim_shape.specs.Blocks as shape
use Rattle.gim_shape.specs.Blocks.{number_of, named_at, jumps_of, jumps_to, predecessors}
use Rattle.gim_shape.specs.Phis.{named_by_args, has_args, is_each_once, args_fit, item_faults}
use Rattle.gim_shape.specs.Shape.{end_fault, jump_fault, faults_among, body_faults, function_faults, shape_fault}
use Rattle.gim_text.proofs.Membership.{Has, has_flat, all_has, all_from_has}
use Rattle.gim_round_trip.proofs.tree.SmallNumbers.{AreSmallNumbers, numbers_small, number_small, predecessors_small}
use Rattle.gim_round_trip.proofs.tree.SmallNumbers.{targets_small, phi_blocks_small, among_decimals, distinct_decimals}
use Rattle.gim_round_trip.proofs.tree.SmallNumbers.{all_among_decimals, images_are_decimals}
use Rattle.gim_round_trip.proofs.tree.WellFormedParts.{of_blocks, phi_rules}
use Rattle.gim_round_trip.proofs.tree.PairedLists.{beside_first}
use Rattle.gim_shape.proofs.PlacesWithoutFault.{none_joined, none_of_each}
use Rattle.gim_round_trip.proofs.tree.Writes.{WritesArg, WritesPhi, WritesStmt, WritesEnd, WritesBlock, WritesWell}

-- ---- jumps

end_is_there : (source : List ℕ) (f : Function) (at : Span) (tree : Option EndText) (end : End) → WritesEnd source f tree end
    → end_fault at tree ≡ None
end_is_there source f at None end h = absurd h
end_is_there source f at (Some tree) end h = refl

-- the jumps of an end name its targets
jumps_named : (source : List ℕ) (f : Function) (tree : Option EndText) (end : End) → WritesEnd source f tree end
    → map (named_at source) (targets_in_end tree) ≡ map decimal (targets_of end)
jumps_named source f (Some (Goto to)) (ends.Goto n) h = rw h refl
jumps_named source f (Some (If code a b to otherwise)) (ends.If op x y m n) h = rw (h.3, h.4) refl
jumps_named source f (Some (Return a)) (ends.Return x) h = refl
jumps_named source f tree end h = absurd h

jumps_free : (source : List ℕ) (is_there : List ℕ → Bool) (jumps : List Span) → list_all is_there (map (named_at source) jumps) ≡ true
    → first_fault (map (jump_fault source is_there) jumps) ≡ None
jumps_free source is_there [] lead = refl
jumps_free source is_there (at ∷ jumps) lead =
    let p = and_parts (is_there (named_at source at)) (list_all is_there (map (named_at source) jumps)) lead in
    rw (p.0) (jumps_free source is_there jumps p.1)

-- ---- phis

some_args : (source : List ℕ) (f : Function) (args : List ArgText) (pairs : List (ℕ × Operand)) → AllZip (WritesArg source f) args pairs
    → is_empty pairs ≡ false → has_args args ≡ true
some_args source f [] [] written some = absurd (false≢true (sym some))
some_args source f [] (pair ∷ pairs) written some = absurd written
some_args source f (arg ∷ args) pairs written some = refl

stmts_free : (source : List ℕ) (f : Function) (from : List Span) (may : Bool) (texts : List ItemText) (stmts : List Stmt)
    → AllZip (WritesStmt source f) texts stmts → first_fault (item_faults source from may texts) ≡ None
stmts_free source f from may [] stmts written = refl
stmts_free source f from may (item ∷ texts) [] written = absurd written
stmts_free source f from may (items.Phi name args ∷ texts) (stmt ∷ stmts) written = absurd written.0
stmts_free source f from may (items.Stmt name right ∷ texts) (stmt ∷ stmts) written = stmts_free source f from false texts stmts written.1

abbrev Fit : List ℕ → Function → List Span → List Phi → Type 0
Fit source f from phis =
    (args : List ArgText) (phi : Phi) → Has phis phi → AllZip (WritesArg source f) args phi.args
    → args_fit source from args
    ≡ true

phis_free : (source : List ℕ) (f : Function) (from : List Span) (texts later : List ItemText) (phis : List Phi)
    → AllZip (WritesPhi source f) texts phis → Fit source f from phis
    → first_fault (item_faults source from true later) ≡ None → first_fault (item_faults source from true (texts ++ later)) ≡ None
phis_free source f from [] later phis written fit free = free
phis_free source f from (item ∷ texts) later [] written fit free = absurd written
phis_free source f from (items.Stmt name right ∷ texts) later (phi ∷ phis) written fit free = absurd written.0
phis_free source f from (items.Phi name args ∷ texts) later (phi ∷ phis) written fit free =
    rw (fit args phi (inl refl) written.0.1) (phis_free source f from texts later phis written.1 (λ a p there. fit a p (inr there)) free)

-- items of which only statements stand where no phi may
items_free : (source : List ℕ) (f : Function) (from : List Span) (may : Bool) (texts later : List ItemText)
    (phis : List Phi) (stmts : List Stmt)
    → AllZip (WritesPhi source f) texts phis → AllZip (WritesStmt source f) later stmts → Fit source f from phis
    → (may ≡ false → is_empty phis ≡ true) → first_fault (item_faults source from may (texts ++ later)) ≡ None
items_free source f from true texts later phis stmts written others fit entry = phis_free source f from texts later phis written fit
    (stmts_free source f from true later stmts others)
items_free source f from false [] later phis stmts written others fit entry = stmts_free source f from false later stmts others
items_free source f from false (item ∷ texts) later [] stmts written others fit entry = absurd written
items_free source f from false (item ∷ texts) later (phi ∷ phis) stmts written others fit entry = absurd (false≢true (entry refl))

-- ---- predecessors

any_image : {X Y : Type 0} (p : Y → Bool) (g : X → Y) (xs : List X) → list_any (λ x. p (g x)) xs ≡ list_any p (map g xs)
any_image p g [] = refl
any_image p g (x ∷ xs) = ap (λ b. p (g x) || b) (any_image p g xs)

abbrev number_if_jumps : ℕ → Block → List ℕ
number_if_jumps n block = cond (list_any (λ to. to == n) (targets_of block.end)) (block.number ∷ []) []

-- the numbers of the blocks that jump to a block
predecessors_named : (source : List ℕ) (f : Function) (n : ℕ) → n < NUMBER_LIMIT → (trees : List BlockText) (blocks : List Block)
    → ((block : Block) → Has blocks block → AreSmallNumbers (targets_of block.end)) → AllZip (WritesBlock source f) trees blocks
    → map (text_of source) (predecessors source trees (decimal n)) ≡ map decimal (flat_map (number_if_jumps n) blocks)
predecessors_named source f n small [] [] targets written = refl
predecessors_named source f n small [] (block ∷ blocks) targets written = absurd written
predecessors_named source f n small (tree ∷ trees) [] targets written = absurd written
predecessors_named source f n small (tree ∷ trees) (block ∷ blocks) targets written =
    let jumps : jumps_to source (decimal n) tree ≡ list_any (λ to. to == n) (targets_of block.end) =
    any_image (same_text (decimal n)) (named_at source) (jumps_of tree)
    ∙ ap (list_any (same_text (decimal n))) (jumps_named source f tree.end block.end written.0.end)
    ∙ among_decimals (targets_of block.end) n (targets block (inl refl)) small in
    rw jumps (by (list_any (λ to. to == n) (targets_of block.end))
    (predecessors_named source f n small trees blocks (λ b there. targets b (inr there)) written.1)) where
      by : (b : Bool) → map (text_of source) (predecessors source trees (decimal n)) ≡ map decimal (flat_map (number_if_jumps n) blocks)
          → map (text_of source) (map (λ (t : BlockText). t.number)
          (cond b (tree ∷ filter (jumps_to source (decimal n)) trees) (filter (jumps_to source (decimal n)) trees)))
          ≡ map decimal (cond b (block.number ∷ []) [] ++ flat_map (number_if_jumps n) blocks)
      by true rest = rw (written.0.number, rest) refl
      by false rest = rest

-- ---- functions

module _ (source : List ℕ) (tree : FunctionText) (f : Function) (w : WritesWell source tree f) where
  numbers_named : shape.numbers_of source tree.blocks ≡ map decimal (numbers_of f)
  numbers_named = images_are_decimals (WritesBlock source f) (number_of source) (λ (b : Block). b.number)
      (λ t b h. h.number) tree.blocks f.blocks w.writes.blocks

  module _ (text : BlockText) (block : Block) (there : Has f.blocks block) (written : WritesBlock source f text block) where
    block_jumps_free : first_fault (map (jump_fault source (shape.is_among (shape.numbers_of source tree.blocks))) (jumps_of text)) ≡ None
    block_jumps_free =
        let lead : list_all (λ n. ast.is_among n (numbers_of f)) (targets_of block.end) ≡ true =
        all_from_has (λ n. ast.is_among n (numbers_of f))
        (targets_of block.end) (λ n here.
        all_has (λ m. ast.is_among m (numbers_of f)) (flat_map (λ (b : Block). targets_of b.end) f.blocks) (of_blocks f w.well).targets n
        (has_flat (λ (b : Block). targets_of b.end) f.blocks block n there here)) in
        jumps_free source (shape.is_among (shape.numbers_of source tree.blocks)) (jumps_of text)
        (ap (list_all (shape.is_among (shape.numbers_of source tree.blocks))) (jumps_named source f text.end block.end written.end)
        ∙ ap (λ ts. list_all (shape.is_among ts) (map decimal (targets_of block.end))) numbers_named
        ∙ all_among_decimals (numbers_of f) (targets_of block.end) (numbers_small f w.within)
        (targets_small f w.within w.well block there) ∙ lead)

    -- the arguments of a phi fit
    phi_args_fit : (from : List Span) → map (text_of source) from ≡ map decimal (ast.predecessors f block.number)
        → Fit source f from block.phis
    phi_args_fit from here args phi among written_args =
        let wanted = ast.predecessors f block.number in
        let mine = phi_blocks phi in
        let rules = phi_rules f block there w.well phi among in
        let small_here = predecessors_small f w.within block.number in
        let small_args = phi_blocks_small f w.within w.well block there phi among in
        let named : named_by_args source args ≡ map decimal mine = images_are_decimals (WritesArg source f)
        (λ (arg : ArgText). named_at source arg.from) (λ (x : ℕ × Operand). x.0) (λ a x h. h.0) args phi.args written_args in
        let once : is_each_once (map decimal wanted) (map decimal mine) ≡ true =
        rw (
          distinct_decimals mine small_args,
          rules.distinct,
          all_among_decimals wanted mine small_here small_args,
          rules.only,
          all_among_decimals mine wanted small_args small_here,
          rules.each,
        ) refl in
        and_from (has_args args) (is_each_once (map (text_of source) from) (named_by_args source args))
        (some_args source f args phi.args written_args rules.some)
        (ap (λ ts. is_each_once ts (named_by_args source args)) here ∙ ap (is_each_once (map decimal wanted)) named ∙ once)

    block_free : (may : Bool) → (may ≡ false → is_empty block.phis ≡ true) → first_fault (faults_among source tree.blocks may text) ≡ None
    block_free may entry =
        let from = predecessors source tree.blocks (number_of source text) in
        let here : map (text_of source) from ≡ map decimal (ast.predecessors f block.number) =
        ap (λ t. map (text_of source) (predecessors source tree.blocks t)) written.number
        ∙ predecessors_named source f block.number (number_small f w.within block there) tree.blocks f.blocks
        (targets_small f w.within w.well) w.writes.blocks in
        let parts_free : first_fault (item_faults source from may text.items) ≡ None =
        ap (λ l. first_fault (item_faults source from may l)) written.in_order
        ∙ items_free source f from may written.phi_items written.stmt_items block.phis block.stmts written.phis written.stmts
        (phi_args_fit from here) entry in
        rw (end_is_there source f text.head text.end block.end written.end)
        (none_joined (item_faults source from may text.items)
        (map (jump_fault source (shape.is_among (shape.numbers_of source tree.blocks)))
        (jumps_of text)) parts_free block_jumps_free)

abbrev EachFree : List ℕ → Function → List BlockText → List Block → Type 0
EachFree source f trees blocks = (text : BlockText) (block : Block) → Has blocks block → WritesBlock source f text block → (may : Bool)
    → (may ≡ false → is_empty block.phis ≡ true) → first_fault (faults_among source trees may text) ≡ None

body_free : (source : List ℕ) (f : Function) (close : Span) (trees : List BlockText) (blocks : List Block)
    → AllZip (WritesBlock source f) trees blocks → entry_has_no_phi blocks ≡ true → EachFree source f trees blocks
    → first_fault (body_faults source close trees) ≡ None
body_free source f close trees [] written entry free = absurd (false≢true entry)
body_free source f close [] (block ∷ blocks) written entry free = absurd written
body_free source f close (tree ∷ trees) (block ∷ blocks) written entry free =
    let all = tree ∷ trees in
    none_joined (faults_among source all false tree) (flat_map (faults_among source all true) trees)
    (free tree block (inl refl) written.0 false (λ e. entry))
    (none_of_each (faults_among source all true) trees (λ t there.
    let r = beside_first (WritesBlock source f) trees blocks written.1 t there in
    free t r.0 (inr r.1) r.2 true (λ e. absurd (false≢true (sym e)))))

pub shape_sound : (source : List ℕ) (trees : List FunctionText) (fs : List Function) → AllZip (WritesWell source) trees fs
    → shape_fault source trees ≡ None
unfolding shape_fault
shape_sound source trees fs written =
    none_of_each (function_faults source) trees (λ tree there.
    let r = beside_first (WritesWell source) trees fs written tree there in
    body_free source r.0 tree.close tree.blocks r.0.blocks r.2.writes.blocks (of_blocks r.0 r.2.well).entry
    (block_free source tree r.0 r.2))
