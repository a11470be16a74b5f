-- The blocks of a function that is made hold: their numbers, jumps and phis.
use Rattle.std.proofs.Common.{◌≡◌, ℕ, Bool, true, false, cond, Option, Some, None, List}
use Rattle.std.proofs.Common.{[], ◌∷◌, ◌++◌, map, refl, sym, ap, subst, ◌∙◌, inl, inr}
use Rattle.std.specs.Prelude.{◌==◌, ◌&&◌, ◌||◌, not, filter, IsSome}
use Rattle.std.specs.List.{flat_map, list_any, list_all}
use Rattle.std.proofs.lemmas.Bool.{and_parts, and_from, eqb-true, eq-eqb, false≢true}
use Rattle.pm_wide.specs.declared.operand.Operand.{Operand}
use Rattle.gim_ast.specs.declared.function.Block.{Block}
use Rattle.gim_ast.specs.declared.function.NameRow.{NameRow}
use Rattle.gim_ast.specs.declared.function.Phi.{Phi}
use Rattle.gim_ast.specs.Functions.{targets_of}
use Rattle.gim_ast.specs.WellFormed as ast
use Rattle.gim_ast.specs.WellFormed.{same_text, all_distinct, is_empty, entry_has_no_phi, phi_blocks, phi_holds, blocks_hold}
use Rattle.pm_places.specs.declared.span.Span.{Span}
use Rattle.gim_text.proofs.SameTexts.{same_text_itself, same_text_is}
use Rattle.gim_text.specs.declared.tree.ArgText.{ArgText}
use Rattle.gim_text.specs.declared.tree.BlockText.{BlockText}
use Rattle.gim_text.specs.declared.tree.EndText.{EndText}
use Rattle.gim_text.specs.declared.tree.EndText.TheVariants.{Goto, If, Return}
use Rattle.gim_text.specs.declared.tree.FunctionText.{FunctionText}
use Rattle.gim_text.specs.declared.tree.ItemText.{ItemText}
use Rattle.gim_text.specs.declared.tree.ItemText.TheVariants as items
use Rattle.gim_text.specs.Occurrences.{targets_in_end}
use Rattle.pm_places.specs.Spans.{text_of}
use Rattle.gim_names.specs.KeepsNames.{KeepsNames, number_text}
use Rattle.gim_shape.specs.Blocks as shape
use Rattle.gim_shape.specs.Blocks.{named_at, jumps_of, jumps_to, predecessors}
use Rattle.gim_shape.specs.HasShape.{ItemFits, HasNoPhi, Leads, BlockHolds, HasEntry, HasShape}
use Rattle.gim_shape.specs.Phis.{named_by_args, has_args, is_each_once}
use Rattle.gim_limits.specs.KeepsLimits.{KeepsLimits}
use Rattle.gim_typing.specs.Declarations.{Declarations, declarations_of, number_of, version_of_name}
use Rattle.gim_making.specs.Standing.{made}
use Rattle.gim_making.specs.Trees.{arg_of, phi_of, end_of, block_of}
use Rattle.gim_making.specs.Written.{IsWritten}
use Rattle.gim_text.proofs.Membership.{Has, from_map, from_flat, all_from_has, each_has}
use Rattle.gim_making.proofs.Occurring.{target_occurs, argument_occurs}
use Rattle.gim_making.proofs.MadeOperands.{no_phis}
use Rattle.gim_making.proofs.NameParts.{IsSmall, same_number}
use Rattle.gim_making.proofs.SmallNumbers.{small_block, small_target}

-- ---- numbers and their texts

abbrev AllSmall : List (List ℕ) → Type 0
AllSmall ts = (t : List ℕ) → Has ts t → IsSmall t

either_way : (x y : Bool) → (x ≡ true → y ≡ true) → (y ≡ true → x ≡ true) → x ≡ y
either_way true y to from = sym (to refl)
either_way false true to from = from refl
either_way false false to from = refl

-- two numbers are one where their texts are
same_test : (a b : List ℕ) → IsSmall a → IsSmall b → (number_of a == number_of b) ≡ same_text a b
same_test a b small_a small_b =
    either_way (number_of a == number_of b) (same_text a b)
    (λ h. ap (λ x. same_text x b) (same_number a b small_a small_b (eqb-true (number_of a) (number_of b) h)) ∙ same_text_itself b)
    (λ h. ap (λ x. number_of x == number_of b) (same_text_is a b h) ∙ eq-eqb (number_of b) (number_of b) refl)

turned_test : (a b : List ℕ) → IsSmall a → IsSmall b → (number_of a == number_of b) ≡ same_text b a
turned_test a b small_a small_b =
    either_way (number_of a == number_of b) (same_text b a)
    (λ h. ap (λ x. same_text b x) (same_number a b small_a small_b (eqb-true (number_of a) (number_of b) h)) ∙ same_text_itself b)
    (λ h. ap (λ x. number_of a == number_of x) (same_text_is b a h) ∙ eq-eqb (number_of a) (number_of a) refl)

among : (ts : List (List ℕ)) (t : List ℕ) → AllSmall ts → IsSmall t → ast.is_among (number_of t) (map number_of ts) ≡ shape.is_among ts t
among [] t small one = refl
among (x ∷ ts) t small one =
    ap (λ b. b || ast.is_among (number_of t) (map number_of ts)) (turned_test x t (small x (inl refl)) one)
    ∙ ap (λ b. same_text t x || b) (among ts t (λ y there. small y (inr there)) one)

any_number : (x : List ℕ) (ts : List (List ℕ)) → IsSmall x → AllSmall ts
    → list_any (λ y. number_of x == y) (map number_of ts) ≡ list_any (same_text x) ts
any_number x [] one small = refl
any_number x (t ∷ ts) one small =
    ap (λ b. b || list_any (λ y. number_of x == y) (map number_of ts)) (same_test x t one (small t (inl refl)))
    ∙ ap (λ b. same_text x t || b) (any_number x ts one (λ y there. small y (inr there)))

distinct : (ts : List (List ℕ)) → AllSmall ts → all_distinct ◌==◌ (map number_of ts) ≡ all_distinct same_text ts
distinct [] small = refl
distinct (t ∷ ts) small =
    ap (λ b. not b && all_distinct ◌==◌ (map number_of ts))
    (any_number t ts (small t (inl refl)) (λ y there. small y (inr there)))
    ∙ ap (λ b. not (list_any (same_text t) ts) && b) (distinct ts (λ y there. small y (inr there)))

all_among : (ws ts : List (List ℕ)) → AllSmall ws → AllSmall ts
    → list_all (λ m. ast.is_among m (map number_of ws)) (map number_of ts) ≡ list_all (shape.is_among ws) ts
all_among ws [] small_ws small = refl
all_among ws (t ∷ ts) small_ws small =
    ap (λ b. b && list_all (λ m. ast.is_among m (map number_of ws)) (map number_of ts))
    (among ws t small_ws (small t (inl refl)))
    ∙ ap (λ b. shape.is_among ws t && b) (all_among ws ts small_ws (λ y there. small y (inr there)))

-- ---- numbers of blocks

numbers_are : (known : Declarations) (blocks : List BlockText)
    → map (λ (block : Block). block.number) (map (block_of known) blocks)
    ≡ map number_of (map (number_text known.source) blocks)
numbers_are known [] = refl
numbers_are known (block ∷ blocks) = ap (λ l. number_of (text_of known.source block.number) ∷ l) (numbers_are known blocks)

numbers_small : (source : List ℕ) (tree : FunctionText) → IsWritten source tree → KeepsLimits source tree
    → AllSmall (map (number_text source) tree.blocks)
numbers_small source tree written limits t there =
    let b = from_map (number_text source) tree.blocks t there in
    subst IsSmall b.2 (small_block source tree written limits b.0 b.1)

-- ---- jumps

-- the targets of an end that is there
targets_are : (known : Declarations) (end : EndText)
    → targets_of (end_of known (Some end))
    ≡ map (λ at. number_of (named_at known.source at)) (targets_in_end (Some end))
targets_are known (Goto to) = refl
targets_are known (If code a b yes_to no_to) = refl
targets_are known (Return a) = refl

some_end : (end : Option EndText) → IsSome end → (e : EndText) × (end ≡ Some e)
some_end None h = absurd (false≢true h)
some_end (Some e) h = (e, refl)

-- what is known of a block
record Known (source : List ℕ) (tree : FunctionText) (block : BlockText) : Type 0 where
  there : Has tree.blocks block
  end : EndText
  ends : block.end ≡ Some end
  jumps : (at : Span) → Has (targets_in_end (Some end)) at → IsSmall (named_at source at)
  leads : (at : Span) → Has (targets_in_end (Some end)) at
      → shape.is_among (map (number_text source) tree.blocks) (named_at source at) ≡ true
  number : IsSmall (text_of source block.number)

known_block : (source : List ℕ) (tree : FunctionText) → IsWritten source tree → KeepsLimits source tree
    → HasShape source tree → (block : BlockText) → Has tree.blocks block → Known source tree block
known_block source tree written limits shaped block there =
    let holds = each_has (BlockHolds source tree.blocks) tree.blocks shaped.blocks block there in
    let e = some_end block.end holds.end in
    let jumps_same : jumps_of block ≡ targets_in_end (Some e.0) = ap targets_in_end e.1 in
    record {
      there = there;
      end = e.0;
      ends = e.1;
      jumps = λ at h. small_target source tree written
          limits at (target_occurs tree block at there (subst (λ o. Has (targets_in_end o) at) (sym e.1) h));
      leads = λ at h. each_has (Leads source tree.blocks) (jumps_of block) holds.jumps at (subst (λ l. Has l at) (sym jumps_same) h);
      number = small_block source tree written limits block there;
    }

block_targets : (source : List ℕ) (tree : FunctionText) (block : BlockText) (k : Known source tree block)
    → targets_of (end_of (declarations_of source tree) block.end)
    ≡ map (λ at. number_of (named_at source at)) (targets_in_end (Some k.end))
block_targets source tree block k =
    ap (λ o. targets_of (end_of (declarations_of source tree) o)) k.ends
    ∙ targets_are (declarations_of source tree) k.end

target_known : (source : List ℕ) (tree : FunctionText) → IsWritten source tree → KeepsLimits source tree
    → HasShape source tree → (n : ℕ) → Has
    (flat_map (λ (block : Block). targets_of block.end) (map (block_of (declarations_of source tree)) tree.blocks)) n
    → ast.is_among n (map number_of (map (number_text source) tree.blocks)) ≡ true
target_known source tree written limits shaped n h =
    let known = declarations_of source tree in
    let r = from_flat (λ (block : Block). targets_of block.end) (map (block_of known) tree.blocks) n h in
    let b = from_map (block_of known) tree.blocks r.0 r.1 in
    let k = known_block source tree written limits shaped b.0 b.1 in
    let target : Has (targets_of (end_of known b.0.end)) n = subst (λ (x : Block). Has (targets_of x.end) n) (sym b.2) r.2 in
    let a = from_map (λ at. number_of (named_at source at)) (targets_in_end (Some k.end)) n
    (subst (λ l. Has l n) (block_targets source tree b.0 k) target) in
    ap (λ m. ast.is_among m (map number_of (map (number_text source) tree.blocks))) (sym a.2)
    ∙ among (map (number_text source) tree.blocks) (named_at source a.0) (numbers_small source tree written limits)
    (k.jumps a.0 a.1) ∙ k.leads a.0 a.1

-- ---- predecessors

jumps_test : (source nt : List ℕ) (spans : List Span) → IsSmall nt
    → ((at : Span) → Has spans at → IsSmall (named_at source at))
    → list_any (λ to. to == number_of nt) (map (λ at. number_of (named_at source at)) spans)
    ≡ list_any (λ at. same_text nt (named_at source at)) spans
jumps_test source nt [] one small = refl
jumps_test source nt (at ∷ spans) one small =
    ap (λ b. b || list_any (λ to. to == number_of nt) (map (λ at. number_of (named_at source at)) spans))
    (turned_test (named_at source at) nt (small at (inl refl)) one)
    ∙ ap (λ b. same_text nt (named_at source at) || b) (jumps_test source nt spans one (λ a there. small a (inr there)))

block_jumps : (source : List ℕ) (tree : FunctionText) (nt : List ℕ) (block : BlockText) (k : Known source tree block)
    → IsSmall nt → list_any (λ to. to == number_of nt) (targets_of (end_of (declarations_of source tree) block.end))
    ≡ jumps_to source nt block
block_jumps source tree nt block k one =
    ap (list_any (λ to. to == number_of nt)) (block_targets source tree block k)
    ∙ jumps_test source nt (targets_in_end (Some k.end)) one k.jumps
    ∙ ap (list_any (λ at. same_text nt (named_at source at))) (sym (ap targets_in_end k.ends))

preds_by : (source nt : List ℕ) (b c : Bool) (block : BlockText) (front : List ℕ) (later : List BlockText) → b ≡ c
    → front ≡ map number_of (map (text_of source) (map (λ (x : BlockText). x.number) later))
    → cond b (number_of (text_of source block.number) ∷ []) [] ++ front
    ≡ map number_of (map (text_of source) (map (λ (x : BlockText). x.number) (cond c (block ∷ later) later)))
preds_by source nt true c block front later same h = rw (← same) (ap (λ l. number_of (text_of source block.number) ∷ l) h)
preds_by source nt false c block front later same h = rw (← same) h

preds : (source : List ℕ) (tree : FunctionText) (nt : List ℕ) (blocks : List BlockText)
    → ((block : BlockText) → Has blocks block → Known source tree block) → IsSmall nt
    → flat_map (λ (block : Block). cond (list_any (λ to. to == number_of nt) (targets_of block.end))
    (block.number ∷ []) []) (map (block_of (declarations_of source tree)) blocks)
    ≡ map number_of (map (text_of source) (predecessors source blocks nt))
preds source tree nt [] each one = refl
preds source tree nt (block ∷ blocks) each one =
    preds_by source nt (list_any (λ to. to == number_of nt)
    (targets_of (end_of (declarations_of source tree) block.end))) (jumps_to source nt block) block
    (flat_map (λ (block : Block). cond (list_any (λ to. to == number_of nt) (targets_of block.end))
    (block.number ∷ []) []) (map (block_of (declarations_of source tree)) blocks)) (filter (jumps_to source nt) blocks)
    (block_jumps source tree nt block (each block (inl refl)) one) (preds source tree nt blocks (λ x there. each x (inr there)) one)

filtered_by : {X : Type 0} (p : X → Bool) (y x : X) (xs : List X) (b : Bool) → (Has (filter p xs) x → Has xs x)
    → Has (cond b (y ∷ filter p xs) (filter p xs)) x → Has (y ∷ xs) x
filtered_by p y x xs true later (inl e) = inl e
filtered_by p y x xs true later (inr h) = inr (later h)
filtered_by p y x xs false later h = inr (later h)

filtered : {X : Type 0} (p : X → Bool) (xs : List X) (x : X) → Has (filter p xs) x → Has xs x
filtered p [] x h = absurd h
filtered p (y ∷ xs) x h = filtered_by p y x xs (p y) (filtered p xs x) h

preds_small : (source : List ℕ) (tree : FunctionText) → IsWritten source tree → KeepsLimits source tree → (nt : List ℕ)
    → AllSmall (map (text_of source) (predecessors source tree.blocks nt))
preds_small source tree written limits nt t there =
    let s = from_map (text_of source) (predecessors source tree.blocks nt) t there in
    let b = from_map (λ (block : BlockText). block.number) (filter (jumps_to source nt) tree.blocks) s.0 s.1 in
    subst IsSmall (ap (text_of source) b.2 ∙ s.2)
    (small_block source tree written limits b.0 (filtered (jumps_to source nt) tree.blocks b.0 b.1))

-- ---- phis

phi_numbers : (known : Declarations) (args : List ArgText)
    → map (λ (arg : ℕ × Operand). arg.0) (map (arg_of known) args) ≡ map number_of (named_by_args known.source args)
phi_numbers known [] = refl
phi_numbers known (arg ∷ args) = ap (λ l. number_of (named_at known.source arg.from) ∷ l) (phi_numbers known args)

named_small : (source : List ℕ) (tree : FunctionText) → IsWritten source tree → KeepsLimits source tree
    → (block : BlockText) → Has tree.blocks block → (name : Span) (args : List ArgText)
    → Has block.items (items.Phi name args) → AllSmall (named_by_args source args)
named_small source tree written limits block there name args item t h =
    let a = from_map (λ (arg : ArgText). named_at source arg.from) args t h in
    subst IsSmall a.2 (small_target source tree written limits a.0.from (argument_occurs tree block name args a.0 there item a.1))

some_args : (known : Declarations) (args : List ArgText) → has_args args ≡ true → not (is_empty (map (arg_of known) args)) ≡ true
some_args known [] h = absurd (false≢true h)
some_args known (arg ∷ args) h = refl

phi_by : (source : List ℕ) (tree : FunctionText) (names : List NameRow) → IsWritten source tree
    → KeepsLimits source tree → HasShape source tree → (block : BlockText) → Has tree.blocks block
    → (name : Span) (args : List ArgText) → Has block.items (items.Phi name args)
    → phi_holds (made source tree names) (number_of (text_of source block.number))
    (record { name = version_of_name source name; args = map (arg_of (declarations_of source tree)) args }) ≡ true
unfolding made
phi_by source tree names written limits shaped block there name args item =
    let known = declarations_of source tree in
    let nt = text_of source block.number in
    let from = map (text_of source) (predecessors source tree.blocks nt) in
    let texts = named_by_args source args in
    let holds = each_has (BlockHolds source tree.blocks) tree.blocks shaped.blocks block there in
    let fits = each_has (ItemFits source (predecessors source tree.blocks nt)) block.items holds.phis (items.Phi name args) item in
    let p = and_parts (has_args args) (is_each_once from texts) fits.fit in
    let q = and_parts (all_distinct same_text texts && list_all (shape.is_among from) texts) (list_all (shape.is_among texts) from) p.1 in
    let r = and_parts (all_distinct same_text texts) (list_all (shape.is_among from) texts) q.0 in
    let small_texts = named_small source tree written limits block there name args item in
    let small_from = preds_small source tree written limits nt in
    let mine = map (λ (arg : ℕ × Operand). arg.0) (map (arg_of known) args) in
    let theirs = ast.predecessors (made source tree names) (number_of nt) in
    let mine_is : mine ≡ map number_of texts = phi_numbers known args in
    let theirs_is : theirs ≡ map number_of from =
    preds source tree nt tree.blocks (known_block source tree written limits shaped)
    (small_block source tree written limits block there) in
    let one : all_distinct ◌==◌ mine ≡ true = ap (all_distinct ◌==◌) mine_is ∙ distinct texts small_texts ∙ r.0 in
    let two : list_all (λ m. ast.is_among m theirs) mine ≡ true =
    ap (λ l. list_all (λ m. ast.is_among m l) mine) theirs_is
    ∙ ap (list_all (λ m. ast.is_among m (map number_of from))) mine_is ∙ all_among from texts small_from small_texts
    ∙ r.1 in
    let three : list_all (λ m. ast.is_among m mine) theirs ≡ true =
    ap (λ l. list_all (λ m. ast.is_among m l) theirs) mine_is
    ∙ ap (list_all (λ m. ast.is_among m (map number_of texts))) theirs_is ∙ all_among texts from small_texts small_from
    ∙ q.1 in
    and_from ((all_distinct ◌==◌ mine && list_all (λ m. ast.is_among m theirs) mine)
    && list_all (λ m. ast.is_among m mine) theirs) (not (is_empty (map (arg_of known) args)))
    (and_from (all_distinct ◌==◌ mine && list_all (λ m. ast.is_among m theirs) mine)
    (list_all (λ m. ast.is_among m mine) theirs)
    (and_from (all_distinct ◌==◌ mine) (list_all (λ m. ast.is_among m theirs) mine) one two) three)
    (some_args known args p.0)

phi_of_item : (source : List ℕ) (tree : FunctionText) (names : List NameRow) → IsWritten source tree
    → KeepsLimits source tree → HasShape source tree → (block : BlockText) → Has tree.blocks block → (item : ItemText)
    → Has block.items item
    → (phi : Phi) → Has (phi_of (declarations_of source tree) item) phi
    → phi_holds (made source tree names) (number_of (text_of source block.number)) phi ≡ true
phi_of_item source tree names written limits shaped block there (items.Stmt name right) in_block phi h = absurd h
phi_of_item source tree names written limits shaped block there (items.Phi name args) in_block phi (inr h) = absurd h
phi_of_item source tree names written limits shaped block there (items.Phi name args) in_block phi (inl e) =
    subst (λ x. phi_holds (made source tree names) (number_of (text_of source block.number)) x ≡ true) e
    (phi_by source tree names written limits shaped block there name args in_block)

-- ---- the whole

no_phi_empty : (known : Declarations) (list : List ItemText) → HasNoPhi list → is_empty (flat_map (phi_of known) list) ≡ true
no_phi_empty known list h = ap is_empty (no_phis known list h)

entry : (known : Declarations) (blocks : List BlockText) → HasEntry blocks → entry_has_no_phi (map (block_of known) blocks) ≡ true
entry known [] h = absurd h
entry known (block ∷ blocks) h = no_phi_empty known block.items h

pub blocks : (source : List ℕ) (tree : FunctionText) (names : List NameRow) → IsWritten source tree
    → KeepsNames source tree → KeepsLimits source tree → HasShape source tree
    → blocks_hold (made source tree names) ≡ true
unfolding made
blocks source tree names written kept limits shaped =
    let known = declarations_of source tree in
    let f = made source tree names in
    let list = map (block_of known) tree.blocks in
    let numbers = map (λ (block : Block). block.number) list in
    let texts = map (number_text source) tree.blocks in
    let is : numbers ≡ map number_of texts = numbers_are known tree.blocks in
    let targets = flat_map (λ (block : Block). targets_of block.end) list in
    let phis = λ (block : Block). list_all (phi_holds f block.number) block.phis in
    let first : entry_has_no_phi list ≡ true = entry known tree.blocks shaped.entry in
    let apart : all_distinct ◌==◌ numbers ≡ true =
    ap (all_distinct ◌==◌) is ∙ distinct texts (numbers_small source tree written limits) ∙ kept.blocks in
    let lead : list_all (λ n. ast.is_among n numbers) targets ≡ true =
    ap (λ l. list_all (λ n. ast.is_among n l) targets) is
    ∙ all_from_has (λ n. ast.is_among n (map number_of texts)) targets
    (target_known source tree written limits shaped) in
    let hold : list_all phis list ≡ true = all_from_has phis list (λ block there.
    let b = from_map (block_of known) tree.blocks block there in
    subst (λ (x : Block). phis x ≡ true) b.2
    (all_from_has (phi_holds f (number_of (text_of source b.0.number))) (flat_map (phi_of known) b.0.items)
    (λ phi in_phis.
    let i = from_flat (phi_of known) b.0.items phi in_phis in
    phi_of_item source tree names written limits shaped b.0 b.1 i.0 i.1 phi i.2))) in
    and_from ((entry_has_no_phi list && all_distinct ◌==◌ numbers) && list_all (λ n. ast.is_among n numbers) targets) (list_all phis list)
    (and_from (entry_has_no_phi list && all_distinct ◌==◌ numbers) (list_all (λ n. ast.is_among n numbers) targets)
    (and_from (entry_has_no_phi list) (all_distinct ◌==◌ numbers) first apart) lead) hold
