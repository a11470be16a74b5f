-- What the shape of functions without a fault is.
use Rattle.std.proofs.Common.{◌≡◌, ℕ, suc, Bool, true, false, List, [], ◌∷◌, ◌++◌, map, Option, Some, None, IsSome, refl, sym, ap, ◌∙◌}
use Rattle.std.specs.Prelude.{not, ◌&&◌, ◌||◌, if◌then◌else◌}
use Rattle.std.specs.List.{AllByRecursion, flat_map, list_any, list_all}
use Rattle.std.proofs.lemmas.List.Concat.{flat_map-cons}
use Rattle.std.proofs.lemmas.Bool.{and_parts}
use Rattle.gim_ast.specs.WellFormed.{same_text, all_distinct}
use Rattle.pm_places.specs.declared.span.Span.{Span}
use Rattle.gim_text.proofs.SameTexts.{same_text_is}
use Rattle.gim_text.specs.declared.tree.FunctionText.{FunctionText}
use Rattle.gim_text.specs.declared.tree.BlockText.{BlockText}
use Rattle.gim_text.specs.declared.tree.EndText.{EndText}
use Rattle.gim_text.specs.declared.tree.ArgText.{ArgText}
use Rattle.gim_text.specs.declared.tree.ItemText.{ItemText}
use Rattle.gim_text.specs.declared.tree.ItemText.TheVariants.{Phi, Stmt}
use Rattle.pm_places.specs.Spans.{text_of}
use Rattle.pm_places.specs.FirstFaults.{first_fault}
use Rattle.gim_shape.specs.Blocks.{is_among, number_of, named_at, jumps_of, numbers_of, predecessors}
use Rattle.gim_shape.specs.Phis.{named_by_args, has_args, is_each_once, args_fit, phi_fault, item_faults}
use Rattle.gim_shape.specs.Shape.{end_fault, jump_fault, faults_among, body_faults, function_faults, shape_fault}
use Rattle.gim_shape.specs.HasShape.{times, AreOneForEach, ItemFits, HasNoPhi, HasPhisFirst, Leads, BlockHolds, HasEntry, HasShape}
use Rattle.gim_shape.proofs.DistinctTexts.{not_true}
use Rattle.gim_shape.proofs.Judging.{none_first, none_parts, none_of_all}

-- ---- one argument for each block

times_none : (text : List ℕ) (texts : List (List ℕ)) → is_among texts text ≡ false → times text texts ≡ 0
times_none text [] h = refl
times_none text (t ∷ texts) h = by (same_text text t) refl h (times_none text texts) where
  by : (b : Bool) → same_text text t ≡ b → (b || is_among texts text) ≡ false
      → (is_among texts text ≡ false → times text texts ≡ 0) → times text (t ∷ texts) ≡ 0
  by true e h further = absurd cc
  by false e h further = rw e (further h)

times_one : (text : List ℕ) (texts : List (List ℕ)) → all_distinct same_text texts ≡ true → is_among texts text ≡ true
    → times text texts ≡ 1
times_one text [] distinct h = absurd cc
times_one text (t ∷ texts) distinct h = by (same_text text t) refl h (times_one text texts d.1) where
  d : (not (list_any (same_text t) texts) ≡ true) × (all_distinct same_text texts ≡ true)
  d = and_parts (not (list_any (same_text t) texts)) (all_distinct same_text texts) distinct

  by : (b : Bool) → same_text text t ≡ b → (b || is_among texts text) ≡ true
      → (is_among texts text ≡ true → times text texts ≡ 1) → times text (t ∷ texts) ≡ 1
  by true e h further =
      rw e (ap suc (times_none text texts (ap (is_among texts) (same_text_is text t e)
      ∙ not_true (is_among texts t) d.0)))
  by false e h further = rw e (further h)

among_from : (xs ys : List (List ℕ)) (text : List ℕ) → list_all (is_among xs) ys ≡ true → is_among ys text ≡ true → is_among xs text ≡ true
among_from xs [] text all h = absurd cc
among_from xs (y ∷ ys) text all h = by (same_text text y) refl h (among_from xs ys text a.1) where
  a : (is_among xs y ≡ true) × (list_all (is_among xs) ys ≡ true)
  a = and_parts (is_among xs y) (list_all (is_among xs) ys) all

  by : (b : Bool) → same_text text y ≡ b → (b || is_among ys text) ≡ true
      → (is_among ys text ≡ true → is_among xs text ≡ true) → is_among xs text ≡ true
  by true e h further = ap (is_among xs) (same_text_is text y e) ∙ a.0
  by false e h further = further h

each_once : (wanted texts : List (List ℕ)) (text : List ℕ) → is_each_once wanted texts ≡ true
    → times text texts ≡ (if is_among wanted text then 1 else 0)
each_once wanted texts text h = by (is_among wanted text) (is_among texts text) refl refl where
  outer : (all_distinct same_text texts && list_all (is_among wanted) texts ≡ true) × (list_all (is_among texts) wanted ≡ true)
  outer = and_parts (all_distinct same_text texts && list_all (is_among wanted) texts) (list_all (is_among texts) wanted) h

  inner : (all_distinct same_text texts ≡ true) × (list_all (is_among wanted) texts ≡ true)
  inner = and_parts (all_distinct same_text texts) (list_all (is_among wanted) texts) outer.0

  by : (w t : Bool) → is_among wanted text ≡ w → is_among texts text ≡ t → times text texts ≡ (if is_among wanted text then 1 else 0)
  by true true e f = rw e (times_one text texts inner.0 f)
  by false false e f = rw e (times_none text texts f)
  by true false e f = let there = among_from texts wanted text outer.1 e in absurd cc
  by false true e f = let there = among_from wanted texts text inner.1 f in absurd cc

one_for_each : (source : List ℕ) (from : List Span) (args : List ArgText) → args_fit source from args ≡ true
    → AreOneForEach source from args
one_for_each source from args fit =
    let p = and_parts (has_args args) (is_each_once (map (text_of source) from) (named_by_args source args)) fit in
    record { some = p.0; each = λ number. each_once (map (text_of source) from) (named_by_args source args) number p.1; fit = fit }

-- ---- phis

phi_free : (source : List ℕ) (from : List Span) (may : Bool) (name : Span) (args : List ArgText)
    → phi_fault source from may name args ≡ None → (may ≡ true) × (args_fit source from args ≡ true)
phi_free source from may name args free = by may (args_fit source from args) refl refl where
  by : (m f : Bool) → may ≡ m → args_fit source from args ≡ f → (may ≡ true) × (args_fit source from args ≡ true)
  by true true e f = (e, f)
  by true false e f = let no = rw (e, f) at free in absurd cc
  by false fit e f = let no = rw e at free in absurd cc

items_fit : (source : List ℕ) (from : List Span) (may : Bool) (items : List ItemText)
    → first_fault (item_faults source from may items) ≡ None → AllByRecursion (ItemFits source from) items
items_fit source from may [] free = tt
items_fit source from may (Phi name args ∷ items) free =
    let p = none_first (phi_fault source from may name args) (item_faults source from may items) free in
    (one_for_each source from args (phi_free source from may name args p.0).1, items_fit source from may items p.1)
items_fit source from may (Stmt name right ∷ items) free = (tt, items_fit source from false items free)

no_phi : (source : List ℕ) (from : List Span) (items : List ItemText)
    → first_fault (item_faults source from false items) ≡ None → HasNoPhi items
no_phi source from [] free = tt
no_phi source from (Phi name args ∷ items) free = absurd cc
no_phi source from (Stmt name right ∷ items) free = no_phi source from items free

phis_first : (source : List ℕ) (from : List Span) (may : Bool) (items : List ItemText)
    → first_fault (item_faults source from may items) ≡ None → HasPhisFirst items
phis_first source from may [] free = tt
phis_first source from may (Phi name args ∷ items) free =
    phis_first source from may items (none_first (phi_fault source from may name args)
    (item_faults source from may items) free).1
phis_first source from may (Stmt name right ∷ items) free = no_phi source from items free

-- ---- blocks

has_end : (head : Span) (end : Option EndText) → end_fault head end ≡ None → IsSome end
has_end head None free = absurd cc
has_end head (Some end) free = refl

jumps_lead : (source : List ℕ) (blocks : List BlockText) (jumps : List Span)
    → first_fault (map (jump_fault source (is_among (numbers_of source blocks))) jumps) ≡ None
    → AllByRecursion (Leads source blocks) jumps
jumps_lead source blocks [] free = tt
jumps_lead source blocks (at ∷ jumps) free =
    let there = is_among (numbers_of source blocks) in
    let p = none_first (jump_fault source there at) (map (jump_fault source there) jumps) free in
    (leads (there (named_at source at)) refl p.0, jumps_lead source blocks jumps p.1) where
      leads : (b : Bool) → is_among (numbers_of source blocks) (named_at source at) ≡ b
          → jump_fault source (is_among (numbers_of source blocks)) at ≡ None → Leads source blocks at
      leads true e free = e
      leads false e free = let no = rw e at free in absurd cc

block_holds : (source : List ℕ) (blocks : List BlockText) (may : Bool) (block : BlockText)
    → first_fault (faults_among source blocks may block) ≡ None → BlockHolds source blocks block
block_holds source blocks may block free =
    let from = predecessors source blocks (number_of source block) in
    let items = item_faults source from may block.items in
    let jumps = map (jump_fault source (is_among (numbers_of source blocks))) (jumps_of block) in
    let p = none_first (end_fault block.head block.end) (items ++ jumps) free in
    let q = none_parts items jumps p.1 in
    record {
      end = has_end block.head block.end p.0;
      jumps = jumps_lead source blocks (jumps_of block) q.1;
      order = phis_first source from may block.items q.0;
      phis = items_fit source from may block.items q.0;
    }

all_blocks : (source : List ℕ) (blocks rest : List BlockText)
    → first_fault (flat_map (faults_among source blocks true) rest) ≡ None
    → AllByRecursion (BlockHolds source blocks) rest
all_blocks source blocks [] free = tt
all_blocks source blocks (block ∷ rest) free =
    let p = none_parts (faults_among source blocks true block) (flat_map (faults_among source blocks true) rest)
    (ap first_fault (sym (flat_map-cons (faults_among source blocks true) block rest)) ∙ free) in
    (block_holds source blocks true block p.0, all_blocks source blocks rest p.1)

body_holds : (source : List ℕ) (close : Span) (blocks : List BlockText) → first_fault (body_faults source close blocks) ≡ None
    → HasEntry blocks × AllByRecursion (BlockHolds source blocks) blocks
body_holds source close [] free = absurd cc
body_holds source close (entry ∷ rest) free =
    let blocks = entry ∷ rest in
    let from = predecessors source blocks (number_of source entry) in
    let items = item_faults source from false entry.items in
    let jumps = map (jump_fault source (is_among (numbers_of source blocks))) (jumps_of entry) in
    let p = none_parts (faults_among source blocks false entry) (flat_map (faults_among source blocks true) rest) free in
    let q = none_parts items jumps (none_first (end_fault entry.head entry.end) (items ++ jumps) p.0).1 in
    (no_phi source from entry.items q.0, (block_holds source blocks false entry p.0, all_blocks source blocks rest p.1))

function_holds : (source : List ℕ) (function : FunctionText) → first_fault (function_faults source function) ≡ None
    → HasShape source function
function_holds source function free = let p = body_holds source function.close function.blocks free in record { entry = p.0; blocks = p.1 }

pub shape_kept : (source : List ℕ) (functions : List FunctionText) → shape_fault source functions ≡ None
    → AllByRecursion (HasShape source) functions
unfolding shape_fault
shape_kept source functions free = none_of_all (function_faults source) (HasShape source) (function_holds source) functions free
