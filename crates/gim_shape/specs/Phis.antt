-- Where a phi may stand, and which arguments it has.
use Rattle.std.specs.Prelude.{ℕ, Bool, true, false, ◌&&◌, Option, Some, None, List, [], ◌∷◌, map, if◌then◌else◌}
use Rattle.std.specs.List.{list_all}
use Rattle.gim_ast.specs.WellFormed.{same_text, all_distinct}
use Rattle.pm_places.specs.declared.span.Span.{Span}
use Rattle.gim_text.specs.declared.fault.GimpleFault.{GimpleFault}
use Rattle.gim_text.specs.declared.fault.GimpleKind.TheVariants.{BadPhi}
use Rattle.gim_text.specs.declared.tree.ArgText.{ArgText}
use Rattle.gim_text.specs.declared.tree.ItemText.{ItemText}
use Rattle.gim_text.specs.declared.tree.ItemText.TheVariants.{Phi, Stmt}
use Rattle.pm_places.specs.Spans.{text_of}
use Rattle.gim_text.specs.Faults.{fault_at}
use Rattle.gim_shape.specs.Blocks.{is_among, named_at}

-- the texts are all of these, each of them once
abbrev pub is_each_once : List (List ℕ) → List (List ℕ) → Bool
is_each_once wanted texts = all_distinct same_text texts && list_all (is_among wanted) texts && list_all (is_among texts) wanted

-- the numbers of the blocks that the arguments name
abbrev pub named_by_args : List ℕ → List ArgText → List (List ℕ)
named_by_args source args = map (λ (arg : ArgText). named_at source arg.from) args

abbrev pub has_args : List ArgText → Bool
has_args [] = false
has_args (arg ∷ args) = true

-- One argument at least, and one for each block that jumps here; the numbers of those blocks stand at these places. A block that
-- isn't there jumps nowhere, so no argument names it.
abbrev pub args_fit : List ℕ → List Span → List ArgText → Bool
args_fit source from args = has_args args && is_each_once (map (text_of source) from) (named_by_args source args)

-- a phi, at the name that it assigns, told whether one may stand here
abbrev pub phi_fault : List ℕ → List Span → Bool → Span → List ArgText → Option GimpleFault
phi_fault source from may name args = if may && args_fit source from args then None else Some (fault_at BadPhi name)

-- The items of a block to which the blocks with the numbers at these places jump, told whether a phi may stand at the first of
-- them: in the entry none may, and none after a statement.
abbrev pub item_faults : List ℕ → List Span → Bool → List ItemText → List (Option GimpleFault)
item_faults source from may [] = []
item_faults source from may (Phi name args ∷ items) = phi_fault source from may name args ∷ item_faults source from may items
item_faults source from may (Stmt name right ∷ items) = None ∷ item_faults source from false items
