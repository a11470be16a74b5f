-- The shape of functions: each block has an end, each jump a block, and each phi stands where it may and fits its block.
use Rattle.std.specs.Prelude.{ℕ, Bool, true, false, Option, Some, None, List, [], ◌∷◌, ◌++◌, map, if◌then◌else◌}
use Rattle.std.specs.List.{flat_map}
use Rattle.pm_places.specs.declared.span.Span.{Span}
use Rattle.gim_text.specs.declared.fault.GimpleFault.{GimpleFault}
use Rattle.gim_text.specs.declared.fault.GimpleKind.TheVariants.{NoReturn, MissingBlock}
use Rattle.gim_text.specs.declared.tree.BlockText.{BlockText}
use Rattle.gim_text.specs.declared.tree.EndText.{EndText}
use Rattle.gim_text.specs.declared.tree.FunctionText.{FunctionText}
use Rattle.gim_text.specs.Faults.{fault_at}
use Rattle.pm_places.specs.FirstFaults.{first_fault}
use Rattle.gim_shape.specs.Blocks.{is_among, number_of, named_at, jumps_of, numbers_of, predecessors}
use Rattle.gim_shape.specs.Phis.{item_faults}

-- a block without an end, at its `__BB`
abbrev pub end_fault : Span → Option EndText → Option GimpleFault
end_fault head (Some end) = None
end_fault head None = Some (fault_at NoReturn head)

-- a jump to a block that isn't there, at its `__BBn`, told which numbers blocks have
abbrev pub jump_fault : List ℕ → (List ℕ → Bool) → Span → Option GimpleFault
jump_fault source is_there at = if is_there (named_at source at) then None else Some (fault_at MissingBlock at)

-- The places of a block, told which numbers blocks have, where the numbers stand of the blocks that jump to a number, and whether
-- the block may have phis.
abbrev pub block_faults : List ℕ → (List ℕ → Bool) → (List ℕ → List Span) → Bool → BlockText → List (Option GimpleFault)
block_faults source is_there jump_here may block = end_fault block.head block.end
    ∷ item_faults source (jump_here (number_of source block)) may block.items
    ++ map (jump_fault source is_there) (jumps_of block)

-- the places of a block of these blocks
abbrev pub faults_among : List ℕ → List BlockText → Bool → BlockText → List (Option GimpleFault)
faults_among source blocks may block = block_faults source (is_among (numbers_of source blocks)) (predecessors source blocks) may block

-- The places of the blocks before a `}`. The first is the entry, which has no phi; without a block the fault is at the `}`.
abbrev pub body_faults : List ℕ → Span → List BlockText → List (Option GimpleFault)
body_faults source close [] = Some (fault_at MissingBlock close) ∷ []
body_faults source close (entry ∷ rest) =
    faults_among source (entry ∷ rest) false entry ++ flat_map (faults_among source (entry ∷ rest) true) rest

abbrev pub function_faults : List ℕ → FunctionText → List (Option GimpleFault)
function_faults source function = body_faults source function.close function.blocks

-- The first place at which a rule of shape is broken. A phi that names a missing block breaks a rule at its own name already, since a
-- missing block doesn't jump here.
unfoldable pub shape_fault : List ℕ → List FunctionText → Option GimpleFault
shape_fault source functions = first_fault (flat_map (function_faults source) functions)
