-- What a machine shows, and what it keeps ready for a run.
use Rattle.std.specs.Prelude.{IsTrue, length}
use Rattle.std.specs.List.{list_all}
use Rattle.gim_ast.specs.declared.function.Function.{Function}
use Rattle.gim_ast.specs.WellFormed.{IsWellFormed}
use Rattle.gim_run.specs.declared.machine.Machine.TheInside.{Inside}
use Rattle.gim_run.specs.Blocks.{has_room}
use Rattle.gim_run.specs.Slots.{AreSlots}

-- the function that it runs
abbrev pub function_of : Inside → Function
function_of m = m.function

-- a slot for each name, and room for what the phis of any block read
pub record IsReady (m : Inside) : Type 0 where
  pub well_formed : IsWellFormed m.function
  pub slots : AreSlots m.function m.slots.items
  pub room : IsTrue (list_all (has_room (length m.scratch.items)) m.function.blocks)
