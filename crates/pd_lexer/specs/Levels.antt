-- Levels: which part of the source a place lies in, by the directives before it.
use Rattle.std.specs.Prelude.{Bool, true, not, ◌&&◌, Option, Some, None, List, [], ◌∷◌, reverse}
use Rattle.pd_lexer.specs.declared.levels.Level.{Level}
use Rattle.pd_lexer.specs.declared.levels.Nest.{Nest}

-- The level that a place lies in, and those round it, from the inside out. The lowest level is the source itself
pub record Levels : Type 0 where
  pub inner : Level
  pub outer : List Level

-- the source itself is taken, and has no `#else`
abbrev pub ground : Levels
ground = record { inner = record { taken = true; other = None }; outer = [] }

-- behind an `#if` whose condition holds or doesn't: its first part is taken where the part round it is and the condition holds
abbrev pub opened : Bool → Levels → Levels
opened holds levels = record {
  inner = record { taken = levels.inner.taken && holds; other = Some (levels.inner.taken && not holds) };
  outer = levels.inner ∷ levels.outer;
}

-- behind the `#else` of the level, where it may have one
abbrev pub turned_to : Option Bool → Levels → Levels
turned_to None levels = levels
turned_to (Some taken) levels = record { inner = record { taken = taken; other = None }; outer = levels.outer }

abbrev pub turned : Levels → Levels
turned levels = turned_to levels.inner.other levels

-- behind the `#endif` of the level
abbrev pub closed_to : List Level → Levels → Levels
closed_to [] levels = levels
closed_to (level ∷ outer) levels = record { inner = level; outer = outer }

abbrev pub closed : Levels → Levels
closed levels = closed_to levels.outer levels

-- those that the code keeps, the innermost last
abbrev pub levels_of : Nest → Levels
levels_of nest = record { inner = nest.inner; outer = reverse nest.outer.items }
