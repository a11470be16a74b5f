-- Changes as the code makes them: all branches first, then all blocks that nothing reaches, then a phi. This is the code's concern alone.
use Rattle.std.specs.Prelude.{◌≡◌, ℕ, Option, Some, None, List, ◌++◌}
use Rattle.gim_ast.specs.declared.function.Function.{Function}
use Rattle.cfg_tidy.specs.declared.change.Change.{Change}
use Rattle.cfg_tidy.specs.declared.change.Change.TheVariants as change
use Rattle.cfg_tidy.specs.Branches.{first_branch}
use Rattle.cfg_tidy.specs.Phis.{first_copy}
use Rattle.cfg_tidy.specs.Tidying.{AllReached, Makes, Becomes}

-- more changes were made, and noted behind the old ones
pub record Extends (f : Function) (old : List Change) (g : Function) (new : List Change) : Type 0 where
  pub more : List Change
  pub noted : new ≡ old ++ more
  pub becomes : Becomes f more g

-- and no branch is possible any more
pub record MakesBranches (f : Function) (old : List Change) (g : Function) (new : List Change) : Type 0 where
  pub made : Extends f old g new
  pub branches : first_branch g.blocks ≡ None

-- neither a branch is possible nor is there a block that nothing reaches
pub record IsSettled (f : Function) : Type 0 where
  pub branches : first_branch f.blocks ≡ None
  pub reached : AllReached f.blocks f.blocks

pub record Settles (f : Function) (old : List Change) (g : Function) (new : List Change) : Type 0 where
  pub made : Extends f old g new
  pub settled : IsSettled g

-- the first phi of one operand is gone, if there was one, and each block is still reached
abbrev pub TakesPhi : Function → Option ℕ → Function → Type 0
TakesPhi f (Some x) g = Makes f (change.Phi x) g × AllReached g.blocks g.blocks
TakesPhi f None g = (first_copy f.blocks ≡ None) × (g ≡ f)
