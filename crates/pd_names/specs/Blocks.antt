-- The rules on the names of `with` blocks, and what stands below one.
use Rattle.std.specs.Prelude.{ℕ, List, [], ◌∷◌, ◌++◌, Option, None}
use Rattle.pm_ops.specs.declared.fault.PatternFault.{PatternFault}
use Rattle.pm_places.specs.FirstFaults.{or_fault}
use Rattle.cond_subset.specs.declared.scope.Declared.{Declared}
use Rattle.cond_subset.specs.Trees.{exprs}
use Rattle.cond_subset.specs.Declarations.{Value, plain, flagged, Decl, valued, overflow}
use Rattle.cond_subset.specs.Names.{declared_by}
use Rattle.pd_pattern_names.specs.declared.known.Known.{Known}
use Rattle.pd_names.specs.declared.sight.Sight.{Sight}
use Rattle.pd_names.specs.Parts.{flag_fault, part_fault, parts_fault}

abbrev pub value_fault : List ℕ → Known → Sight → List Declared → Value → Option PatternFault
value_fault source known sight block (plain e) = part_fault source known sight block e
value_fault source known sight block (flagged c args flag) =
    or_fault (parts_fault source known sight block (exprs args)) (flag_fault source known sight block flag)

abbrev pub decl_fault : List ℕ → Known → Sight → List Declared → Decl → Option PatternFault
decl_fault source known sight block (valued word name v) = value_fault source known sight block v
decl_fault source known sight block (overflow name) = None

-- the first fault of declarations, after those of the block before them
abbrev pub block_fault : List ℕ → Known → Sight → List Declared → List Decl → Option PatternFault
block_fault source known sight block [] = None
block_fault source known sight block (d ∷ ds) = or_fault (decl_fault source known sight block d) (block_fault source known sight (block ++ declared_by d) ds)

-- what declarations declare
abbrev pub declared_in : List Decl → List Declared
declared_in [] = []
declared_in (d ∷ ds) = declared_by d ++ declared_in ds

-- what a part below a block may name
abbrev pub below : Sight → List Decl → Sight
below sight ds = record { captures = sight.captures; locals = sight.locals ++ declared_in ds; in_match = sight.in_match }
