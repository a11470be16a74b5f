-- The rules on the names of tails.
use Rattle.std.specs.Prelude.{ℕ, List, [], Option, None}
use Rattle.pm_ops.specs.declared.fault.PatternFault.{PatternFault}
use Rattle.pm_places.specs.FirstFaults.{or_fault}
use Rattle.pd_forms.specs.Tails as tails
use Rattle.pd_forms.specs.Tails.{Tail}
use Rattle.pd_pattern_names.specs.declared.known.Known.{Known}
use Rattle.pd_names.specs.declared.sight.Sight.{Sight}
use Rattle.pd_names.specs.Parts.{part_fault}
use Rattle.pd_names.specs.Blocks.{block_fault, below}

abbrev pub tail_fault : List ℕ → Known → Sight → Tail → Option PatternFault
tail_fault source known sight tails.empty = None
tail_fault source known sight (tails.when c t) = or_fault (part_fault source known sight [] c) (tail_fault source known sight t)
tail_fault source known sight (tails.bound ds t) = or_fault (block_fault source known sight [] ds) (tail_fault source known (below sight ds) t)
