-- What the loop of `read_forms` keeps.
use Rattle.std.proofs.Common.{◌≤◌, length, map}
use Rattle.grammar.proofs.Loops.{StillRuns}
use Rattle.grammar.specs.Reading.{item_step}
use Rattle.pd_files.specs.Forms.{form_of}
use Rattle.pd_files.specs.FormReaders.{any_symbol, top_at, file_at}
use Rattle.pd_files.proofs.file.read_forms.Given as goal

abbrev pub invariant-loop-alloc : goal.invariant-loop-alloc
invariant-loop-alloc l = StillRuns (item_step any_symbol top_at) (file_at l.symbols) (map form_of l.forms) l.rest × (length l.rest ≤ length l.symbols)

abbrev pub decreases-loop-alloc : goal.decreases-loop-alloc
decreases-loop-alloc l = length l.rest
