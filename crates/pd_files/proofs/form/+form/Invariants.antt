-- That the recursion over forms ends, and what its loop keeps.
use Rattle.std.proofs.Common.{◌+◌, ◌*◌, ◌≤◌, length, map}
use Rattle.grammar.proofs.Loops.{StillRuns}
use Rattle.grammar.specs.Reading.{item_step, more_at}
use Rattle.pd_files.specs.Forms.{form_of}
use Rattle.pd_files.specs.FormReaders.{begins_form, forms_at}
use Rattle.pd_files.proofs.form.+form.Given as goal

abbrev pub decreases-read_within : goal.decreases-read_within
decreases-read_within l = 6 * l.room

abbrev pub decreases-read_further : goal.decreases-read_further
decreases-read_further l = 6 * l.room + 1

abbrev pub decreases-read_body : goal.decreases-read_body
decreases-read_body l = 6 * l.room + 2

abbrev pub decreases-read_for : goal.decreases-read_for
decreases-read_for l = 6 * l.room + 3

abbrev pub decreases-read_if : goal.decreases-read_if
decreases-read_if l = 6 * l.room + 3

abbrev pub decreases-read_opened : goal.decreases-read_opened
decreases-read_opened l = 6 * l.room + 4

abbrev pub decreases-read_any : goal.decreases-read_any
decreases-read_any l = 6 * l.room + 5

abbrev pub invariant-read_further-loop-alloc : goal.invariant-read_further-loop-alloc
invariant-read_further-loop-alloc l =
    StillRuns (item_step begins_form (forms_at l.room)) (more_at begins_form (forms_at l.room) (map form_of l.fn.first) l.symbols) (map form_of l.forms) l.rest × (length l.rest ≤ length l.symbols)

abbrev pub decreases-read_further-loop-alloc : goal.decreases-read_further-loop-alloc
decreases-read_further-loop-alloc l = length l.rest
