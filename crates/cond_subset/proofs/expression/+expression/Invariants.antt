-- That the recursion over expressions ends, and what its loops keep.
use Rattle.std.proofs.Common.{◌≡◌, ◌+◌, ◌*◌, ◌<◌, ◌≤◌, length, map, Ok}
use Rattle.grammar.proofs.Loops.{StillRuns}
use Rattle.grammar.specs.Reading.{item_step}
use Rattle.cond_subset.specs.Trees.{expr_of}
use Rattle.cond_subset.specs.Readers.{readers, is_comma, further_at, args_at, operator_step, chain_at, links_at}
use Rattle.cond_subset.proofs.expression.+expression.Given as goal

abbrev pub decreases-read_within : goal.decreases-read_within
decreases-read_within l = 8 * l.room

abbrev pub decreases-read_further : goal.decreases-read_further
decreases-read_further l = 8 * l.room + 1

abbrev pub decreases-read_parens : goal.decreases-read_parens
decreases-read_parens l = 8 * l.room + 1

abbrev pub decreases-read_prefixed : goal.decreases-read_prefixed
decreases-read_prefixed l = 8 * l.room + 1

abbrev pub decreases-read_chain : goal.decreases-read_chain
decreases-read_chain l = 8 * l.room + 1

abbrev pub decreases-read_choice : goal.decreases-read_choice
decreases-read_choice l = 8 * l.room + 1

abbrev pub decreases-read_link : goal.decreases-read_link
decreases-read_link l = 8 * l.room + 2

abbrev pub decreases-read_links : goal.decreases-read_links
decreases-read_links l = 8 * l.room + 3

abbrev pub decreases-read_args : goal.decreases-read_args
decreases-read_args l = 8 * l.room + 2

abbrev pub decreases-read_closed : goal.decreases-read_closed
decreases-read_closed l = 8 * l.room + 3

abbrev pub decreases-read_named : goal.decreases-read_named
decreases-read_named l = 8 * l.room + 4

abbrev pub decreases-read_wide : goal.decreases-read_wide
decreases-read_wide l = 8 * l.room + 4

abbrev pub decreases-read_after_wide : goal.decreases-read_after_wide
decreases-read_after_wide l = 8 * l.room + 5

abbrev pub decreases-read_operand : goal.decreases-read_operand
decreases-read_operand l = 8 * l.room + 6

abbrev pub invariant-read_args-loop-alloc : goal.invariant-read_args-loop-alloc
invariant-read_args-loop-alloc l =
    StillRuns (item_step is_comma (further_at (readers l.room))) (args_at (readers l.room) l.symbols) (map expr_of l.args) l.rest × (length l.rest < length l.symbols)

abbrev pub decreases-read_args-loop-alloc : goal.decreases-read_args-loop-alloc
decreases-read_args-loop-alloc l = length l.rest

abbrev pub invariant-read_chain-loop-operator : goal.invariant-read_chain-loop-operator
invariant-read_chain-loop-operator l =
    StillRuns (operator_step (readers l.room) l.below) (chain_at (readers l.room) l.below (expr_of l.fn.left) l.symbols) (expr_of l.left) l.rest × (length l.rest ≤ length l.symbols)

abbrev pub decreases-read_chain-loop-operator : goal.decreases-read_chain-loop-operator
decreases-read_chain-loop-operator l = length l.rest

abbrev pub invariant-read_links-loop-below : goal.invariant-read_links-loop-below
invariant-read_links-loop-below l =
    (links_at (readers l.room) l.below (expr_of l.fn.first) l.symbols ≡ Ok (expr_of l.left, l.rest)) × (length l.rest ≤ length l.symbols)

abbrev pub decreases-read_ranked : goal.decreases-read_ranked
decreases-read_ranked l = 8 * l.room + 7
