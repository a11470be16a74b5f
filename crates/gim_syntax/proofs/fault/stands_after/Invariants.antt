-- What the loop of `stands_after` keeps.
use Rattle.std.proofs.Common.{◌≡◌, ◌+◌, ◌≤◌, length, None}
use Rattle.gim_syntax.specs.SyntaxFaults.{last_after, depth_after, outside_after, outside_parentheses, block_after, is_in_block}
use Rattle.gim_syntax.proofs.fault.stands_after.Given as goal

abbrev pub invariant-loop-rest : goal.invariant-loop-rest
invariant-loop-rest l =
    (depth_after l.depth l.rest ≡ depth_after 0 l.front)
    × (last_after l.outer (outside_after l.depth l.rest) ≡ last_after None (outside_parentheses l.front))
    × (block_after l.in_block (outside_after l.depth l.rest) ≡ is_in_block l.front)
    × (l.depth + length l.rest ≤ length l.front)

abbrev pub decreases-loop-rest : goal.decreases-loop-rest
decreases-loop-rest l = length l.rest
