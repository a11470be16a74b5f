use Rattle.std.proofs.Common.{◌≡◌, drop}
use Rattle.pm_term.specs.TermTrees.{trees_of}
use Rattle.ring_forms.specs.Differences.{all_signed}
use Rattle.ring_forms.proofs.differences.are_signed.Given as goal

abbrev pub invariant-loop-term : goal.invariant-loop-term
invariant-loop-term l = all_signed (trees_of (drop l.term-index l.terms)) ≡ all_signed (trees_of l.terms)
