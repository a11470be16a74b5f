use Rattle.std.proofs.Common.{◌≡◌, drop}
use Rattle.pm_term.specs.TermTrees.{trees_of}
use Rattle.pm_term.specs.Trees.{AreWellTyped}
use Rattle.ring_forms.specs.Places.{prepended}
use Rattle.ring_forms.specs.ExactTables.{exact_reads}
use Rattle.ring_forms.proofs.exact.+exact.Given as goal

abbrev pub invariant-exacts_of-loop-term : goal.invariant-exacts_of-loop-term
invariant-exacts_of-loop-term l =
    (prepended l.forms (exact_reads (trees_of (drop l.term-index l.terms)) l.reading) ≡ exact_reads (trees_of l.terms) l.initial.reading) × AreWellTyped (trees_of (drop l.term-index l.terms))
