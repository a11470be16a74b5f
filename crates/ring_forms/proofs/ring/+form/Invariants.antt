use Rattle.std.proofs.Common.{◌≡◌, drop}
use Rattle.pm_term.specs.TermTrees.{trees_of}
use Rattle.ring_forms.specs.Places.{prepended}
use Rattle.ring_forms.specs.TableForms.{ring_forms, operand_forms}
use Rattle.ring_forms.proofs.ring.+form.Given as goal

abbrev pub invariant-forms_of-loop-term : goal.invariant-forms_of-loop-term
invariant-forms_of-loop-term l =
    prepended l.forms (ring_forms l.ty.width (trees_of (drop l.term-index l.terms)) l.table) ≡ ring_forms l.ty.width (trees_of l.terms) l.initial.table

abbrev pub invariant-operands_of-loop-term : goal.invariant-operands_of-loop-term
invariant-operands_of-loop-term l =
    prepended l.operands (operand_forms (trees_of (drop l.term-index l.terms)) l.table) ≡ operand_forms (trees_of l.terms) l.initial.table
