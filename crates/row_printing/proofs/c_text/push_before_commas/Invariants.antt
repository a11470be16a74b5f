use Rattle.std.proofs.Common.{◌≡◌, ◌++◌, map, take}
use Rattle.std.specs.List.{flat_map}
use Rattle.row_printing.specs.CText.{c_text}
use Rattle.row_printing.specs.Texts.{before_comma}
use Rattle.row_printing.proofs.c_text.push_before_commas.Given as goal

abbrev pub invariant-loop-expr : goal.invariant-loop-expr
invariant-loop-expr l = l.out ≡ l.initial.out ++ flat_map before_comma (map c_text (take l.expr-index l.exprs))
