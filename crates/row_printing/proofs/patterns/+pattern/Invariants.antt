use Rattle.std.proofs.Common.{◌≡◌, ◌++◌, map, take}
use Rattle.row_printing.specs.Patterns.{pattern_text}
use Rattle.row_printing.specs.Texts.{all_spaced}
use Rattle.row_printing.proofs.patterns.+pattern.Given as goal

abbrev pub invariant-push_patterns-loop-pattern : goal.invariant-push_patterns-loop-pattern
invariant-push_patterns-loop-pattern l =
    l.out ≡ l.initial.out ++ all_spaced (map pattern_text (take l.pattern-index l.patterns))
