use Rattle.std.proofs.Common.{◌≡◌, ◌++◌, codes, map, take}
use Rattle.std.specs.List.{flat_map}
use Rattle.row_printing.specs.CText.{piece_of, texts}
use Rattle.row_printing.proofs.c_text.+node.Given as goal

abbrev pub invariant-push_arguments-loop-arg : goal.invariant-push_arguments-loop-arg
invariant-push_arguments-loop-arg l =
    l.out ≡ l.initial.out ++ flat_map (λ text. codes ", " ++ text) (texts (map piece_of (take l.arg-index l.rest)))
