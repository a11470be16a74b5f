-- The labels from one place on.
use Rattle.std.proofs.Common.{◌≡◌, ℕ, ◌+◌, ◌<◌, List, [], ◌∷◌, ◌++◌, drop, length, sym, ap, ◌∙◌, append_assoc}
use Rattle.std.proofs.lemmas.List.{at_drop_more}
use Rattle.pm_ops.specs.Names.{Name}
use Rattle.pattern_uses.specs.Uses.{label, labels_from}

-- one more label stands before those of the places behind it
pub one_more : (made all names : List Name) (i : ℕ) → i < length names → made ++ labels_from i (drop i names) ≡ all → (made ++ label i ∷ []) ++ labels_from (i + 1) (drop (i + 1) names) ≡ all
one_more made all names i h is =
    append_assoc made (label i ∷ []) (labels_from (i + 1) (drop (i + 1) names))
    ∙ ap (λ rest. made ++ rest) (sym (at_drop_more (labels_from i) names i [] h))
    ∙ is
