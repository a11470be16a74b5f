use Rattle.std.proofs.Common.{◌≡◌, ℕ, List, drop}
use Rattle.std.specs.List.{list_any, list_all}
use Rattle.std.specs.Str.{bytes_eq}
use Rattle.std.specs.HashSet.{contains_by}
use Rattle.gim_ast.specs.WellFormed.{same_text}
use Rattle.first_gimple.proofs.rules.are_among.Given as goal

abbrev pub invariant-loop-text : goal.invariant-loop-text
invariant-loop-text l = (known : List (List ℕ)) → ((q : List ℕ) → contains_by (λ k. bytes_eq q k.now) l.set ≡ list_any (same_text q) known)
    → list_all (λ text. list_any (same_text text) known) (drop l.text-index l.texts) ≡ list_all (λ text. list_any (same_text text) known) l.texts
