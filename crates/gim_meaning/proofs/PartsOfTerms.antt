-- Where a term has a value, each of its parts has one.
use Rattle.std.proofs.Common.{◌≡◌, ℕ, false, Option, Some, None, List, is_some, refl, ap}
use Rattle.std.specs.Prelude.{IsSome}
use Rattle.std.proofs.lemmas.Bool.{both_ways}
use Rattle.pm_ops.specs.declared.code.Code.{Code}
use Rattle.pm_wide.specs.Types.{Ty, Word}
use Rattle.pm_term.specs.Terms.{term_value, term_values, operation_on, with_value}
use Rattle.pm_term.specs.Trees.{Tree, Trees}
use Rattle.gim_meaning.specs.Unfolding.{Refines, IsDefinedWith, IsPartOf}
use Rattle.gim_meaning.specs.Unfolding.{itself_whole, below, IsPartOfOne, of_first, of_later}

-- an operation that has a value has those of its operands
operands_defined : (code : Code) (ty : Ty) (found : Option (List Word)) →
    IsSome (operation_on code ty found) → IsSome found
operands_defined code ty None h = absurd (both_ways false refl h)
operands_defined code ty (Some words) h = refl

first_defined : (found : Option Word) (rest : Option (List Word)) → IsSome (with_value found rest) →
    IsSome found
first_defined None rest h = absurd (both_ways false refl h)
first_defined (Some w) rest h = refl

later_defined : (found : Option Word) (rest : Option (List Word)) → IsSome (with_value found rest) →
    IsSome rest
later_defined None rest h = absurd (both_ways false refl h)
later_defined (Some w) None h = absurd (both_ways false refl h)
later_defined (Some w) (Some words) h = refl

module _ (words : ℕ → Ty → Word) (part : Tree) where
  mutual
    part_defined : (term : Tree) → IsPartOf part term → IsSome (term_value words term) →
        IsSome (term_value words part)
    part_defined _ itself_whole h = h
    part_defined _ (below code ty terms one) h =
        part_of_one_defined terms one (operands_defined code ty (term_values words terms) h)

    part_of_one_defined : (terms : Trees) → IsPartOfOne part terms →
        IsSome (term_values words terms) → IsSome (term_value words part)
    part_of_one_defined _ (of_first term terms inner) h =
        part_defined term inner
        (first_defined (term_value words term) (term_values words terms) h)
    part_of_one_defined _ (of_later term terms one) h =
        part_of_one_defined terms one
        (later_defined (term_value words term) (term_values words terms) h)

pub parts_are_defined : (old whole part : Tree) → Refines old whole → IsPartOf part whole →
    IsDefinedWith old part
parts_are_defined old whole part refines inside words named some =
    by (term_value words old) refl some
  where
    by : (value : Option Word) → term_value words old ≡ value → IsSome value →
        IsSome (term_value words part)
    by None is h = absurd (both_ways false refl h)
    by (Some w) is h = part_defined words part whole inside (ap is_some (refines words named w is))
