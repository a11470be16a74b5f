-- The names of well-formed functions rise.
use Rattle.std.proofs.Common.{zero, suc, List, [], ◌∷◌, arith}
use Rattle.std.specs.Prelude.{All, IsTrue}
use Rattle.std.specs.List.{AllByRecursion}
use Rattle.std.proofs.lemmas.Bool.{and_parts}
use Rattle.gim_ast.specs.declared.function.Function.{Function}
use Rattle.gim_ast.specs.WellFormed.{names_rise, IsWellFormed}
use Rattle.gim_ast.specs.Readable.{IsValid}

pub names_rise_where_well_formed : (f : Function) → IsWellFormed f → IsTrue (names_rise f)
names_rise_where_well_formed f well_formed =
    (and_parts _ _ (and_parts _ _ (and_parts _ _ (and_parts _ _ well_formed.names).0).0).0).0

pub names_rise_where_valid : (f : Function) → IsValid f → IsTrue (names_rise f)
names_rise_where_valid f valid = names_rise_where_well_formed f valid.well_formed

-- what follows from a rule holds of each of a list that keeps it
each : (P : Function → Type 0) → ((f : Function) → P f → IsTrue (names_rise f)) → (fs : List Function) → AllByRecursion P fs →
    All (λ f. IsTrue (names_rise f)) fs
each P rise [] all k d within = absurd (omega arith)
each P rise (f ∷ fs) all zero d within = rise f all.0
each P rise (f ∷ fs) all (suc k) d within = each P rise fs all.1 k d (omega arith)

pub all_rise_where_well_formed : (fs : List Function) → AllByRecursion IsWellFormed fs → All (λ f. IsTrue (names_rise f)) fs
all_rise_where_well_formed fs all = each IsWellFormed names_rise_where_well_formed fs all

pub all_rise_where_valid : (fs : List Function) → AllByRecursion IsValid fs → All (λ f. IsTrue (names_rise f)) fs
all_rise_where_valid fs all = each IsValid names_rise_where_valid fs all
