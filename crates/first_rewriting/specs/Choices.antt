-- A choice as the code holds it: its place and itself, without the right side that stands there.
use Rattle.std.specs.Prelude.{ℕ, Option, List, [], ◌∷◌, IsTrue, map}
use Rattle.std.specs.Option.{option_map, ForSome}
use Rattle.pm_wide.specs.Types.{Ty}
use Rattle.pm_wide.specs.declared.operand.Operand.{Operand}
use Rattle.gim_ast.specs.declared.function.Stmt.{Stmt}
use Rattle.gim_ast.specs.declared.function.Rhs.{Rhs}
use Rattle.first_patterns.specs.Subjects as subjects
use Rattle.gim_ast.specs.declared.function.Rhs.TheVariants.{Copy, Op}
use Rattle.gim_ast.specs.declared.function.Function.{Function}
use Rattle.first_patterns.specs.Subjects.{Subject, subject_of_stmt, view_of, type_at}
use Rattle.gim_ast.specs.WellFormed.{type_of}
use Rattle.pm_wide.specs.Typing.{well_typed_operation}
use Rattle.first_rewriting.specs.Rewriting as rewriting
use Rattle.first_rewriting.specs.Rewriting.{or_else, copy_at, swap_at, fold_at, choice_at, first_some, IsRow, AsOperand, AsExchanged}
use Rattle.first_patterns.specs.declared.row.Row.{Row}
use Rattle.first_patterns.specs.Matching.{found_from, row_at}
use Rattle.first_rewriting.specs.Views.{site_of, what_of}
use Rattle.first_rewriting.specs.declared.choice.Outcome.{Outcome}
use Rattle.first_rewriting.specs.declared.choice.Outcome.TheVariants.{Operand as OfOperand, Exchanged}
use Rattle.first_rewriting.specs.declared.choice.Choice.{Choice}
use Rattle.first_rewriting.specs.declared.choice.Found.{Found}

abbrev pub result_of : Outcome → rewriting.Result
result_of (OfOperand a) = AsOperand a
result_of (Exchanged code a b) = AsExchanged code a b

abbrev pub choice_of : Choice → rewriting.Choice
choice_of c = record { what = what_of c.what; result = result_of c.outcome }

abbrev pub found_of : Found → subjects.Site × rewriting.Choice
found_of found = (site_of found.site, choice_of found.choice)

-- a subject with its choice, by its place alone
abbrev pub by_site : Subject × rewriting.Choice → subjects.Site × rewriting.Choice
by_site found = (found.0.site, found.1)

-- the first row that applies at a right side
abbrev pub row_kind : List Row → Rhs → Option rewriting.Choice
row_kind rows rhs =
    option_map (λ (found : ℕ × Operand). record { what = IsRow found.0; result = AsOperand found.1 })
    (found_from 0 rows rhs)

-- the first of copy, swap, fold and row at a right side of that type
abbrev pub kind_at : List Row → Option Ty → Rhs → Option rewriting.Choice
kind_at rows ty rhs = or_else (copy_at rhs) (or_else (swap_at rhs) (or_else (fold_at ty rhs) (row_kind rows rhs)))

-- a subject with its choice, if it has one
abbrev pub tried : List Row → Function → Subject → Option (Subject × rewriting.Choice)
tried rows f s = option_map (λ c. (s, c)) (choice_at (row_at rows) (view_of f) s)

-- a statement, as a list of subjects
abbrev pub stmt_subjects : Stmt → List Subject
stmt_subjects stmt = subject_of_stmt stmt ∷ []

-- the first of these subjects that has a choice, by its place, and the choice
abbrev pub first_found : List Row → Function → List Subject → Option (subjects.Site × rewriting.Choice)
first_found rows f ss = option_map by_site (first_some (tried rows f) ss)

-- the operation table speaks of the right side's operation at that type
abbrev pub Folds : Option Ty → Rhs → Type 0
Folds ty (Copy a) = Unit {0}
Folds ty (Op code operands) = ForSome ty (λ t. IsTrue (well_typed_operation code t (map type_of operands)))

-- and so at each of these subjects of the function
abbrev pub EachFolds : Function → List Subject → Type 0
EachFolds f [] = Unit {0}
EachFolds f (s ∷ ss) = Folds (type_at (view_of f) s.site) s.rhs × EachFolds f ss
