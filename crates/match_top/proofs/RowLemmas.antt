-- What the rows of a pattern file of the first form have in common.
use Rattle.std.proofs.Common.{◌≡◌, ℕ, ◌+◌, ◌≤◌, List, [], ◌∷◌, ◌++◌, length, true, refl, ap, ◌∙◌, arith, length-append, All, Result, Ok, Err, IfOk}
use Rattle.std.specs.List.{list_all, AllByRecursion}
use Rattle.std.proofs.lemmas.List.Elements.{All-from_recursion}
use Rattle.pm_ops.specs.declared.code.Code.{Code}
use Rattle.pm_ops.specs.declared.code.Code.TheVariants.{Plus, Minus, Mult, BitAnd, BitIor, BitXor}
use Rattle.first_patterns.specs.declared.row.Row.{Row}
use Rattle.first_patterns.specs.FirstForm.{SpellsRows, SpellsFile, is_first_code}
use Rattle.gim_ast.specs.declared.function.Function.{Function}
use Rattle.first_rewriting.specs.Rewriting.{Rewritten, rewriting_of}
use Rattle.first_patterns.specs.Matching.{row_at}
use Rattle.match_top.specs.Simplify.{budget, written, simplified}
use Rattle.match_top.specs.declared.answer.Output.{Output}
use Rattle.match_top.specs.declared.patterns.PatternFile.{PatternFile}
use Rattle.first_rewriting.specs.Typed.{KeepTypes, keeps_type}

-- each row begins within its file
within_from : (at : ℕ) (rows : List Row) (text : List ℕ) (end : ℕ) → at + length text ≤ end → SpellsRows at rows text → AllByRecursion (λ (row : Row). row.at ≤ end) rows
within_from at [] text end fits spelled = tt
within_from at (row ∷ rows) text end fits spelled =
    let gap = spelled.0 in
    let form = spelled.1 in
    let rest = spelled.2 in
    let whole : length text ≡ length gap.bytes + (length form + length rest) = ap length spelled.3 ∙ length-append gap.bytes (form ++ rest) ∙ ap (λ n. length gap.bytes + n) (length-append form rest) in
    (omega (arith, spelled.4), within_from (at + length gap.bytes + length form) rows rest end (omega arith) spelled.6)

pub rows_within : (rows : List Row) (source : List ℕ) → SpellsFile rows source → All (λ (row : Row). row.at ≤ length source) rows
rows_within rows source file = All-from_recursion (λ (row : Row). row.at ≤ length source) rows (within_from 0 rows source (length source) (omega arith) file.spells)

-- no row of the first form compares or shifts, so each keeps the type
keeps_of : (code : Code) → is_first_code code ≡ true → (row : Row) → row.code ≡ code → keeps_type row ≡ true
keeps_of Plus h row e = rw e refl
keeps_of Minus h row e = rw e refl
keeps_of Mult h row e = rw e refl
keeps_of BitAnd h row e = rw e refl
keeps_of BitIor h row e = rw e refl
keeps_of BitXor h row e = rw e refl
keeps_of _ h row e = cc

all_keep : (at : ℕ) (rows : List Row) (text : List ℕ) → SpellsRows at rows text → list_all keeps_type rows ≡ true
all_keep at [] text spelled = refl
all_keep at (row ∷ rows) text spelled =
    let gap = spelled.0 in
    let form = spelled.1 in
    rw (keeps_of row.code spelled.5.code row refl) (all_keep (at + length gap.bytes + length form) rows spelled.2 spelled.6)

pub rows_keep_types : (rows : List Row) (source : List ℕ) → SpellsFile rows source → KeepTypes rows
rows_keep_types rows source file = all_keep 0 rows source file.spells

-- what is written of a function's rewriting
pub rewriting_output : {E : Type 0} (file : PatternFile) (f : Function) (name : List ℕ) (done : Rewritten) (r : Result Output E) → name ≡ f.name
    → done ≡ rewriting_of (row_at file.rows) budget f → IfOk r (λ output. output ≡ written file name done) → IfOk r (λ output. Ok output ≡ simplified file f)
unfolding simplified
rewriting_output file f name done (Ok output) is_name is_done is = ap Ok (is ∙ ap (λ (n : List ℕ). written file n done) is_name ∙ ap (written file f.name) is_done)
rewriting_output file f name done (Err error) is_name is_done is = tt
