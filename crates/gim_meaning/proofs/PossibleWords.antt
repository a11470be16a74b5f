-- What holds of all words that names may have at a point holds whenever a run comes there.
use Rattle.std.proofs.Common.{◌≡◌, ℕ, Bool, false, Some, List, [], ◌∷◌, ◌++◌, map, length}
use Rattle.std.proofs.Common.{slice_get, sym, ap, subst, ◌∙◌}
use Rattle.std.specs.List.{AllByRecursion}
use Rattle.std.proofs.lemmas.Option.{same_Some}
use Rattle.pm_ops.specs.declared.code.Code.{Code}
use Rattle.pm_wide.specs.Types.{Word}
use Rattle.pm_wide.specs.declared.operand.Operand.{Operand}
use Rattle.gim_ast.specs.declared.function.Function.{Function}
use Rattle.gim_ast.specs.declared.function.Block.{Block}
use Rattle.gim_ast.specs.declared.function.Decl.{Decl}
use Rattle.gim_ast.specs.declared.function.Stmt.{Stmt}
use Rattle.gim_ast.specs.declared.function.Rhs.{Rhs}
use Rattle.gim_ast.specs.declared.function.End.{End}
use Rattle.gim_ast.specs.declared.function.End.TheVariants.{Goto, If, Return}
use Rattle.gim_ast.specs.Functions.{stmt_name, block_of}
use Rattle.gim_ast.specs.Readable.{Use, uses_in, IsReadable, IsReadableUse, IsValid}
use Rattle.gim_ast.specs.WellFormed.{IsWellFormed}
use Rattle.gim_ast.specs.Runs.{Env, rhs_value, name_type, holds}
use Rattle.gim_ast.proofs.ReadableLemmas.{support_is_readable}
use Rattle.gim_changes.specs.Insertion.{with_stmt}
use Rattle.gim_changes.specs.Substitution.{put_in_all, with_rhs, with_condition}
use Rattle.gim_meaning.specs.KeptRuns.{AreArgumentWords, KeepsDefinedRuns}
use Rattle.gim_meaning.specs.PresentValues.{ArePossible}
use Rattle.gim_meaning.specs.ReachedPoints.{Inside, Reaches, Lies}
use Rattle.gim_meaning.specs.SameReading.{ReadsAlike, GivesAlike, DecidesAlike, AlwaysReadsAlike}
use Rattle.gim_meaning.specs.SameReading.{AlwaysGivesAlike, AlwaysDecidesAlike, FollowsFrom}
use Rattle.gim_meaning.specs.SameReading.{AlwaysHasValueThere}
use Rattle.gim_meaning.proofs.NewRows.{IsNewStmt}
use Rattle.gim_meaning.proofs.BlockOfPlace.{block_at}
use Rattle.gim_meaning.proofs.InsertionRuns.{insertion_keeps_runs}
use Rattle.gim_meaning.proofs.NewRightSides.{right_side_keeps_runs, condition_keeps_runs}
use Rattle.gim_meaning.proofs.OnePlace.{one_place, head_or}
use Rattle.gim_meaning.proofs.ReadableValues.{readable_has_its_value}
use Rattle.gim_meaning.proofs.Reached.{lies}
use Rattle.gim_meaning.proofs.SubstitutionRuns.{each_of, substitution_keeps_runs}
use Rattle.gim_meaning.proofs.TypedWords.{names_are_typed}

pub words_are_possible : (f : Function) (args : List Word) (block : Block) (stmts : List Stmt)
    (env : Env) → IsWellFormed f → AreArgumentWords f args →
    Reaches f args (Inside block stmts env) → ArePossible f block.number (map stmt_name stmts) env
words_are_possible f args block stmts env well words reached = record {
  typed = names_are_typed f args well words block stmts env reached;
  values = readable_has_its_value f args well block stmts env reached;
}

-- ---- an operand for a name

pub reads_alike : (f : Function) (x : ℕ) (by : Operand) → IsWellFormed f → (place : Use) →
    AlwaysReadsAlike f x by place → ReadsAlike f x by place
reads_alike f x by well place always name args words block stmts env reached at left =
    always name env
    (subst (λ n. ArePossible f n place.left env) at
    (subst (λ l. ArePossible f block.number l env) left
    (words_are_possible f args block stmts env well words reached)))

pub always_read_alike_keeps_runs : (f : Function) (x : ℕ) (by : Operand) → IsWellFormed f →
    AllByRecursion (AlwaysReadsAlike f x by) (uses_in f) → KeepsDefinedRuns f (put_in_all x by f)
always_read_alike_keeps_runs f x by well always =
    substitution_keeps_runs f well x by (each_of (AlwaysReadsAlike f x by) (ReadsAlike f x by)
    (reads_alike f x by well) (uses_in f) always)

followed_at_use : (f : Function) (x : ℕ) (by : Operand) → IsValid f → FollowsFrom f x by →
    (place : Use) → IsReadableUse f place → AlwaysReadsAlike f x by place
followed_at_use f x by valid follows place readable name env possible =
    let there = subst (λ y. IsReadable f y place.at place.left) name readable in
    follows env possible.typed (possible.values x there)
    (λ y supports. possible.values y (support_is_readable f valid x y place.at place.left there
    supports))

pub followed_keeps_runs : (f : Function) (x : ℕ) (by : Operand) → IsValid f → FollowsFrom f x by →
    KeepsDefinedRuns f (put_in_all x by f)
followed_keeps_runs f x by valid follows =
    always_read_alike_keeps_runs f x by valid.well_formed
    (each_of (IsReadableUse f) (AlwaysReadsAlike f x by) (followed_at_use f x by valid follows)
    (uses_in f) valid.readable)

-- ---- another right side

pub always_given_keeps_runs : (f : Function) (block : Block) (stmt : Stmt) (stmts : List Stmt)
    (rhs : Rhs) → IsWellFormed f → Lies f block (stmt ∷ stmts) →
    AlwaysGivesAlike f block stmt stmts rhs →
    KeepsDefinedRuns f (with_rhs stmt.name rhs f)
always_given_keeps_runs f block stmt stmts rhs well there always =
    right_side_keeps_runs f stmt.name rhs gives
  where
    gives : GivesAlike f stmt.name rhs
    gives args words other first rest env w reached name value =
        let that = one_place f well block stmt stmts there other first rest (lies reached) name in
        let possible : ArePossible f block.number (map stmt_name (stmt ∷ stmts)) env =
        subst (λ (b : Block). ArePossible f b.number (map stmt_name (stmt ∷ stmts)) env)
        that.block_is
        (subst (λ ss. ArePossible f other.number (map stmt_name ss) env) that.stmts_are
        (words_are_possible f args other (first ∷ rest) env well words reached)) in
        always env w possible (subst (λ (s : Stmt). rhs_value
        (name_type f stmt.name) env s.rhs ≡ Some w) (ap (head_or stmt) that.stmts_are) value)

-- ---- another condition

-- whether the condition of an end holds
abbrev holds_at : Env → End → Bool
holds_at env (Goto to) = false
holds_at env (If code left right yes_to no_to) = holds env code left right
holds_at env (Return a) = false

pub always_decided_keeps_runs : (f : Function) (block : Block) (old : Code) (left right : Operand)
    (yes_to no_to : ℕ) (code : Code) (a b : Operand) → IsWellFormed f →
    block_of f block.number ≡ Some block → block.end ≡ If old left right yes_to no_to →
    AlwaysDecidesAlike f block.number old left right code a b →
    KeepsDefinedRuns f (with_condition block.number code a b f)
always_decided_keeps_runs f block old left right yes_to no_to code a b well found end always =
    condition_keeps_runs f block.number code a b decides
  where
    decides : DecidesAlike f block.number code a b
    decides args words other env code' left' right' yes' no' reached number is =
        let same : other ≡ block = same_Some other block
        (sym (lies reached).found ∙ ap (block_of f) number ∙ found) in
        let ends : If code' left' right' yes' no' ≡ If old left right yes_to no_to = sym is
        ∙ ap (λ (c : Block). c.end) same ∙ end in
        let possible = subst (λ n. ArePossible f n [] env) number
        (words_are_possible f args other [] env well words reached) in
        always env possible ∙ sym (ap (holds_at env) ends)

-- ---- a statement before others

-- the statements from a place of a block on are its last
pub lies_at : (f : Function) → IsWellFormed f →
    (place : ℕ) (home : Block) (front rest : List Stmt) → slice_get f.blocks place ≡ Some home →
    home.stmts ≡ front ++ rest → Lies f home rest
lies_at f well place home front rest at split =
    record { found = block_at f well place home at; front = front; is = split }

pub always_defined_keeps_runs : (f : Function) (place : ℕ) (home : Block) (front rest : List Stmt)
    (stmt : Stmt) (decl : Decl) → IsWellFormed f → slice_get f.blocks place ≡ Some home →
    home.stmts ≡ front ++ rest → IsNewStmt f stmt →
    (Lies f home rest → AlwaysHasValueThere f home rest decl.ty stmt.rhs) →
    KeepsDefinedRuns f (with_stmt place (length front) stmt decl f)
always_defined_keeps_runs f place home front rest stmt decl well at split is_new always =
    insertion_keeps_runs f well place home at front rest split stmt decl is_new
    (λ args words env reached goes_on. always (lies_at f well place home front rest at split) env
    (words_are_possible f args home rest env well words reached) goes_on)
