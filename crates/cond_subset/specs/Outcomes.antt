-- What a C part comes to: its typed tree, or its first fault of syntax, then of names, then of types.
use Rattle.std.specs.Prelude.{◌≡◌, ℕ, Bool, true, false, List, [], Option, Some, None, Result, Ok, Err, ◌⊎◌}
use Rattle.grammar.specs.Spelling.{Spelling}
use Rattle.pm_ops.specs.declared.fault.PatternFault.{PatternFault}
use Rattle.pd_text.specs.declared.symbol.Symbol.{Symbol}
use Rattle.pd_ast.specs.declared.c_text.CDecl.{CDecl}
use Rattle.pd_ast.specs.declared.c_text.CExpr.{CExpr}
use Rattle.pd_ast.specs.declared.c_text.CType.TheVariants.{Truth, Oper}
use Rattle.cond_subset.specs.declared.scope.Scope.{Scope}
use Rattle.cond_subset.specs.Trees.{Expr}
use Rattle.cond_subset.specs.Declarations.{Decl}
use Rattle.cond_subset.specs.Syntax.{IsSyntaxFault}
use Rattle.cond_subset.specs.Names.{is_memory_kind, unknown, unknown_in}
use Rattle.cond_subset.specs.Types.{Finds}
use Rattle.cond_subset.specs.Making.{part_made}
use Rattle.cond_subset.specs.Blocks.{block_made}

-- a fault of names over the whole part goes before one of types
abbrev pub after_names : {B : Type 0} → Option PatternFault → Result B PatternFault → Result B PatternFault
after_names None made = made
after_names (Some fault) made = Err fault

-- a condition, which is a truth; an operand in braces; a block
abbrev pub cond_meaning : List ℕ → Scope → Expr → Result CExpr PatternFault
cond_meaning source scope e = after_names (unknown source scope [] e) (part_made Truth source scope e)

abbrev pub brace_meaning : List ℕ → Scope → Expr → Result CExpr PatternFault
brace_meaning source scope e = after_names (unknown source scope [] e) (part_made Oper source scope e)

abbrev pub block_meaning : List ℕ → Scope → List Decl → Result (List CDecl) PatternFault
block_meaning source scope decls = after_names (unknown_in source scope [] decls) (block_made source scope decls)

-- The symbols spell a tree that has this meaning.
pub record Means {A B : Type 0} (N : Spelling Symbol A) (meaning : A → Result B PatternFault) (symbols : List Symbol) (result : Result B PatternFault) : Type 0 where
  pub tree : A
  pub spelled : N tree symbols
  pub is : meaning tree ≡ result

-- The outcome of a part: the meaning of the tree that the symbols spell, or the first fault of syntax.
abbrev pub Outcome : {A B : Type 0} → Spelling Symbol A → (A → Result B PatternFault) → List Symbol → Result B PatternFault → Type 0
Outcome N meaning symbols (Ok made) = Means N meaning symbols (Ok made)
Outcome N meaning symbols (Err fault) = IsSyntaxFault N symbols fault ⊎ Means N meaning symbols (Err fault)

-- What is answered is the outcome, unless memory ran out.
abbrev pub OrMemory : Bool → Type 0 → Type 0
OrMemory true claim = Unit {0}
OrMemory false claim = claim

abbrev pub Answers : {A B : Type 0} → Spelling Symbol A → (A → Result B PatternFault) → List Symbol → Result B PatternFault → Type 0
Answers N meaning symbols (Ok made) = Outcome N meaning symbols (Ok made)
Answers N meaning symbols (Err fault) = OrMemory (is_memory_kind fault.kind) (Outcome N meaning symbols (Err fault))

-- What a part comes to is answered, unless memory runs out.
abbrev pub AnswersOnly : {A B : Type 0} → Spelling Symbol A → (A → Result B PatternFault) → List Symbol → Result B PatternFault → Type 0
AnswersOnly {B = B} N meaning symbols result = (outcome : Result B PatternFault) → Outcome N meaning symbols outcome → Finds outcome result

-- What was read, judged: its meaning, or the fault of reading.
abbrev pub Judged : {X A B : Type 0} → (X → A) → (A → Result B PatternFault) → Result X PatternFault → Result B PatternFault → Type 0
Judged seen meaning (Ok x) result = Finds (meaning (seen x)) result
Judged seen meaning (Err fault) result = result ≡ Err fault
