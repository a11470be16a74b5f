-- The declarations that a `with` block stands for whose names are known, or their first fault of types.
use Rattle.std.specs.Prelude.{ℕ, true, false, List, [], ◌∷◌, ◌++◌, map, Option, Some, None, Result, Ok}
use Rattle.pm_ops.specs.Names.{Name}
use Rattle.pm_ops.specs.declared.fault.PatternFault.{PatternFault}
use Rattle.pm_places.specs.declared.span.Span.{Span}
use Rattle.pm_places.specs.Spans.{text_of}
use Rattle.pd_ast.specs.declared.c_text.CDecl.{CDecl}
use Rattle.pd_ast.specs.declared.c_text.CExpr.{CExpr}
use Rattle.pd_ast.specs.declared.c_text.CNode as node
use Rattle.pd_ast.specs.declared.c_text.CType.{CType}
use Rattle.pd_ast.specs.declared.c_text.CType.TheVariants as static
use Rattle.pd_ast.specs.declared.c_text.DeclKind.{DeclKind}
use Rattle.pd_ast.specs.declared.c_text.DeclKind.TheVariants as decl_kinds
use Rattle.cond_subset.specs.declared.scope.Scope.{Scope}
use Rattle.cond_subset.specs.declared.scope.Typed.{Typed}
use Rattle.cond_subset.specs.declared.tree.Callee.{Callee}
use Rattle.cond_subset.specs.declared.tree.FlaggedCall.{FlaggedCall}
use Rattle.cond_subset.specs.declared.tree.DeclWord.{DeclWord}
use Rattle.cond_subset.specs.declared.tree.DeclWord.TheVariants as declared
use Rattle.cond_subset.specs.Trees.{exprs}
use Rattle.cond_subset.specs.Declarations.{Value, plain, flagged, Decl, valued, overflow}
use Rattle.cond_subset.specs.Names.{callee_name}
use Rattle.cond_subset.specs.Types.{and_then, or_fault_at, declared_type, flagged_type}
use Rattle.cond_subset.specs.Leaves.{typed, type_of}
use Rattle.cond_subset.specs.Making.{made, made_after}

-- the word of a declaration
abbrev pub kind_of : DeclWord → DeclKind
kind_of declared.Tree = decl_kinds.Tree
kind_of declared.WideInt = decl_kinds.WideInt
kind_of declared.Boolean = decl_kinds.Truth
kind_of declared.Int = decl_kinds.Int
kind_of declared.Unsigned = decl_kinds.Unsigned
kind_of declared.Signop = decl_kinds.Sign
kind_of declared.TreeCode = decl_kinds.TreeCode

-- a value that its word takes, or a fault at the declared name
abbrev pub value_taken : DeclWord → Span → CExpr → Result CExpr PatternFault
value_taken word at v = and_then (or_fault_at at (declared_type word (type_of v))) (λ ty. Ok v)

-- a call with a flag: the call has the other arguments alone
abbrev pub flagged_callee : FlaggedCall → Callee
flagged_callee c = record { wide = Some c.wide; name = c.name }

abbrev pub type_of_flagged : List ℕ → List Typed → FlaggedCall → Name → List CExpr → Result CType PatternFault
type_of_flagged source block c flag args = or_fault_at c.name (flagged_type source block c.operation flag (map type_of args))

abbrev pub flagged_made : List ℕ → List Typed → FlaggedCall → Name → List CExpr → Result CExpr PatternFault
flagged_made source block c flag args =
    and_then (type_of_flagged source block c flag args) (λ ty. Ok (typed ty (node.Call (callee_name source (flagged_callee c)) args)))

abbrev pub value_made : List ℕ → Scope → List Typed → DeclWord → Span → Value → Result CExpr PatternFault
value_made source scope block word name (plain e) = and_then (made source scope block e) (value_taken word name)
value_made source scope block word name (flagged c args flag) = and_then (made_after source scope block [] (exprs args)) (flagged_made source block c (text_of source flag))

-- the flag that a value sets
abbrev pub flag_name : List ℕ → Value → Option Name
flag_name source (plain e) = None
flag_name source (flagged c args flag) = Some (text_of source flag)

abbrev pub decl_made : List ℕ → Scope → List Typed → Decl → Result CDecl PatternFault
decl_made source scope block (valued word name v) =
    and_then (value_made source scope block word name v) (λ value. Ok (record { kind = kind_of word; name = text_of source name; value = Some value; overflow = flag_name source v }))
decl_made source scope block (overflow name) = Ok (record { kind = decl_kinds.Overflow; name = text_of source name; value = None; overflow = None })

-- the name that a declaration declares, with its type: a flag is a truth
abbrev pub declared_as : Option CExpr → CType
declared_as None = static.Truth
declared_as (Some value) = type_of value

abbrev pub entry : Decl → CDecl → Typed
entry (valued word name v) d = record { name = name; ty = declared_as d.value; flag = false }
entry (overflow name) d = record { name = name; ty = static.Truth; flag = true }

-- declarations, after what the block before them declares and the declarations before them
abbrev pub made_in : List ℕ → Scope → List Typed → List CDecl → List Decl → Result (List CDecl) PatternFault
made_in source scope block before [] = Ok before
made_in source scope block before (d ∷ ds) = and_then (decl_made source scope block d) (λ one. made_in source scope (block ++ entry d one ∷ []) (before ++ one ∷ []) ds)

abbrev pub block_made : List ℕ → Scope → List Decl → Result (List CDecl) PatternFault
block_made source scope decls = made_in source scope [] [] decls
