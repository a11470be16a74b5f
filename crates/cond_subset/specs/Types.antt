-- The stage of types: what operators, calls and declarations take and give, and where the first fault of types stands.
use Rattle.std.specs.Prelude.{◌≡◌, ℕ, find, reverse, option_map, Bool, true, false, ◌&&◌, List, Option, Some, None, Result, Ok, Err, if◌then◌else◌}
use Rattle.std.specs.Str.{bytes_eq}
use Rattle.pm_ops.specs.Names.{Name}
use Rattle.pm_ops.specs.declared.fault.PatternFault.{PatternFault}
use Rattle.pm_ops.specs.declared.fault.PatternKind.TheVariants as kinds
use Rattle.pm_places.specs.declared.span.Span.{Span}
use Rattle.pm_places.specs.Spans.{text_of}
use Rattle.pd_ast.specs.Calls.{call_named}
use Rattle.pd_ast.specs.declared.call.Call.{Call}
use Rattle.pd_ast.specs.declared.c_text.CType.{CType}
use Rattle.pd_ast.specs.declared.c_text.CType.TheVariants.{Truth, Int, TypeRef, Oper, WideRef, Sign, CodeRef}
use Rattle.cond_subset.specs.declared.scope.Local.{Local}
use Rattle.cond_subset.specs.declared.scope.Typed.{Typed}
use Rattle.cond_subset.specs.declared.tree.Callee.{Callee}
use Rattle.cond_subset.specs.Trees.{Expr, number, capture, named, parens, unary, binary, choose, call}
use Rattle.cond_subset.specs.Syntax.{fault_at}
use Rattle.cond_subset.specs.Names.{is_memory_kind, is_code, callee_name}
use Rattle.cond_subset.specs.declared.signatures.Arguments.{Arguments}
use Rattle.cond_subset.specs.declared.signatures.Arguments.TheVariants as takes
use Rattle.cond_subset.specs.declared.tree.Arithmetic.{Arithmetic}
use Rattle.cond_subset.specs.declared.tree.Arithmetic.TheVariants as arithmetics
use Rattle.cond_subset.specs.declared.tree.DeclWord.{DeclWord}
use Rattle.cond_subset.specs.declared.tree.DeclWord.TheVariants as declared
use Rattle.cond_subset.specs.Signatures.{call_type, same_type, fit}

-- the first of two answers that is a fault, or the second
abbrev pub and_then : {A B : Type 0} → Result A PatternFault → (A → Result B PatternFault) → Result B PatternFault
and_then (Ok a) next = next a
and_then (Err fault) next = Err fault

-- a type, or a fault at this place
abbrev pub or_fault_at : Span → Option CType → Result CType PatternFault
or_fault_at at None = Err (fault_at kinds.CType at)
or_fault_at at (Some t) = Ok t

-- A function finds this, unless memory runs out.
abbrev pub IsSame : {A : Type 0} → Bool → PatternFault → Result A PatternFault → Type 0
IsSame true fault expected = Unit {0}
IsSame false fault expected = expected ≡ Err fault

abbrev pub Finds : {A : Type 0} → Result A PatternFault → Result A PatternFault → Type 0
Finds expected (Ok x) = expected ≡ Ok x
Finds expected (Err fault) = IsSame (is_memory_kind fault.kind) fault expected

-- names

-- what the block declared last by this name
abbrev pub last_typed : List ℕ → List Typed → Name → Option Typed
last_typed source block name = find (λ (one : Typed). bytes_eq (text_of source one.name) name) (reverse block)

-- the type of the last local of the block, and of the last one outside
abbrev pub type_in_block : List ℕ → List Typed → Name → Option CType
type_in_block source block name = option_map (λ (one : Typed). one.ty) (last_typed source block name)

abbrev pub type_of_local : List Local → Name → Option CType
type_of_local locals name = option_map (λ (one : Local). one.ty) (find (λ (one : Local). bytes_eq one.name name) (reverse locals))

-- expressions

-- the branches of a choice have one type
abbrev pub choice_type : CType → CType → CType → Option CType
choice_type Truth a b = if same_type a b then Some a else None
choice_type c a b = None

-- `TREE_CODE (x)` takes an operand where it is compared with its words, and stands nowhere else
abbrev pub code_type : CType → Option CType
code_type Oper = Some Truth
code_type t = None

abbrev pub found_type : Option Call → List CType → Option CType
found_type None types = None
found_type (Some c) types = call_type c types

abbrev pub called_type : List ℕ → Callee → List CType → Option CType
called_type source callee types = if is_code callee.wide (text_of source callee.name) then None else found_type (call_named (callee_name source callee)) types

-- whole parts

-- the first token of an expression
abbrev pub or_place : Option Span → Span → Span
or_place None other = other
or_place (Some at) other = at

abbrev pub start_of : Expr → Span
start_of (number at) = at
start_of (capture at) = at
start_of (named at) = at
start_of (parens at a) = at
start_of (unary op at a) = at
start_of (binary op at a b) = start_of a
start_of (choose at c a b) = start_of c
start_of (call callee args) = or_place callee.wide callee.name

-- declarations

-- the type of a local that is declared with this word and a value of this type
abbrev pub declared_type : DeclWord → CType → Option CType
declared_type declared.Tree TypeRef = Some TypeRef
declared_type declared.Tree Oper = Some Oper
declared_type declared.WideInt WideRef = Some WideRef
declared_type declared.Boolean Truth = Some Truth
declared_type declared.Int Int = Some Int
declared_type declared.Unsigned Int = Some Int
declared_type declared.Signop Sign = Some Sign
declared_type declared.TreeCode CodeRef = Some CodeRef
declared_type word t = None

-- what stands before a flag: two words and the sign by which they are read, or a word
abbrev pub taken_by : Arithmetic → Arguments
taken_by arithmetics.Negate = takes.Word
taken_by operation = takes.TwoWordsAndSign

-- an overflow flag that the block declared before
abbrev pub is_flag : Option Typed → Bool
is_flag None = false
is_flag (Some one) = one.flag

abbrev pub flagged_type : List ℕ → List Typed → Arithmetic → Name → List CType → Option CType
flagged_type source block operation flag types = if fit (taken_by operation) types && is_flag (last_typed source block flag) then Some WideRef else None
