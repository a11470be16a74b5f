-- The stage of names: which names and calls a C part knows, and the first that it doesn't know.
use Rattle.std.specs.Prelude.{ℕ, find, reverse, Bool, true, false, ◌&&◌, ◌||◌, is_some, List, [], ◌∷◌, ◌++◌, Option, Some, None, Result, codes, if◌then◌else◌}
use Rattle.std.specs.List.{list_any}
use Rattle.std.specs.Str.{bytes_eq}
use Rattle.pm_ops.specs.Names.{Name, code_c_named}
use Rattle.pm_ops.specs.declared.fault.PatternFault.{PatternFault}
use Rattle.pm_ops.specs.declared.fault.PatternKind.{PatternKind}
use Rattle.pm_ops.specs.declared.fault.PatternKind.TheVariants.{Memory, CName}
use Rattle.pm_places.specs.declared.span.Span.{Span}
use Rattle.pm_places.specs.Spans.{text_of}
use Rattle.pm_places.specs.FirstFaults.{or_fault}
use Rattle.pm_places.specs.Judging as judging
use Rattle.pd_ast.specs.Calls.{call_named}
use Rattle.pd_ast.specs.declared.operator.BinaryOperator.{BinaryOperator}
use Rattle.pd_ast.specs.declared.operator.BinaryOperator.TheVariants as binaries
use Rattle.cond_subset.specs.declared.scope.Declared.{Declared}
use Rattle.cond_subset.specs.declared.scope.Local.{Local}
use Rattle.cond_subset.specs.declared.scope.Scope.{Scope}
use Rattle.cond_subset.specs.declared.tree.Callee.{Callee}
use Rattle.cond_subset.specs.Trees.{Expr, number, capture, named, parens, unary, binary, choose, call, Exprs, nil, cons, exprs}
use Rattle.cond_subset.specs.Declarations.{Value, plain, flagged, Decl, valued, overflow}
use Rattle.cond_subset.specs.Syntax.{fault_at}

-- want of memory
abbrev pub is_memory_kind : PatternKind → Bool
is_memory_kind Memory = true
is_memory_kind kind = false

-- A stage answers exactly this fault, or none, unless memory runs out.
abbrev pub Judges : {X : Type 0} → Option PatternFault → Result X PatternFault → Type 0
Judges expected result = judging.Judges (λ (fault : PatternFault). is_memory_kind fault.kind) expected result

-- what comes before all locals: `type`, and `t` in a tail
abbrev pub is_first : Bool → Name → Bool
is_first in_match name = bytes_eq name (codes "type") || (in_match && bytes_eq name (codes "t"))

-- truth values, and signs
abbrev pub is_truth : Name → Bool
is_truth name = bytes_eq name (codes "true") || (bytes_eq name (codes "false") || (bytes_eq name (codes "GIMPLE") || bytes_eq name (codes "GENERIC")))

abbrev pub is_sign : Name → Bool
is_sign name = bytes_eq name (codes "SIGNED") || bytes_eq name (codes "UNSIGNED")

abbrev pub is_local : List Local → Name → Bool
is_local locals name = list_any (λ (local : Local). bytes_eq local.name name) locals

abbrev pub is_choice : List Name → Name → Bool
is_choice choices name = list_any (λ (one : Name). bytes_eq one name) choices

-- a local, an identifier of a `for`, an operation, or a word of the language, outside the block
abbrev pub knows_outside : Scope → Name → Bool
knows_outside scope name =
    is_local scope.locals name || (is_choice scope.choices name || (is_some (code_c_named name) || (is_truth name || is_sign name)))

-- what the block declared last by this name
abbrev pub last_named : List ℕ → List Declared → Name → Option Declared
last_named source block name = find (λ (one : Declared). bytes_eq (text_of source one.name) name) (reverse block)

-- a name of the block stands for something once it has a value, and hides what stands outside
abbrev pub by_block : Option Declared → Bool → Bool
by_block None outside = outside
by_block (Some one) outside = one.ready

-- a name that stands for something: the first of these that it can be
abbrev pub knows : List ℕ → Scope → List Declared → Name → Bool
knows source scope block name = is_first scope.in_match name || by_block (last_named source block name) (knows_outside scope name)

-- a name that may stand after `&`: one that the block declared, or that stands for something
abbrev pub knows_flag : List ℕ → Scope → List Declared → Name → Bool
knows_flag source scope block name = is_some (last_named source block name) || knows source scope block name

-- the name of a call as it is looked up: with `wi::` where it is written
abbrev pub wide_prefix : Option Span → Name
wide_prefix None = []
wide_prefix (Some at) = codes "wi::"

abbrev pub callee_name : List ℕ → Callee → Name
callee_name source callee = wide_prefix callee.wide ++ text_of source callee.name

-- `TREE_CODE`
abbrev pub is_code : Option Span → Name → Bool
is_code None name = bytes_eq name (codes "TREE_CODE")
is_code (Some at) name = false

abbrev pub knows_call : List ℕ → Callee → Bool
knows_call source callee = is_code callee.wide (text_of source callee.name) || is_some (call_named (callee_name source callee))

-- `TREE_CODE (..)` on the left of `==` or `!=`, and `INTEGER_CST` or `SSA_NAME` on the right, both without parentheses
abbrev pub compares : BinaryOperator → Bool
compares binaries.Eq = true
compares binaries.Ne = true
compares op = false

abbrev pub is_code_call : List ℕ → Expr → Bool
is_code_call source (call callee args) = is_code callee.wide (text_of source callee.name)
is_code_call source e = false

abbrev pub is_code_word : List ℕ → Expr → Bool
is_code_word source (named at) = bytes_eq (text_of source at) (codes "INTEGER_CST") || bytes_eq (text_of source at) (codes "SSA_NAME")
is_code_word source e = false

abbrev pub is_code_test : List ℕ → BinaryOperator → Expr → Expr → Bool
is_code_test source op a b = compares op && (is_code_call source a && is_code_word source b)

-- a fault, if this does not hold
abbrev pub unless : Bool → PatternFault → Option PatternFault
unless true fault = None
unless false fault = Some fault

abbrev mutual
  -- the first unknown name or call of an expression
  pub unknown : List ℕ → Scope → List Declared → Expr → Option PatternFault
  unknown source scope block (number at) = None
  unknown source scope block (capture at) = None
  unknown source scope block (named at) = unless (knows source scope block (text_of source at)) (fault_at CName at)
  unknown source scope block (parens at a) = unknown source scope block a
  unknown source scope block (unary op at a) = unknown source scope block a
  unknown source scope block (binary op at a b) = or_fault (unknown source scope block a) (if is_code_test source op a b then None else unknown source scope block b)
  unknown source scope block (choose at c a b) = or_fault (unknown source scope block c) (or_fault (unknown source scope block a) (unknown source scope block b))
  unknown source scope block (call callee args) = or_fault (unless (knows_call source callee) (fault_at CName callee.name)) (unknown_among source scope block args)

  pub unknown_among : List ℕ → Scope → List Declared → Exprs → Option PatternFault
  unknown_among source scope block nil = None
  unknown_among source scope block (cons e es) = or_fault (unknown source scope block e) (unknown_among source scope block es)

-- the first unknown name or call of a declaration
abbrev pub unknown_value : List ℕ → Scope → List Declared → Value → Option PatternFault
unknown_value source scope block (plain e) = unknown source scope block e
unknown_value source scope block (flagged c args flag) =
    or_fault (unknown_among source scope block (exprs args)) (unless (knows_flag source scope block (text_of source flag)) (fault_at CName flag))

abbrev pub unknown_decl : List ℕ → Scope → List Declared → Decl → Option PatternFault
unknown_decl source scope block (valued word name v) = unknown_value source scope block v
unknown_decl source scope block (overflow name) = None

-- what a declaration declares: a call with a flag sets the flag first
abbrev pub flags_of : Option Span → List Declared
flags_of None = []
flags_of (Some flag) = record { name = flag; ready = true } ∷ []

abbrev pub set_flag : Value → List Declared
set_flag (plain e) = flags_of None
set_flag (flagged c args flag) = flags_of (Some flag)

abbrev pub declared_by : Decl → List Declared
declared_by (valued word name v) = set_flag v ++ record { name = name; ready = true } ∷ []
declared_by (overflow name) = record { name = name; ready = false } ∷ []

-- the first unknown name or call of declarations, after those of the block before them
abbrev pub unknown_in : List ℕ → Scope → List Declared → List Decl → Option PatternFault
unknown_in source scope block [] = None
unknown_in source scope block (d ∷ ds) = or_fault (unknown_decl source scope block d) (unknown_in source scope (block ++ declared_by d) ds)
