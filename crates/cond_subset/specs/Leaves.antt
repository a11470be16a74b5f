-- What a number, a capture and a name stand for.
use Rattle.std.specs.Prelude.{ℕ, ◌-◌, ◌^◌, ◌&&◌, ◌||◌, Bool, min, ℤ, pos, List, drop, Option, Some, None, codes, if◌then◌else◌}
use Rattle.std.specs.Str.{bytes_eq}
use Rattle.pm_ops.specs.Names.{Name, code_c_named}
use Rattle.pm_ops.specs.declared.code.Code.{Code}
use Rattle.pd_lexer.specs.Numbers.{number_value}
use Rattle.pd_ast.specs.declared.c_text.CExpr.{CExpr, roll-CExpr, out-CExpr}
use Rattle.pd_ast.specs.declared.c_text.CNode.{CNode}
use Rattle.pd_ast.specs.declared.c_text.CNode as node
use Rattle.pd_ast.specs.declared.c_text.CType.{CType}
use Rattle.pd_ast.specs.declared.c_text.CType.TheVariants as static
use Rattle.cond_subset.specs.declared.scope.Scope.{Scope}
use Rattle.cond_subset.specs.declared.scope.Typed.{Typed}
use Rattle.cond_subset.specs.Names.{is_choice, is_truth}
use Rattle.cond_subset.specs.Types.{type_in_block, type_of_local}

-- a node with its static type, and that type
abbrev pub typed : CType → CNode → CExpr
typed ty node = roll-CExpr (record { node = node; ty = ty })

abbrev pub type_of : CExpr → CType
type_of e = (out-CExpr e).ty

-- a number; one above 2^63 - 1, which is no token, counts as 2^63 - 1
abbrev pub number_of : List ℕ → ℤ
number_of text = pos (min (number_value text) (2 ^ 63 - 1))

-- a capture is called as it is spelled, without its `@`
abbrev pub capture_name : List ℕ → Name
capture_name text = drop 1 text

-- `true` and `GIMPLE` hold
abbrev pub is_true : Name → Bool
is_true name = bytes_eq name (codes "true") || bytes_eq name (codes "GIMPLE")

-- truth values; of what is known signs are left
abbrev pub constant_meaning : Name → CExpr
constant_meaning name = if is_truth name then typed static.Truth (node.Truth (is_true name)) else typed static.Sign (node.Sign (bytes_eq name (codes "UNSIGNED")))

-- an identifier of a `for` comes before the C name of an operation
abbrev pub code_or : Option Code → CExpr → CExpr
code_or None other = other
code_or (Some code) other = typed static.CodeRef (node.OfCode code)

abbrev pub word_meaning : Scope → Name → CExpr
word_meaning scope name = if is_choice scope.choices name then typed static.CodeRef (node.Choice name) else code_or (code_c_named name) (constant_meaning name)

-- a local has the type of its declaration
abbrev pub local : Name → CType → CExpr
local name ty = typed ty (node.Local name)

abbrev pub local_or : Name → Option CType → CExpr → CExpr
local_or name None other = other
local_or name (Some ty) other = local name ty

-- the first thing that a name can be: `type`, `t` in a tail, the last local of the block and the last one outside, a word
abbrev pub name_meaning : List ℕ → Scope → List Typed → Name → CExpr
name_meaning source scope block name =
    if bytes_eq name (codes "type") then typed static.TypeRef node.SubjectType
    else (if scope.in_match && bytes_eq name (codes "t") then typed static.Oper node.Subject
    else local_or name (type_in_block source block name) (local_or name (type_of_local scope.locals name) (word_meaning scope name)))
