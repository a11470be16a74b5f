-- What stands in the place of a name.
use Rattle.std.specs.Prelude.{ℕ, suc, Bool, true, false, if◌then◌else◌, List, [], ◌∷◌, ◌++◌, Option, Some, None, find, slice_get, unwrap_or}
use Rattle.std.specs.Str.{bytes_eq}
use Rattle.pm_ops.specs.Names.{Name}
use Rattle.pd_ast.specs.Calls.{call_name}
use Rattle.pd_ast.specs.declared.call.Call.TheVariants.{TreeType}
use Rattle.pd_ast.specs.declared.c_text.CExpr.{roll-CExpr}
use Rattle.pd_ast.specs.declared.c_text.CNode.{CNode}
use Rattle.pd_ast.specs.declared.c_text.CNode.TheVariants as c
use Rattle.pd_ast.specs.declared.c_text.CType.TheVariants.{Oper}
use Rattle.pd_ast.specs.declared.pattern.Cap.{Cap}
use Rattle.pd_ast.specs.declared.pattern.OpRef.{OpRef}
use Rattle.pd_ast.specs.declared.pattern.OpRef.TheVariants as op
use Rattle.pd_substitution.specs.declared.substitution.Entry.{Entry}
use Rattle.pd_substitution.specs.declared.substitution.Entry.TheVariants.{Of, Null}
use Rattle.pd_substitution.specs.declared.substitution.Renamed.{Renamed}
use Rattle.pd_substitution.specs.declared.substitution.Substitution.{Substitution}

-- where a name stands first among these, or else how many they are
abbrev pub place_of : List Name → Name → ℕ
place_of [] name = 0
place_of (own ∷ names) name = if bytes_eq own name then 0 else suc (place_of names name)

-- the entry beside a name
abbrev pub entry_of : Substitution → Name → Option Entry
entry_of by name = slice_get by.entries (place_of by.names name)

-- an operator stands for `null`
abbrev pub is_null : Option Entry → Bool
is_null None = false
is_null (Some Null) = true
is_null (Some (Of code)) = false

abbrev pub null_op : Substitution → OpRef → Bool
null_op by (op.Fixed code) = false
null_op by (op.Chosen name) = is_null (entry_of by name)
null_op by (op.Listed name) = is_null (entry_of by name)
null_op by op.Null = true

-- what stands in the place of an operator, where it is another one
abbrev pub op_of : Option Entry → Option OpRef
op_of None = None
op_of (Some (Of code)) = Some (op.Fixed code)
op_of (Some Null) = Some op.Null

abbrev pub new_op : Substitution → OpRef → Option OpRef
new_op by (op.Fixed code) = None
new_op by (op.Chosen name) = op_of (entry_of by name)
new_op by (op.Listed name) = op_of (entry_of by name)
new_op by op.Null = None

abbrev pub op_with : Substitution → OpRef → OpRef
op_with by own = unwrap_or (new_op by own) own

-- the first of these that tells of a capture
abbrev pub renaming : List Renamed → Name → Option Renamed
renaming captures name = find (λ one. bytes_eq one.from name) captures

-- a capture of which nothing is told, behind what is put before all of them
abbrev pub behind : Option Name → Name → Name
behind None name = name
behind (Some prefix) name = prefix ++ name

-- the name of a capture
abbrev pub new_name : Option Name → Option Renamed → Name → Name
new_name prefix None name = behind prefix name
new_name prefix (Some one) name = one.to

abbrev pub name_with : Substitution → Name → Name
name_with by name = new_name by.prefix (renaming by.captures name) name

-- the capture itself, which may get another mark with its name
abbrev pub new_cap : Option Name → Option Renamed → Cap → Cap
new_cap prefix None cap = record { name = behind prefix cap.name; by_value = cap.by_value }
new_cap prefix (Some one) cap =
    record { name = one.to; by_value = unwrap_or one.by_value cap.by_value }

abbrev pub cap_with : Substitution → Cap → Cap
cap_with by cap = new_cap by.prefix (renaming by.captures cap.name) cap

-- In C text an identifier of a `for` stands for the code of an operation. `null` has no code.
abbrev pub c_of : Option Entry → Option CNode
c_of None = None
c_of (Some (Of code)) = Some (c.OfCode code)
c_of (Some Null) = None

abbrev pub choice_with : Substitution → Name → CNode
choice_with by name = unwrap_or (c_of (entry_of by name)) (c.Choice name)

-- `TREE_TYPE` of a capture
abbrev pub capture_type : Name → CNode
capture_type name =
    c.Call (call_name TreeType) (roll-CExpr (record { node = c.Capture name; ty = Oper }) ∷ [])

-- `t` and `type`
abbrev pub subject_with : Option Name → CNode
subject_with None = c.Subject
subject_with (Some name) = c.Capture name

abbrev pub subject_type_with : Option Name → CNode
subject_type_with None = c.SubjectType
subject_type_with (Some name) = capture_type name
