-- The arguments of a use in a case of its predicate: what the captures of the case are called there.
use Rattle.std.specs.Prelude.{ℕ, suc, slice_get, Bool, false, if◌then◌else◌, List, [], ◌∷◌, ◌++◌, Option, Some, None, codes}
use Rattle.std.specs.List.{filter_map, list_any}
use Rattle.std.specs.Str.{bytes_eq}
use Rattle.pm_ops.specs.Names.{Name}
use Rattle.pd_ast.specs.declared.pattern.Cap.{Cap}
use Rattle.pd_ast.specs.declared.pattern.Pat.{Pat}
use Rattle.pd_substitution.specs.declared.substitution.Renamed.{Renamed}
use Rattle.pd_substitution.specs.declared.substitution.Substitution.{Substitution}
use Rattle.pattern_uses.specs.Captures.{capture_names, capture_of, is_hole}
use Rattle.pattern_uses.specs.Mentions.{captures_of_tail}
use Rattle.pred_inline.specs.declared.case.Case.{Case}

-- where a parameter stands among these, or else how many they are
abbrev pub place_of : List Name → Name → ℕ
place_of [] name = 0
place_of (param ∷ params) name = if bytes_eq param name then 0 else suc (place_of params name)

-- the argument for a parameter
abbrev pub argument_for : List Name → List Pat → Name → Option Pat
argument_for params args name = slice_get args (place_of params name)

abbrev pub capture_of_argument : Option Pat → Option Cap
capture_of_argument None = None
capture_of_argument (Some arg) = capture_of arg

-- a parameter takes the capture of its argument, mark and all
abbrev pub renamed_to : Name → Option Cap → Option Renamed
renamed_to name None = None
renamed_to name (Some cap) = Some (record { from = name; to = cap.name; by_value = Some cap.by_value })

abbrev pub renamed_param : List Name → List Pat → Name → Option Renamed
renamed_param params args name = renamed_to name (capture_of_argument (argument_for params args name))

-- `j.`
abbrev pub pointed : Name → Name
pointed own = own ++ codes "."

-- What the captures of a case are called at the use of that number, with these arguments: a parameter
-- as the capture of its argument, and all others with the number and a point before their names. For
-- `t` and `type` stands the capture of the use.
abbrev pub naming : Name → Case → List Pat → Option Name → Substitution
naming own case args subject = record {
  names = [];
  entries = [];
  captures = filter_map (renamed_param case.params args) case.params;
  prefix = Some (pointed own);
  subject = subject;
}

-- a name stands among these, and again behind that place
abbrev pub stands_twice : Name → List Name → Bool
stands_twice name [] = false
stands_twice name (other ∷ names) =
    if bytes_eq name other then list_any (bytes_eq name) names else stands_twice name names

-- a name occurs more than once in the case, its end included
abbrev pub occurs_again : Case → Name → Bool
occurs_again case name =
    stands_twice name (capture_names case.row.pattern ++ captures_of_tail case.row.tail)

-- an argument that is no capture alone
abbrev pub moved : Option Pat → Option Pat
moved None = None
moved (Some arg) = if is_hole arg then None else Some arg
