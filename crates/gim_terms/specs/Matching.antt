-- Where a pattern matches, by cases on the pattern, and what its captures then stand for.
use Rattle.std.specs.Prelude.{Bool, true, false, ◌&&◌, if◌then◌else◌, Option, Some, None, List, [], ◌∷◌, ◌++◌}
use Rattle.std.specs.List.{list_any}
use Rattle.std.specs.Option.{option_and_then}
use Rattle.pm_ops.specs.declared.code.Code.{Code}
use Rattle.pm_ops.specs.Codes.{same_code}
use Rattle.pm_ops.specs.Names.{Name}
use Rattle.pm_wide.specs.declared.operand.Operand.{Operand}
use Rattle.pd_ast.specs.Predicates.{holds_of}
use Rattle.pd_ast.specs.declared.pattern.Cap.{Cap}
use Rattle.gim_ast.specs.Functions.{same_operand}
use Rattle.pattern_rows.specs.declared.caps.Caps.{Caps}
use Rattle.pattern_rows.specs.Found.{caps_of}
use Rattle.pattern_rows.specs.Patterns.{Pattern, capture, predicate, operation, choice, Patterns, nil, cons}
use Rattle.pattern_rows.specs.TestRows.{names, marks}
use Rattle.gim_terms.specs.Views.{View, Operation, operation_behind}
use Rattle.gim_terms.specs.Reached.{same_number}
use Rattle.gim_terms.specs.Targets.{Target}

-- ---- the shape

-- an occurrence of a capture, and the operand on which it stands
pub record Occurrence : Type 0 where
  pub cap : Cap
  pub operand : Operand

abbrev pub occurs : Cap → Operand → List Occurrence
occurs cap a = record { cap = cap; operand = a } ∷ []

-- a capture that may be absent, on an operand
abbrev pub captured : Option Cap → Operand → List Occurrence
captured None a = []
captured (Some cap) a = occurs cap a

-- both lists, where both are there
abbrev pub followed_by : Option (List Occurrence) → Option (List Occurrence) → Option (List Occurrence)
followed_by None _ = None
followed_by (Some xs) None = None
followed_by (Some xs) (Some ys) = Some (xs ++ ys)

-- an operation of that code is there, and its operands are matched
abbrev pub on_code : Code → (List Operand → Option (List Occurrence)) → Option Operation → Option (List Occurrence)
on_code code operands None = None
on_code code operands (Some on) = if same_code code on.code then operands on.operands else None

abbrev mutual
  -- the occurrences of captures in preorder, where the shape of the pattern is that of an operand: a
  -- capture is on any, a predicate on one of which it holds, an operation on a name to which a
  -- statement assigns an operation of that code
  pub occurrences : View → Pattern → Operand → Option (List Occurrence)
  occurrences view (capture c) a = Some (occurs c a)
  occurrences view (predicate p c) a = if holds_of p a then Some (captured c a) else None
  occurrences view (operation code single c ps) a = followed_by (Some (captured c a)) (on_code code (occurrences_of view ps) (operation_behind view a))
  occurrences view choice a = None

  -- each pattern on its operand
  pub occurrences_of : View → Patterns → List Operand → Option (List Occurrence)
  occurrences_of view nil operands = Some []
  occurrences_of view (cons p ps) [] = None
  occurrences_of view (cons p ps) (a ∷ operands) = followed_by (occurrences view p a) (occurrences_of view ps operands)

-- The whole pattern on an operation. The outermost place has no operand: a capture, a predicate and
-- an operation with a capture match nothing there.
abbrev pub occurrences_on : View → Pattern → Operation → Option (List Occurrence)
occurrences_on view (operation code single None ps) on = on_code code (occurrences_of view ps) (Some on)
occurrences_on view (operation code single (Some c) ps) on = None
occurrences_on view (capture c) on = None
occurrences_on view (predicate p c) on = None
occurrences_on view choice on = None

-- ---- captures that are named again

-- the operand of the first occurrence that passes a test
abbrev pub first_operand : (Occurrence → Bool) → List Occurrence → Option Operand
first_operand p [] = None
first_operand p (one ∷ others) = if p one then Some one.operand else first_operand p others

abbrev pub is_of : Name → Occurrence → Bool
is_of name one = names name (Some one.cap)

-- and is written with `@@`
abbrev pub is_by_value : Name → Occurrence → Bool
is_by_value name one = marks name (Some one.cap)

-- by number alone, or one name or one constant of one type
abbrev pub are_same : Bool → Operand → Operand → Bool
are_same true a b = same_number a b
are_same false a b = same_operand a b

-- the operand is that of the first occurrence, where there is one before
abbrev pub is_same_as : Bool → Option Operand → Operand → Bool
is_same_as by_value None b = true
is_same_as by_value (Some a) b = are_same by_value a b

abbrev pub agrees : List Occurrence → List Occurrence → Occurrence → Bool
agrees all before one = is_same_as (list_any (is_by_value one.cap.name) all) (first_operand (is_of one.cap.name) before) one.operand

-- each occurrence of a capture finds the operand of its first one again
abbrev pub all_agree : List Occurrence → List Occurrence → List Occurrence → Bool
all_agree all before [] = true
all_agree all before (one ∷ others) = agrees all before one && all_agree all (before ++ one ∷ []) others

-- ---- what captures stand for

abbrev pub operand_or : Option Operand → Operand → Operand
operand_or None other = other
operand_or (Some a) other = a

-- the operand of the first `@@` occurrence, else of the first
abbrev pub stands_on : List Occurrence → Occurrence → Operand
stands_on all first = operand_or (first_operand (is_by_value first.cap.name) all) first.operand

abbrev pub new_capture : List Occurrence → Option Operand → Occurrence → List (Option Operand)
new_capture all None one = Some (stands_on all one) ∷ []
new_capture all (Some before) one = []

-- one for each capture, in the order of first occurrences
abbrev pub captures_from : List Occurrence → List Occurrence → List Occurrence → List (Option Operand)
captures_from all before [] = []
captures_from all before (one ∷ others) =
    new_capture all (first_operand (is_of one.cap.name) before) one ++ captures_from all (before ++ one ∷ []) others

-- ---- matching

abbrev pub agreed : List Occurrence → Option Caps
agreed all = if all_agree all [] all then Some (caps_of (captures_from all [] all)) else None

-- the captures of a pattern that matches a target; none where it doesn't match
abbrev pub matched : View → Pattern → Target → Option Caps
matched view p target = option_and_then agreed (occurrences_on view p target.on)
