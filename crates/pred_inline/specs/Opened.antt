-- A row or a case whose uses are inlined, one after the other, and what is done to the whole of it.
use Rattle.std.specs.Prelude.{◌&&◌, not, Bool, if◌then◌else◌, slice_set, List, [], ◌∷◌, ◌++◌, map, Option, Some, None}
use Rattle.std.specs.List.{list_any}
use Rattle.std.specs.Str.{bytes_eq}
use Rattle.pm_ops.specs.Names.{Name}
use Rattle.pd_ast.specs.declared.pattern.Cap.{Cap}
use Rattle.pd_ast.specs.declared.pattern.Pat.{Pat}
use Rattle.pd_substitution.specs.Chosen.{name_with}
use Rattle.pd_substitution.specs.Substituted.{pattern_with, tail_with}
use Rattle.pd_substitution.specs.declared.substitution.Renamed.{Renamed}
use Rattle.pd_substitution.specs.declared.substitution.Substitution.{Substitution}
use Rattle.pattern_uses.specs.Captures.{capture_of, captured}
use Rattle.pred_inline.specs.Arguments.{argument_for, capture_of_argument, place_of}
use Rattle.pred_inline.specs.declared.case.Pair.{Pair}
use Rattle.pred_inline.specs.declared.opened.Opened.{Opened}

-- one capture called otherwise, its marks kept
abbrev pub change : Name → Name → Renamed
change from to = record { from = from; to = to; by_value = None }

abbrev pub only : Renamed → Substitution
only one = record { names = []; entries = []; captures = one ∷ []; prefix = None; subject = None }

abbrev pub pair_with : Substitution → Pair → Pair
pair_with by pair =
    record { first = name_with by pair.first; second = name_with by pair.second }

-- the whole row with the change made, the arguments of its uses included; the result or end
-- of the row has it to come
unfoldable pub changed_by : Substitution → Renamed → Opened → Opened
changed_by by one row = record {
  pattern = pattern_with by row.pattern;
  args = map (pattern_with by) row.args;
  uses = map (map (pattern_with by)) row.uses;
  tails = map (tail_with by) row.tails;
  changes = row.changes ++ one ∷ [];
  params = map (name_with by) row.params;
  same = map (pair_with by) row.same;
}

abbrev pub changed : Renamed → Opened → Opened
changed one row = changed_by (only one) one row

-- Two captures become one: the first is called as the second in the whole row.
unfoldable pub united : Name → Name → Opened → Opened
united first second row =
    if bytes_eq first second then row else changed (change first second) row

-- two names that stay two: both are parameters of the case that is expanded
abbrev pub stay_two : List Name → Name → Name → Bool
stay_two params first second =
    not (bytes_eq first second) && list_any (bytes_eq first) params && list_any (bytes_eq second) params

unfoldable pub with_pair : Name → Name → Opened → Opened
with_pair first second row = record {
  pattern = row.pattern;
  args = row.args;
  uses = row.uses;
  tails = row.tails;
  changes = row.changes;
  params = row.params;
  same = row.same ++ record { first = first; second = second } ∷ [];
}

-- the same of two captures that may both be parameters of the case that is expanded
unfoldable pub united_or_paired : Name → Name → Opened → Opened
united_or_paired first second row =
    if stay_two row.params first second then with_pair first second row else united first second row

abbrev pub with_args : List Pat → Opened → Opened
with_args args row = record {
  pattern = row.pattern;
  args = args;
  uses = row.uses;
  tails = row.tails;
  changes = row.changes;
  params = row.params;
  same = row.same;
}

-- Two arguments of a use become one: the capture of the first takes the name of that of the second in
-- the whole row, or where the first has none, it gets that one. Two parameters stay two names here too.
abbrev pub arg_united : List Name → Name → Pat → Option Cap → Cap → Opened → Opened
arg_united params name arg (Some own) cap row = united_or_paired own.name cap.name row
arg_united params name arg None cap row =
    with_args (slice_set row.args (place_of params name) (captured cap arg)) row

abbrev pub args_united : List Name → Name → Option Pat → Option Cap → Opened → Opened
args_united params name None cap row = row
args_united params name (Some arg) None row = row
args_united params name (Some arg) (Some cap) row = arg_united params name arg (capture_of arg) cap row

-- those that are one by the pairs of the case
abbrev pub pair_united : List Name → Pair → Opened → Opened
pair_united params pair row =
    args_united params pair.first (argument_for params row.args pair.first)
    (capture_of_argument (argument_for params row.args pair.second)) row

abbrev pub pairs_united : List Name → List Pair → Opened → Opened
pairs_united params [] row = row
pairs_united params (pair ∷ pairs) row = pairs_united params pairs (pair_united params pair row)
