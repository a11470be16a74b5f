-- The rows of a row, and the cases of a case, by the cases of the predicates that it uses.
use Rattle.std.specs.Prelude.{ℕ, zero, suc, ◌+◌, ◌-◌, ◌*◌, ◌^◌, min, Bool, List, [], ◌∷◌, length, map, Option, Some, None, find}
use Rattle.std.specs.List.{flat_map}
use Rattle.std.specs.Str.{bytes_eq}
use Rattle.pm_ops.specs.Names.{Name}
use Rattle.pd_ast.specs.declared.form.Row.{Row}
use Rattle.pd_ast.specs.declared.pattern.Pat.{Pat}
use Rattle.pd_ast.specs.declared.result.Out.{Out, out-Out, Out-F}
use Rattle.pd_ast.specs.declared.result.Out.TheOpen as open-out
use Rattle.pd_ast.specs.declared.result.Out.TheVariants as made-out
use Rattle.pd_ast.specs.declared.result.OutNode.{OutNode}
use Rattle.pd_ast.specs.declared.result.SwitchCase.{SwitchCase}
use Rattle.pd_ast.specs.declared.result.Tail.{Tail, Tail-F, fold-Tail, out-Tail}
use Rattle.pd_ast.specs.declared.result.Tail.TheOpen as open-tail
use Rattle.pd_ast.specs.declared.result.Tail.TheVariants as made-tail
use Rattle.pd_substitution.specs.Substituted.{result_with, tail_with}
use Rattle.pd_substitution.specs.declared.substitution.Renamed.{Renamed}
use Rattle.pattern_uses.specs.Uses.{labels, taken, used_predicates}
use Rattle.pred_inline.specs.OneUse.{one_inlined}
use Rattle.pred_inline.specs.Opened.{only}
use Rattle.pred_inline.specs.declared.case.Case.{Case}
use Rattle.pred_inline.specs.declared.case.Pair.{Pair}
use Rattle.pred_inline.specs.declared.case.Predicate.{Predicate}
use Rattle.pred_inline.specs.declared.opened.Opened.{Opened}

-- a choice of a case for each use, an earlier use slower than a later one
abbrev pub before_each : List (List Case) → Case → List (List Case)
before_each inner case = map (λ rest. case ∷ rest) inner

abbrev pub choices : List (List Case) → List (List Case)
choices [] = [] ∷ []
choices (cases ∷ rest) = flat_map (before_each (choices rest)) cases

-- how many choices there are, each product held at 2^64 - 1
abbrev pub counted_within : List (List Case) → ℕ
counted_within [] = 1
counted_within (cases ∷ rest) = min (length cases * counted_within rest) (2 ^ 64 - 1)

abbrev pub begun : Pat → List Name → List Pair → Opened
begun pattern params same =
    let out = taken pattern (labels (used_predicates pattern)) in
    record {
      pattern = out.pattern;
      args = [];
      uses = out.uses;
      tails = [];
      changes = [];
      params = params;
      same = same;
    }

-- the uses from the i-th on inlined, one after the other
abbrev pub all_inlined : ℕ → List Case → Opened → Opened
all_inlined i [] row = row
all_inlined i (case ∷ cases) row = all_inlined (i + 1) cases (one_inlined i case row)

-- the end of a case round a result, and before another end
abbrev pub round_layer : Tail-F (Out → Out) → Out → Out
round_layer open-tail.Done gives = gives
round_layer (open-tail.If when rest) gives = made-out.If when (rest gives) None
round_layer (open-tail.With decls rest) gives = made-out.With decls (rest gives)

abbrev pub round : Tail → Out → Out
round = fold-Tail (Out → Out) round_layer

abbrev pub all_round : List Tail → Out → Out
all_round [] gives = gives
all_round (rest ∷ tails) gives = round rest (all_round tails gives)

abbrev pub before_layer : Tail-F (Tail → Tail) → Tail → Tail
before_layer open-tail.Done last = last
before_layer (open-tail.If when rest) last = made-tail.If when (rest last)
before_layer (open-tail.With decls rest) last = made-tail.With decls (rest last)

abbrev pub before : Tail → Tail → Tail
before = fold-Tail (Tail → Tail) before_layer

abbrev pub all_before : List Tail → Tail → Tail
all_before [] last = last
all_before (rest ∷ tails) last = before rest (all_before tails last)

-- the ends of the cases round a result, but inside so many of its conditions, which stand outside
abbrev pub inside_layer : (Out → Out) → List Tail → Out-F Out OutNode SwitchCase → Out → Out
inside_layer deeper tails (open-out.If when gives None) whole = made-out.If when (deeper gives) None
inside_layer deeper tails layer whole = all_round tails whole

abbrev pub inside : ℕ → List Tail → Out → Out
inside zero tails gives = all_round tails gives
inside (suc n) tails gives = inside_layer (inside n tails) tails (out-Out gives) gives

-- the same of the end of a case: behind so many of its conditions, and before the rest of it
abbrev pub behind_layer : (Tail → Tail) → List Tail → Tail-F Tail → Tail → Tail
behind_layer deeper tails (open-tail.If when rest) whole = made-tail.If when (deeper rest)
behind_layer deeper tails layer whole = all_before tails whole

abbrev pub behind : ℕ → List Tail → Tail → Tail
behind zero tails last = all_before tails last
behind (suc n) tails last = behind_layer (behind n tails) tails (out-Tail last) last

-- a result or an end with the changes of its row made
abbrev pub result_changed : List Renamed → Out → Out
result_changed [] gives = gives
result_changed (one ∷ changes) gives = result_changed changes (result_with (only one) gives)

abbrev pub tail_changed : List Renamed → Tail → Tail
tail_changed [] rest = rest
tail_changed (one ∷ changes) rest = tail_changed changes (tail_with (only one) rest)

-- a row, so many of whose conditions stand outside, by one choice of cases
abbrev pub row_finished : Row → ℕ → Opened → Row
row_finished row conditions done = record {
  at = row.at;
  pattern = done.pattern;
  result = inside conditions done.tails (result_changed done.changes row.result);
}

unfoldable pub row_by : Row → ℕ → List Case → Row
row_by row conditions cases =
    row_finished row conditions (all_inlined 0 cases (begun row.pattern [] []))

-- a case, so many of whose conditions stand outside, by one choice of cases
abbrev pub case_finished : Case → ℕ → Opened → Case
case_finished case conditions done = record {
  params = done.params;
  same = done.same;
  row = record {
    at = case.row.at;
    pattern = done.pattern;
    tail = behind conditions done.tails (tail_changed done.changes case.row.tail);
  };
}

unfoldable pub case_by : Case → ℕ → List Case → Case
case_by case conditions cases =
    case_finished case conditions (all_inlined 0 cases (begun case.row.pattern case.params case.same))

-- the cases of the predicate of that name
abbrev pub cases_or_none : Option Predicate → List Case
cases_or_none None = []
cases_or_none (Some predicate) = predicate.cases

abbrev pub is_named : Name → Predicate → Bool
is_named name one = bytes_eq one.name name

abbrev pub predicate_named : List Predicate → Name → Option Predicate
predicate_named preds name = find (is_named name) preds

abbrev pub cases_named : List Predicate → Name → List Case
cases_named preds name = cases_or_none (predicate_named preds name)

abbrev pub cases_of_uses : List Predicate → Pat → List (List Case)
cases_of_uses preds pattern = map (cases_named preds) (used_predicates pattern)

-- all rows of a row, and all cases of a case, in the order of the choices
abbrev pub rows_inlined : List Predicate → Row → ℕ → List Row
rows_inlined preds row conditions =
    map (row_by row conditions) (choices (cases_of_uses preds row.pattern))

abbrev pub cases_inlined : List Predicate → Case → ℕ → List Case
cases_inlined preds case conditions =
    map (case_by case conditions) (choices (cases_of_uses preds case.row.pattern))
