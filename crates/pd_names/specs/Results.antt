-- The rules on the names and marks of results.
use Rattle.std.specs.Prelude.{ℕ, suc, ◌+◌, nat_lt, Bool, true, false, ◌||◌, List, [], Option, Some, None}
use Rattle.pm_ops.specs.declared.fault.PatternFault.{PatternFault}
use Rattle.pm_ops.specs.declared.fault.PatternKind.TheVariants.{UnknownOperator, BadArity, BadFlag}
use Rattle.pm_places.specs.declared.span.Span.{Span}
use Rattle.pm_places.specs.FirstFaults.{or_fault}
use Rattle.pm_places.specs.Spans.{text_of}
use Rattle.pd_forms.specs.Results as results
use Rattle.pd_forms.specs.Results.{Leaf, Leaves, Result, Results}
use Rattle.pd_pattern_names.specs.declared.known.Known.{Known}
use Rattle.pd_pattern_names.specs.Known.{broken, Arity, operator_arity}
use Rattle.pd_pattern_names.specs.Heads.{differs}
use Rattle.pd_names.specs.declared.sight.Sight.{Sight}
use Rattle.pd_names.specs.Parts.{unbound, part_fault}
use Rattle.pd_names.specs.Blocks.{block_fault, below}

abbrev pub count : Leaves → ℕ
count results.nil = 0
count (results.cons l ls) = suc (count ls)

-- a head that is no operation, identifier of a `for` or list, or has another number of operands than it takes
abbrev pub operator_fault : Option Arity → Span → ℕ → Option PatternFault
operator_fault None at n = broken true UnknownOperator at
operator_fault (Some arity) at n = broken (differs arity n) BadArity at

-- `!` on an outermost operation
abbrev pub mark_fault : Bool → Option Span → Option PatternFault
mark_fault outermost None = None
mark_fault outermost (Some at) = broken outermost BadFlag at

abbrev mutual
  -- of a leaf, outermost or not
  pub leaf_fault : List ℕ → Known → Sight → Bool → Leaf → Option PatternFault
  leaf_fault source known sight outermost (results.capture at) = unbound source sight at
  leaf_fault source known sight outermost (results.brace at e) = part_fault source known sight [] e
  leaf_fault source known sight outermost (results.operation at head ls) =
      or_fault (operator_fault (operator_arity source known (text_of source head.name)) head.name (count ls))
      (or_fault (mark_fault outermost head.marked) (leaves_fault source known sight ls))

  pub leaves_fault : List ℕ → Known → Sight → Leaves → Option PatternFault
  leaves_fault source known sight results.nil = None
  leaves_fault source known sight (results.cons l ls) = or_fault (leaf_fault source known sight false l) (leaves_fault source known sight ls)

abbrev mutual
  pub result_fault : List ℕ → Known → Sight → Result → Option PatternFault
  result_fault source known sight (results.leaf l) = leaf_fault source known sight true l
  result_fault source known sight (results.when c a) = or_fault (part_fault source known sight [] c) (result_fault source known sight a)
  result_fault source known sight (results.choose c a b) =
      or_fault (part_fault source known sight [] c) (or_fault (result_fault source known sight a) (result_fault source known sight b))
  result_fault source known sight (results.switch rs) = results_fault source known sight rs
  result_fault source known sight (results.bound ds a) = or_fault (block_fault source known sight [] ds) (result_fault source known (below sight ds) a)

  pub results_fault : List ℕ → Known → Sight → Results → Option PatternFault
  results_fault source known sight results.none = None
  results_fault source known sight (results.more r rs) = or_fault (result_fault source known sight r) (results_fault source known sight rs)

-- operations

abbrev mutual
  -- how many operations a leaf has
  pub nodes_of : Leaf → ℕ
  nodes_of (results.capture at) = 0
  nodes_of (results.brace at e) = 0
  nodes_of (results.operation at head ls) = suc (nodes_among ls)

  pub nodes_among : Leaves → ℕ
  nodes_among results.nil = 0
  nodes_among (results.cons l ls) = nodes_of l + nodes_among ls

-- a leaf has more of them than it may have
abbrev pub is_large : Leaf → Bool
is_large l = nat_lt 16 (nodes_of l)

abbrev mutual
  -- some leaf of a result is so
  pub has_large : Result → Bool
  has_large (results.leaf l) = is_large l
  has_large (results.when c a) = has_large a
  has_large (results.choose c a b) = has_large a || has_large b
  has_large (results.switch rs) = have_large rs
  has_large (results.bound ds a) = has_large a

  pub have_large : Results → Bool
  have_large results.none = false
  have_large (results.more r rs) = has_large r || have_large rs
