-- The rules on the captures and names of C parts.
use Rattle.std.specs.Prelude.{ℕ, Bool, not, ◌||◌, is_some, List, Option, None, if◌then◌else◌}
use Rattle.pm_ops.specs.Names.{Name, code_c_named}
use Rattle.pm_ops.specs.declared.fault.PatternFault.{PatternFault}
use Rattle.pm_ops.specs.declared.fault.PatternKind.TheVariants.{UnboundCapture, CName}
use Rattle.pm_places.specs.declared.span.Span.{Span}
use Rattle.pm_places.specs.FirstFaults.{or_fault}
use Rattle.pm_places.specs.Spans.{text_of}
use Rattle.cond_subset.specs.declared.scope.Declared.{Declared}
use Rattle.cond_subset.specs.declared.tree.Callee.{Callee}
use Rattle.cond_subset.specs.Trees.{Expr, number, capture, named, parens, unary, binary, choose, call, Exprs, nil, cons}
use Rattle.cond_subset.specs.Names.{is_first, is_truth, is_sign, last_named, by_block, knows_call, is_code_test}
use Rattle.pd_pattern_names.specs.declared.known.Known.{Known}
use Rattle.pd_pattern_names.specs.Known.{broken, is_chosen}
use Rattle.pd_pattern_names.specs.Captures.{is_bound}
use Rattle.pd_names.specs.declared.sight.Sight.{Sight}

-- an identifier of a `for`, or a word of the language
abbrev pub knows_word : List ℕ → Known → Name → Bool
knows_word source known name = is_chosen source known.choices name || (is_some (code_c_named name) || (is_truth name || is_sign name))

-- a name that the block does not declare: an overflow flag that isn't set yet hides words, and stands for nothing
abbrev pub knows_outside : List ℕ → Known → Sight → Name → Bool
knows_outside source known sight name = by_block (last_named source sight.locals name) (knows_word source known name)

-- A name that stands for something: the first of these that it can be. A name of this block hides those of the blocks round it.
abbrev pub knows : List ℕ → Known → Sight → List Declared → Name → Bool
knows source known sight block name = is_first sight.in_match name || by_block (last_named source block name) (knows_outside source known sight name)

-- what may stand after `&`: a name that this block declared, or one that stands for something
abbrev pub knows_flag : List ℕ → Known → Sight → List Declared → Name → Bool
knows_flag source known sight block name = is_some (last_named source block name) || knows source known sight block name

abbrev pub name_fault : List ℕ → Known → Sight → List Declared → Span → Option PatternFault
name_fault source known sight block at = broken (not (knows source known sight block (text_of source at))) CName at

abbrev pub flag_fault : List ℕ → Known → Sight → List Declared → Span → Option PatternFault
flag_fault source known sight block at = broken (not (knows_flag source known sight block (text_of source at))) CName at

abbrev pub callee_fault : List ℕ → Callee → Option PatternFault
callee_fault source callee = broken (not (knows_call source callee)) CName callee.name

-- a capture that the pattern hasn't
abbrev pub unbound : List ℕ → Sight → Span → Option PatternFault
unbound source sight at = broken (not (is_bound source sight.captures at)) UnboundCapture at

abbrev mutual
  -- the first fault of an expression, after what its block has declared
  pub part_fault : List ℕ → Known → Sight → List Declared → Expr → Option PatternFault
  part_fault source known sight block (number at) = None
  part_fault source known sight block (capture at) = unbound source sight at
  part_fault source known sight block (named at) = name_fault source known sight block at
  part_fault source known sight block (parens at a) = part_fault source known sight block a
  part_fault source known sight block (unary op at a) = part_fault source known sight block a
  part_fault source known sight block (binary op at a b) =
      or_fault (part_fault source known sight block a) (if is_code_test source op a b then None else part_fault source known sight block b)
  part_fault source known sight block (choose at c a b) =
      or_fault (part_fault source known sight block c) (or_fault (part_fault source known sight block a) (part_fault source known sight block b))
  part_fault source known sight block (call callee args) = or_fault (callee_fault source callee) (parts_fault source known sight block args)

  pub parts_fault : List ℕ → Known → Sight → List Declared → Exprs → Option PatternFault
  parts_fault source known sight block nil = None
  parts_fault source known sight block (cons e es) = or_fault (part_fault source known sight block e) (parts_fault source known sight block es)
