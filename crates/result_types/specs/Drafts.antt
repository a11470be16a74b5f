-- Drafts as plain trees: an operand, or an operation on one, two or three of them.
use Rattle.pm_wide.specs.declared.operand.Operand.{Operand}
use Rattle.result_types.specs.declared.draft.Head.{Head}
use Rattle.result_types.specs.declared.draft.Draft.{Draft, Draft-F, fold-Draft}
use Rattle.result_types.specs.declared.draft.Draft.TheOpen as layer

pub data Shape : Type 0 where
  leaf : Operand → Shape
  one : Head → Shape → Shape
  two : Head → Shape → Shape → Shape
  three : Head → Shape → Shape → Shape → Shape

abbrev pub shape_step : Draft-F Shape → Shape
shape_step (layer.Leaf a) = leaf a
shape_step (layer.One head a) = one head a
shape_step (layer.Two head a b) = two head a b
shape_step (layer.Three head a b c) = three head a b c

-- the plain tree of a draft
abbrev pub shape_of : Draft → Shape
shape_of = fold-Draft Shape shape_step
