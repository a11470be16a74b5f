-- What stands where in a pattern, in preorder: an operation before its operands, and these from left
-- to right.
use Rattle.std.specs.Prelude.{ℕ, suc, List, [], ◌∷◌, ◌++◌, Option, Some}
use Rattle.pd_ast.specs.declared.pattern.Cap.{Cap}
use Rattle.pattern_rows.specs.declared.row.Place.{Place}
use Rattle.pattern_rows.specs.declared.spot.Head.{Head}
use Rattle.pattern_rows.specs.declared.spot.Head.TheVariants as head
use Rattle.pattern_rows.specs.declared.spot.Spot.{Spot}
use Rattle.pattern_rows.specs.Places.{outermost, below}
use Rattle.pattern_rows.specs.Patterns.{Pattern, capture, predicate, operation, choice, Patterns, nil, cons}

abbrev pub spot_at : Place → Head → Option Cap → Spot
spot_at at h c = record { place = at; head = h; cap = c }

abbrev mutual
  -- the spots of a pattern that stands at a place
  pub spots : Place → Pattern → List Spot
  spots at (capture c) = spot_at at head.Anything (Some c) ∷ []
  spots at (predicate p c) = spot_at at (head.Pred p) c ∷ []
  spots at (operation code single c ps) = spot_at at (head.Code code) c ∷ spots_below at 0 ps
  spots at choice = []

  -- those of operands from a position on
  pub spots_below : Place → ℕ → Patterns → List Spot
  spots_below at k nil = []
  spots_below at k (cons p ps) = spots (below at k) p ++ spots_below at (suc k) ps

-- those of a whole pattern
abbrev pub spots_of : Pattern → List Spot
spots_of p = spots outermost p
