use Rattle.std.proofs.Common.{◌≡◌, map, drop}
use Rattle.std.specs.List.{list_all}
use Rattle.pm_places.specs.Spans.{text_of}
use Rattle.gim_shape.specs.Tables.{has_text}
use Rattle.gim_shape.proofs.phis.places_are_among.Given as goal

abbrev pub invariant-loop-place : goal.invariant-loop-place
invariant-loop-place l =
    list_all (has_text l.set) (map (text_of l.source) (drop l.place-index l.places))
    ≡ list_all (has_text l.set) (map (text_of l.source) l.places)
