use Rattle.std.proofs.Common.{map, take}
use Rattle.pm_places.specs.Spans.{text_of}
use Rattle.gim_shape.specs.Tables.{HasTexts}
use Rattle.gim_shape.proofs.blocks.texts_at.Given as goal

abbrev pub invariant-loop-place : goal.invariant-loop-place
invariant-loop-place l = HasTexts l.set (map (text_of l.source) (take l.place-index l.places))
