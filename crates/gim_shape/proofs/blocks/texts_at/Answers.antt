use Rattle.std.proofs.Common.{take, map}
use Rattle.std.specs.HashSet.{contains_by}
use Rattle.std.specs.Str.{bytes_eq}
use Rattle.pm_places.specs.Spans.{text_of}
use Rattle.gim_shape.proofs.TextTables.{among_more}
use Rattle.gim_shape.proofs.blocks.texts_at.Goals as goal
use Rattle.gim_text.proofs.FrontsAndRests.{map_step_at}

pub loop-place-preserved : goal.loop-place-preserved
loop-place-preserved c = λ q.
    let source = c.args.source.now in
    rw (
      map_step_at (text_of source) c.args.places.now c.loop-place.place-index (record { from = 0; to = 0 })
          c.loop-place-test.true,
      ← c.text.ensures,
    )
    (among_more (map (text_of source) (take c.loop-place.place-index c.args.places.now)) c.text.result.now q
    (contains_by (λ k. bytes_eq q k.now) c.loop-place.set) _
    (c.in_ok-insert.ensures.updates.0 (record { ref_ptr = (0, 0); now = q })) (c.loop-place.invariant q))
