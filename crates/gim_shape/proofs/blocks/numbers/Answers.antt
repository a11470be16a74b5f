use Rattle.std.proofs.Common.{take}
use Rattle.std.specs.HashSet.{contains_by}
use Rattle.std.specs.Str.{bytes_eq}
use Rattle.gim_shape.specs.Blocks.{number_of, numbers_of}
use Rattle.gim_shape.proofs.TextTables.{among_more}
use Rattle.gim_shape.proofs.blocks.numbers.Goals as goal
use Rattle.gim_text.proofs.FrontsAndRests.{map_step}

pub loop-block-preserved : goal.loop-block-preserved
loop-block-preserved c = λ q.
    let source = c.args.source.now in
    let block = c.block-item.result in
    rw (
      map_step (number_of source) c.args.blocks.now c.loop-block.block-index block c.loop-block-test.true
          c.block-item.is,
      ← c.text.ensures,
    )
    (among_more (numbers_of source (take c.loop-block.block-index c.args.blocks.now)) c.text.result.now q
    (contains_by (λ k. bytes_eq q k.now) c.loop-block.set) _
    (c.in_ok-insert.ensures.updates.0 (record { ref_ptr = (0, 0); now = q })) (c.loop-block.invariant q))
