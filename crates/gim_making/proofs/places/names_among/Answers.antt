use Rattle.std.proofs.Common.{sym}
use Rattle.gim_making.specs.Names.{name_place}
use Rattle.gim_making.proofs.Filters.{filter_map_more}
use Rattle.gim_making.proofs.places.names_among.Goals as goal

pub loop-occurrence-preserved : goal.loop-occurrence-preserved
loop-occurrence-preserved c =
    let step =
    filter_map_more (name_place c.args.source.now) c.args.occurrences.now c.loop-occurrence.occurrence-index
    c.occurrence-item.result c.loop-occurrence-test.true c.occurrence-item.is in
    rw (c.in_ok-push_name.ensures, c.name_place.ensures, c.loop-occurrence.invariant) (sym step)
