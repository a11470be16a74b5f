use Rattle.std.proofs.Common.{refl}
use Rattle.cfg_tidy.proofs.FoundBlocks.{searching_begins, searching_goes_on, searching_ends, taken_costs}
use Rattle.cfg_tidy.proofs.reaching.all_reached.Goals as goal

pub loop-number-init : goal.loop-number-init
loop-number-init c = searching_begins c.args.blocks.now _ c.add_entry.new.self c.new.ensures c.new-3.ensures c.in_ok-add_entry.ensures

pub loop-number-preserved : goal.loop-number-preserved
loop-number-preserved c =
    searching_goes_on c.args.blocks.now c.loop-number.reach (record { found = c.loop-number.reach.found; set = c.loop-number.reach.set; waiting = c.pop.new.self }) c.look_from.new.self c.in-Some.number
    c.loop-number.invariant c.in-Some.ensures refl c.in_ok-look_from.ensures

pub loop-number-smaller : goal.loop-number-smaller
loop-number-smaller c =
    taken_costs c.args.blocks.now c.loop-number.reach (record { found = c.loop-number.reach.found; set = c.loop-number.reach.set; waiting = c.pop.new.self }) c.look_from.new.self c.in-Some.number
    c.in-Some.ensures refl c.in_ok-look_from.ensures

pub returns : goal.returns
returns c =
    let told = searching_ends c.args.blocks.now c.loop-number.reach c.loop-number.invariant c.in_default.ensures.0 in
    record { sound = told.sound; complete = told.complete; indexed = told.indexed }
