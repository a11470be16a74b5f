use Rattle.match_top.proofs.GivenLemmas.{asked_whole}
use Rattle.match_top.proofs.given.read.Goals as goal

pub returns-in-Ok-clause-asked : goal.returns-in-Ok-clause-asked
returns-in-Ok-clause-asked g c =
    let e = c.in-Ok.ensures in
    asked_whole c.args.kind c.args.name.now c.limit.result _ _ c.in-Ok.bytes c.from_vec.result c.limit.ensures.limit c.from_vec.ensures e.told e.within e.begun e.holds e.asked e.later
