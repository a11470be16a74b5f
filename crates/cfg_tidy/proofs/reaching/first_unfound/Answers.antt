use Rattle.std.proofs.Common.{sym, ap, ◌∙◌}
use Rattle.std.specs.Option.{option_copied}
use Rattle.cfg_tidy.proofs.FoundBlocks.{all_are_reached, first_is_unreached}
use Rattle.cfg_tidy.proofs.reaching.first_unfound.Goals as goal

pub returns-in-Some : goal.returns-in-Some
returns-in-Some c = first_is_unreached c.args.blocks.now c.args.reach.now c.in-Some.block.now c.requires (sym c.unfound.ensures ∙ ap option_copied c.in-Some.is)

pub returns-in-None : goal.returns-in-None
returns-in-None c = all_are_reached c.args.blocks.now c.args.reach.now c.requires (sym c.unfound.ensures ∙ ap option_copied c.in-None.is)
