use Rattle.std.proofs.Common.{◌∙◌, map}
use Rattle.pm_places.specs.Spans.{text_of}
use Rattle.gim_shape.specs.Tables.{has_text}
use Rattle.gim_shape.specs.Phis.{named_by_args}
use Rattle.gim_shape.proofs.DistinctTexts.{each_once_known}
use Rattle.gim_shape.proofs.phis.name_each_once.Goals as goal

pub returns : goal.returns
returns c =
    let source = c.args.source.now in
    let named = rw c.in-Some.is at c.in_ok-named.ensures in
    c.are_the_same.ensures ∙ each_once_known (map (text_of source) c.args.from.now)
    (named_by_args source c.args.args.now) (has_text c.in_ok-numbers.numbers) (has_text c.in-Some.named)
    named.0 c.in_ok-numbers.ensures named.1
