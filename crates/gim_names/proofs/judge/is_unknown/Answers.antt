use Rattle.gim_text.specs.Texts.{name_parts}
use Rattle.pm_places.specs.Spans.{text_of}
use Rattle.gim_names.proofs.ShortCircuit.{or_second}
use Rattle.gim_names.specs.Rules as rules
use Rattle.gim_names.proofs.judge.is_unknown.Goals as goal

pub returns-else-lacks_base : goal.returns-else-lacks_base
returns-else-lacks_base c = λ all d.
    let source = c.args.source.now in
    let text = text_of source c.args.at in
    or_second (rules.lacks_base source all text (name_parts text)) (rules.is_unassigned source all text)
    c.lacks_base.result c.is_unassigned.result (c.lacks_base.ensures all d) c.if-lacks_base.false
    (c.is_unassigned.ensures all d)
