-- The rewriting keeps the rows of `names` in order, and what is written is that of the rewriting.
use Rattle.std.proofs.Common.{◌≡◌, ap, ◌∙◌}
use Rattle.gim_ast.specs.WellFormed.{names_rise}
use Rattle.first_rewriting.specs.Rewriting.{Rewritten, rewriting_of}
use Rattle.first_patterns.specs.Matching.{row_at}
use Rattle.match_top.specs.Simplify.{budget}
use Rattle.match_top.proofs.NameLemmas.{rise_rewriting}
use Rattle.match_top.proofs.RowLemmas.{rewriting_output}
use Rattle.match_top.proofs.commands.simplify.rewriting.Goals as goal

pub output-requires-clause-rise : goal.output-requires-clause-rise
output-requires-clause-rise c =
    ap (λ (r : Rewritten). names_rise r.function) c.in_ok-done.ensures ∙ rise_rewriting (row_at c.as_slice.result.now) budget c.args.function c.requires.rise

pub returns : goal.returns
returns c =
    rewriting_output c.args.patterns.now c.args.function c.bytes.result.now _ c.output.result (c.bytes.ensures ∙ c.in_ok-name.ensures)
    (c.in_ok-done.ensures ∙ ap (λ rows. rewriting_of (row_at rows) budget c.args.function) c.as_slice.ensures) c.output.ensures
