-- Each value in turn: its word, or none.
use Rattle.std.proofs.Common.{get_or, sym, ap, ◌∙◌, arith}
use Rattle.gim_text.specs.Literals.{word_in}
use Rattle.match_top.specs.Run.{number_of_value}
use Rattle.match_top.proofs.RunLemmas.{unequal, next_refused, next_word}
use Rattle.match_top.proofs.commands.run.arguments.Goals as goal

pub returns-then-params-values : goal.returns-then-params-values
returns-then-params-values c = sym (unequal c.args.params.now c.args.values.now c.if-params-values.true)

pub returns-in-None : goal.returns-in-None
returns-in-None c =
    sym (c.loop-at.invariant ∙ next_refused c.args.params.now c.args.values.now c.loop-at.args.items c.loop-at.at c.index-params-at.result c.index-values-at.result
    c.loop-at-test.true (omega (arith, c.loop-at-test.true, c.if-params-values.false)) c.index-params-at.is c.index-values-at.is
    (ap (λ b. word_in (get_or c.args.params.now c.loop-at.at c.index-params-at.result).ty (number_of_value b)) (sym c.bytes.ensures) ∙ sym c.argument.ensures ∙ c.in-None.is))

pub loop-at-preserved : goal.loop-at-preserved
loop-at-preserved c =
    c.loop-at.invariant ∙ next_word c.args.params.now c.args.values.now c.loop-at.args.items c.push.new.self.items c.in-Some.word c.loop-at.at c.index-params-at.result c.index-values-at.result
    c.loop-at-test.true (omega (arith, c.loop-at-test.true, c.if-params-values.false)) c.index-params-at.is c.index-values-at.is
    (ap (λ b. word_in (get_or c.args.params.now c.loop-at.at c.index-params-at.result).ty (number_of_value b)) (sym c.bytes.ensures) ∙ sym c.argument.ensures ∙ c.in-Some.is) c.in_ok-push-in-Some.ensures.items
