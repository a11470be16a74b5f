use Rattle.std.proofs.Common.{arith, ap, sym, ◌∙◌, not, nat_eq}
use Rattle.cond_eval.specs.Words.{read}
use Rattle.cond_eval.proofs.ReadingLemmas.{settled_word, outside_all, in_all, given_back}
use Rattle.cond_eval.proofs.reading.settled.Goals as goal

pub returns-then-outside-clause-value : goal.returns-then-outside-clause-value
returns-then-outside-clause-value c = λ z h.
    let u = c.args.reading.unsigned in
    let p = c.args.reading.precision in
    let low = c.lowest-word.ensures.value in
    let word = settled_word u p z _ _ c.requires.precision low (ap (λ x. x.0) h) in
    let wide = sym (ap (λ x. x.1) h) ∙ c.if-outside.true in
    let outside = outside_all u p z c.requires.precision wide in
    λ i. (word i, (c.if-outside.true ∙ sym outside) i)

pub returns-else-outside-clause-value : goal.returns-else-outside-clause-value
returns-else-outside-clause-value c = λ z h.
    let u = c.args.reading.unsigned in
    let p = c.args.reading.precision in
    let low = c.lowest-word.ensures.value in
    let word = settled_word u p z _ _ c.requires.precision low (ap (λ x. x.0) h) in
    let inside = in_all u z (sym (ap (λ x. x.1) h) ∙ c.if-outside.false) in
    let kept = c.extended.ensures ∙ ap (read u p) word in
    let back = given_back u p c.extended.result z c.requires.some (grind arith) kept inside in
    λ i. (word i, (ap (λ n. not (nat_eq c.extended.result n)) (ap (λ x. x.0) h) ∙ back) i)
