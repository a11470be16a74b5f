-- What the search leaves of the contracts of the readers of patterns.
use Rattle.std.proofs.Common.{◌≡◌, [], ◌∷◌, ◌++◌, map, Ok, ap, subst, sym, ◌∙◌, arith}
use Rattle.std.proofs.lemmas.List.{map-append}
use Rattle.grammar.specs.Reading.{and_item, more_at}
use Rattle.grammar.specs.Gives.{GivesInMemory}
use Rattle.grammar.proofs.ItemLoops.{goes_on}
use Rattle.pd_forms.specs.Trees.{pattern_of}
use Rattle.pd_forms.specs.PatternReaders.{begins_pattern, patterns_at}
use Rattle.pd_forms.proofs.Depths.{one_deeper}
use Rattle.pd_forms.proofs.pattern.+pattern.Goals as goal

pub read_within-returns-clause-reads : goal.read_within-returns-clause-reads
read_within-returns-clause-reads t c =
    subst (λ answer. GivesInMemory (λ x. (pattern_of x.0, x.1.now)) c.read_any.result answer)
    (sym (one_deeper (λ k. patterns_at k c.args.symbols.now) c.args.room (omega (arith, c.requires.roomy)))) c.read_any.ensures.reads

pub read_operands-loop-alloc-preserved : goal.read_operands-loop-alloc-preserved
read_operands-loop-alloc-preserved t c =
    let inner = patterns_at c.args.room in
    let before = map pattern_of c.loop-alloc.operands in
    let after = c.in_ok-operand.after.now in
    let pushed : c.push.new.self ≡ c.loop-alloc.operands ++ c.in_ok-operand.operand ∷ [] = c.in_ok-push.ensures.ok in
    let now : map pattern_of c.push.new.self ≡ before ++ pattern_of c.in_ok-operand.operand ∷ [] =
    ap (map pattern_of) pushed ∙ map-append pattern_of c.loop-alloc.operands (c.in_ok-operand.operand ∷ []) in
    let item : and_item before (inner c.loop-alloc.rest.now) ≡ Ok (map pattern_of c.push.new.self, after) =
    ap (and_item before) c.in_ok-operand.ensures.reads ∙ ap (λ l. Ok (l, after)) (sym now) in (
      goes_on begins_pattern inner (more_at begins_pattern inner [] c.args.symbols.now) before c.loop-alloc.rest.now c.loop-alloc.invariant.0
          (sym c.begins_pattern.ensures ∙ c.loop-alloc-test.true) (map pattern_of c.push.new.self) after item c.in_ok-operand.ensures.shorter,
      omega (arith, c.loop-alloc.invariant.1, c.in_ok-operand.ensures.shorter),
    )
