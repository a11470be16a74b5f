-- What the search leaves of the contracts of the readers of such results.
use Rattle.std.proofs.Common.{◌≡◌, [], ◌∷◌, ◌++◌, map, Ok, ap, subst, sym, ◌∙◌, arith}
use Rattle.std.proofs.lemmas.List.{map-append}
use Rattle.grammar.specs.Reading.{and_item, more_at}
use Rattle.grammar.specs.Gives.{GivesInMemory}
use Rattle.grammar.proofs.ItemLoops.{goes_on}
use Rattle.pd_forms.specs.Results.{leaf_of}
use Rattle.pd_forms.specs.LeafReaders.{begins_result, leaves_at}
use Rattle.pd_forms.proofs.Depths.{one_deeper}
use Rattle.pd_forms.proofs.leaf.+leaf.Goals as goal

pub read_within-returns-clause-reads : goal.read_within-returns-clause-reads
read_within-returns-clause-reads t c =
    subst (λ answer. GivesInMemory (λ x. (leaf_of x.0, x.1.now)) c.read_any.result answer)
    (sym (one_deeper (λ k. leaves_at k c.args.symbols.now) c.args.room (omega (arith, c.requires.roomy)))) c.read_any.ensures.reads

pub read_leaves-loop-alloc-preserved : goal.read_leaves-loop-alloc-preserved
read_leaves-loop-alloc-preserved t c =
    let inner = leaves_at c.args.room in
    let before = map leaf_of c.loop-alloc.operands in
    let after = c.in_ok-operand.after.now in
    let pushed : c.push.new.self ≡ c.loop-alloc.operands ++ c.in_ok-operand.operand ∷ [] = c.in_ok-push.ensures.ok in
    let now : map leaf_of c.push.new.self ≡ before ++ leaf_of c.in_ok-operand.operand ∷ [] =
    ap (map leaf_of) pushed ∙ map-append leaf_of c.loop-alloc.operands (c.in_ok-operand.operand ∷ []) in
    let item : and_item before (inner c.loop-alloc.rest.now) ≡ Ok (map leaf_of c.push.new.self, after) =
    ap (and_item before) c.in_ok-operand.ensures.reads ∙ ap (λ l. Ok (l, after)) (sym now) in (
      goes_on begins_result inner (more_at begins_result inner [] c.args.symbols.now) before c.loop-alloc.rest.now c.loop-alloc.invariant.0
          (sym c.begins_result.ensures ∙ c.loop-alloc-test.true) (map leaf_of c.push.new.self) after item c.in_ok-operand.ensures.shorter,
      omega (arith, c.loop-alloc.invariant.1, c.in_ok-operand.ensures.shorter),
    )
