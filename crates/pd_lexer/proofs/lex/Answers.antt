use Rattle.std.proofs.Common.{arith, sym, ap, subst, inr, ◌∙◌}
use Rattle.pd_lexer.specs.Cuts.{IsLexFault}
use Rattle.pd_lexer.specs.Pieces.{end_of}
use Rattle.pd_lexer.proofs.Cutting.{same_tokens, no_tokens}
use Rattle.pd_lexer.proofs.Scanning.{goes_on, none_open, some_open, right_from, stepped_to, read_whole, left_open, at_fault}
use Rattle.pd_lexer.proofs.lex.Goals as goal

pub is_ended-requires : goal.is_ended-requires
is_ended-requires c = (goes_on c.args.source.now _ c.loop-at-test.true c.piece_at-piece.ensures (ap end_of (sym c.in-Fault.is))).1

pub returns-in-Fault-clause-fault : goal.returns-in-Fault-clause-fault
returns-in-Fault-clause-fault c =
    let fault = at_fault c.loop-at.invariant c.loop-at-test.true (sym c.in-Fault.is ∙ c.piece_at-piece.ensures) c.in_ok-ended.ensures in
    inr (subst (IsLexFault c.args.source.now) (sym c.earlier.ensures) fault)

pub returns-in-Fault-clause-only : goal.returns-in-Fault-clause-only
returns-in-Fault-clause-only c = λ tokens are.
    let fault = at_fault c.loop-at.invariant c.loop-at-test.true (sym c.in-Fault.is ∙ c.piece_at-piece.ensures) c.in_ok-ended.ensures in
    absurd (no_tokens c.args.source.now _ tokens fault are)

pub loop-at-smaller : goal.loop-at-smaller
loop-at-smaller c =
    let on = goes_on c.args.source.now _ c.loop-at-test.true c.piece_at-piece.ensures c.end-at.ensures in
    omega (arith, on, c.loop-at-test.true)

pub loop-at-preserved : goal.loop-at-preserved
loop-at-preserved c =
    let right = right_from c.piece_at-piece.result c.in_default.not-Fault in
    stepped_to c.loop-at.invariant c.loop-at-test.true c.piece_at-piece.ensures right
    c.in_ok-keep.ensures c.outermost_after-outermost.ensures c.in_ok-pass.ensures c.end-at.ensures

pub returns-then-not-is_ground-clause-fault : goal.returns-then-not-is_ground-clause-fault
returns-then-not-is_ground-clause-fault c =
    let some = some_open _ c.is_ground.result c.is_ground.ensures c.if-not-is_ground.true in
    inr (subst (IsLexFault c.args.source.now) (sym c.directive_fault.ensures) (left_open c.loop-at.invariant c.loop-at-test.false some))

pub returns-then-not-is_ground-clause-only : goal.returns-then-not-is_ground-clause-only
returns-then-not-is_ground-clause-only c = λ tokens are.
    let some = some_open _ c.is_ground.result c.is_ground.ensures c.if-not-is_ground.true in
    absurd (no_tokens c.args.source.now _ tokens (left_open c.loop-at.invariant c.loop-at-test.false some) are)

pub returns-clause-found : goal.returns-clause-found
returns-clause-found c =
    read_whole c.loop-at.invariant c.loop-at-test.false (none_open _ c.is_ground.result c.is_ground.ensures c.if-not-is_ground.false)

pub returns-clause-only : goal.returns-clause-only
returns-clause-only c = λ tokens are.
    let none = none_open _ c.is_ground.result c.is_ground.ensures c.if-not-is_ground.false in
    same_tokens c.args.source.now c.loop-at.tokens.items tokens (read_whole c.loop-at.invariant c.loop-at-test.false none) are
