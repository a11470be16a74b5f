use Rattle.std.proofs.Common.{arith, ap}
use Rattle.pm_places.specs.declared.span.Span.{Span}
use Rattle.lexing.proofs.Cutting.{begun, whole}
use Rattle.gim_lexer.proofs.Cutting.{moves, same_tokens, no_tokens, is_cause}
use Rattle.lexing.proofs.Steps.{step_separator, step_token, step_fault, stepped}
use Rattle.gim_lexer.proofs.lex.Goals as goal

pub loop-at-init : goal.loop-at-init
loop-at-init c = begun c.args.source.now c.new-tokens.result.items c.new-tokens.ensures.items

pub loop-at-smaller-in-Separator : goal.loop-at-smaller-in-Separator
loop-at-smaller-in-Separator c =
    let s = step_separator moves c.args.source.now c.loop-at.tokens.items c.loop-at.at c.in-Separator.to c.in-Some.piece c.loop-at.invariant c.in-Some.ensures c.in-Separator.is in
    omega (arith, s.0.within, s.1, c.loop-at-test.true)

pub loop-at-preserved-in-Separator : goal.loop-at-preserved-in-Separator
loop-at-preserved-in-Separator c = (step_separator moves c.args.source.now c.loop-at.tokens.items c.loop-at.at c.in-Separator.to c.in-Some.piece c.loop-at.invariant c.in-Some.ensures c.in-Separator.is).0

pub loop-at-smaller : goal.loop-at-smaller
loop-at-smaller c =
    let s = step_token moves c.args.source.now c.loop-at.tokens.items c.loop-at.at c.in-Token.token c.in-Some.piece c.loop-at.invariant c.in-Some.ensures c.in-Token.is in
    omega (arith, s.0.within, s.1, c.loop-at-test.true, ap (λ (span : Span). span.to) c.span-at.ensures)

pub loop-at-preserved : goal.loop-at-preserved
loop-at-preserved c =
    let s = step_token moves c.args.source.now c.loop-at.tokens.items c.loop-at.at c.in-Token.token c.in-Some.piece c.loop-at.invariant c.in-Some.ensures c.in-Token.is in
    stepped c.args.source.now _ _ _ _ c.in_ok-push-in-Token.ensures.items c.span-at.ensures s.0

pub returns-in_default-clause-only : goal.returns-in_default-clause-only
returns-in_default-clause-only c = λ tokens are.
    absurd (no_tokens c.args.source.now c.loop-at.at tokens (step_fault c.args.source.now c.loop-at.tokens.items c.loop-at.at c.loop-at.invariant c.loop-at-test.true c.in_default.ensures) are)

pub returns-in_default-clause-fault : goal.returns-in_default-clause-fault
returns-in_default-clause-fault c =
    is_cause c.args.source.now c.loop-at.at c.lex_fault.result c.lex_fault.ensures
    (step_fault c.args.source.now c.loop-at.tokens.items c.loop-at.at c.loop-at.invariant c.loop-at-test.true c.in_default.ensures)

pub returns-clause-only : goal.returns-clause-only
returns-clause-only c = λ tokens are. same_tokens c.args.source.now c.loop-at.tokens.items tokens (whole c.args.source.now c.loop-at.tokens.items c.loop-at.at c.loop-at.invariant.cut c.loop-at.invariant.within c.loop-at-test.false) are
