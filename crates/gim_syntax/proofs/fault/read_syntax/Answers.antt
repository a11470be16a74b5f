-- What the search leaves of the contract of `read_syntax`.
use Rattle.std.proofs.Common.{ap, subst, ◌∙◌}
use Rattle.grammar.specs.Whole.{StopsFirst}
use Rattle.gim_syntax.specs.Grammar.{SpellsFile}
use Rattle.gim_syntax.specs.SyntaxFaults.{syntax_fault}
use Rattle.gim_syntax.proofs.SyntaxFaulted.{is_refused}
use Rattle.gim_syntax.proofs.fault.read_syntax.Goals as goal

pub returns-in-Err-Fault-clause-fault : goal.returns-in-Err-Fault-clause-fault
returns-in-Err-Fault-clause-fault c =
    let rest = c.in-Err-Fault.fault.rest.now in
    is_refused c.args.source_len c.args.tokens.now rest c.syntax_fault.result
    (subst (λ s. StopsFirst SpellsFile c.args.tokens.now s) c.in-Err-Fault.field-0-is c.in-Err-Fault.ensures.fault)
    (c.syntax_fault.ensures ∙ ap (λ l. syntax_fault c.args.source_len l rest) c.tokens_before-front.ensures)
