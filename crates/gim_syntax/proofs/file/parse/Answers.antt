-- What the search leaves of the contract of `parse`.
use Rattle.grammar.specs.Whole.{whole_of}
use Rattle.grammar.proofs.WholeInput.{whole, found_in_memory, only_in_memory, fault_in_memory}
use Rattle.gim_syntax.specs.Grammar.{SpellsFile}
use Rattle.gim_syntax.specs.Readers.{file_at}
use Rattle.gim_syntax.proofs.FileExact.{AnyToken, file_reads}
use Rattle.gim_syntax.proofs.file.parse.Goals as goal

pub returns-clause-found : goal.returns-clause-found
returns-clause-found c =
    let tokens = c.args.tokens.now in
    let answer = file_at tokens in
    found_in_memory SpellsFile tokens (whole_of tt answer) (whole SpellsFile AnyToken tt tokens answer (file_reads.exact tokens))
    c.whole_in_memory.result (c.whole_in_memory.ensures answer c.read_functions.ensures.reads)

pub returns-clause-only : goal.returns-clause-only
returns-clause-only c =
    let tokens = c.args.tokens.now in
    let answer = file_at tokens in
    only_in_memory SpellsFile tokens (whole_of tt answer) (whole SpellsFile AnyToken tt tokens answer (file_reads.exact tokens))
    c.whole_in_memory.result (c.whole_in_memory.ensures answer c.read_functions.ensures.reads)

pub returns-clause-fault : goal.returns-clause-fault
returns-clause-fault c =
    let tokens = c.args.tokens.now in
    let answer = file_at tokens in
    fault_in_memory SpellsFile tokens (whole_of tt answer) (whole SpellsFile AnyToken tt tokens answer (file_reads.exact tokens))
    c.whole_in_memory.result (c.whole_in_memory.ensures answer c.read_functions.ensures.reads)
