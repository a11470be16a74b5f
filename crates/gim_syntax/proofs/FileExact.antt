-- A file is read exactly.
use Rattle.std.proofs.Common.{refl}
use Rattle.grammar.proofs.Sequence.{Never}
use Rattle.gim_text.specs.declared.token.Token.{Token}
use Rattle.grammar.proofs.EveryInput.{Reads}
use Rattle.gim_syntax.specs.Grammar.{SpellsFunction, SpellsFile}
use Rattle.gim_syntax.specs.Readers.{any_token, function_at, file_at}
use Rattle.grammar.proofs.Items.{items_read}
use Rattle.gim_syntax.proofs.FunctionExact.{function_reads, function_not_empty}

-- every token: a further function may begin at it, well or wrongly
abbrev pub AnyToken : Token → Type 0
AnyToken t = Unit {0}

pub file_reads : Reads SpellsFile AnyToken file_at
file_reads =
    items_read SpellsFunction any_token function_at Never AnyToken function_reads function_not_empty (λ function t w spelled. refl)
    (λ t e impossible. impossible) (λ t impossible. tt) (λ t e. tt)
