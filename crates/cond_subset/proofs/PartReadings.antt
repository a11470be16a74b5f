-- Each kind of C part is read exactly.
use Rattle.std.proofs.Common.{List}
use Rattle.grammar.specs.Whole.{IsReading, whole_of}
use Rattle.grammar.proofs.WholeInput.{whole}
use Rattle.pm_ops.specs.declared.fault.PatternKind.TheVariants.{CSyntax}
use Rattle.pd_text.specs.declared.symbol.Symbol.{Symbol}
use Rattle.cond_subset.specs.GoesOn.{GoesOn}
use Rattle.cond_subset.specs.Grammar.{Spells}
use Rattle.cond_subset.specs.Declarations.{SpellsBlock}
use Rattle.cond_subset.specs.DeclarationReaders.{IsInBlock, expression_at, block_at}
use Rattle.cond_subset.specs.Syntax.{SpellsBrace}
use Rattle.cond_subset.specs.WholeReaders.{brace_at}
use Rattle.cond_subset.proofs.BracesExact.{GoesOnBrace, brace_reads}
use Rattle.cond_subset.proofs.DeclarationsExact.{block_reads, expression_reads}

pub cond_reading : (symbols : List Symbol) → IsReading Spells symbols (whole_of CSyntax (expression_at symbols))
cond_reading symbols = whole Spells (GoesOn 10) CSyntax symbols (expression_at symbols) (expression_reads.exact symbols)

pub brace_reading : (symbols : List Symbol) → IsReading SpellsBrace symbols (whole_of CSyntax (brace_at symbols))
brace_reading symbols = whole SpellsBrace GoesOnBrace CSyntax symbols (brace_at symbols) (brace_reads.exact symbols)

pub block_reading : (symbols : List Symbol) → IsReading SpellsBlock symbols (whole_of CSyntax (block_at symbols))
block_reading symbols = whole SpellsBlock IsInBlock CSyntax symbols (block_at symbols) (block_reads.exact symbols)
