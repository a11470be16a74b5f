-- The words of declarations.
use Rattle.std.specs.Prelude.{ℕ, Option, Some, None}
use Rattle.pm_places.specs.declared.span.Span.{Span}
use Rattle.pd_text.specs.declared.symbol.Symbol.{Symbol}
use Rattle.pd_text.specs.declared.symbol.Symbol.TheVariants as symbols
use Rattle.pd_text.specs.declared.symbol.Word.TheVariants as words
use Rattle.cond_subset.specs.declared.tree.DeclWord.{DeclWord}
use Rattle.cond_subset.specs.declared.tree.DeclWord.TheVariants as declared
use Rattle.cond_subset.specs.declared.tree.Arithmetic.{Arithmetic}
use Rattle.cond_subset.specs.declared.tree.Arithmetic.TheVariants as arithmetics

-- what declares a value
abbrev pub decl_word : Symbol → Option DeclWord
decl_word (symbols.Word words.Tree at) = Some declared.Tree
decl_word (symbols.Word words.WideInt at) = Some declared.WideInt
decl_word (symbols.Word words.Boolean at) = Some declared.Boolean
decl_word (symbols.Word words.Int at) = Some declared.Int
decl_word (symbols.Word words.Unsigned at) = Some declared.Unsigned
decl_word (symbols.Word words.Signop at) = Some declared.Signop
decl_word (symbols.Word words.TreeCode at) = Some declared.TreeCode
decl_word symbol = None

-- what may have a flag, and its place
abbrev pub arithmetic : Symbol → Option (Arithmetic × Span)
arithmetic (symbols.Word words.Add at) = Some (arithmetics.Add, at)
arithmetic (symbols.Word words.Subtract at) = Some (arithmetics.Subtract, at)
arithmetic (symbols.Word words.Multiply at) = Some (arithmetics.Multiply, at)
arithmetic (symbols.Word words.Negate at) = Some (arithmetics.Negate, at)
arithmetic symbol = None

-- how many arguments stand before the flag: the operands, and the sign of two operands
abbrev pub before_flag : Arithmetic → ℕ
before_flag arithmetics.Negate = 1
before_flag operation = 3
