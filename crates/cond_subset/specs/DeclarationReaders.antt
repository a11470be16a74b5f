-- Readers of declarations on lists of symbols. They stand between code and grammar: the contracts above rest on the
-- grammar and the faults alone.
use Rattle.std.specs.Prelude.{◌≡◌, ◌+◌, Bool, true, false, List, [], ◌∷◌, ◌++◌, length, Option, Some, None, Ok, Err}
use Rattle.grammar.specs.Reading.{◌>>=◌, meant_at, more_at}
use Rattle.pm_ops.specs.declared.fault.PatternKind.TheVariants.{CSyntax}
use Rattle.pm_places.specs.declared.span.Span.{Span}
use Rattle.pd_text.specs.declared.symbol.Symbol.{Symbol}
use Rattle.pd_text.specs.declared.symbol.Symbol.TheVariants as symbols
use Rattle.pd_text.specs.declared.symbol.Mark.TheVariants as marks
use Rattle.pd_text.specs.declared.symbol.Word.{Word}
use Rattle.pd_text.specs.declared.symbol.Word.TheVariants as words
use Rattle.pd_text.specs.Meanings as meanings
use Rattle.cond_subset.specs.declared.tree.Arithmetic.{Arithmetic}
use Rattle.cond_subset.specs.declared.tree.Arithmetic.TheVariants as arithmetics
use Rattle.cond_subset.specs.declared.tree.Callee.{Callee}
use Rattle.cond_subset.specs.declared.tree.DeclWord.{DeclWord}
use Rattle.cond_subset.specs.declared.tree.DeclWord.TheVariants as declared
use Rattle.cond_subset.specs.declared.tree.FlaggedCall.{FlaggedCall}
use Rattle.cond_subset.specs.Trees.{Expr, call, exprs}
use Rattle.cond_subset.specs.Words.{decl_word, arithmetic}
use Rattle.cond_subset.specs.Declarations.{Value, plain, flagged, Decl, valued, overflow}
use Rattle.cond_subset.specs.Readers.{Read, Inner, mark_at, identifier_at, is_comma, further_at, links_at, readers}

-- the readers that serve at these symbols
abbrev pub full : Inner
full r input = readers (length input + 1) r input

-- a whole expression
abbrev pub expression_at : List Symbol → Read Expr
expression_at input = full 10 input

abbrev pub word_at : Word → List Symbol → Read Span
word_at asked input = meant_at (meanings.word asked) CSyntax input

-- the callee of a call that may have a flag
abbrev pub callee_of : FlaggedCall → Callee
callee_of c = record { wide = Some c.wide; name = c.name }

abbrev pub plain_at : Inner → List Symbol → Read Value
plain_at inner input = inner 10 input >>= λ e. Ok (plain e.0, e.1)

-- the `)` of a call without a flag, and what goes on the call
abbrev pub called_at : Inner → FlaggedCall → List Expr → List Symbol → Read Value
called_at inner c args input = do
  right ← mark_at marks.Close input
  e ← links_at inner 10 (call (callee_of c) (exprs args)) right.1
  Ok (plain e.0, e.1)

-- further arguments, behind which no flag may stand
abbrev pub others_at : Inner → FlaggedCall → List Expr → List Symbol → Read Value
others_at inner c args input = more_at is_comma (further_at inner) args input >>= λ all. called_at inner c all.0 all.1

-- what stands after `, &`
abbrev pub flag_at : FlaggedCall → List Expr → List Symbol → Read Value
flag_at c args input = do
  flag ← identifier_at input
  right ← mark_at marks.Close flag.1
  Ok (flagged c args flag.0, right.1)

-- what stands after a `,` behind which a flag may stand
abbrev pub flag_or_other_at : Inner → FlaggedCall → List Expr → List Symbol → Read Value
flag_or_other_at inner c args (symbols.Mark marks.Ampersand at ∷ rest) = flag_at c args rest
flag_or_other_at inner c args input = inner 10 input >>= λ e. others_at inner c (args ++ e.0 ∷ []) e.1

-- what stands after the last argument before a flag
abbrev pub last_at : Inner → FlaggedCall → List Expr → List Symbol → Read Value
last_at inner c args (symbols.Mark marks.Comma at ∷ rest) = flag_or_other_at inner c args rest
last_at inner c args input = called_at inner c args input

-- what stands after an argument before it
abbrev pub one_more_at : Inner → FlaggedCall → (List Expr → List Symbol → Read Value) → List Expr → List Symbol → Read Value
one_more_at inner c next args (symbols.Mark marks.Comma at ∷ rest) = inner 10 rest >>= λ e. next (args ++ e.0 ∷ []) e.1
one_more_at inner c next args input = called_at inner c args input

-- what stands after the second and after the first of three arguments before a flag
abbrev pub second_at : Inner → FlaggedCall → List Expr → List Symbol → Read Value
second_at inner c args input = one_more_at inner c (last_at inner c) args input

abbrev pub first_at : Inner → FlaggedCall → List Expr → List Symbol → Read Value
first_at inner c args input = one_more_at inner c (second_at inner c) args input

-- what stands after the first argument
abbrev pub after_first_at : Inner → FlaggedCall → Arithmetic → List Expr → List Symbol → Read Value
after_first_at inner c arithmetics.Negate args input = last_at inner c args input
after_first_at inner c operation args input = first_at inner c args input

-- what stands after the `(` of a call that may have a flag
abbrev pub opened_at : Inner → FlaggedCall → List Symbol → Read Value
opened_at inner c (symbols.Mark marks.Close at ∷ rest) = called_at inner c [] (symbols.Mark marks.Close at ∷ rest)
opened_at inner c input = inner 10 input >>= λ e. after_first_at inner c c.operation (e.0 ∷ []) e.1

-- a value that begins with `wi :: name (`
abbrev pub wide_value_at : Inner → Span → Option (Arithmetic × Span) → List Symbol → List Symbol → Read Value
wide_value_at inner at None rest input = plain_at inner input
wide_value_at inner at (Some op) rest input = opened_at inner (record { operation = op.0; wide = at; name = op.1 }) rest

-- a value of a `wide_int`
abbrev pub value_at : Inner → List Symbol → Read Value
value_at inner (symbols.Word words.Wide at ∷ symbols.Mark marks.DoubleColon colons ∷ t ∷ symbols.Mark marks.Open left ∷ rest) =
    wide_value_at inner at (arithmetic t) rest (symbols.Word words.Wide at ∷ symbols.Mark marks.DoubleColon colons ∷ t ∷ symbols.Mark marks.Open left ∷ rest)
value_at inner input = plain_at inner input

abbrev pub value_of_at : DeclWord → List Symbol → Read Value
value_of_at declared.WideInt input = value_at (readers (length input + 1)) input
value_of_at word input = plain_at (readers (length input + 1)) input

-- what stands after the word of a declaration
abbrev pub valued_at : DeclWord → List Symbol → Read Decl
valued_at word input = do
  name ← identifier_at input
  assign ← mark_at marks.Assign name.1
  v ← value_of_at word assign.1
  last ← mark_at marks.Semicolon v.1
  Ok (valued word name.0 v.0, last.1)

-- what stands after `wi` where a declaration begins
abbrev pub overflow_at : List Symbol → Read Decl
overflow_at input = do
  colons ← mark_at marks.DoubleColon input
  word ← word_at words.OverflowType colons.1
  name ← identifier_at word.1
  last ← mark_at marks.Semicolon name.1
  Ok (overflow name.0, last.1)

abbrev pub declared_at : Option DeclWord → List Symbol → List Symbol → Read Decl
declared_at None rest input = Err (CSyntax, input)
declared_at (Some word) rest input = valued_at word rest

abbrev pub decl_at : List Symbol → Read Decl
decl_at [] = Err (CSyntax, [])
decl_at (symbols.Word words.Wide at ∷ rest) = overflow_at rest
decl_at (t ∷ rest) = declared_at (decl_word t) rest (t ∷ rest)

-- a further declaration is looked for at every symbol but `}`
abbrev pub begins_decl : Symbol → Bool
begins_decl (symbols.Mark marks.CloseBrace at) = false
begins_decl symbol = true

abbrev pub block_at : List Symbol → Read (List Decl)
block_at input = more_at begins_decl decl_at [] input

-- every symbol but `}`: a further declaration may begin at it, well or wrongly
abbrev pub IsInBlock : Symbol → Type 0
IsInBlock t = begins_decl t ≡ true
