-- The grammar of what stands in a block: which tokens spell which tree, a case for each line.
use Rattle.std.specs.Prelude.{◌≡◌, Bool, true, false, List, [], ◌∷◌, ◌++◌, Option, Some, None, ◌⊎◌}
use Rattle.grammar.specs.Spelling.{Meant, Many}
use Rattle.pm_ops.specs.declared.code.Code.{Code}
use Rattle.pm_ops.specs.declared.code.Code.TheVariants.{Negate}
use Rattle.gim_text.specs.Meanings.{mark, keyword, identifier, block_word, span_of}
use Rattle.pm_places.specs.declared.span.Span.{Span}
use Rattle.gim_text.specs.declared.token.Token.{Token}
use Rattle.gim_text.specs.declared.token.Token.TheVariants as tokens
use Rattle.gim_text.specs.declared.token.Keyword.{Keyword}
use Rattle.gim_text.specs.declared.token.Keyword.TheVariants as keywords
use Rattle.gim_text.specs.declared.token.Mark.{Mark}
use Rattle.gim_text.specs.declared.token.Mark.TheVariants as marks
use Rattle.gim_text.specs.declared.tree.LiteralType.{LiteralType}
use Rattle.gim_text.specs.declared.tree.LiteralType.TheVariants.{Written}
use Rattle.gim_text.specs.declared.tree.OperandText.{OperandText}
use Rattle.gim_text.specs.declared.tree.OperandText.TheVariants as operands
use Rattle.gim_text.specs.declared.tree.RightText.{RightText}
use Rattle.gim_text.specs.declared.tree.RightForm.{RightForm}
use Rattle.gim_text.specs.declared.tree.RightForm.TheVariants as forms
use Rattle.gim_text.specs.declared.tree.ArgText.{ArgText}
use Rattle.gim_text.specs.declared.tree.ItemText.{ItemText}
use Rattle.gim_text.specs.declared.tree.ItemText.TheVariants as items
use Rattle.gim_text.specs.declared.tree.EndText.{EndText}
use Rattle.gim_text.specs.declared.tree.EndText.TheVariants as ends
use Rattle.gim_text.specs.declared.tree.BlockText.{BlockText}
use Rattle.gim_words.specs.Types.{SpellsType}
use Rattle.gim_words.specs.Parentheses.{Closing}
use Rattle.gim_words.specs.Tokens.{plain_number}
use Rattle.gim_statements.specs.Words.{prefix_code, comparison_code, infix_code, call_code, literal_number}

-- one after the other
infixr 20 ◌▸◌
abbrev pub ◌▸◌ : (List Token → Type 0) → (List Token → Type 0) → List Token → Type 0
(first ▸ second) tokens = (u : List Token) × (v : List Token) × first u × second v × (tokens ≡ u ++ v)

-- this mark, and this reserved word, at any place
abbrev pub AMark : Mark → List Token → Type 0
AMark asked tokens = (at : Span) × Meant (mark asked) at tokens

abbrev pub AKeyword : Keyword → List Token → Type 0
AKeyword asked tokens = (at : Span) × Meant (keyword asked) at tokens

-- balanced ')'
abbrev pub ToClosing : List Token → Type 0
ToClosing tokens = (at : Span) × Closing at tokens

-- the first token stands here
abbrev pub BeginsAt : Span → List Token → Type 0
BeginsAt at [] = ⊥
BeginsAt at (t ∷ tokens) = span_of t ≡ at

-- with '-' before it, if it is negative
abbrev pub Signed : Bool → (List Token → Type 0) → List Token → Type 0
Signed true number = AMark marks.Minus ▸ number
Signed false number = number

-- number | '-' number | '_Literal' '(' type ')' number | '_Literal' '(' type ')' '-' number
abbrev pub SpellsConstant : LiteralType → Bool → Span → List Token → Type 0
SpellsConstant (Written t) negative number =
    AKeyword keywords.Literal ▸ AMark marks.Open ▸ SpellsType t ▸ AMark marks.Close ▸ Signed negative (Meant plain_number number)
SpellsConstant ty negative number = Signed negative (Meant literal_number (ty, number))

-- operand := name | name '(' 'D' ')' | a constant
abbrev pub SpellsOperand : OperandText → List Token → Type 0
SpellsOperand (operands.Name name) tokens = Meant identifier name tokens
SpellsOperand (operands.Default name) tokens = (Meant identifier name ▸ AMark marks.Open ▸ AKeyword keywords.Default ▸ AMark marks.Close) tokens
SpellsOperand (operands.Literal literal) tokens = BeginsAt literal.start tokens × SpellsConstant literal.ty literal.negative literal.number tokens

-- It does not begin with a number.
abbrev pub BeginsWithNoNumber : LiteralType → Bool → Type 0
BeginsWithNoNumber (Written t) negative = Unit {0}
BeginsWithNoNumber ty true = Unit {0}
BeginsWithNoNumber ty false = ⊥

-- A number right after `-` is a negative constant, so `-` does not negate it.
abbrev pub MayStandUnder : Code → OperandText → Type 0
MayStandUnder Negate (operands.Literal literal) = BeginsWithNoNumber literal.ty literal.negative
MayStandUnder op a = Unit {0}

abbrev pub SpellsForm : RightForm → List Token → Type 0
-- operand
SpellsForm (forms.Copy a) tokens = SpellsOperand a tokens
-- unop operand
SpellsForm (forms.Unary op a) tokens = MayStandUnder op a × (Meant prefix_code op ▸ SpellsOperand a) tokens
-- '(' type ')' operand
SpellsForm (forms.Cast t a) tokens = (AMark marks.Open ▸ SpellsType t ▸ AMark marks.Close ▸ SpellsOperand a) tokens
-- operand binop operand | '__MIN' '(' operand ',' operand ')' | '__MAX' '(' operand ',' operand ')'
SpellsForm (forms.Binary op a b) tokens =
    (SpellsOperand a ▸ Meant infix_code op ▸ SpellsOperand b) tokens
    ⊎ (Meant call_code op ▸ AMark marks.Open ▸ SpellsOperand a ▸ AMark marks.Comma ▸ SpellsOperand b ▸ AMark marks.Close) tokens
-- operand '?' operand ':' operand
SpellsForm (forms.Choice c a b) tokens = (SpellsOperand c ▸ AMark marks.Question ▸ SpellsOperand a ▸ AMark marks.Colon ▸ SpellsOperand b) tokens

-- rhs: one of these forms
abbrev pub SpellsRight : RightText → List Token → Type 0
SpellsRight right tokens = BeginsAt right.start tokens × SpellsForm right.form tokens

-- arg := '__BBn' ':' operand
abbrev pub SpellsArg : ArgText → List Token → Type 0
SpellsArg arg tokens = (Meant block_word arg.from ▸ AMark marks.Colon ▸ SpellsOperand arg.operand) tokens

-- ',' arg
abbrev pub SpellsFurtherArg : ArgText → List Token → Type 0
SpellsFurtherArg arg tokens = (AMark marks.Comma ▸ SpellsArg arg) tokens

-- arg (',' arg)*
abbrev pub SpellsArgs : List ArgText → List Token → Type 0
SpellsArgs [] tokens = ⊥
SpellsArgs (first ∷ others) tokens = (SpellsArg first ▸ Many SpellsFurtherArg others) tokens

-- item := name '=' '__PHI' '(' arg (',' arg)* ')' ';' | name '=' rhs ';'
abbrev pub SpellsItem : ItemText → List Token → Type 0
SpellsItem (items.Phi name args) tokens =
    (Meant identifier name ▸ AMark marks.Assign ▸ AKeyword keywords.Phi ▸ AMark marks.Open ▸ SpellsArgs args ▸ AMark marks.Close ▸ AMark marks.Semicolon) tokens
SpellsItem (items.Stmt name right) tokens = (Meant identifier name ▸ AMark marks.Assign ▸ SpellsRight right ▸ AMark marks.Semicolon) tokens

-- ';' | '(' balanced ')' ';'
abbrev pub SpellsJumpEnd : List Token → Type 0
SpellsJumpEnd tokens = AMark marks.Semicolon tokens ⊎ (AMark marks.Open ▸ ToClosing ▸ AMark marks.Semicolon) tokens

-- jump := 'goto' '__BBn' ';' | 'goto' '__BBn' '(' balanced ')' ';'
abbrev pub SpellsJump : Span → List Token → Type 0
SpellsJump target tokens = (AKeyword keywords.Goto ▸ Meant block_word target ▸ SpellsJumpEnd) tokens

-- end := jump | 'if' '(' operand cmp operand ')' jump 'else' jump | 'return' operand ';'
abbrev pub SpellsEnd : EndText → List Token → Type 0
SpellsEnd (ends.Goto target) tokens = SpellsJump target tokens
SpellsEnd (ends.If op a b target other) tokens =
    (AKeyword keywords.If ▸ AMark marks.Open ▸ SpellsOperand a ▸ Meant comparison_code op ▸ SpellsOperand b ▸ AMark marks.Close
    ▸ SpellsJump target ▸ AKeyword keywords.Else ▸ SpellsJump other) tokens
SpellsEnd (ends.Return a) tokens = (AKeyword keywords.Return ▸ SpellsOperand a ▸ AMark marks.Semicolon) tokens

-- end?
abbrev pub SpellsEndIfAny : Option EndText → List Token → Type 0
SpellsEndIfAny None tokens = tokens ≡ []
SpellsEndIfAny (Some end) tokens = SpellsEnd end tokens

-- note ')', where note := nothing | ',' balanced
abbrev pub SpellsNote : List Token → Type 0
SpellsNote tokens = AMark marks.Close tokens ⊎ (AMark marks.Comma ▸ ToClosing) tokens

-- block := '__BB' '(' number note ')' ':' item* end?
abbrev pub SpellsBlock : BlockText → List Token → Type 0
SpellsBlock block tokens =
    (Meant (keyword keywords.Block) block.head ▸ AMark marks.Open ▸ Meant plain_number block.number ▸ SpellsNote ▸ AMark marks.Colon
    ▸ Many SpellsItem block.items ▸ SpellsEndIfAny block.end) tokens

-- what can go on a block: a name begins a further item, `goto`, `if` and `return` an end
abbrev pub GoesOnBlock : Token → Type 0
GoesOnBlock (tokens.Identifier at) = Unit {0}
GoesOnBlock (tokens.Ssa at) = Unit {0}
GoesOnBlock (tokens.Keyword keywords.Goto at) = Unit {0}
GoesOnBlock (tokens.Keyword keywords.If at) = Unit {0}
GoesOnBlock (tokens.Keyword keywords.Return at) = Unit {0}
GoesOnBlock token = ⊥
