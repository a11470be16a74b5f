-- The fault of syntax, by the tokens before the first offending one and the tokens from it on.
use Rattle.std.specs.Prelude.{◌≡◌, ℕ, zero, suc, ◌-◌, Bool, true, false, if◌then◌else◌, Option, Some, None, List, [], ◌∷◌, Result, Ok, Err}
use Rattle.grammar.specs.Whole.{IsFirstFault}
use Rattle.gim_text.specs.Faults.{memory_fault, fault_at}
use Rattle.gim_text.specs.Meanings.{identifier, span_of}
use Rattle.pm_places.specs.declared.span.Span.{Span}
use Rattle.gim_text.specs.declared.token.Token.{Token}
use Rattle.gim_text.specs.declared.token.Token.TheVariants as tokens
use Rattle.gim_text.specs.declared.token.Mark.TheVariants as marks
use Rattle.gim_text.specs.declared.token.Keyword.TheVariants as keywords
use Rattle.gim_text.specs.declared.fault.GimpleFault.{GimpleFault}
use Rattle.gim_text.specs.declared.fault.GimpleKind.{GimpleKind}
use Rattle.gim_text.specs.declared.fault.GimpleKind.TheVariants.{Memory, Syntax, Unsupported}
use Rattle.gim_syntax.specs.Grammar.{SpellsFile}

-- the last token but one and the last, where these were before
abbrev pub last_two_after : Option Token → Option Token → List Token → Option Token × Option Token
last_two_after before last [] = (before, last)
last_two_after before last (t ∷ front) = last_two_after last (Some t) front

abbrev pub last_two : List Token → Option Token × Option Token
last_two front = last_two_after None None front

-- the last token, where this was the last before
abbrev pub last_after : Option Token → List Token → Option Token
last_after last [] = last
last_after last (t ∷ front) = last_after (Some t) front

-- how many parentheses are open at the end, where so many are open before
abbrev pub depth_after : ℕ → List Token → ℕ
depth_after depth [] = depth
depth_after depth (tokens.Mark marks.Open at ∷ front) = depth_after (suc depth) front
depth_after depth (tokens.Mark marks.Close at ∷ front) = depth_after (depth - 1) front
depth_after depth (t ∷ front) = depth_after depth front

-- the tokens outside parentheses, which are not counted themselves
abbrev pub outside_after : ℕ → List Token → List Token
outside_after depth [] = []
outside_after depth (tokens.Mark marks.Open at ∷ front) = outside_after (suc depth) front
outside_after depth (tokens.Mark marks.Close at ∷ front) = outside_after (depth - 1) front
outside_after zero (t ∷ front) = t ∷ outside_after zero front
outside_after (suc depth) (t ∷ front) = outside_after (suc depth) front

abbrev pub outside_parentheses : List Token → List Token
outside_parentheses front = outside_after zero front

-- after the head of a block, in the same body: of the `__BB` and `}` among these tokens the last is a `__BB`
abbrev pub block_after : Bool → List Token → Bool
block_after in_block [] = in_block
block_after in_block (tokens.Keyword keywords.Block at ∷ front) = block_after true front
block_after in_block (tokens.Mark marks.CloseBrace at ∷ front) = block_after false front
block_after in_block (t ∷ front) = block_after in_block front

abbrev pub is_in_block : List Token → Bool
is_in_block front = block_after false (outside_parentheses front)

-- the name before a `(`: an identifier that is not reserved
abbrev pub called : Option Token → Option Token → Option Span
called (Some name) (Some (tokens.Mark marks.Open at)) = identifier name
called before token = None

-- an identifier, reserved or not
abbrev pub any_word : Token → Option Span
any_word (tokens.TypeWord word at) = Some at
any_word (tokens.Keyword word at) = Some at
any_word (tokens.BlockWord at) = Some at
any_word (tokens.Ssa at) = Some at
any_word (tokens.Identifier at) = Some at
any_word token = None

-- the place of a `__GIMPLE`
abbrev pub gimple_of : Option Token → Option Span
gimple_of (Some (tokens.Keyword keywords.Gimple at)) = Some at
gimple_of token = None

-- some parenthesis is open
abbrev pub is_open : ℕ → Bool
is_open zero = false
is_open (suc depth) = true

-- the `__GIMPLE` of the list that the token closes, where it is the `)` of an option list
abbrev pub closed_options : List Token → Token → Option Span
closed_options front (tokens.Mark marks.Close at) =
    if is_open (depth_after 0 front) then gimple_of (last_after None (outside_parentheses front)) else None
closed_options front token = None

-- the first of two places
abbrev pub or_place : Option Span → Option Span → Option Span
or_place None second = second
or_place (Some at) second = Some at

-- the name of what is not supported: a name that a `(` follows, in a block also one that a `(` and the offending token
-- follow; any other identifier; the `__GIMPLE` of a list without `ssa`
abbrev pub unsupported : List Token → Token → Option Span
unsupported front token =
    let two = last_two front in
    or_place (called two.1 (Some token))
    (or_place (if is_in_block front then called two.0 two.1 else None)
    (or_place (any_word token) (closed_options front token)))

abbrev pub named_fault : Token → Option Span → GimpleFault
named_fault token None = fault_at Syntax (span_of token)
named_fault token (Some at) = fault_at Unsupported at

-- the fault at the first of `rest`, or at the end of the source where there is none
abbrev pub syntax_fault : ℕ → List Token → List Token → GimpleFault
syntax_fault source_len front [] = record { kind = Syntax; at = source_len; len = 0 }
syntax_fault source_len front (t ∷ rest) = named_fault t (unsupported front t)

-- The fault is that of the first offending token, or of the end.
pub record IsSyntaxFault (source_len : ℕ) (input : List Token) (fault : GimpleFault) : Type 0 where
  pub rest : List Token
  pub first : IsFirstFault SpellsFile input rest
  pub is : fault ≡ syntax_fault source_len first.front rest

-- the same, unless memory ran out
abbrev pub IsRefused : ℕ → List Token → GimpleFault → GimpleKind → Type 0
IsRefused source_len input fault Memory = fault ≡ memory_fault
IsRefused source_len input fault kind = IsSyntaxFault source_len input fault

-- this is what was read, unless memory ran out
abbrev pub ReadsOrMemory : {X : Type 0} → Result X GimpleFault → X → Type 0
ReadsOrMemory (Ok y) x = y ≡ x
ReadsOrMemory (Err fault) x = fault ≡ memory_fault
