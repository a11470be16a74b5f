-- What is too deep or too long in a pattern file, and where first.
use Rattle.std.specs.Prelude.{◌≡◌, ℕ, suc, ◌+◌, ◌-◌, ◌<◌, nat_le, nat_lt, Bool, true, false, ◌&&◌, ◌||◌, if◌then◌else◌, List, [], ◌∷◌, take, drop, length, Option, Some, None, Result, Ok, Err}
use Rattle.grammar.specs.declared.stop.Fault.{Fault}
use Rattle.pm_ops.specs.declared.fault.PatternKind.{PatternKind}
use Rattle.pm_ops.specs.declared.fault.PatternKind.TheVariants.{TooDeep, TooManyTokens}
use Rattle.pd_text.specs.declared.symbol.Symbol.{Symbol}
use Rattle.pd_text.specs.declared.symbol.Symbol.TheVariants as symbols
use Rattle.pd_text.specs.declared.symbol.Mark.TheVariants as marks
use Rattle.pd_text.specs.declared.symbol.Word.TheVariants as words

-- parentheses and braces
abbrev pub opens : Symbol → Bool
opens (symbols.Mark marks.Open at) = true
opens (symbols.Mark marks.OpenBrace at) = true
opens symbol = false

abbrev pub closes : Symbol → Bool
closes (symbols.Mark marks.Close at) = true
closes (symbols.Mark marks.CloseBrace at) = true
closes symbol = false

-- how many are open after a symbol: one that closes closes the innermost of either kind, or is passed over
abbrev pub open_after : ℕ → Symbol → ℕ
open_after level symbol = if opens symbol then level + 1 else if closes symbol then level - 1 else level

abbrev pub open_from : ℕ → List Symbol → ℕ
open_from level [] = level
open_from level (t ∷ rest) = open_from (open_after level t) rest

-- how many are open before the place
abbrev pub open_before : List Symbol → ℕ → ℕ
open_before file at = open_from 0 (take at file)

-- how many tokens run from here to the one after which no more are open than before the first, or to the end, where so
-- many are open since then
abbrev pub tokens_to_close : ℕ → List Symbol → ℕ
tokens_to_close level [] = 0
tokens_to_close level (t ∷ rest) = if closes t && nat_le level 1 then 1 else suc (tokens_to_close (open_after level t) rest)

abbrev pub is_long : List Symbol → Bool
is_long form = nat_lt 1024 (tokens_to_close 0 form)

-- the `(` of a form that is counted
abbrev pub is_form : List Symbol → Bool
is_form (symbols.Mark marks.Open left ∷ symbols.Word words.Simplify at ∷ rest) = true
is_form (symbols.Mark marks.Open left ∷ symbols.Word words.Match at ∷ rest) = true
is_form input = false

-- `(if (`
abbrev pub is_if : List Symbol → Bool
is_if (symbols.Mark marks.Open left ∷ symbols.Word words.If at ∷ symbols.Mark marks.Open second ∷ rest) = true
is_if input = false

-- the `(` of a condition
abbrev pub is_condition : List Symbol → ℕ → Bool
is_condition file (suc (suc at)) = is_if (drop at file)
is_condition file at = false

-- the tokens from this place to what closes it are counted
abbrev pub is_counted : List Symbol → ℕ → Bool
is_counted file at = is_form (drop at file) || is_condition file at

-- the 65th that is open at once
abbrev pub opens_here : List Symbol → Bool
opens_here [] = false
opens_here (t ∷ rest) = opens t

abbrev pub is_too_deep : List Symbol → ℕ → Bool
is_too_deep file at = opens_here (drop at file) && nat_le 64 (open_before file at)

-- the rule that is broken at this place
abbrev pub fault_at : List Symbol → ℕ → Option PatternKind
fault_at file at =
    if is_too_deep file at then Some TooDeep
    else if is_counted file at && is_long (drop at file) then Some TooManyTokens
    else None

-- No rule is broken at a place before this one.
abbrev pub IsSoundBefore : List Symbol → ℕ → Type 0
IsSoundBefore file at = (k : ℕ) → k < at → fault_at file k ≡ None

-- This is the first place at which a rule is broken: what it is, and the symbols from there on.
pub record IsFirstBroken (file : List Symbol) (fault : Fault Symbol PatternKind) : Type 0 where
  pub at : ℕ
  pub from : fault.rest.now ≡ drop at file
  pub inside : at < length file
  pub broken : fault_at file at ≡ Some fault.kind
  pub first : IsSoundBefore file at

abbrev pub IsChecked : List Symbol → Result (Unit {0}) (Fault Symbol PatternKind) → Type 0
IsChecked file (Ok done) = IsSoundBefore file (length file)
IsChecked file (Err fault) = IsFirstBroken file fault
