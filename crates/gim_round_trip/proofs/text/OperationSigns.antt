-- The signs of operations between two operands.
use Rattle.std.proofs.Common.{◌≡◌, ℕ, Bool, true, Option, Some, List, ◌++◌, length, codes, refl}
use Rattle.std.proofs.lemmas.Bool.{false≢true}
use Rattle.pm_ops.specs.declared.code.Code.{Code}
use Rattle.pm_ops.specs.declared.code.Code.TheVariants as operations
use Rattle.pm_ops.specs.Codes.{is_comparison_code}
use Rattle.gim_printer.specs.Printing.{sign_text}
use Rattle.gim_text.specs.declared.token.Mark.{Mark}
use Rattle.gim_text.specs.declared.token.Mark.TheVariants as marks
use Rattle.pm_places.specs.declared.span.Span.{Span}
use Rattle.gim_text.specs.declared.token.Token.{Token}
use Rattle.gim_text.specs.declared.token.Token.TheVariants as tokens
use Rattle.pm_places.specs.Spans.{place}
use Rattle.grammar.specs.Spelling.{Meant}
use Rattle.gim_statements.specs.Words.{comparison_code, infix_code}
use Rattle.gim_round_trip.proofs.text.Prints.{Prints, any_end, blanks_before, blanks_after}
use Rattle.gim_round_trip.proofs.text.Marks.{IsSpacedMark, one_byte, two_bytes, spaced, less_mark}
use Rattle.gim_round_trip.proofs.text.Marks.{greater_mark, slash_mark, spaced_mark_prints}

-- what stands between two operands
abbrev pub is_infix : Code → Bool
is_infix operations.Plus = true
is_infix operations.Minus = true
is_infix operations.Mult = true
is_infix operations.TruncDiv = true
is_infix operations.TruncMod = true
is_infix operations.BitAnd = true
is_infix operations.BitIor = true
is_infix operations.BitXor = true
is_infix operations.Lshift = true
is_infix operations.Rshift = true
is_infix code = is_comparison_code code

abbrev sign_mark : Code → Mark
sign_mark operations.Plus = marks.Plus
sign_mark operations.Minus = marks.Minus
sign_mark operations.Mult = marks.Star
sign_mark operations.TruncDiv = marks.Slash
sign_mark operations.TruncMod = marks.Percent
sign_mark operations.BitAnd = marks.Ampersand
sign_mark operations.BitIor = marks.Bar
sign_mark operations.BitXor = marks.Caret
sign_mark operations.Lshift = marks.ShiftLeft
sign_mark operations.Rshift = marks.ShiftRight
sign_mark operations.Eq = marks.Equal
sign_mark operations.Ne = marks.NotEqual
sign_mark operations.Lt = marks.Less
sign_mark operations.Le = marks.LessEqual
sign_mark operations.Gt = marks.Greater
sign_mark code = marks.GreaterEqual

-- a sign is a mark
sign_spaced : (code : Code) → is_infix code ≡ true → IsSpacedMark (sign_text code) (sign_mark code)
unfolding sign_text
sign_spaced operations.Plus h = spaced (codes "+") marks.Plus (one_byte 43 marks.Plus refl refl (λ b. refl))
sign_spaced operations.Minus h = spaced (codes "-") marks.Minus (one_byte 45 marks.Minus refl refl (λ b. refl))
sign_spaced operations.Mult h = spaced (codes "*") marks.Star (one_byte 42 marks.Star refl refl (λ b. refl))
sign_spaced operations.TruncDiv h = slash_mark
sign_spaced operations.TruncMod h = spaced (codes "%") marks.Percent (one_byte 37 marks.Percent refl refl (λ b. refl))
sign_spaced operations.BitAnd h = spaced (codes "&") marks.Ampersand (one_byte 38 marks.Ampersand refl refl (λ b. refl))
sign_spaced operations.BitIor h = spaced (codes "|") marks.Bar (one_byte 124 marks.Bar refl refl (λ b. refl))
sign_spaced operations.BitXor h = spaced (codes "^") marks.Caret (one_byte 94 marks.Caret refl refl (λ b. refl))
sign_spaced operations.Lshift h = spaced (codes "<<") marks.ShiftLeft (two_bytes 60 60 marks.ShiftLeft refl refl)
sign_spaced operations.Rshift h = spaced (codes ">>") marks.ShiftRight (two_bytes 62 62 marks.ShiftRight refl refl)
sign_spaced operations.Eq h = spaced (codes "==") marks.Equal (two_bytes 61 61 marks.Equal refl refl)
sign_spaced operations.Ne h = spaced (codes "!=") marks.NotEqual (two_bytes 33 61 marks.NotEqual refl refl)
sign_spaced operations.Lt h = less_mark
sign_spaced operations.Le h = spaced (codes "<=") marks.LessEqual (two_bytes 60 61 marks.LessEqual refl refl)
sign_spaced operations.Gt h = greater_mark
sign_spaced operations.Ge h = spaced (codes ">=") marks.GreaterEqual (two_bytes 62 61 marks.GreaterEqual refl refl)
sign_spaced code h = absurd (false≢true h)

sign_means : (code : Code) (span : Span) → is_infix code ≡ true → infix_code (tokens.Mark (sign_mark code) span) ≡ Some code
sign_means operations.Plus span h = cc
sign_means code span h = cc

comparison_means : (code : Code) (span : Span) → is_comparison_code code ≡ true
    → comparison_code (tokens.Mark (sign_mark code) span) ≡ Some code
comparison_means operations.Eq span h = cc
comparison_means code span h = cc

pub comparison_is_infix : (code : Code) → is_comparison_code code ≡ true → is_infix code ≡ true
comparison_is_infix operations.Eq h = cc
comparison_is_infix code h = cc

-- a sign with a blank on both sides, by what its token means
sign_between : (source : List ℕ) (meaning : Token → Option Code) (code : Code) → is_infix code ≡ true
    → ((span : Span) → meaning (tokens.Mark (sign_mark code) span) ≡ Some code)
    → Prints source any_end (λ (u : Unit {0}). Meant meaning code) (λ u. Unit {0}) (codes " " ++ sign_text code ++ codes " ")
sign_between source meaning code h means =
    let sign = sign_text code in
    blanks_after (codes " ") refl (λ rest. refl) (blanks_before (codes " ") refl
    (spaced_mark_prints source sign (sign_mark code) (λ at. tt) (sign_spaced code h)
    (λ at. (tokens.Mark (sign_mark code) (place at (length sign)), means (place at (length sign)), refl)) (λ at e. tt)))

pub sign_prints : (source : List ℕ) (code : Code) → is_infix code ≡ true
    → Prints source any_end (λ (u : Unit {0}). Meant infix_code code) (λ u. Unit {0})
    (codes " " ++ sign_text code ++ codes " ")
sign_prints source code h = sign_between source infix_code code h (λ span. sign_means code span h)

pub comparison_prints : (source : List ℕ) (code : Code) → is_comparison_code code ≡ true
    → Prints source any_end (λ (u : Unit {0}). Meant comparison_code code) (λ u. Unit {0})
    (codes " " ++ sign_text code ++ codes " ")
comparison_prints source code h =
    sign_between source comparison_code code (comparison_is_infix code h) (λ span. comparison_means code span h)
