-- What an answer for a whole file says of the rows that the file spells.
use Rattle.std.proofs.Common.{◌≡◌, ℕ, List, Result, Ok, Err, refl, sym, ap, ◌∙◌, inl, inr}
use Rattle.std.specs.Prelude.{◌⊎◌, IfOk}
use Rattle.first_patterns.specs.declared.fault.ReadFault.{ReadFault}
use Rattle.first_patterns.specs.declared.fault.ReadFault.TheVariants.{NotFirst, Memory}
use Rattle.first_patterns.specs.declared.row.Row.{Row}
use Rattle.first_patterns.specs.FirstForm.{SpellsFile}
use Rattle.first_patterns.specs.Reading.{AnswersRows, rows_of}
use Rattle.first_patterns.proofs.TokenLemmas.{some_is}
use Rattle.first_patterns.proofs.RowsLemmas.{file_is_spelled, spelled_is_read}

pub is_found : (source : List ℕ) (r : Result (List Row) ReadFault) → AnswersRows r (rows_of source) → IfOk r (λ rows. SpellsFile rows source)
is_found source (Ok rows) answer = file_is_spelled source rows answer
is_found source (Err fault) answer = tt

pub is_only : (source : List ℕ) (r : Result (List Row) ReadFault) → AnswersRows r (rows_of source) → (rows : List Row) → SpellsFile rows source → (r ≡ Ok rows) ⊎ (r ≡ Err Memory)
is_only source (Ok others) answer rows spells = inl (ap (λ (rs : List Row). Ok rs) (some_is others rows (sym answer ∙ spelled_is_read source rows spells)))
is_only source (Err NotFirst) answer rows spells = absurd (let read = spelled_is_read source rows spells in cc)
is_only source (Err Memory) answer rows spells = inr refl

pub is_refused : (source : List ℕ) (r : Result (List Row) ReadFault) → AnswersRows r (rows_of source) → r ≡ Err NotFirst → (rows : List Row) → SpellsFile rows source → ⊥
is_refused source (Ok others) answer refused rows spells = absurd cc
is_refused source (Err NotFirst) answer refused rows spells = let read = spelled_is_read source rows spells in cc
is_refused source (Err Memory) answer refused rows spells = absurd cc
