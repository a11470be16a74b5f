-- How numbers are written: digits, and a suffix of the letters `u` and `l`. Small and capital letters count alike.
use Rattle.std.specs.Prelude.{ℕ, unwrap_or, List, [], ◌∷◌, codes, if◌then◌else◌}
use Rattle.lexing.specs.Numbers.{is_number_text}
use Rattle.gim_text.specs.declared.token.NumberKind.{NumberKind}
use Rattle.gim_text.specs.declared.token.NumberKind.TheVariants.{Plain, Unsigned, Long, UnsignedLong, Wrong}
use Rattle.lexing.specs.Tables.{beside_in_any_case}

-- the suffixes that numbers may have, in small letters
abbrev pub suffixes : List (List ℕ × NumberKind)
suffixes = ([], Plain) ∷ (codes "u", Unsigned) ∷ (codes "l", Long) ∷ (codes "ll", Long)
    ∷ (codes "ul", UnsignedLong) ∷ (codes "ull", UnsignedLong) ∷ (codes "lu", UnsignedLong) ∷ (codes "llu", UnsignedLong) ∷ []

-- what a suffix says
abbrev pub suffix_kind : List ℕ → NumberKind
suffix_kind suffix = unwrap_or (beside_in_any_case suffix suffixes) Wrong

-- the kind of a number with these digits and this suffix
unfoldable pub number_kind : List ℕ → List ℕ → NumberKind
number_kind digits suffix = if is_number_text digits then suffix_kind suffix else Wrong
