-- The table of right sides: the places of statements in buckets. Any number of a right side will do
-- for its bucket, as equal right sides then are in one.
use Rattle.std.specs.Prelude.{ℕ, ◌+◌, ◌*◌, ◌%◌, ◌<◌, ◌==◌, Bool, List, [], ◌∷◌, length, filter, slice_index_or}
use Rattle.pm_wide.specs.declared.operand.Operand.{Operand}
use Rattle.pm_wide.specs.declared.operand.Operand.TheVariants.{Name, Const}
use Rattle.gim_ast.specs.declared.function.Function.{Function}
use Rattle.gim_ast.specs.declared.function.Rhs.{Rhs}
use Rattle.gim_ast.specs.Functions.{operands_of_rhs}
use Rattle.value_numbers.specs.declared.places.Place.{Place}
use Rattle.value_numbers.specs.Spots.{Spot, ArePlaces}

abbrev pub number_of : Operand → ℕ
number_of (Name version ty) = version
number_of (Const word) = word.bits % 4294967296

abbrev pub digest_from : ℕ → List Operand → ℕ
digest_from digest [] = digest
digest_from digest (a ∷ operands) = digest_from ((digest * 1000003 + number_of a) % 4294967296) operands

-- the bucket of a right side, of so many
abbrev pub bucket_number : ℕ → Rhs → ℕ
bucket_number count rhs = digest_from 0 (operands_of_rhs rhs) % count

-- the right side of the statement is in this bucket, of so many
abbrev pub is_in_bucket : ℕ → ℕ → Spot → Bool
is_in_bucket count b spot = bucket_number count spot.stmt.rhs == b

-- each bucket has the places of those of these statements whose right sides are in it
abbrev pub AreBuckets : Function → List Spot → List (List Place) → Type 0
AreBuckets f spots buckets = (b : ℕ) → b < length buckets →
    ArePlaces f (slice_index_or buckets b []) (filter (is_in_bucket (length buckets) b) spots)
