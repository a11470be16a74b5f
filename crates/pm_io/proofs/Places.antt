-- The place of the first file of a name.
use Rattle.std.proofs.Common.{◌≡◌, ℕ, Bool, true, false, cond, List, [], ◌∷◌, length, Option, None, Some, refl, ap, ◌∙◌, sym, arith, String, Vec, inl, inr}
use Rattle.std.specs.Prelude.{option_map, slice_get, bytes_eq, string_bytes, find, position, nat_lt}
use Rattle.std.specs.List.{position_or_len}
use Rattle.std.specs.declared.alloc.Global.{Global}
use Rattle.std.proofs.lemmas.Bool.Decides.{nat_tests}
use Rattle.std.proofs.lemmas.List.Folds.{find_at}
use Rattle.std.proofs.lemmas.Option.{slice_get_cases}
use Rattle.pm_io.specs.NamedFiles.{NamedFile, files_of, file_named, bytes_at}

-- whether a pair has that name
abbrev pub is_named : List ℕ → String Global × Vec ℕ Global → Bool
is_named name pair = bytes_eq (string_bytes pair.0) name

-- the bytes of the pair that is found first
abbrev pub bytes_found : List (String Global × Vec ℕ Global) → List ℕ → Option (List ℕ)
bytes_found pairs name = option_map (λ pair. pair.1.items) (find (is_named name) pairs)

-- a file is found by name among the files as its pair is among the pairs
pub file_named-files_of : (pairs : List (String Global × Vec ℕ Global)) (name : List ℕ) → file_named (files_of pairs) name ≡ bytes_found pairs name
file_named-files_of [] name = refl
file_named-files_of (pair ∷ pairs) name =
    elim (bytes_eq (string_bytes pair.0) name) as (λ b. option_map (λ (file : NamedFile). file.bytes) (cond b (Some (record { name = string_bytes pair.0; bytes = pair.1.items })) (find (λ file. bytes_eq file.name name) (files_of pairs))) ≡ option_map (λ (pair : String Global × Vec ℕ Global). pair.1.items) (cond b (Some pair) (find (is_named name) pairs)))
    [ true ↦ refl | false ↦ file_named-files_of pairs name ]

-- the pair at a place, if there is one
at_place : (pairs : List (String Global × Vec ℕ Global)) (place : ℕ) → option_map (λ pair. pair.1.items) (slice_get pairs place) ≡ option_map (bytes_at pairs) (cond (nat_lt place (length pairs)) (Some place) None)
at_place pairs place = elim (slice_get_cases pairs place).1 [ inl h ↦ grind (arith, nat_tests) | inr h ↦ grind (arith, nat_tests) ]

pub file_named-position : (pairs : List (String Global × Vec ℕ Global)) (name : List ℕ) (place : Option ℕ) → place ≡ position (is_named name) pairs → file_named (files_of pairs) name ≡ option_map (bytes_at pairs) place
file_named-position pairs name place is_place =
    file_named-files_of pairs name ∙ ap (option_map (λ pair. pair.1.items)) (find_at (is_named name) pairs)
    ∙ at_place pairs (position_or_len (is_named name) pairs) ∙ ap (option_map (bytes_at pairs)) (sym is_place)
