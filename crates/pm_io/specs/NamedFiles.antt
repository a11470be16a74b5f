-- Files in memory, by name.
use Rattle.std.specs.Prelude.{ℕ, List, [], map, find, slice_get, Option, option_map, unwrap_or, bytes_eq, string_bytes, String, Vec}
use Rattle.std.specs.declared.alloc.Global.{Global}

-- a file: its name and its bytes
pub record NamedFile : Type 0 where
  pub name : List ℕ
  pub bytes : List ℕ

-- the pairs of a program, as files
abbrev pub files_of : List (String Global × Vec ℕ Global) → List NamedFile
files_of pairs = map (λ pair. record { name = string_bytes pair.0; bytes = pair.1.items }) pairs

-- the bytes of the first file of that name
abbrev pub file_named : List NamedFile → List ℕ → Option (List ℕ)
file_named files name = option_map (λ file. file.bytes) (find (λ file. bytes_eq file.name name) files)

-- the bytes of the file at that place
abbrev pub bytes_at : List (String Global × Vec ℕ Global) → ℕ → List ℕ
bytes_at pairs place = unwrap_or (option_map (λ pair. pair.1.items) (slice_get pairs place)) []

-- files, and what is left of the one that is begun, where one is
pub record OpenFiles : Type 0 where
  pub files : List NamedFile
  pub left : Option (List ℕ)
