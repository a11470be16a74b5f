-- The lines of the report.
use Rattle.std.specs.Prelude.{ℕ, ◌-◌, if◌then◌else◌, List, [], ◌++◌, codes, decimal, slice_get}
use Rattle.std.specs.List.{flat_map}
use Rattle.std.specs.Option.{option_map_or}
use Rattle.gim_printer.specs.Printing.{name_text}
use Rattle.first_patterns.specs.Subjects.{Site, AtStmt, AtCond}
use Rattle.first_rewriting.specs.Rewriting.{What, IsCopy, IsSwap, IsFold, IsRow, Firing, Rewritten}
use Rattle.first_patterns.specs.declared.row.Row.{Row}
use Rattle.pm_places.specs.Places.{line_of, column_of}
use Rattle.match_top.specs.Refusals.{line}

-- the subject: a name as it is printed, or the block whose condition it is
abbrev pub site_text : Site → List ℕ → List ℕ
site_text (AtStmt x) base = name_text base x
site_text (AtCond n) base = codes "__BB" ++ decimal n

-- where the pattern of a row begins in its file
abbrev pub place_of_row : List ℕ → Row → List ℕ
place_of_row source row = decimal (line_of source row.at) ++ codes ":" ++ decimal (column_of source row.at)

-- rows are numbered from 1
abbrev pub place_text : List ℕ → List Row → ℕ → List ℕ
place_text source rows n = option_map_or (place_of_row source) (slice_get rows (n - 1)) []

abbrev pub row_text : List ℕ → List Row → ℕ → List ℕ
row_text source rows n = place_text source rows n ++ codes "#" ++ decimal n

-- why the step was made; the `-` stands where checked mode names a method
abbrev pub what_text : List ℕ → List Row → What → List ℕ
what_text source rows IsCopy = codes "copy"
what_text source rows IsSwap = codes "swap"
what_text source rows IsFold = codes "fold"
what_text source rows (IsRow n) = row_text source rows n ++ codes " -"

abbrev pub firing_line : List ℕ → List Row → List ℕ → Firing → List ℕ
firing_line source rows name firing = line (name ++ codes ": " ++ site_text firing.site firing.base ++ codes " " ++ what_text source rows firing.what)

-- a line for each step, and one where the budget was spent
abbrev pub report_of : List ℕ → List Row → List ℕ → Rewritten → List ℕ
report_of source rows name r = flat_map (firing_line source rows name) r.firings ++ (if r.exhausted then line (name ++ codes ": budget") else [])
