-- What the tables hold by which blocks, jumps and versions are looked up.
use denote.Ref.{Bor}
use Rattle.std.specs.Prelude.{◌≡◌, ℕ, Bool, List, [], Vec}
use Rattle.std.specs.Option.{option_map_or}
use Rattle.std.specs.Str.{bytes_eq}
use Rattle.std.specs.HashSet.{HashSet, contains_by}
use Rattle.std.specs.HashMap.{HashMap, get_by}
use Rattle.pm_places.specs.declared.span.Span.{Span}
use Rattle.gim_text.specs.declared.tree.BlockText.{BlockText}
use Rattle.gim_shape.specs.declared.blocks.Tables.{Tables}
use Rattle.gim_shape.specs.Blocks.{is_among, numbers_of, predecessors}

-- whether the set has a text
abbrev pub has_text : {S : Type 0} → HashSet (Bor (List ℕ)) S → List ℕ → Bool
has_text set text = contains_by (λ k. bytes_eq text k.now) set

-- the set has these texts and no others
abbrev pub HasTexts : {S : Type 0} → HashSet (Bor (List ℕ)) S → List (List ℕ) → Type 0
HasTexts set texts = (text : List ℕ) → has_text set text ≡ is_among texts text

-- the places that the table has for a text
abbrev pub places_for : {A S : Type 0} → HashMap (Bor (List ℕ)) (Vec Span A) S → List ℕ → List Span
places_for table text = option_map_or (λ v. v.items) (get_by (λ k. bytes_eq text k.now) table) []

-- the tables of these blocks
pub record AreTables (source : List ℕ) (blocks : List BlockText) (tables : Tables) : Type 0 where
  pub numbers : has_text tables.numbers ≡ is_among (numbers_of source blocks)
  pub jumps : places_for tables.jumps ≡ predecessors source blocks
