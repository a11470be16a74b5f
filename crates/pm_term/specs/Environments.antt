-- The words of names, as a list of versions with their words.
use Rattle.std.specs.Prelude.{ℕ, ◌≡◌, ◌==◌, ◌&&◌, if◌then◌else◌, Option, Some, None, List, [], ◌∷◌, IsSome, unwrap_or, ⊤}
use Rattle.pm_wide.specs.Types.{Ty, Word, IsType, IsWord, same_type}
use Rattle.pm_term.specs.Trees.{Tree, name, constant, node, Trees, nil, cons}

-- the word of a name: that of the first pair with its version and its type
abbrev pub word_of_name : List (ℕ × Word) → ℕ → Ty → Option Word
word_of_name [] version ty = None
word_of_name (p ∷ ps) version ty = if p.0 == version && same_type p.1.ty ty then Some p.1 else word_of_name ps version ty

-- the same for every name, with 0 for a name that has no pair
abbrev pub assigned : List (ℕ × Word) → ℕ → Ty → Word
assigned words version ty = unwrap_or (word_of_name words version ty) (record { bits = 0; ty = ty })

-- each name has a word of its own type
abbrev pub GivesWords : (ℕ → Ty → Word) → Type 0
GivesWords words = (version : ℕ) (ty : Ty) → IsType ty → ((words version ty).ty ≡ ty) × IsWord (words version ty)

abbrev mutual
  -- each name of a tree has a pair
  pub HasNames : List (ℕ × Word) → Tree → Type 0
  HasNames words (name version ty) = IsSome (word_of_name words version ty)
  HasNames words (constant word) = ⊤
  HasNames words (node code ty args) = HaveNames words args

  pub HaveNames : List (ℕ × Word) → Trees → Type 0
  HaveNames words nil = ⊤
  HaveNames words (cons t ts) = HasNames words t × HaveNames words ts
