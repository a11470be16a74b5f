-- Longest match in GIMPLE text.
use Rattle.std.specs.Prelude.{ℕ, IsTrue, List, drop, codes}
use Rattle.lexing.specs.Longest as longest
use Rattle.lexing.specs.Separators.{opens}
use Rattle.gim_lexer.specs.Cuts.{gimple}
use Rattle.gim_lexer.specs.Spelled.{Spells}

-- the token that begins at one place reaches to another, or further
abbrev pub Covers : List ℕ → ℕ → ℕ → Type 0
Covers source from to = longest.Covers gimple source from to

abbrev pub OpensComment : List ℕ → ℕ → Type 0
OpensComment source at = IsTrue (opens (drop at source) (codes "/*"))

-- Where bytes spell a token, the token that begins with them has all of them, unless they begin with `/*`
abbrev pub IsLongestMatch : List ℕ → Type 0
IsLongestMatch source = longest.IsLongestMatch gimple Spells OpensComment source
