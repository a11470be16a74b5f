-- Options: a table of names and greatest numbers, and what words say by them.
use Rattle.std.specs.Prelude.{ℕ, ◌+◌, ◌==◌, Bool, true, false, not, ◌&&◌, if◌then◌else◌, Option, Some, None, option_map, List, [], ◌∷◌, codes, bytes_eq}
use Rattle.std.specs.List.{list_any}
use Rattle.std.specs.Option.{option_map_or}
use Rattle.gim_ast.specs.Functions.{first_where}
use Rattle.lexing.specs.Numbers.{number_below}
use Rattle.match_top.specs.Words.{is_name, option_words, positional}
use Rattle.match_top.specs.declared.options.Flag.{Flag}
use Rattle.match_top.specs.declared.options.Flag.TheVariants.{Fuel}
use Rattle.match_top.specs.declared.options.Setting.{Setting}

-- ---- the table

abbrev pub flag_named : List ℕ → Option Flag
flag_named word = if bytes_eq word (codes "--fuel") then Some Fuel else None

-- the greatest number that an option takes; none for an option that takes no number
abbrev pub greatest_of : Flag → Option ℕ
greatest_of Fuel = Some 100000000

abbrev pub is_same : Flag → Flag → Bool
is_same Fuel Fuel = true

-- ---- what words say

abbrev pub and_setting : Option Setting → Option (List Setting) → Option (List Setting)
and_setting (Some setting) (Some settings) = Some (setting ∷ settings)
and_setting setting settings = None

abbrev pub with_number : Flag → ℕ → Setting
with_number flag number = record { flag = flag; number = number }

-- an option that stands alone; its number is 0
abbrev pub alone : Flag → Option ℕ → Option Setting
alone flag None = Some (with_number flag 0)
alone flag (Some greatest) = None

-- an option before a word: that word is its number, or the next option
abbrev pub before_word : Flag → Option ℕ → List ℕ → (next behind : Option (List Setting)) → Option (List Setting)
before_word flag None word next behind = and_setting (Some (with_number flag 0)) next
before_word flag (Some greatest) word next behind = and_setting (option_map (with_number flag) (number_below (greatest + 1) word)) behind

abbrev pub last_setting : Option Flag → Option (List Setting)
last_setting None = None
last_setting (Some flag) = and_setting (alone flag (greatest_of flag)) (Some [])

abbrev pub first_setting : Option Flag → List ℕ → (next behind : Option (List Setting)) → Option (List Setting)
first_setting None word next behind = None
first_setting (Some flag) word next behind = before_word flag (greatest_of flag) word next behind

-- the number of an option before these words, 0 where it takes none, and the words behind it
abbrev pub number_in : Option ℕ → List (List ℕ) → Option (ℕ × List (List ℕ))
number_in None words = Some (0, words)
number_in (Some greatest) [] = None
number_in (Some greatest) (word ∷ behind) = option_map (λ number. (number, behind)) (number_below (greatest + 1) word)

-- the settings that words say, one behind the other
abbrev pub settings_of : List (List ℕ) → Option (List Setting)
settings_of [] = Some []
settings_of (option ∷ []) = last_setting (flag_named option)
settings_of (option ∷ word ∷ rest) = first_setting (flag_named option) word (settings_of (word ∷ rest)) (settings_of rest)

-- ---- which a command takes

abbrev pub is_set : Flag → List Setting → Bool
is_set flag settings = list_any (λ (setting : Setting). is_same setting.flag flag) settings

-- each is allowed, and none stands twice
abbrev pub suit : List Flag → List Setting → Bool
suit allowed [] = true
suit allowed (setting ∷ more) = list_any (λ flag. is_same flag setting.flag) allowed && (not (is_set setting.flag more) && suit allowed more)

abbrev pub if_suited : List Flag → Option (List Setting) → Option (List Setting)
if_suited allowed None = None
if_suited allowed (Some settings) = if suit allowed settings then Some settings else None

-- the settings of a command line whose command takes these options
abbrev pub settings_in : List Flag → List (List ℕ) → Option (List Setting)
settings_in allowed words = if_suited allowed (settings_of (option_words words))

-- the number of an option, or another where it isn't set
abbrev pub number_or : Flag → ℕ → List Setting → ℕ
number_or flag other settings =
    option_map_or (λ (setting : Setting). setting.number) (first_where (λ (setting : Setting). is_same setting.flag flag) settings) other

-- ---- commands of one file and no options

abbrev pub file_from : Option (List Setting) → List (List ℕ) → Option (List ℕ)
file_from (Some settings) (name ∷ []) = if is_name name then Some name else None
file_from settings words = None

-- the name of the file
abbrev pub file_named : List (List ℕ) → Option (List ℕ)
file_named words = file_from (settings_in [] words) (positional words)
