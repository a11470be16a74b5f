-- `run G F V.. [--fuel N]`: a function of a GIMPLE file, run on values.
use Rattle.std.specs.Prelude.{◌≡◌, ℕ, ◌==◌, nat_le, not, bytes_eq, if◌then◌else◌, ◌&&◌, Bool, true, false, ℤ, Option, Some, None, List, [], ◌∷◌, ◌++◌, length, codes, Ok, Err}
use Rattle.std.specs.Fmt.{signed_decimal}
use Rattle.std.specs.List.{list_all}
use Rattle.pm_wide.specs.Types.{Word, value}
use Rattle.gim_ast.specs.declared.function.Function.{Function}
use Rattle.gim_ast.specs.declared.function.Decl.{Decl}
use Rattle.gim_ast.specs.Functions.{first_where}
use Rattle.lexing.specs.Numbers.{is_number_text, number_after}
use Rattle.gim_printer.specs.Printing.{assigned_text}
use Rattle.gim_ast.specs.Runs.{Outcome, Returned, Undefined, Running, run_of}
use Rattle.gim_text.specs.Literals.{signed, word_in}
use Rattle.match_top.specs.Answer.{Answer, refusal}
use Rattle.match_top.specs.Needs.{Need, functions_named}
use Rattle.match_top.specs.Options.{settings_in, number_or}
use Rattle.match_top.specs.Refusals.{line}
use Rattle.match_top.specs.Words.{is_name, positional}
use Rattle.match_top.specs.declared.options.Setting.{Setting}
use Rattle.match_top.specs.declared.options.Flag.{Flag}
use Rattle.match_top.specs.declared.options.Flag.TheVariants.{Fuel}
use Rattle.match_top.specs.declared.commands.run.Run.{Run}
use Rattle.match_top.specs.declared.status.Cause.TheVariants as causes
use Rattle.match_top.specs.declared.status.Status.{Status}
use Rattle.match_top.specs.declared.status.Status.TheVariants.{Done, Refused}

-- ---- its words

-- digits without a leading zero, 39 at most, which is enough for any word
abbrev pub is_size : List ℕ → Bool
is_size digits = is_number_text digits && nat_le (length digits) 39

-- a value: a number, with `-` before it if it is below 0
abbrev pub is_value : List ℕ → Bool
is_value [] = false
is_value (b ∷ rest) = if b == 45 then is_size rest && not (bytes_eq rest (codes "0")) else is_size (b ∷ rest)

abbrev pub run_flags : List Flag
run_flags = Fuel ∷ []

-- how many blocks a function may enter where the words don't say
abbrev pub default_fuel : ℕ
default_fuel = 1000000

abbrev pub run_from : Option (List Setting) → List (List ℕ) → Option Run
run_from (Some settings) (functions ∷ name ∷ values) =
    if is_name functions && (is_name name && list_all is_value values)
    then Some (record { functions = functions; name = name; values = values; fuel = number_or Fuel default_fuel settings }) else None
run_from settings words = None

abbrev pub run_of_words : List (List ℕ) → Option Run
run_of_words words = run_from (settings_in run_flags words) (positional words)

-- ---- its file and its work

abbrev pub run_needs : Run → List Need
run_needs command = functions_named command.functions

-- the number of a value
abbrev pub number_of_value : List ℕ → ℤ
number_of_value [] = signed false 0
number_of_value (b ∷ rest) = if b == 45 then signed true (number_after 0 rest) else signed false (number_after 0 (b ∷ rest))

abbrev pub and_arguments : Option Word → Option (List Word) → Option (List Word)
and_arguments (Some w) (Some words) = Some (w ∷ words)
and_arguments w words = None

-- a word for each parameter, where there are as many values and each is in the range of its parameter's type
abbrev pub arguments_of : List Decl → List (List ℕ) → Option (List Word)
arguments_of [] [] = Some []
arguments_of (decl ∷ decls) (v ∷ vs) = and_arguments (word_in decl.ty (number_of_value v)) (arguments_of decls vs)
arguments_of decls vs = None

-- the function of that name
abbrev pub is_named : List ℕ → Function → Bool
is_named name f = bytes_eq f.name name

abbrev pub function_named : List ℕ → List Function → Option Function
function_named name fs = first_where (is_named name) fs

-- the returned value, the name whose operation has no value, or that the fuel was spent
abbrev pub outcome_answer : Function → Outcome → Answer
outcome_answer f (Returned w) = Ok (record { exhausted = false; out = line (signed_decimal (value w)); report = [] })
outcome_answer f (Undefined x) = Err (refusal causes.Undefined (codes "undefined " ++ f.name ++ codes " " ++ assigned_text f x))
outcome_answer f Running = Err (refusal causes.OutOfFuel (codes "out of fuel"))

-- no function of that name, or values that don't suit its parameters
abbrev pub no_run : List ℕ → Answer
no_run name = Err (refusal causes.NoRun (codes "no run " ++ name))

abbrev pub run_answer : List ℕ → ℕ → Function → Option (List Word) → Answer
run_answer name fuel f None = no_run name
run_answer name fuel f (Some args) = outcome_answer f (run_of f args fuel)

abbrev pub ran_by : List ℕ → List (List ℕ) → ℕ → Option Function → Answer
ran_by name values fuel None = no_run name
ran_by name values fuel (Some f) = run_answer name fuel f (arguments_of f.params values)

unfoldable pub ran : Run → List Function → Answer
ran command fs = ran_by command.name command.values command.fuel (function_named command.name fs)

abbrev pub Runs : Run → List Function → Answer → Type 0
Runs command fs answer = answer ≡ ran command fs

-- how its work may end
abbrev pub run_ends : Status → Bool
run_ends Done = true
run_ends (Refused causes.Undefined) = true
run_ends (Refused causes.OutOfFuel) = true
run_ends (Refused causes.NoRun) = true
run_ends status = false
