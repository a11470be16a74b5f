-- `simplify P G`: the function of one file, rewritten by the rows of the other.
use Rattle.std.specs.Prelude.{◌≡◌, ℕ, Bool, true, false, if◌then◌else◌, ◌&&◌, Option, Some, None, List, [], ◌∷◌, Ok}
use Rattle.gim_ast.specs.declared.function.Function.{Function}
use Rattle.gim_printer.specs.Printing.{text}
use Rattle.first_rewriting.specs.Rewriting.{Rewritten, rewriting_of}
use Rattle.first_patterns.specs.Matching.{row_at}
use Rattle.match_top.specs.Answer.{Answer}
use Rattle.match_top.specs.Needs.{Need}
use Rattle.match_top.specs.Options.{settings_in}
use Rattle.match_top.specs.Report.{report_of}
use Rattle.match_top.specs.Words.{is_name, positional}
use Rattle.match_top.specs.declared.options.Setting.{Setting}
use Rattle.match_top.specs.declared.answer.Output.{Output}
use Rattle.match_top.specs.declared.needs.Kind.TheVariants.{Patterns, FirstForm}
use Rattle.match_top.specs.declared.patterns.PatternFile.{PatternFile}
use Rattle.match_top.specs.declared.commands.simplify.Simplify.{Simplify}
use Rattle.match_top.specs.declared.status.Status.{Status}
use Rattle.match_top.specs.declared.status.Status.TheVariants.{Done, Exhausted}

-- ---- its words

abbrev pub simplify_from : Option (List Setting) → List (List ℕ) → Option Simplify
simplify_from (Some settings) (patterns ∷ functions ∷ []) =
    if is_name patterns && is_name functions then Some (record { patterns = patterns; functions = functions }) else None
simplify_from settings words = None

abbrev pub simplify_of : List (List ℕ) → Option Simplify
simplify_of words = simplify_from (settings_in [] words) (positional words)

-- ---- its files and its work

abbrev pub simplify_needs : Simplify → List Need
simplify_needs command = record { kind = Patterns; name = command.patterns } ∷ record { kind = FirstForm; name = command.functions } ∷ []

-- how many steps a function may take
abbrev pub budget : ℕ
budget = 10000

-- The function of the rewriting, and a report line for each of its steps.
abbrev pub written : PatternFile → List ℕ → Rewritten → Output
written file name done = record {
  exhausted = done.exhausted;
  out = text (done.function ∷ []);
  report = report_of file.source file.rows name done;
}

unfoldable pub simplified : PatternFile → Function → Answer
simplified file f = Ok (written file f.name (rewriting_of (row_at file.rows) budget f))

abbrev pub Simplifies : PatternFile → Function → Answer → Type 0
Simplifies file f answer = answer ≡ simplified file f

-- how its work may end
abbrev pub simplify_ends : Status → Bool
simplify_ends Done = true
simplify_ends Exhausted = true
simplify_ends status = false
