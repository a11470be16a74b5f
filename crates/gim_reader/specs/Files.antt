-- What the bytes of a GIMPLE file stand for, and its first fault.
use Rattle.std.specs.Prelude.{◌≡◌, ℕ, ◌<◌, ◌≤◌, Option, Some, None, List, length}
use Rattle.std.specs.List.{AllZip}
use Rattle.gim_ast.specs.declared.function.Function.{Function}
use Rattle.gim_text.specs.declared.fault.GimpleFault.{GimpleFault}
use Rattle.gim_text.specs.declared.fault.GimpleKind.TheVariants.{Memory, TooLarge}
use Rattle.gim_text.specs.declared.token.Token.{Token}
use Rattle.gim_text.specs.declared.tree.FunctionText.{FunctionText}
use Rattle.pm_places.specs.FirstFaults.{or_fault}
use Rattle.gim_lexer.specs.Cuts.{AreTokens, IsLexFault}
use Rattle.gim_lexer.specs.Faults.{lex_fault}
use Rattle.gim_syntax.specs.Grammar.{SpellsFile}
use Rattle.gim_syntax.specs.SyntaxFaults.{IsSyntaxFault}
use Rattle.gim_names.specs.NamesFault.{names_fault}
use Rattle.gim_shape.specs.Shape.{shape_fault}
use Rattle.gim_typing.specs.Types.{types_fault}
use Rattle.gim_limits.specs.Limits.{limits_fault}
use Rattle.gim_making.specs.Standing.{StandsFor}
use Rattle.gim_reader.specs.declared.TheConstants.{FILE_LIMIT}

-- the first fault against the rules on names, shape, types and limits: each is looked for in the whole file before the next
unfoldable pub rules_fault : List ℕ → List FunctionText → Option GimpleFault
rules_fault source trees =
    or_fault (names_fault source trees) (or_fault (shape_fault source trees)
    (or_fault (types_fault source trees) (limits_fault source trees)))

-- The tokens spell trees that keep all rules, and each function is what its tree stands for.
pub record FromTokens (source : List ℕ) (tokens : List Token) (fs : List Function) : Type 0 where
  pub trees : List FunctionText
  pub spelled : SpellsFile trees tokens
  pub kept : rules_fault source trees ≡ None
  pub stand : AllZip (StandsFor source) trees fs

-- The bytes stand for these functions.
pub record IsFile (source : List ℕ) (fs : List Function) : Type 0 where
  pub within : length source ≤ FILE_LIMIT
  pub tokens : List Token
  pub are_tokens : AreTokens source tokens
  pub from_tokens : FromTokens source tokens fs

-- the file has too many bytes
abbrev pub size_fault : GimpleFault
size_fault = record { kind = TooLarge; at = 0; len = 0 }

-- the first fault of tokens: the first offending one, or else the first place at which a rule is broken
pub data IsTokensFault (source : List ℕ) (tokens : List Token) (fault : GimpleFault) : Type 0 where
  of_syntax : IsSyntaxFault (length source) tokens fault → IsTokensFault source tokens fault
  of_rules : (trees : List FunctionText) → SpellsFile trees tokens → rules_fault source trees ≡ Some fault
      → IsTokensFault source tokens fault

-- The first fault of a file: its size, a place where no token begins, or that of its tokens. Each stage comes only where those before
-- it find nothing.
pub data IsFileFault (source : List ℕ) (fault : GimpleFault) : Type 0 where
  of_size : FILE_LIMIT < length source → fault ≡ size_fault → IsFileFault source fault
  of_lexing : length source ≤ FILE_LIMIT → IsLexFault source fault.at → fault ≡ lex_fault fault.at → IsFileFault source fault
  of_tokens : length source ≤ FILE_LIMIT → (tokens : List Token) → AreTokens source tokens
      → IsTokensFault source tokens fault → IsFileFault source fault

-- why a file isn't read: want of memory, or its first fault
pub data IsRefusal (source : List ℕ) (fault : GimpleFault) : Type 0 where
  by_memory : fault.kind ≡ Memory → IsRefusal source fault
  by_fault : IsFileFault source fault → IsRefusal source fault

pub data IsTokensRefusal (source : List ℕ) (tokens : List Token) (fault : GimpleFault) : Type 0 where
  tokens_by_memory : fault.kind ≡ Memory → IsTokensRefusal source tokens fault
  tokens_by_fault : IsTokensFault source tokens fault → IsTokensRefusal source tokens fault
