-- What the stages of reading say together.
use Rattle.std.proofs.Common.{◌≡◌, ℕ, ◌≤◌, List, Option, Some, None, Result, Ok, Err, Vec}
use Rattle.std.proofs.Common.{IfOk, IfErr, length, refl, sym, ap, subst, ◌∙◌, arith}
use Rattle.std.specs.Prelude.{MatchResult}
use Rattle.std.specs.declared.alloc.Global.{Global}
use Rattle.std.specs.List.{AllByRecursion, AllZip}
use Rattle.gim_ast.specs.declared.function.Function.{Function}
use Rattle.gim_text.specs.declared.fault.GimpleFault.{GimpleFault}
use Rattle.gim_text.specs.declared.fault.GimpleKind.{GimpleKind}
use Rattle.gim_text.specs.declared.fault.GimpleKind.TheVariants as kinds
use Rattle.gim_text.specs.declared.token.Token.{Token}
use Rattle.gim_text.specs.declared.tree.FunctionText.{FunctionText}
use Rattle.gim_text.specs.Faults.{IsFault}
use Rattle.gim_lexer.specs.Cuts.{AreTokens}
use Rattle.gim_lexer.specs.Faults.{IsCauseOf}
use Rattle.gim_syntax.specs.Grammar.{SpellsFile}
use Rattle.gim_syntax.specs.SyntaxFaults.{IsRefused}
use Rattle.gim_making.specs.Standing.{StandsFor}
use Rattle.gim_ast.specs.WellFormed.{IsWellFormed}
use Rattle.gim_text.specs.Faults.{Judges}
use Rattle.pm_places.specs.FirstFaults.{or_fault}
use Rattle.gim_names.specs.NamesFault.{names_fault}
use Rattle.gim_shape.specs.Shape.{shape_fault}
use Rattle.gim_limits.specs.Limits.{limits_fault}
use Rattle.gim_typing.specs.Types.{types_fault}
use Rattle.gim_making.specs.SoundFiles.{IsSound}
use Rattle.gim_making.proofs.SoundFunctions.{sound_files}
use Rattle.gim_lexer.proofs.NumberTexts.{tokens_mean}
use Rattle.gim_lexer.proofs.Cutting.{tokens_in_order, tokens_stand}
use Rattle.gim_reader.specs.declared.TheConstants.{FILE_LIMIT}
use Rattle.gim_reader.proofs.OneFile.{stand_once}
use Rattle.gim_reader.proofs.WrittenTrees.{few_tokens, all_sure, IsKnown, file_known, file_written}
use Rattle.gim_reader.specs.Files.{rules_fault, FromTokens, of_syntax, of_rules, of_lexing, of_tokens, IsRefusal}
use Rattle.gim_reader.specs.Files.{by_memory, by_fault, IsTokensRefusal, tokens_by_memory, tokens_by_fault}

-- ---- from tokens

pub syntax_refused : (source : List ℕ) (tokens : List Token) (fault : GimpleFault)
    → IsRefused (length source) tokens fault fault.kind → IsTokensRefusal source tokens fault
syntax_refused source tokens fault h = by fault.kind refl h where
  by : (kind : GimpleKind) → fault.kind ≡ kind → IsRefused (length source) tokens fault kind → IsTokensRefusal source tokens fault
  by kinds.Memory e h = tokens_by_memory e
  by kind e h = tokens_by_fault (of_syntax h)

pub rules_refused : (source : List ℕ) (tokens : List Token) (trees : List FunctionText) (fault : GimpleFault) → SpellsFile trees tokens
    → IsFault fault.kind fault (rules_fault source trees) → IsTokensRefusal source tokens fault
rules_refused source tokens trees fault spelled h = by fault.kind refl h where
  by : (kind : GimpleKind) → fault.kind ≡ kind → IsFault kind fault (rules_fault source trees) → IsTokensRefusal source tokens fault
  by kinds.Memory e h = tokens_by_memory e
  by kind e h = tokens_by_fault (of_rules trees spelled h)

-- trees that keep the rules are refused for want of memory alone
pub kept_refused : (source : List ℕ) (trees : List FunctionText) (fault : GimpleFault) → rules_fault source trees ≡ None
    → IsFault fault.kind fault (rules_fault source trees) → fault.kind ≡ kinds.Memory
kept_refused source trees fault kept h = by fault.kind refl h where
  by : (kind : GimpleKind) → fault.kind ≡ kind → IsFault kind fault (rules_fault source trees) → fault.kind ≡ kinds.Memory
  by kinds.Memory e h = e
  by kind e h = absurd (let both : ◌≡◌ {A = Option GimpleFault} None (Some fault) = sym kept ∙ h in cc)

-- the trees of tokens are one list, and so are the functions that they stand for
pub functions_once : (source : List ℕ) (tokens : List Token) (trees : List FunctionText) (fs gs : List Function)
    → (from : FromTokens source tokens fs)
    → trees ≡ from.trees → AllZip (StandsFor source) trees gs → gs ≡ fs
functions_once source tokens trees fs gs from same stand =
    stand_once source trees gs fs stand (subst (λ ts. AllZip (StandsFor source) ts fs) (sym same) from.stand)

pub trees_only : (source : List ℕ) (tokens : List Token) (trees seen : List FunctionText)
    (result : Result (Vec Function Global) GimpleFault) → seen ≡ trees
    → ((x : List FunctionText) → SpellsFile x tokens → trees ≡ x) → Judges (rules_fault source seen) result
    → IfOk result (λ fs. AllZip (StandsFor source) seen fs.items)
    → (fs : List Function) → FromTokens source tokens fs → MatchResult result (λ gs. gs.items ≡ fs) (λ fault. fault.kind ≡ kinds.Memory)
trees_only source tokens trees seen (Ok gs) same only judged stand fs from =
    functions_once source tokens seen fs gs.items from (same ∙ only from.trees from.spelled) stand
trees_only source tokens trees seen (Err fault) same only judged stand fs from =
    kept_refused source seen fault (ap (rules_fault source) (same ∙ only from.trees from.spelled) ∙ from.kept) judged

pub trees_refused : (source : List ℕ) (tokens : List Token) (trees seen : List FunctionText)
    (result : Result (Vec Function Global) GimpleFault) → seen ≡ trees → SpellsFile trees tokens
    → Judges (rules_fault source seen) result → IfErr result (IsTokensRefusal source tokens)
trees_refused source tokens trees seen (Ok gs) same spelled judged = tt
trees_refused source tokens trees seen (Err fault) same spelled judged =
    rules_refused source tokens seen fault (subst (λ ts. SpellsFile ts tokens) (sym same) spelled) judged

-- ---- well-formed functions

first_none : (a b : Option GimpleFault) → or_fault a b ≡ None → a ≡ None
first_none None b e = refl
first_none (Some fault) b e = absurd cc

second_none : (a b : Option GimpleFault) → or_fault a b ≡ None → b ≡ None
second_none None b e = e
second_none (Some fault) b e = absurd cc

pub known_trees : (source : List ℕ) (tokens : List Token) (trees : List FunctionText) → length source ≤ FILE_LIMIT
    → AreTokens source tokens → SpellsFile trees tokens → AllByRecursion (IsKnown source) trees
known_trees source tokens trees within are spelled =
    let few = few_tokens 0 (length source) tokens (tokens_in_order source tokens are) in
    file_known source tokens trees (all_sure source tokens (tokens_mean source tokens are)
    (tokens_stand source tokens are)) spelled (omega (arith, few, within))

pub sound : (source : List ℕ) (tokens : List Token) (trees : List FunctionText) → length source ≤ FILE_LIMIT
    → AreTokens source tokens → SpellsFile trees tokens → rules_fault source trees ≡ None → IsSound source trees
unfolding rules_fault
sound source tokens trees within are spelled kept =
    let names = names_fault source trees in
    let shape = shape_fault source trees in
    let types = types_fault source trees in
    let limits = limits_fault source trees in
    let after_names = second_none names (or_fault shape (or_fault types limits)) kept in
    let after_shape = second_none shape (or_fault types limits) after_names in
    record {
      written = file_written source trees (known_trees source tokens trees within are spelled);
      names = first_none names (or_fault shape (or_fault types limits)) kept;
      shape = first_none shape (or_fault types limits) after_names;
      types = first_none types limits after_shape;
      limits = second_none types limits after_shape;
    }

pub well_formed : (source : List ℕ) (tokens seen : List Token) (result : Result (Vec Function Global) GimpleFault)
    → length source ≤ FILE_LIMIT → AreTokens source tokens → seen ≡ tokens
    → IfOk result (λ fs. FromTokens source seen fs.items) → IfOk result (λ fs. AllByRecursion IsWellFormed fs.items)
well_formed source tokens seen (Ok fs) within are same from =
    sound_files source from.trees fs.items
    (sound source seen from.trees within (subst (AreTokens source) (sym same) are) from.spelled from.kept) from.stand
well_formed source tokens seen (Err fault) within are same from = tt

-- ---- from bytes

pub lex_refused : (source : List ℕ) (fault : GimpleFault) → length source ≤ FILE_LIMIT
    → IsCauseOf fault.kind source fault → IsRefusal source fault
lex_refused source fault within h = by fault.kind refl h where
  by : (kind : GimpleKind) → fault.kind ≡ kind → IsCauseOf kind source fault → IsRefusal source fault
  by kinds.Memory e h = by_memory e
  by kinds.Lex e h = by_fault (of_lexing within h.1 h.0)
  by kind e h = absurd h

pub tokens_refused : (source : List ℕ) (tokens : List Token) (fault : GimpleFault) → length source ≤ FILE_LIMIT → AreTokens source tokens
    → IsTokensRefusal source tokens fault → IsRefusal source fault
tokens_refused source tokens fault within are (tokens_by_memory e) = by_memory e
tokens_refused source tokens fault within are (tokens_by_fault h) = by_fault (of_tokens within tokens are h)

pub from_refused : (source : List ℕ) (tokens seen : List Token) (result : Result (Vec Function Global) GimpleFault)
    → length source ≤ FILE_LIMIT → AreTokens source tokens → seen ≡ tokens
    → IfErr result (IsTokensRefusal source seen) → IfErr result (IsRefusal source)
from_refused source tokens seen (Ok fs) within are same h = tt
from_refused source tokens seen (Err fault) within are same h =
    tokens_refused source seen fault within (subst (AreTokens source) (sym same) are) h
