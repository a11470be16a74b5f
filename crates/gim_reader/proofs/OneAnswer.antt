-- A file stands for one list of functions, or has one first fault, and never both.
use Rattle.std.proofs.Common.{◌≡◌, ℕ, ◌<◌, ◌≤◌, Option, Some, None, List, [], ◌∷◌, ◌++◌}
use Rattle.std.proofs.Common.{length, Result, Ok, refl, sym, ap, subst, ◌∙◌, arith, inl, inr}
use Rattle.std.specs.List.{AllZip}
use Rattle.std.proofs.lemmas.List.{append_assoc, append-nil}
use Rattle.grammar.specs.Spelling.{Spelling, Begins}
use Rattle.grammar.specs.Whole.{IsFirstFault, IsReading, whole_of}
use Rattle.grammar.proofs.Lists.{Between, Beyond, cuts}
use Rattle.grammar.proofs.WholeInput.{whole}
use Rattle.gim_ast.specs.declared.function.Function.{Function}
use Rattle.gim_text.specs.declared.fault.GimpleFault.{GimpleFault}
use Rattle.gim_text.specs.declared.token.Token.{Token}
use Rattle.gim_text.specs.declared.tree.FunctionText.{FunctionText}
use Rattle.gim_lexer.specs.Faults.{lex_fault}
use Rattle.gim_lexer.proofs.Cutting.{same_tokens, no_tokens}
use Rattle.lexing.proofs.Cutting.{one_fault as one_lex_fault}
use Rattle.gim_syntax.specs.Grammar.{SpellsFile}
use Rattle.gim_syntax.specs.Readers.{file_at}
use Rattle.gim_syntax.specs.SyntaxFaults.{IsSyntaxFault, syntax_fault}
use Rattle.gim_syntax.proofs.FileExact.{AnyToken, file_reads}
use Rattle.gim_making.specs.Standing.{StandsFor}
use Rattle.gim_reader.specs.declared.TheConstants.{FILE_LIMIT}
use Rattle.gim_reader.specs.Files.{rules_fault, FromTokens, IsFile, IsTokensFault, of_syntax}
use Rattle.gim_reader.specs.Files.{of_rules, IsFileFault, of_size, of_lexing, of_tokens}
use Rattle.gim_reader.proofs.OneFile.{stand_once}

-- ---- tokens

reading : (tokens : List Token) → IsReading SpellsFile tokens (whole_of tt (file_at tokens))
reading tokens = whole SpellsFile AnyToken tt tokens (file_at tokens) (file_reads.exact tokens)

read_once : (r : Result (List FunctionText) (Unit {0} × List Token)) (xs ys : List FunctionText) → r ≡ Ok xs → r ≡ Ok ys → xs ≡ ys
read_once r xs ys p q = cc

one_list_of_trees : (tokens : List Token) (xs ys : List FunctionText) → SpellsFile xs tokens → SpellsFile ys tokens → xs ≡ ys
one_list_of_trees tokens xs ys p q =
    read_once (whole_of tt (file_at tokens)) xs ys ((reading tokens).only xs p) ((reading tokens).only ys q)

spelled_has_no_fault : (tokens rest : List Token) (xs : List FunctionText) → SpellsFile xs tokens → IsFirstFault SpellsFile tokens rest → ⊥
spelled_has_no_fault tokens [] xs spelled fault = fault.ends refl xs spelled
spelled_has_no_fault tokens (t ∷ rest) xs spelled fault =
    fault.offends t rest refl (record {
      value = xs;
      after = rest;
      spelled = subst (SpellsFile xs) (fault.cut ∙ sym (append_assoc fault.front (t ∷ []) rest)) spelled;
    })

-- what begins a spelling begins it with each of its fronts
begins_shorter : {T A : Type 0} (N : Spelling T A) (front : List T) (t : T) (further : List T)
    → Begins N (front ++ t ∷ further) → Begins N (front ++ t ∷ [])
begins_shorter N front t further b = record {
  value = b.value;
  after = further ++ b.after;
  spelled = subst (N b.value) (append_assoc front (t ∷ further) b.after ∙ sym (append_assoc front (t ∷ []) (further ++ b.after))) b.spelled;
}

-- of two first faults, neither stands behind the other
not_behind : {T A : Type 0} (N : Spelling T A) (tokens rest later front middle : List T)
    → (a : IsFirstFault N tokens rest) → Begins N front → front ≡ a.front ++ middle → rest ≡ middle ++ later
    → middle ≡ []
not_behind N tokens rest later front [] a begun e f = refl
not_behind N tokens rest later front (t ∷ further) a begun e f =
    absurd (a.offends t (further ++ later) f (begins_shorter N a.front t further (subst (Begins N) e begun)))

pub record SameFault {T A : Type 0} (N : Spelling T A) (tokens rest other : List T) (a : IsFirstFault N tokens rest)
    (b : IsFirstFault N tokens other) : Type 0 where
  pub same_front : a.front ≡ b.front
  pub same_rest : rest ≡ other

behind : {T A : Type 0} (N : Spelling T A) (tokens rest other : List T) (a : IsFirstFault N tokens rest)
    (b : IsFirstFault N tokens other) → Between a.front rest b.front other → SameFault N tokens rest other a b
behind N tokens rest other a b cut =
    let none = not_behind N tokens rest other b.front cut.middle a b.begun cut.left cut.right in
    record {
      same_front = sym (cut.left ∙ ap (λ l. a.front ++ l) none ∙ append-nil a.front);
      same_rest = cut.right ∙ ap (λ l. l ++ other) none;
    }

beyond : {T A : Type 0} (N : Spelling T A) (tokens rest other : List T) (a : IsFirstFault N tokens rest)
    (b : IsFirstFault N tokens other) → Beyond a.front rest b.front other → ⊥
beyond N tokens rest other a b cut =
    b.offends cut.head (cut.tail ++ rest) cut.right
    (begins_shorter N b.front cut.head cut.tail (subst (Begins N) cut.left a.begun))

one_first_fault : {T A : Type 0} (N : Spelling T A) (tokens rest other : List T) (a : IsFirstFault N tokens rest)
    (b : IsFirstFault N tokens other) → SameFault N tokens rest other a b
one_first_fault N tokens rest other a b = elim (cuts a.front rest b.front other (sym a.cut ∙ b.cut)) [
  | inl cut ↦ behind N tokens rest other a b cut
  | inr cut ↦ absurd (beyond N tokens rest other a b cut)
]

none_some : (o : Option GimpleFault) (fault : GimpleFault) → o ≡ None → o ≡ Some fault → ⊥
none_some o fault p q = cc

some_once : (o : Option GimpleFault) (a b : GimpleFault) → o ≡ Some a → o ≡ Some b → a ≡ b
some_once o a b p q = cc

-- ---- functions

from_tokens_once : (source : List ℕ) (tokens : List Token) (fs gs : List Function) → FromTokens source tokens fs
    → FromTokens source tokens gs → fs ≡ gs
from_tokens_once source tokens fs gs p q =
    let same = one_list_of_trees tokens q.trees p.trees q.spelled p.spelled in
    stand_once source p.trees fs gs p.stand (subst (λ trees. AllZip (StandsFor source) trees gs) same q.stand)

pub one_list : (source : List ℕ) (fs gs : List Function) → IsFile source fs → IsFile source gs → fs ≡ gs
one_list source fs gs p q =
    let same = same_tokens source q.tokens p.tokens q.are_tokens p.are_tokens in
    from_tokens_once source p.tokens fs gs p.from_tokens (subst (λ ts. FromTokens source ts gs) same q.from_tokens)

-- ---- functions or a fault

kept_has_no_fault : (source : List ℕ) (tokens : List Token) (fs : List Function) (fault : GimpleFault)
    → FromTokens source tokens fs → IsTokensFault source tokens fault → ⊥
kept_has_no_fault source tokens fs fault from (of_syntax h) = spelled_has_no_fault tokens h.rest from.trees from.spelled h.first
kept_has_no_fault source tokens fs fault from (of_rules trees spelled broken) =
    let same = one_list_of_trees tokens from.trees trees from.spelled spelled in
    none_some (rules_fault source trees) fault (ap (rules_fault source) (sym same) ∙ from.kept) broken

pub no_fault : (source : List ℕ) (fs : List Function) (fault : GimpleFault) → IsFile source fs → IsFileFault source fault → ⊥
no_fault source fs fault file (of_size long is) = omega (arith, file.within, long)
no_fault source fs fault file (of_lexing within lexing is) = no_tokens source fault.at file.tokens lexing file.are_tokens
no_fault source fs fault file (of_tokens within tokens are h) =
    let same = same_tokens source file.tokens tokens file.are_tokens are in
    kept_has_no_fault source tokens fs fault (subst (λ ts. FromTokens source ts fs) same file.from_tokens) h

-- ---- one fault

same_syntax_fault : (source : List ℕ) (tokens : List Token) (a b : GimpleFault) → IsSyntaxFault (length source) tokens a
    → IsSyntaxFault (length source) tokens b → a ≡ b
same_syntax_fault source tokens a b p q =
    let same = one_first_fault SpellsFile tokens p.rest q.rest p.first q.first in
    p.is ∙ ap (λ front. syntax_fault (length source) front p.rest) same.same_front
    ∙ ap (syntax_fault (length source) q.first.front) same.same_rest ∙ sym q.is

one_tokens_fault : (source : List ℕ) (tokens : List Token) (a b : GimpleFault) → IsTokensFault source tokens a
    → IsTokensFault source tokens b → a ≡ b
one_tokens_fault source tokens a b (of_syntax p) (of_syntax q) = same_syntax_fault source tokens a b p q
one_tokens_fault source tokens a b (of_syntax p) (of_rules trees spelled broken) =
    absurd (spelled_has_no_fault tokens p.rest trees spelled p.first)
one_tokens_fault source tokens a b (of_rules trees spelled broken) (of_syntax q) =
    absurd (spelled_has_no_fault tokens q.rest trees spelled q.first)
one_tokens_fault source tokens a b (of_rules trees spelled broken) (of_rules others spelled_too broken_too) =
    some_once (rules_fault source others) a b
    (ap (rules_fault source) (sym (one_list_of_trees tokens trees others spelled spelled_too)) ∙ broken) broken_too

apart : (limit n : ℕ) → limit < n → n ≤ limit → ⊥
apart limit n above within = omega arith

pub one_fault : (source : List ℕ) (a b : GimpleFault) → IsFileFault source a → IsFileFault source b → a ≡ b
one_fault source a b (of_size long is) (of_size long_too is_too) = is ∙ sym is_too
one_fault source a b (of_size long is) (of_lexing within lexing is_too) = absurd (apart FILE_LIMIT (length source) long within)
one_fault source a b (of_size long is) (of_tokens within tokens are h) = absurd (apart FILE_LIMIT (length source) long within)
one_fault source a b (of_lexing within lexing is) (of_size long is_too) = absurd (apart FILE_LIMIT (length source) long within)
one_fault source a b (of_lexing within lexing is) (of_lexing within_too lexing_too is_too) =
    is ∙ ap lex_fault (one_lex_fault source a.at b.at lexing lexing_too) ∙ sym is_too
one_fault source a b (of_lexing within lexing is) (of_tokens within_too tokens are h) = absurd (no_tokens source a.at tokens lexing are)
one_fault source a b (of_tokens within tokens are h) (of_size long is_too) = absurd (apart FILE_LIMIT (length source) long within)
one_fault source a b (of_tokens within tokens are h) (of_lexing within_too lexing is_too) = absurd (no_tokens source b.at tokens lexing are)
one_fault source a b (of_tokens within tokens are h) (of_tokens within_too others are_too h_too) =
    one_tokens_fault source others a b (subst (λ ts. IsTokensFault source ts a) (same_tokens source tokens others are are_too) h) h_too
