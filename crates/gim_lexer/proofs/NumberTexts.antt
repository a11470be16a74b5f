-- Texts of numbers, and of the other tokens that have a meaning.
use Rattle.std.proofs.Common.{◌≡◌, ℕ, Bool, true, false, cond, List, [], ◌∷◌, ◌++◌, drop, Option, Some, None, refl, sym, ap, ◌∙◌, subst}
use Rattle.std.specs.Prelude.{IsTrue, unwrap_or}
use Rattle.std.specs.List.{list_all}
use Rattle.std.specs.Str.{str_eq_ignore_ascii_case}
use Rattle.std.proofs.lemmas.Bool.{false≢true}
use Rattle.std.proofs.lemmas.List.{append-nil}
use Rattle.gim_ast.specs.Identifiers.{is_identifier, is_block_word}
use Rattle.lexing.specs.Bytes.{is_digit, is_suffix_letter}
use Rattle.lexing.specs.Numbers.{is_number_text, leading_digits}
use Rattle.pm_places.specs.declared.span.Span.{Span}
use Rattle.gim_text.specs.declared.token.Token.{Token}
use Rattle.gim_text.specs.declared.token.Token.TheVariants as tokens
use Rattle.gim_text.specs.declared.token.NumberKind.{NumberKind}
use Rattle.gim_text.specs.declared.token.NumberKind.TheVariants.{Plain, Unsigned, Long, UnsignedLong, Wrong}
use Rattle.gim_text.specs.Meanings.{span_of}
use Rattle.pm_places.specs.Spans.{text_of}
use Rattle.lexing.specs.Tables.{beside_in_any_case}
use Rattle.gim_lexer.specs.Numbers.{suffixes, suffix_kind, number_kind}
use Rattle.gim_lexer.specs.Cuts.{AreTokens}
use Rattle.gim_lexer.specs.Spelled.{Spells, AllStandIn}
use Rattle.gim_lexer.specs.Meant.{IsNumberText, MeansItsText, AllMeanTheirTexts}
use Rattle.gim_lexer.proofs.Cutting.{tokens_stand}
use Rattle.lexing.proofs.NumberLemmas.{front_digits}
use Rattle.lexing.proofs.TableLemmas.{meaning_has}

abbrev is_not_plain : NumberKind → Bool
is_not_plain Plain = false
is_not_plain kind = true

-- only an empty suffix is none
plain_suffix : (suffix : List ℕ) → suffix_kind suffix ≡ Plain → suffix ≡ []
plain_suffix [] e = refl
plain_suffix (b ∷ suffix) e = absurd (by (beside_in_any_case (b ∷ suffix) suffixes) refl e) where
  by : (o : Option NumberKind) → beside_in_any_case (b ∷ suffix) suffixes ≡ o → unwrap_or o Wrong ≡ Plain → ⊥
  by None p e = cc
  by (Some kind) p e = false≢true (sym (ap is_not_plain e) ∙ meaning_has is_not_plain (λ spelling. str_eq_ignore_ascii_case spelling (b ∷ suffix)) (drop 1 suffixes) kind refl p)

kind_is_sound : (kind : NumberKind) (digits suffix : List ℕ) → is_number_text digits ≡ true → leading_digits (digits ++ suffix) ≡ digits
    → suffix_kind suffix ≡ kind → IsNumberText kind (digits ++ suffix)
kind_is_sound Plain digits suffix n front e =
    let all : digits ++ suffix ≡ digits = ap (λ bs. digits ++ bs) (plain_suffix suffix e) ∙ append-nil digits in
    (ap is_number_text all ∙ n, front ∙ sym all)
kind_is_sound Unsigned digits suffix n front e = ap is_number_text front ∙ n
kind_is_sound Long digits suffix n front e = ap is_number_text front ∙ n
kind_is_sound UnsignedLong digits suffix n front e = ap is_number_text front ∙ n
kind_is_sound Wrong digits suffix n front e = tt

is_sound : (kind : NumberKind) (text digits suffix : List ℕ) → text ≡ digits ++ suffix → list_all is_digit digits ≡ true
    → list_all is_suffix_letter suffix ≡ true → number_kind digits suffix ≡ kind → IsNumberText kind text
unfolding number_kind
is_sound kind text digits suffix parts ds ls e = subst (IsNumberText kind) (sym parts) (by (is_number_text digits) refl e) where
  by : (n : Bool) → is_number_text digits ≡ n → cond n (suffix_kind suffix) Wrong ≡ kind → IsNumberText kind (digits ++ suffix)
  by true n e = kind_is_sound kind digits suffix n (front_digits digits suffix ds ls) e
  by false n e = subst (λ k. IsNumberText k (digits ++ suffix)) e tt

-- ---- tokens that stand in a source

some_is : {X : Type 0} (x y : X) → Some x ≡ Some y → x ≡ y
some_is x y e = cc

none_is : {X : Type 0} {P : Type 0} (x : X) → None ≡ Some x → P
none_is x e = absurd cc

token_means : (source : List ℕ) (t : Token) → Spells (text_of source (span_of t)) t → MeansItsText source t
token_means source (tokens.TypeWord word at) s = record { identifiers = λ span e. none_is span e; blocks = λ span e. none_is span e; numbers = λ kind span e. none_is (kind, span) e }
token_means source (tokens.Keyword word at) s = record { identifiers = λ span e. none_is span e; blocks = λ span e. none_is span e; numbers = λ kind span e. none_is (kind, span) e }
token_means source (tokens.Text at) s = record { identifiers = λ span e. none_is span e; blocks = λ span e. none_is span e; numbers = λ kind span e. none_is (kind, span) e }
token_means source (tokens.Mark mark at) s = record { identifiers = λ span e. none_is span e; blocks = λ span e. none_is span e; numbers = λ kind span e. none_is (kind, span) e }
token_means source (tokens.BlockWord at) s = record {
  identifiers = λ span e. none_is span e;
  blocks = λ span e. subst (λ a. IsTrue (is_block_word (text_of source a))) (some_is at span e) s;
  numbers = λ kind span e. none_is (kind, span) e;
}
token_means source (tokens.Ssa at) s = record {
  identifiers = λ span e. subst (λ a. IsTrue (is_identifier (text_of source a))) (some_is at span e) (ap is_identifier s);
  blocks = λ span e. none_is span e;
  numbers = λ kind span e. none_is (kind, span) e;
}
token_means source (tokens.Identifier at) s = record {
  identifiers = λ span e. subst (λ a. IsTrue (is_identifier (text_of source a))) (some_is at span e) s;
  blocks = λ span e. none_is span e;
  numbers = λ kind span e. none_is (kind, span) e;
}
token_means source (tokens.Number kind at) s = record {
  identifiers = λ span e. none_is span e;
  blocks = λ span e. none_is span e;
  numbers = λ k span e. subst (λ (x : NumberKind × Span). IsNumberText x.0 (text_of source x.1)) (some_is (kind, at) (k, span) e)
      (is_sound kind (text_of source at) s.digits s.suffix s.parts s.are_digits s.are_letters s.is_kind);
}

all_mean : (source : List ℕ) (ts : List Token) → AllStandIn source ts → AllMeanTheirTexts source ts
all_mean source [] s = tt
all_mean source (t ∷ ts) s = (token_means source t s.0.spelled, all_mean source ts s.1)

pub tokens_mean : (source : List ℕ) (ts : List Token) → AreTokens source ts → AllMeanTheirTexts source ts
tokens_mean source ts cut = all_mean source ts (tokens_stand source ts cut)
