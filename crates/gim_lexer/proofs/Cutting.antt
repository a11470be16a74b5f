-- GIMPLE text is cut in one way, and its tokens stand where they begin.
use Rattle.std.proofs.Common.{◌≡◌, ℕ, ◌+◌, ◌-◌, ◌<◌, ◌≤◌, List, length, take, drop, Option, Some, None, refl, sym, ap, ◌∙◌, subst, arith}
use Rattle.std.specs.Prelude.{option_map}
use Rattle.std.proofs.lemmas.List.{length-drop}
use Rattle.pm_places.specs.declared.span.Span.{Span}
use Rattle.pm_places.specs.Spans.{text_of}
use Rattle.lexing.proofs.Cutting.{Moves}
use Rattle.lexing.proofs.Cutting as cuts
use Rattle.gim_text.specs.declared.token.Token.{Token}
use Rattle.gim_text.specs.Meanings.{span_of}
use Rattle.gim_lexer.specs.Separators.{separator_length}
use Rattle.gim_lexer.specs.Cuts.{line_begins, separator_at, token_at, gimple, AreTokens, IsLexFault, HasOutcome}
use Rattle.gim_text.specs.declared.fault.GimpleFault.{GimpleFault}
use Rattle.gim_lexer.specs.Faults.{lex_fault, IsCause}
use Rattle.gim_lexer.specs.Spelled.{Spells, StandsIn, AllStandIn, InOrder}
use Rattle.gim_lexer.proofs.Fronts.{separator_within, token_front}

separator_ends : (source : List ℕ) (at to : ℕ) → at ≤ length source → separator_at source at ≡ Some to → (at < to) × (to ≤ length source)
separator_ends source at to le e = by (separator_length (line_begins source at) (drop at source)) (separator_within (line_begins source at) (drop at source)) e where
  by : (o : Option ℕ) → ((n : ℕ) → o ≡ Some n → (0 < n) × (n ≤ length (drop at source))) → option_map (λ n. at + n) o ≡ Some to
      → (at < to) × (to ≤ length source)
  by None within e = absurd cc
  by (Some n) within e =
      let w = within n refl in
      let same : at + n ≡ to = cc in
      let left : length (drop at source) ≡ length source - at = length-drop at source in
      (omega (arith, w), omega (arith, w))

token_begins : (source : List ℕ) (at : ℕ) (t : Token) → at ≤ length source → token_at source at ≡ Some t → (span_of t).from ≡ at
token_begins source at t le e = ap (λ (s : Span). s.from) (token_front at (drop at source) t e).at_place

token_stands : (source : List ℕ) (at : ℕ) (t : Token) → at ≤ length source → token_at source at ≡ Some t → StandsIn source t
token_stands source at t le e =
    let f = token_front at (drop at source) t e in
    let left : length (drop at source) ≡ length source - at = length-drop at source in
    let from : (span_of t).from ≡ at = token_begins source at t le e in
    let to : (span_of t).to ≡ at + f.len = ap (λ (s : Span). s.to) f.at_place in
    let len : (at + f.len) - at ≡ f.len = omega arith in
    let text : text_of source (span_of t) ≡ take f.len (drop at source) = ap (text_of source) f.at_place ∙ ap (λ n. take n (drop at source)) len in
    record {
      has_bytes = omega (arith, f.long);
      within = omega (arith, f.within);
      spelled = subst (λ bytes. Spells bytes t) (sym text) f.spelled;
    }

pub moves : Moves gimple
moves = record {
  separator_ends = separator_ends;
  token_begins = token_begins;
  token_ends = λ source at t le e.
      let stands = token_stands source at t le e in
      let begins = token_begins source at t le e in
      (omega (arith, stands.has_bytes), stands.within);
}

pub same_tokens : (source : List ℕ) (ts us : List Token) → AreTokens source ts → AreTokens source us → ts ≡ us
same_tokens source ts us p q = cuts.same_tokens moves source ts us p q

pub no_tokens : (source : List ℕ) (at : ℕ) (ts : List Token) → IsLexFault source at → AreTokens source ts → ⊥
no_tokens source at ts fault tokens = cuts.no_tokens moves source at ts fault tokens

pub outcome : (source : List ℕ) → HasOutcome source
outcome source = cuts.outcome moves source

pub tokens_stand : (source : List ℕ) (ts : List Token) → AreTokens source ts → AllStandIn source ts
tokens_stand source ts cut = cuts.all_tokens moves StandsIn token_stands source ts cut

pub tokens_in_order : (source : List ℕ) (ts : List Token) → AreTokens source ts → InOrder 0 ts (length source)
tokens_in_order source ts cut = cuts.tokens_in_order moves source ts cut

pub is_cause : (source : List ℕ) (at : ℕ) (fault : GimpleFault) → fault ≡ lex_fault at → IsLexFault source at → IsCause source fault
is_cause source at fault e is = subst (IsCause source) (sym e) (refl, is)
