-- What a piece says of separators and tokens, and how far a source is cut behind it.
use Rattle.std.proofs.Common.{◌≡◌, ℕ, ◌<◌, List, [], ◌∷◌, ◌++◌, length, Option, Some, None, refl, sym, ap, ◌∙◌}
use Rattle.pm_places.specs.declared.span.Span.{Span}
use Rattle.lexing.specs.declared.pieces.Piece.{Piece}
use Rattle.lexing.specs.declared.pieces.Piece.TheVariants as pieces
use Rattle.lexing.specs.Cuts.{Language, IsLexFault}
use Rattle.lexing.specs.Pieces.{piece_from, piece_at}
use Rattle.lexing.proofs.Cutting.{Moves, Reached, past_separator, past_token}

is_separator : {T : Type 0} (s : Option ℕ) (t : Option T) (to : ℕ) → Some (pieces.Separator to) ≡ piece_from s t → s ≡ Some to
is_separator (Some n) t to e = cc
is_separator None (Some t) to e = absurd cc
is_separator None None to e = absurd cc

is_token : {T : Type 0} (s : Option ℕ) (t : Option T) (found : T) → Some (pieces.Token found) ≡ piece_from s t → (s ≡ None) × (t ≡ Some found)
is_token (Some n) t found e = absurd cc
is_token None (Some t) found e = (refl, cc)
is_token None None found e = absurd cc

is_nothing : {T : Type 0} (s : Option ℕ) (t : Option T) → None ≡ piece_from s t → (s ≡ None) × (t ≡ None)
is_nothing (Some n) t e = absurd cc
is_nothing None (Some t) e = absurd cc
is_nothing None None e = (refl, refl)

module _ {T : Type 0} {language : Language T} where
  pub step_fault : (source : List ℕ) (ts : List T) (at : ℕ) → Reached language source ts at → at < length source
      → None ≡ piece_at language source at → IsLexFault language source at
  step_fault source ts at reached within e =
      let found = is_nothing (language.separator_at source at) (language.token_at source at) e in
      record { tokens = ts; before = reached.cut; within = within; no_separator = found.0; no_token = found.1 }

  -- a token that was pushed
  pub stepped : (source : List ℕ) (ts us : List T) (t : T) (span : Span) → us ≡ ts ++ t ∷ [] → span ≡ language.span_of t
      → Reached language source (ts ++ t ∷ []) (language.span_of t).to
      → Reached language source us span.to
  stepped source ts us t span e p reached = rw (e, p) reached

  module _ (moves : Moves language) where
    pub step_separator : (source : List ℕ) (ts : List T) (at to : ℕ) (piece : Piece T) → Reached language source ts at
        → Some piece ≡ piece_at language source at → piece ≡ pieces.Separator to
        → Reached language source ts to × (at < to)
    step_separator source ts at to piece reached e is =
        past_separator moves source ts at to reached (is_separator (language.separator_at source at) (language.token_at source at) to (sym (ap Some is) ∙ e))

    pub step_token : (source : List ℕ) (ts : List T) (at : ℕ) (t : T) (piece : Piece T) → Reached language source ts at
        → Some piece ≡ piece_at language source at → piece ≡ pieces.Token t
        → Reached language source (ts ++ t ∷ []) (language.span_of t).to × (at < (language.span_of t).to)
    step_token source ts at t piece reached e is =
        let found = is_token (language.separator_at source at) (language.token_at source at) t (sym (ap Some is) ∙ e) in
        past_token moves source ts at t reached found.0 found.1
