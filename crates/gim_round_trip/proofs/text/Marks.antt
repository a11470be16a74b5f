-- Texts of one mark, whatever follows them or before white space.
use Rattle.std.proofs.Common.{◌≡◌, ℕ, Bool, true, false, Some, None, List, [], ◌∷◌, ◌++◌, length, codes, refl, sym, ap, ◌∙◌}
use Rattle.std.specs.Prelude.{◌==◌}
use Rattle.std.proofs.lemmas.Bool.{ne_eqb, false≢true}
use Rattle.lexing.specs.Bytes.{is_digit, is_letter}
use Rattle.gim_text.specs.declared.token.Mark.{Mark}
use Rattle.gim_text.specs.declared.token.Mark.TheVariants as marks
use Rattle.gim_text.specs.declared.token.Token.{Token}
use Rattle.gim_text.specs.declared.token.Token.TheVariants as tokens
use Rattle.pm_places.specs.Spans.{text_of, place}
use Rattle.gim_lexer.specs.Marks.{short_mark, long_mark}
use Rattle.gim_lexer.specs.Separators.{separator_length}
use Rattle.lexing.specs.Separators.{is_space}
use Rattle.gim_lexer.specs.Tokens.{mark_at, token_of_text}
use Rattle.gim_round_trip.proofs.text.Prints.{Prints, Ends, any_end, blank_end, token_prints}
use Rattle.gim_round_trip.proofs.text.Words.{begins_none}

-- ---- bytes that begin marks alone

-- it begins no word, number or quoted text and no separator
abbrev BeginsMark : ℕ → Type 0
BeginsMark a =
    is_letter a ∷ is_digit a ∷ (a == 34) ∷ is_space a ∷ (47 == a) ∷ (59 == a) ∷ [] ≡ false ∷ false ∷ false ∷ false
    ∷ false ∷ false ∷ []

mark_apart : (a : ℕ) → BeginsMark a → (l : Bool) (text : List ℕ) → separator_length l (a ∷ text) ≡ None
mark_apart a h l text = begins_none l a text (cc) (cc) (cc)

mark_begins : (at a : ℕ) (text : List ℕ) → BeginsMark a → token_of_text at (a ∷ text) ≡ mark_at at (a ∷ text)
unfolding token_of_text
mark_begins at a text h =
    let letter : is_letter a ≡ false = cc in
    let digit : is_digit a ≡ false = cc in
    let quote : (a == 34) ≡ false = cc in
    let slash : (47 == a) ≡ false = cc in
    rw (letter, digit, quote, slash) refl

short_there : (at a b : ℕ) (text : List ℕ) (m : Mark) → short_mark a ≡ Some m → long_mark a b ≡ None
    → mark_at at (a ∷ b ∷ text) ≡ Some (tokens.Mark m (place at 1))
unfolding mark_at
short_there at a b text m short long = rw (long, short) refl

short_last : (at a : ℕ) (m : Mark) → short_mark a ≡ Some m → mark_at at (a ∷ []) ≡ Some (tokens.Mark m (place at 1))
unfolding mark_at
short_last at a m short = rw short refl

long_there : (at a b : ℕ) (text : List ℕ) (m : Mark) → long_mark a b ≡ Some m
    → mark_at at (a ∷ b ∷ text) ≡ Some (tokens.Mark m (place at 2))
unfolding mark_at
long_there at a b text m long = rw long refl

-- ---- marks that anything may follow

pub record IsMarkText (bs : List ℕ) (m : Mark) : Type 0 where
  pub apart : (l : Bool) (rest : List ℕ) → separator_length l (bs ++ rest) ≡ None
  pub stands : (at : ℕ) (rest : List ℕ) → token_of_text at (bs ++ rest) ≡ Some (tokens.Mark m (place at (length bs)))

-- one byte that begins no mark of two
pub one_byte : (a : ℕ) (m : Mark) → BeginsMark a → short_mark a ≡ Some m → ((b : ℕ) → long_mark a b ≡ None) → IsMarkText (a ∷ []) m
one_byte a m begins short long = record { apart = mark_apart a begins; stands = there } where
  there : (at : ℕ) (rest : List ℕ) → token_of_text at (a ∷ rest) ≡ Some (tokens.Mark m (place at 1))
  there at [] = mark_begins at a [] begins ∙ short_last at a m short
  there at (b ∷ rest) = mark_begins at a (b ∷ rest) begins ∙ short_there at a b rest m short (long b)

pub two_bytes : (a b : ℕ) (m : Mark) → BeginsMark a → long_mark a b ≡ Some m → IsMarkText (a ∷ b ∷ []) m
two_bytes a b m begins long = record {
  apart = λ l rest. mark_apart a begins l (b ∷ rest);
  stands = λ at rest. mark_begins at a (b ∷ rest) begins ∙ long_there at a b rest m long;
}

pub mark_text_prints : {A : Type 0} {N : A → List Token → Type 0} {Is : A → Type 0} (source bs : List ℕ) (m : Mark)
    (value : ℕ → A) → IsMarkText bs m
    → ((at : ℕ) → N (value at) (tokens.Mark m (place at (length bs)) ∷ []))
    → ((at : ℕ) → text_of source (place at (length bs)) ≡ bs → Is (value at))
    → Prints source any_end N Is bs
mark_text_prints source bs m value h spells holds =
    token_prints source any_end bs (λ at. tokens.Mark m (place at (length bs))) value (λ l rest ends. h.apart l rest)
    (λ at rest ends. h.stands at rest) (λ at. refl) spells holds

-- ---- marks before white space

pub record IsSpacedMark (bs : List ℕ) (m : Mark) : Type 0 where
  pub apart : (l : Bool) (b : ℕ) (rest : List ℕ) → is_space b ≡ true → separator_length l (bs ++ b ∷ rest) ≡ None
  pub stands : (at b : ℕ) (rest : List ℕ) → is_space b ≡ true
      → token_of_text at (bs ++ b ∷ rest) ≡ Some (tokens.Mark m (place at (length bs)))

pub spaced : (bs : List ℕ) (m : Mark) → IsMarkText bs m → IsSpacedMark bs m
spaced bs m h = record { apart = λ l b rest space. h.apart l (b ∷ rest); stands = λ at b rest space. h.stands at (b ∷ rest) }

other_than_space : (a b : ℕ) → is_space a ≡ false → is_space b ≡ true → (a == b) ≡ false
other_than_space a b other space = ne_eqb a b (λ e. false≢true (sym other ∙ ap is_space e ∙ space))

-- one byte that with white space is no mark of two
before_space : (a : ℕ) (m : Mark) → BeginsMark a → short_mark a ≡ Some m
    → ((b : ℕ) → is_space b ≡ true → long_mark a b ≡ None) → IsSpacedMark (a ∷ []) m
before_space a m begins short long = record {
  apart = λ l b rest space. mark_apart a begins l (b ∷ rest);
  stands = λ at b rest space. mark_begins at a (b ∷ rest) begins ∙ short_there at a b rest m short (long b space);
}

pub assign_mark : IsSpacedMark (codes "=") marks.Assign
assign_mark = before_space 61 marks.Assign refl refl (λ b space. rw (other_than_space 61 b refl space) refl)

pub less_mark : IsSpacedMark (codes "<") marks.Less
less_mark = before_space 60 marks.Less refl refl (λ b space. rw (other_than_space 60 b refl space, other_than_space 61 b refl space) refl)

pub greater_mark : IsSpacedMark (codes ">") marks.Greater
greater_mark =
    before_space 62 marks.Greater refl refl
    (λ b space. rw (other_than_space 62 b refl space, other_than_space 61 b refl space) refl)

semicolon_apart : (l : Bool) (b : ℕ) (rest : List ℕ) → is_space b ≡ true → separator_length l (59 ∷ b ∷ rest) ≡ None
unfolding separator_length
semicolon_apart true b rest space = rw (other_than_space 59 b refl space) refl
semicolon_apart false b rest space = refl

semicolon_stands : (at b : ℕ) (rest : List ℕ) → token_of_text at (59 ∷ b ∷ rest) ≡ Some (tokens.Mark marks.Semicolon (place at 1))
unfolding token_of_text mark_at
semicolon_stands at b rest = refl

pub semicolon_mark : IsSpacedMark (codes ";") marks.Semicolon
semicolon_mark = record { apart = semicolon_apart; stands = λ at b rest space. semicolon_stands at b rest }

slash_apart : (l : Bool) (b : ℕ) (rest : List ℕ) → is_space b ≡ true → separator_length l (47 ∷ b ∷ rest) ≡ None
unfolding separator_length
slash_apart true b rest space = rw (other_than_space 47 b refl space, other_than_space 42 b refl space) refl
slash_apart false b rest space = rw (other_than_space 47 b refl space, other_than_space 42 b refl space) refl

slash_stands : (at b : ℕ) (rest : List ℕ) → is_space b ≡ true
    → token_of_text at (47 ∷ b ∷ rest) ≡ Some (tokens.Mark marks.Slash (place at 1))
unfolding token_of_text mark_at
slash_stands at b rest space = rw (other_than_space 42 b refl space) refl

pub slash_mark : IsSpacedMark (codes "/") marks.Slash
slash_mark = record { apart = slash_apart; stands = slash_stands }

pub spaced_mark_prints : {A : Type 0} {N : A → List Token → Type 0} {Is : A → Type 0} (source bs : List ℕ) (m : Mark)
    (value : ℕ → A) → IsSpacedMark bs m
    → ((at : ℕ) → N (value at) (tokens.Mark m (place at (length bs)) ∷ []))
    → ((at : ℕ) → text_of source (place at (length bs)) ≡ bs → Is (value at))
    → Prints source blank_end N Is bs
spaced_mark_prints source bs m value h spells holds =
    token_prints source blank_end bs (λ at. tokens.Mark m (place at (length bs))) value apart stands (λ at. refl) spells holds where
      apart : (l : Bool) (rest : List ℕ) → Ends blank_end rest → separator_length l (bs ++ rest) ≡ None
      apart l [] ends = absurd ends
      apart l (b ∷ rest) ends = h.apart l b rest ends

      stands : (at : ℕ) (rest : List ℕ) → Ends blank_end rest → token_of_text at (bs ++ rest) ≡ Some (tokens.Mark m (place at (length bs)))
      stands at [] ends = absurd ends
      stands at (b ∷ rest) ends = h.stands at b rest ends
