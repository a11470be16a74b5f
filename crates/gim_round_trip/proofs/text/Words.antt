-- Texts of one word, and where runs of bytes end.
use Rattle.std.proofs.Common.{◌≡◌, ℕ, suc, Bool, true, false, cond, Some, None, List, [], ◌∷◌, ◌++◌}
use Rattle.std.proofs.Common.{map, length, take, codes, refl, sym, ap, ◌∙◌, arith, one-add}
use Rattle.std.specs.Prelude.{option_map, find, ◌==◌, ◌||◌, not}
use Rattle.std.specs.List.{prefix_len, list_all, list_any}
use Rattle.std.specs.Str.{bytes_eq}
use Rattle.std.proofs.lemmas.Bool.{and_parts, and_from, or_parts, not-true, false≢true}
use Rattle.std.proofs.lemmas.Bool.Decides.{nat_tests}
use Rattle.std.proofs.lemmas.List.Folds.{list_any-append}
use Rattle.std.proofs.Math.Seq.{take-append_seam}
use Rattle.gim_ast.specs.Identifiers.{is_block_word, is_reserved, is_identifier, reserved_words}
use Rattle.lexing.specs.Bytes.{is_letter, is_word_byte}
use Rattle.lexing.specs.Words.{is_word_text}
use Rattle.pm_places.specs.declared.span.Span.{Span}
use Rattle.gim_text.specs.declared.token.Token.{Token}
use Rattle.gim_text.specs.declared.token.Token.TheVariants as tokens
use Rattle.gim_text.specs.declared.token.TypeWord.{TypeWord}
use Rattle.gim_text.specs.declared.token.Keyword.{Keyword}
use Rattle.gim_text.specs.Meanings.{identifier}
use Rattle.pm_places.specs.Spans.{text_of, place}
use Rattle.gim_lexer.specs.Separators.{separator_length}
use Rattle.lexing.specs.Separators.{is_space}
use Rattle.lexing.specs.Tables.{beside}
use Rattle.gim_lexer.specs.Tokens.{word_at, token_of_text}
use Rattle.gim_lexer.specs.Words.{type_words, keyword_table, type_word_of, keyword_of, plain_word, word_token}
use Rattle.gim_lexer.proofs.Fronts.{word_place}
use Rattle.lexing.proofs.ByteLemmas.{letter_is_word}
use Rattle.gim_lexer.proofs.LongestMatch.{word_begins}
use Rattle.gim_round_trip.proofs.text.Prints.{Prints, Ends, word_end, token_prints}

-- ---- runs

-- A run ends where the text goes on with no such byte.
pub run_over : (p : ℕ → Bool) (bs rest : List ℕ) → list_all p bs ≡ true → prefix_len p rest ≡ 0 → prefix_len p (bs ++ rest) ≡ length bs
run_over p [] rest all ends = ends
run_over p (b ∷ bs) rest all ends = let h = and_parts (p b) (list_all p bs) all in rw (h.0, one-add) (ap suc (run_over p bs rest h.1 ends))

word_run_ends : (rest : List ℕ) → Ends word_end rest → prefix_len is_word_byte rest ≡ 0
word_run_ends [] ends = refl
word_run_ends (b ∷ rest) ends = rw ends refl

-- ---- separators

-- No separator begins with another byte than white space, `/` and `;`.
pub begins_none : (l : Bool) (b : ℕ) (text : List ℕ) → is_space b ≡ false → (47 == b) ≡ false → (59 == b) ≡ false
    → separator_length l (b ∷ text) ≡ None
unfolding separator_length
begins_none true b text space slash semicolon = rw (space, slash, semicolon) refl
begins_none false b text space slash semicolon = rw (space, slash) refl

letter_begins_none : (l : Bool) (b : ℕ) (text : List ℕ) → is_letter b ≡ true → separator_length l (b ∷ text) ≡ None
letter_begins_none l b text h = begins_none l b text (grind (arith, nat_tests)) (grind (arith, nat_tests)) (grind (arith, nat_tests))

-- ---- words

word_apart : (bs : List ℕ) → is_word_text bs ≡ true → (l : Bool) (rest : List ℕ) → separator_length l (bs ++ rest) ≡ None
word_apart [] text l rest = absurd (false≢true text)
word_apart (b ∷ bs) text l rest = letter_begins_none l b (bs ++ rest) (and_parts (is_letter b) (list_all is_word_byte bs) text).0

word_there : (at : ℕ) (bs rest : List ℕ) → prefix_len is_word_byte (bs ++ rest) ≡ length bs
    → word_at at (bs ++ rest) ≡ word_token bs (place at (length bs))
unfolding word_at
word_there at bs rest run =
    ap (λ n. word_token (take n (bs ++ rest)) (place at n)) run
    ∙ ap (λ word. word_token word (place at (length bs))) (take-append_seam bs rest)

word_stands : (bs : List ℕ) → is_word_text bs ≡ true → (at : ℕ) (rest : List ℕ) → Ends word_end rest
    → token_of_text at (bs ++ rest) ≡ Some (word_token bs (place at (length bs)))
word_stands [] text at rest ends = absurd (false≢true text)
word_stands (b ∷ bs) text at rest ends =
    let p = and_parts (is_letter b) (list_all is_word_byte bs) text in
    let all : list_all is_word_byte (b ∷ bs) ≡ true = and_from (is_word_byte b) (list_all is_word_byte bs) (letter_is_word b p.0) p.1 in
    word_begins at b (bs ++ rest) p.0 ∙ ap Some
    (word_there at (b ∷ bs) rest (run_over is_word_byte (b ∷ bs) rest all (word_run_ends rest ends)))

-- a word that no byte of a word follows is the token of this word
pub word_prints : {A : Type 0} {N : A → List Token → Type 0} {Is : A → Type 0} (source bs : List ℕ) (value : ℕ → A) → is_word_text bs ≡ true
    → ((at : ℕ) → N (value at) (word_token bs (place at (length bs)) ∷ []))
    → ((at : ℕ) → text_of source (place at (length bs)) ≡ bs → Is (value at))
    → Prints source word_end N Is bs
word_prints source bs value text spells holds =
    token_prints source word_end bs (λ at. word_token bs (place at (length bs))) value
    (λ l rest ends. word_apart bs text l rest) (word_stands bs text) (λ at. word_place bs (place at (length bs))) spells holds

-- ---- identifiers

none_beside : {X : Type 0} (word : List ℕ) (table : List (List ℕ × X))
    → list_any (λ w. bytes_eq w word) (map (λ (row : List ℕ × X). row.0) table) ≡ false → beside word table ≡ None
none_beside word [] h = refl
none_beside {X} word (row ∷ table) h = by (bytes_eq row.0 word) (none_beside word table) h where
  by : (t : Bool) → (list_any (λ w. bytes_eq w word) (map (λ (row : List ℕ × X). row.0) table) ≡ false → beside word table ≡ None)
      → (t || list_any (λ w. bytes_eq w word) (map (λ (row : List ℕ × X). row.0) table)) ≡ false
      → option_map (λ (r : List ℕ × X). r.1) (cond t (Some row) (find (λ (r : List ℕ × X). bytes_eq r.0 word) table)) ≡ None
  by true later h = absurd (false≢true (sym h))
  by false later h = later h

-- a word that is no word of a type, no keyword and no name of a block
record IsFree (word : List ℕ) : Type 0 where
  no_type : type_word_of word ≡ None
  no_keyword : keyword_of word ≡ None
  no_block : is_block_word word ≡ false

free_word : (word : List ℕ) → is_reserved word ≡ false → IsFree word
free_word word h =
    let types = map (λ (row : List ℕ × TypeWord). row.0) type_words in
    let keywords = map (λ (row : List ℕ × Keyword). row.0) keyword_table in
    let apart = or_parts (list_any (λ w. bytes_eq w word) reserved_words) (is_block_word word) h in
    let both : (list_any (λ w. bytes_eq w word) types || list_any (λ w. bytes_eq w word) keywords) ≡ false =
    sym (list_any-append (λ w. bytes_eq w word) types keywords) ∙ apart.0 in
    let each = or_parts (list_any (λ w. bytes_eq w word) types) (list_any (λ w. bytes_eq w word) keywords) both in
    record { no_type = none_beside word type_words each.0; no_keyword = none_beside word keyword_table each.1; no_block = apart.1 }

plain_means : (word : List ℕ) (span : Span) → is_block_word word ≡ false → identifier (plain_word word span) ≡ Some span
plain_means word span h = by (is_block_word word) (bytes_eq word (codes "ssa")) h where
  by : (b s : Bool) → b ≡ false → identifier
      (cond b (tokens.BlockWord span) (cond s (tokens.Ssa span) (tokens.Identifier span))) ≡ Some span
  by true s h = absurd (false≢true (sym h))
  by false true h = refl
  by false false h = refl

-- the token of an identifier means one
pub identifier_means : (word : List ℕ) (span : Span) → is_reserved word ≡ false → identifier (word_token word span) ≡ Some span
unfolding word_token
identifier_means word span h =
    let free = free_word word h in
    rw (free.no_type, free.no_keyword) (plain_means word span free.no_block)

pub record UnreservedWord (word : List ℕ) : Type 0 where
  pub text : is_word_text word ≡ true
  pub free : is_reserved word ≡ false

pub identifier_is_word : (word : List ℕ) → is_identifier word ≡ true → UnreservedWord word
identifier_is_word word h =
    let p = and_parts (is_word_text word) (not (is_reserved word)) h in
    record { text = p.0; free = not-true (is_reserved word) p.1 }
