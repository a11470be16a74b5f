-- What holds of the piece that begins at a place: it has bytes, these lie in the source, and a token stands there.
use Rattle.std.proofs.Common.{◌≡◌, ℕ, ◌+◌, ◌-◌, ◌^◌, ◌<◌, ◌≤◌, Bool, true, false, cond, List, [], ◌∷◌, length, take, drop, codes, Option, Some, None, refl, ap, ◌∙◌, subst, arith}
use Rattle.std.specs.Prelude.{option_map, nat_lt, ◌&&◌}
use Rattle.std.specs.List.{prefix_len}
use Rattle.std.proofs.lemmas.Bool.{ltb-true, not-false}
use Rattle.std.proofs.lemmas.List.{length-drop, drop-drop}
use Rattle.lexing.specs.Separators.{opens, line_length}
use Rattle.pm_ops.specs.declared.fault.PatternFault.{PatternFault}
use Rattle.pm_ops.specs.declared.fault.PatternKind.{PatternKind}
use Rattle.pm_ops.specs.declared.fault.PatternKind.TheVariants.{BadByte, OpenComment, OpenString, LongNumber}
use Rattle.pm_places.specs.declared.span.Span.{Span}
use Rattle.pd_lexer.specs.declared.token.Token.{Token}
use Rattle.pd_lexer.specs.declared.token.TokenKind.{TokenKind}
use Rattle.pd_lexer.specs.declared.token.TokenKind.TheVariants.{Ident, Number, Capture, ValueCapture, Text, Punct}
use Rattle.pd_lexer.specs.declared.directives.Directive.{Directive}
use Rattle.pd_lexer.specs.declared.directives.Directive.TheVariants as directive
use Rattle.pd_lexer.specs.declared.levels.Level.{Level}
use Rattle.pd_lexer.specs.declared.pieces.Piece.{Piece}
use Rattle.pd_lexer.specs.declared.pieces.Piece.TheVariants as pieces
use Rattle.pd_lexer.specs.Cuts.{closes, fault_of}
use Rattle.pd_lexer.specs.Directives.{is_blank, line_begins, blanks_before_hash, hash_at, directive_of}
use Rattle.pd_lexer.specs.Faults.{IsLexical, FaultStands}
use Rattle.pd_lexer.specs.Levels.{Levels}
use Rattle.pd_lexer.specs.Numbers.{number_value}
use Rattle.pd_lexer.specs.Pieces.{directive_fault, else_piece, end_piece, line_piece, directive_piece, separator_length, is_capture, is_behind_word, is_long, token_piece, no_token_piece, token_or_fault, behind_separators, taken_piece, piece_from, piece_at, end_of}
use Rattle.pd_lexer.specs.Spelled.{Spells, IsSmall, StandsIn}
use Rattle.pd_lexer.specs.Tokens.{token_front}
use Rattle.pd_lexer.proofs.Fronts.{opens_one, opened_line, separator_within, Front, front_of}

pub record IsSound (source : List ℕ) (at : ℕ) (piece : Piece) : Type 0 where
  pub ends : at < end_of piece
  pub within : end_of piece ≤ length source
  pub stands : (t : Token) → piece ≡ pieces.Token t → (t.from ≡ at) × StandsIn source t
  pub place : (rest : List Piece) (fault : PatternFault) → fault_of piece rest ≡ Some fault → FaultStands at (end_of piece) fault

fault_is : (a b : PatternFault) → Some a ≡ Some b → a ≡ b
fault_is a b e = cc

sound_fault : (source : List ℕ) (at to : ℕ) (fault : PatternFault) → at < to → to ≤ length source → FaultStands at to fault
    → IsSound source at (pieces.Fault fault to)
sound_fault source at to fault lt le stands = record {
  ends = lt;
  within = le;
  stands = λ t e. absurd cc;
  place = λ rest other e. subst (FaultStands at to) (fault_is fault other e) stands;
}

-- ---- directive lines

-- where a `#` stands
record HashFront (source : List ℕ) (at hash : ℕ) : Type 0 where
  behind : at ≤ hash
  line : (0 < line_length (drop hash source)) × (line_length (drop hash source) ≤ length (drop hash source))

blanks_end : (text : List ℕ) (n : ℕ) → blanks_before_hash text ≡ Some n → opens (drop n text) (codes "#") ≡ true
unfolding blanks_before_hash
blanks_end text n e = by (opens (drop (prefix_len is_blank text) text) (codes "#")) refl e where
  by : (o : Bool) → opens (drop (prefix_len is_blank text) text) (codes "#") ≡ o → cond o (Some (prefix_len is_blank text)) None ≡ Some n
      → opens (drop n text) (codes "#") ≡ true
  by false h e = absurd cc
  by true h e = let same : prefix_len is_blank text ≡ n = cc in subst (λ k. opens (drop k text) (codes "#") ≡ true) same h

hash_front : (source : List ℕ) (at hash : ℕ) → hash_at source at ≡ Some hash → HashFront source at hash
unfolding hash_at
hash_front source at hash e = by (line_begins source at) (blanks_before_hash (drop at source)) (blanks_end (drop at source)) e where
  by : (l : Bool) (o : Option ℕ) → ((n : ℕ) → o ≡ Some n → opens (drop n (drop at source)) (codes "#") ≡ true)
      → cond l (option_map (λ n. at + n) o) None ≡ Some hash → HashFront source at hash
  by false o ends e = absurd cc
  by true None ends e = absurd cc
  by true (Some n) ends e =
      let same : at + n ≡ hash = cc in
      let text : drop n (drop at source) ≡ drop hash source = drop-drop n at source ∙ ap (λ k. drop k source) same in
      let h : opens (drop hash source) (codes "#") ≡ true = subst (λ bs. opens bs (codes "#") ≡ true) text (ends n refl) in
      record { behind = omega (arith, same); line = opened_line 35 (drop hash source) refl (opens_one 35 (drop hash source) h) }

-- a directive line ends with its line, and is no token
record IsLine (line : Span) (piece : Piece) : Type 0 where
  ends : end_of piece ≡ line.to
  other : (t : Token) → piece ≡ pieces.Token t → ⊥
  place : (rest : List Piece) (fault : PatternFault) → fault_of piece rest ≡ Some fault → directive_fault line.from ≡ fault

no_fault : {P : Type 0} (fault : PatternFault) → None ≡ Some fault → P
no_fault fault e = absurd cc

wrong_line : (line : Span) → IsLine line (pieces.Fault (directive_fault line.from) line.to)
wrong_line line = record { ends = refl; other = λ t e. cc; place = λ rest fault e. fault_is (directive_fault line.from) fault e }

if_line : (holds : Bool) (line : Span) → IsLine line (pieces.If holds line)
if_line holds line = record { ends = refl; other = λ t e. cc; place = λ rest fault e. by (closes 1 rest) fault e } where
  by : (c : Bool) (fault : PatternFault) → cond c None (Some (directive_fault line.from)) ≡ Some fault → directive_fault line.from ≡ fault
  by true fault e = no_fault fault e
  by false fault e = fault_is (directive_fault line.from) fault e

is_else : (other : Option Bool) (line : Span) → IsLine line (else_piece other line)
is_else (Some taken) line = record { ends = refl; other = λ t e. cc; place = λ rest fault e. no_fault fault e }
is_else None line = wrong_line line

is_end : (outer : List Level) (line : Span) → IsLine line (end_piece outer line)
is_end (level ∷ outer) line = record { ends = refl; other = λ t e. cc; place = λ rest fault e. no_fault fault e }
is_end [] line = wrong_line line

is_line : (d : Option Directive) (levels : Levels) (line : Span) → IsLine line (line_piece d levels line)
is_line (Some (directive.If holds)) levels line = if_line holds line
is_line (Some directive.Else) levels line = is_else levels.inner.other line
is_line (Some directive.EndIf) levels line = is_end levels.outer line
is_line None levels line = wrong_line line

sound_line : (source : List ℕ) (levels : Levels) (at hash : ℕ) → hash_at source at ≡ Some hash
    → IsSound source at (directive_piece source levels hash)
sound_line source levels at hash e =
    let front = hash_front source at hash e in
    let left : length (drop hash source) ≡ length source - hash = length-drop hash source in
    let line = is_line (directive_of (drop hash source)) levels (record { from = hash; to = hash + line_length (drop hash source) }) in
    record {
      ends = omega (arith, front.behind, front.line.0, line.ends);
      within = omega (arith, front.line, line.ends);
      stands = λ t e. absurd (line.other t e);
      place = λ rest fault e. subst (FaultStands at (end_of (directive_piece source levels hash))) (line.place rest fault e) (record {
        behind = front.behind;
        before = omega (arith, front.line.0, line.ends);
        within = omega (arith, line.ends);
        lexical = refl;
      });
    }

-- ---- parts that are taken

sound_separator : (source : List ℕ) (at to : ℕ) → at < to → to ≤ length source → IsSound source at (pieces.Separator to)
sound_separator source at to lt le = record { ends = lt; within = le; stands = λ t e. absurd cc; place = λ rest fault e. no_fault fault e }

small_from : (kind : TokenKind) (text : List ℕ) → is_long kind text ≡ false → IsSmall text kind
small_from Number text h = ltb-true (number_value text) (2 ^ 63) (not-false (nat_lt (number_value text) (2 ^ 63)) h)
small_from Ident text h = tt
small_from Capture text h = tt
small_from ValueCapture text h = tt
small_from Text text h = tt
small_from Punct text h = tt

token_stands : (source : List ℕ) (at : ℕ) (kind : TokenKind) (n : ℕ) → at ≤ length source → Front (drop at source) kind n
    → is_long kind (take n (drop at source)) ≡ false
    → StandsIn source (record { kind = kind; from = at; to = at + n; joined = is_capture kind && is_behind_word source at })
token_stands source at kind n le front short =
    let left : length (drop at source) ≡ length source - at = length-drop at source in
    let len : n ≡ (at + n) - at = omega arith in
    record {
      has_bytes = omega (arith, front.long);
      within = omega (arith, front.within);
      spelled = subst (λ m. Spells (take m (drop at source)) kind) len front.spelled;
      small = subst (λ m. IsSmall (take m (drop at source)) kind) len (small_from kind (take n (drop at source)) short);
      joined = refl;
    }

-- the token of n bytes
token_of_bytes : List ℕ → ℕ → TokenKind → ℕ → Token
token_of_bytes source at kind n = record { kind = kind; from = at; to = at + n; joined = is_capture kind && is_behind_word source at }

token_is : (t u : Token) → pieces.Token t ≡ pieces.Token u → t ≡ u
token_is t u e = cc

sound_token : (source : List ℕ) (at : ℕ) (kind : TokenKind) (n : ℕ) → at ≤ length source → Front (drop at source) kind n
    → IsSound source at (token_piece source at kind n)
unfolding token_of_bytes
sound_token source at kind n le front = by (is_long kind (take n (drop at source))) refl where
  left : length (drop at source) ≡ length source - at
  left = length-drop at source

  long : PatternFault
  long = record { kind = LongNumber; at = at; len = n }

  by : (b : Bool) → is_long kind (take n (drop at source)) ≡ b
      → IsSound source at (cond b (pieces.Fault long (at + n)) (pieces.Token (token_of_bytes source at kind n)))
  by true h = sound_fault source at (at + n) long (omega (arith, front.long)) (omega (arith, front.within, left))
      (record { behind = omega arith; before = omega (arith, front.long); within = omega arith; lexical = front.long })
  by false h = record {
    ends = omega (arith, front.long);
    within = omega (arith, front.within, left);
    stands = λ t e. subst (λ (u : Token). (u.from ≡ at) × StandsIn source u) (token_is (token_of_bytes source at kind n) t e)
        (refl, token_stands source at kind n le front h);
    place = λ rest fault e. no_fault fault e;
  }

-- a fault without bytes that begins where its piece does
stands_here : (at to : ℕ) (kind : PatternKind) → at < to → IsLexical kind 0 → FaultStands at to (record { kind = kind; at = at; len = 0 })
stands_here at to kind lt lexical = record { behind = omega arith; before = lt; within = omega (arith, lt); lexical = lexical }

sound_bad : (source : List ℕ) (at : ℕ) → at < length source → IsSound source at (no_token_piece at (drop at source))
sound_bad source at lt = by (opens (drop at source) (codes "\"")) refl where
  left : length (drop at source) ≡ length source - at
  left = length-drop at source

  open_text : PatternFault
  open_text = record { kind = OpenString; at = at; len = 0 }

  bad : PatternFault
  bad = record { kind = BadByte; at = at; len = 0 }

  by : (o : Bool) → opens (drop at source) (codes "\"") ≡ o
      → IsSound source at (cond o (pieces.Fault open_text (at + line_length (drop at source))) (pieces.Fault bad (at + 1)))
  by true h =
      let line = opened_line 34 (drop at source) refl (opens_one 34 (drop at source) h) in
      let to = at + line_length (drop at source) in
      sound_fault source at to open_text (omega (arith, line.0)) (omega (arith, line.1, left)) (stands_here at to OpenString (omega (arith, line.0)) refl)
  by false h = sound_fault source at (at + 1) bad (omega arith) (omega (arith, lt)) (stands_here at (at + 1) BadByte (omega arith) refl)

sound_taken : (source : List ℕ) (at : ℕ) → at < length source → IsSound source at (taken_piece source at)
unfolding taken_piece
sound_taken source at lt = by (separator_length (drop at source)) (separator_within (drop at source)) where
  left : length (drop at source) ≡ length source - at
  left = length-drop at source

  token : (o : Option (TokenKind × ℕ)) → ((kind : TokenKind) (n : ℕ) → o ≡ Some (kind, n) → Front (drop at source) kind n)
      → IsSound source at (token_or_fault source at o)
  token (Some found) fronts = sound_token source at found.0 found.1 (omega (arith, lt)) (fronts found.0 found.1 refl)
  token None fronts = sound_bad source at lt

  unended : PatternFault
  unended = record { kind = OpenComment; at = at; len = 0 }

  open_comment : (o : Bool) → IsSound source at (cond o (pieces.Fault unended (length source)) (token_or_fault source at (token_front (drop at source))))
  open_comment true = sound_fault source at (length source) unended lt (omega arith) (stands_here at (length source) OpenComment lt refl)
  open_comment false = token (token_front (drop at source)) (front_of (drop at source))

  by : (o : Option ℕ) → ((n : ℕ) → o ≡ Some n → (0 < n) × (n ≤ length (drop at source))) → IsSound source at (behind_separators source at o)
  by (Some n) within = let w = within n refl in sound_separator source at (at + n) (omega (arith, w)) (omega (arith, w, left))
  by None within = open_comment (opens (drop at source) (codes "/*"))

-- ---- all of them

pub sound_piece : (source : List ℕ) (levels : Levels) (at : ℕ) → at < length source → IsSound source at (piece_at source levels at)
unfolding piece_at
sound_piece source levels at lt = by (hash_at source at) refl where
  part : (taken : Bool) → IsSound source at (cond taken (taken_piece source at) (pieces.Separator (at + 1)))
  part true = sound_taken source at lt
  part false = sound_separator source at (at + 1) (omega arith) (omega (arith, lt))

  by : (o : Option ℕ) → hash_at source at ≡ o → IsSound source at (piece_from source levels at o)
  by (Some hash) e = sound_line source levels at hash e
  by None e = part levels.inner.taken
