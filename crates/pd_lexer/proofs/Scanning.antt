-- How far a source is read, and what is known then of its first fault.
use Rattle.std.proofs.Common.{◌≡◌, ℕ, zero, suc, ◌<◌, ◌≤◌, Bool, true, false, cond, List, [], ◌∷◌, ◌++◌, length, Option, Some, None, refl, sym, ap, ◌∙◌, subst, arith, append_assoc}
use Rattle.std.specs.Prelude.{◌==◌}
use Rattle.std.proofs.lemmas.Bool.{false≢true, eqb-true, eqb-false}
use Rattle.std.proofs.lemmas.List.{append-nil}
use Rattle.pm_ops.specs.declared.fault.PatternFault.{PatternFault}
use Rattle.pm_places.specs.FirstFaults.{first_fault, or_fault}
use Rattle.pd_lexer.specs.declared.token.Token.{Token}
use Rattle.pd_lexer.specs.declared.levels.Level.{Level}
use Rattle.pd_lexer.specs.declared.pieces.Piece.{Piece}
use Rattle.pd_lexer.specs.declared.pieces.Piece.TheVariants as pieces
use Rattle.pd_lexer.specs.Cuts.{Cuts, closes, fault_of, token_of, tokens_of, AreTokens, IsLexFault}
use Rattle.pd_lexer.specs.Levels.{Levels, ground, turned_to}
use Rattle.pd_lexer.specs.Pieces.{directive_fault, piece_at, end_of, levels_after}
use Rattle.pd_lexer.specs.Unended.{outermost_after, EndsAll}
use Rattle.pd_lexer.proofs.Cutting.{some_cut}
use Rattle.pd_lexer.proofs.FirstFaults.{faults, tokens_from, fault_from}
use Rattle.pd_lexer.proofs.Sound.{sound_piece}

-- ---- which `#if` are ended

-- what ends more levels ends fewer
closes_fewer : (n : ℕ) (rest : List Piece) → closes (suc n) rest ≡ true → closes n rest ≡ true
closes_fewer zero rest h = refl
closes_fewer (suc n) [] h = absurd (false≢true h)
closes_fewer (suc n) (pieces.If holds line ∷ rest) h = closes_fewer (suc (suc n)) rest h
closes_fewer (suc n) (pieces.EndIf line ∷ rest) h = closes_fewer n rest h
closes_fewer (suc n) (pieces.Separator to ∷ rest) h = closes_fewer (suc n) rest h
closes_fewer (suc n) (pieces.Token t ∷ rest) h = closes_fewer (suc n) rest h
closes_fewer (suc n) (pieces.Else line ∷ rest) h = closes_fewer (suc n) rest h
closes_fewer (suc n) (pieces.Fault fault to ∷ rest) h = closes_fewer (suc n) rest h

closes_one : (n : ℕ) (rest : List Piece) → closes (suc n) rest ≡ true → closes 1 rest ≡ true
closes_one zero rest h = h
closes_one (suc n) rest h = closes_one n rest (closes_fewer (suc n) rest h)

-- as many levels behind an `#else`
turned_length : (other : Option Bool) (levels : Levels) → (turned_to other levels).outer ≡ levels.outer
turned_length None levels = refl
turned_length (Some taken) levels = refl

-- a piece that opens and closes nothing
closes_past : (n : ℕ) (piece : Piece) (rest : List Piece) → ((m : ℕ) → closes (suc m) (piece ∷ rest) ≡ closes (suc m) rest)
    → closes n (piece ∷ rest) ≡ closes n rest
closes_past zero piece rest same = refl
closes_past (suc n) piece rest same = same n

-- Where an `#if` is open, the levels behind a piece are ended where those before it are by the piece and the rest
closes_next : (inner level : Level) (outer : List Level) (piece : Piece) (rest : List Piece)
    → closes (suc (length outer)) (piece ∷ rest) ≡ closes (length (levels_after (record { inner = inner; outer = level ∷ outer }) piece).outer) rest
closes_next inner level outer (pieces.Separator to) rest = refl
closes_next inner level outer (pieces.Token t) rest = refl
closes_next inner level outer (pieces.Fault fault to) rest = refl
closes_next inner level outer (pieces.Else line) rest =
    ap (λ ls. closes (length ls) rest) (sym (turned_length inner.other (record { inner = inner; outer = level ∷ outer })))
closes_next inner level outer (pieces.If holds line) rest = refl
closes_next inner level outer (pieces.EndIf line) rest = refl

-- ---- the first fault, by what was read

-- the outermost `#if` that is open, where the rest doesn't end it
abbrev open_fault : ℕ → ℕ → List Piece → Option PatternFault
open_fault outermost n rest = cond (closes n rest) None (Some (directive_fault outermost))

-- Up to a place the source is cut into pieces without a fault of their own. So its first fault is the outermost `#if` that is open
-- there and not ended, or else the first fault of the rest
pub record Reached (source : List ℕ) (levels : Levels) (outermost at : ℕ) (tokens : List Token) : Type 0 where
  pub before : List Piece
  pub goes : (rest : List Piece) → Cuts source levels at rest → Cuts source ground 0 (before ++ rest)
  pub are : tokens ≡ tokens_of before
  pub judged : (rest : List Piece)
      → first_fault (faults (before ++ rest)) ≡ or_fault (open_fault outermost (length levels.outer) rest) (first_fault (faults rest))
  pub within : at ≤ length source

-- the piece has no fault of its own
abbrev pub IsRight : Piece → Type 0
IsRight (pieces.Fault fault to) = ⊥
IsRight piece = Unit {0}

pub right_from : (piece : Piece) → ((fault : PatternFault) (to : ℕ) → piece ≡ pieces.Fault fault to → ⊥) → IsRight piece
right_from (pieces.Separator to) never = tt
right_from (pieces.Token t) never = tt
right_from (pieces.If holds line) never = tt
right_from (pieces.Else line) never = tt
right_from (pieces.EndIf line) never = tt
right_from (pieces.Fault fault to) never = never fault to refl

passed : (n m outermost : ℕ) (piece : Piece) (rest : List Piece) → closes n (piece ∷ rest) ≡ closes m rest → fault_of piece rest ≡ None
    → or_fault (open_fault outermost n (piece ∷ rest)) (first_fault (faults (piece ∷ rest)))
    ≡ or_fault (open_fault outermost m rest) (first_fault (faults rest))
passed n m outermost piece rest c f = rw (c, f) refl

judged_next : (inner : Level) (outer : List Level) (outermost : ℕ) (piece : Piece) (rest : List Piece) → IsRight piece
    → or_fault (open_fault outermost (length outer) (piece ∷ rest)) (first_fault (faults (piece ∷ rest)))
    ≡ or_fault (open_fault (outermost_after (record { inner = inner; outer = outer }) piece outermost) (length (levels_after
    (record { inner = inner; outer = outer }) piece).outer) rest) (first_fault (faults rest))
judged_next inner outer outermost (pieces.Separator to) rest right = passed (length outer) (length outer) outermost (pieces.Separator to) rest
    (closes_past (length outer) (pieces.Separator to) rest (λ m. refl)) refl
judged_next inner outer outermost (pieces.Token t) rest right = passed (length outer) (length outer) outermost (pieces.Token t) rest (closes_past
    (length outer) (pieces.Token t) rest (λ m. refl)) refl
judged_next inner outer outermost (pieces.Else line) rest right =
    passed (length outer) (length (turned_to inner.other (record { inner = inner; outer = outer })).outer) outermost (pieces.Else line) rest
    (closes_past (length outer) (pieces.Else line) rest (λ m. refl)
    ∙ ap (λ ls. closes (length ls) rest) (sym (turned_length inner.other (record { inner = inner; outer = outer })))) refl
judged_next inner [] outermost (pieces.EndIf line) rest right = passed 0 0 outermost (pieces.EndIf line) rest refl refl
judged_next inner (level ∷ outer) outermost (pieces.EndIf line) rest right =
    passed (suc (length outer)) (length outer) outermost (pieces.EndIf line) rest refl refl
judged_next inner [] outermost (pieces.If holds line) rest right = by (closes 1 rest) where
  by : (c : Bool) → first_fault (cond c None (Some (directive_fault line.from)) ∷ faults rest)
      ≡ or_fault (cond c None (Some (directive_fault line.from))) (first_fault (faults rest))
  by true = refl
  by false = refl
judged_next inner (level ∷ outer) outermost (pieces.If holds line) rest right =
    by (closes (suc (suc (length outer))) rest) (closes 1 rest) (closes_one (suc (length outer)) rest) where
      by : (all one : Bool) → (all ≡ true → one ≡ true)
          → or_fault (cond all None (Some (directive_fault outermost))) (first_fault (cond one None (Some (directive_fault line.from)) ∷ faults rest))
          ≡ or_fault (cond all None (Some (directive_fault outermost))) (first_fault (faults rest))
      by false one h = refl
      by true true h = refl
      by true false h = absurd (false≢true (h refl))
judged_next inner outer outermost (pieces.Fault fault to) rest right = absurd right

tokens_further : (before : List Piece) (piece : Piece) → tokens_of (before ++ piece ∷ []) ≡ tokens_of before ++ token_of piece
tokens_further [] piece = append-nil (token_of piece)
tokens_further (p ∷ before) piece =
    ap (λ ts. token_of p ++ ts) (tokens_further before piece) ∙ sym (append_assoc (token_of p) (tokens_of before) (token_of piece))

pub stepped : (source : List ℕ) (levels : Levels) (outermost at : ℕ) (tokens : List Token) (piece : Piece) → Reached source levels outermost at tokens
    → at < length source → piece ≡ piece_at source levels at → IsRight piece
    → Reached source (levels_after levels piece) (outermost_after levels piece outermost) (end_of piece) (tokens ++ token_of piece)
stepped source levels outermost at tokens piece reached lt e right =
    let sound = sound_piece source levels at lt in
    record {
      before = reached.before ++ piece ∷ [];
      goes = λ rest cut. subst (Cuts source ground 0) (sym (append_assoc reached.before (piece ∷ []) rest)) (reached.goes (piece ∷ rest)
          (lt, sym e, cut));
      are = ap (λ ts. ts ++ token_of piece) reached.are ∙ sym (tokens_further reached.before piece);
      judged = λ rest. ap (λ ps. first_fault (faults ps)) (append_assoc reached.before (piece ∷ []) rest) ∙ reached.judged (piece ∷ rest)
          ∙ judged_next levels.inner levels.outer outermost piece rest right;
      within = subst (λ p. end_of p ≤ length source) (sym e) sound.within;
    }

-- a piece has bytes, and these lie in the source
pub goes_on : (source : List ℕ) (levels : Levels) {at to : ℕ} {piece : Piece} → at < length source → piece ≡ piece_at source levels at
    → to ≡ end_of piece
    → (at < to) × (to ≤ length source)
goes_on source levels {at} {to} {piece} lt e t =
    let sound = sound_piece source levels at lt in
    let same : to ≡ end_of (piece_at source levels at) = t ∙ ap end_of e in
    (omega (arith, sound.ends, same), omega (arith, sound.within, same))

-- the same, by what the calls say of it
pub stepped_to : {source : List ℕ} {levels further : Levels} {outermost next at to : ℕ} {tokens us : List Token} {piece : Piece}
    → Reached source levels outermost at tokens → at < length source → piece ≡ piece_at source levels at → IsRight piece
    → us ≡ tokens ++ token_of piece → next ≡ outermost_after levels piece outermost → further ≡ levels_after levels piece → to ≡ end_of piece
    → Reached source further next to us
stepped_to {source} {levels} {further} {outermost} {next} {at} {to} {tokens} {us} {piece} reached lt e right t o l n =
    rw (t, o, l, n) (stepped source levels outermost at tokens piece reached lt e right)

-- ---- the end, and faults

pub none_open : (n : ℕ) (is_ground : Bool) → is_ground ≡ (n == 0) → is_ground ≡ true → n ≡ 0
none_open n is_ground e h = eqb-true n 0 (sym e ∙ h)

pub some_open : (n : ℕ) (is_ground : Bool) → is_ground ≡ (n == 0) → is_ground ≡ false → 0 < n
some_open n is_ground e h = let other = eqb-false n 0 (sym e ∙ h) in omega (arith, other)

at_end : (source : List ℕ) (levels : Levels) (outermost at : ℕ) (tokens : List Token) (reached : Reached source levels outermost at tokens)
    → length source ≤ at
    → Cuts source ground 0 reached.before
at_end source levels outermost at tokens reached ge =
    subst (Cuts source ground 0) (append-nil reached.before) (reached.goes [] (omega (arith, reached.within)))

first_at_end : (source : List ℕ) (levels : Levels) (outermost at : ℕ) (tokens : List Token) (reached : Reached source levels outermost at tokens)
    → first_fault (faults reached.before) ≡ or_fault (open_fault outermost (length levels.outer) []) None
first_at_end source levels outermost at tokens reached = ap (λ ps. first_fault (faults ps)) (sym (append-nil reached.before)) ∙ reached.judged []

pub read_whole : {source : List ℕ} {levels : Levels} {outermost at : ℕ} {tokens : List Token} → Reached source levels outermost at tokens
    → length source ≤ at
    → length levels.outer ≡ 0 → AreTokens source tokens
read_whole {source} {levels} {outermost} {at} {tokens} reached ge none =
    tokens_from source reached.before tokens (at_end source levels outermost at tokens reached ge)
    (first_at_end source levels outermost at tokens reached ∙ ap (λ n. or_fault (open_fault outermost n []) None) none) reached.are

pub left_open : {source : List ℕ} {levels : Levels} {outermost at : ℕ} {tokens : List Token} → Reached source levels outermost at tokens
    → length source ≤ at
    → 0 < length levels.outer → IsLexFault source (directive_fault outermost)
left_open {source} {levels} {outermost} {at} {tokens} reached ge some =
    fault_from source reached.before (directive_fault outermost) (at_end source levels outermost at tokens reached ge)
    (first_at_end source levels outermost at tokens reached ∙ by levels.outer some) where
      by : (outer : List Level) → 0 < length outer → or_fault (open_fault outermost (length outer) []) None ≡ Some (directive_fault outermost)
      by [] some = absurd (omega arith)
      by (level ∷ outer) some = refl

-- a piece with a fault, where the levels round it are ended or not
pub at_fault : {source : List ℕ} {levels : Levels} {outermost at : ℕ} {tokens : List Token} {fault : PatternFault} {to : ℕ} {ended : Bool}
    → Reached source levels outermost at tokens → at < length source → pieces.Fault fault to ≡ piece_at source levels at
    → EndsAll source levels to ended
    → IsLexFault source (cond ended fault (directive_fault outermost))
at_fault {source} {levels} {outermost} {at} {tokens} {fault} {to} {ended} reached lt e ends =
    let sound = sound_piece source levels at lt in
    let within : to ≤ length source = subst (λ p. end_of p ≤ length source) (sym e) sound.within in
    let rest = some_cut source levels to within in
    let c : closes (length levels.outer) (pieces.Fault fault to ∷ rest.0) ≡ ended =
    closes_past (length levels.outer) (pieces.Fault fault to) rest.0 (λ m. refl) ∙ ends rest.0 rest.1 in
    fault_from source (reached.before ++ pieces.Fault fault to ∷ rest.0) (cond ended fault (directive_fault outermost))
    (reached.goes (pieces.Fault fault to ∷ rest.0) (lt, sym e, rest.1))
    (reached.judged (pieces.Fault fault to ∷ rest.0) ∙ by (closes (length levels.outer) (pieces.Fault fault to ∷ rest.0)) ended c) where
      by : (c d : Bool) → c ≡ d → or_fault (cond c None (Some (directive_fault outermost))) (Some fault)
          ≡ Some (cond d fault (directive_fault outermost))
      by true true h = refl
      by false false h = refl
      by true false h = absurd (false≢true (sym h))
      by false true h = absurd (false≢true h)

-- ---- looking for the ends of the `#if` that are open

-- what ends the levels that were open at first ends those that are open now
pub record Sought (source : List ℕ) (first : Levels) (start : ℕ) (levels : Levels) (at : ℕ) : Type 0 where
  pub further : (rest : List Piece) → Cuts source first start rest
      → (left : List Piece) × Cuts source levels at left × (closes (length first.outer) rest ≡ closes (length levels.outer) left)
  pub within : at ≤ length source

pub sought_next : (source : List ℕ) (first : Levels) (start : ℕ) (levels : Levels) (at : ℕ) (piece : Piece) → Sought source first start levels at
    → at < length source → piece ≡ piece_at source levels at → 0 < length levels.outer
    → Sought source first start (levels_after levels piece) (end_of piece)
sought_next source first start levels at piece sought lt e some =
    record {
      further = λ rest cut. by rest (sought.further rest cut);
      within = subst (λ p. end_of p ≤ length source) (sym e) (sound_piece source levels at lt).within;
    } where
      next : (inner : Level) (outer : List Level) (rest : List Piece) → 0 < length outer
          → closes (length outer) (piece ∷ rest) ≡ closes (length (levels_after (record { inner = inner; outer = outer }) piece).outer) rest
      next inner [] rest some = absurd (omega arith)
      next inner (level ∷ outer) rest some = closes_next inner level outer piece rest

      by : (rest : List Piece) → ((left : List Piece) × Cuts source levels at left × (closes (length first.outer) rest
          ≡ closes (length levels.outer) left))
          → (left : List Piece) × Cuts source (levels_after levels piece) (end_of piece) left
          × (closes (length first.outer) rest ≡ closes (length (levels_after levels piece).outer) left)
      by rest ([], cut, same) = absurd (omega (arith, cut))
      by rest (p ∷ left, cut, same) =
          let is : p ≡ piece = sym cut.1 ∙ sym e in (
            left,
            subst (λ q. Cuts source (levels_after levels q) (end_of q) left) is cut.2,
            same ∙ ap (λ q. closes (length levels.outer) (q ∷ left)) is ∙ next levels.inner levels.outer left some,
          )

-- the same, by what the calls say of it
pub sought_to : {source : List ℕ} {first levels further : Levels} {start at to : ℕ} {piece : Piece} → Sought source first start levels at
    → at < length source → piece ≡ piece_at source levels at → 0 < length levels.outer → further ≡ levels_after levels piece → to ≡ end_of piece
    → Sought source first start further to
sought_to {source} {first} {levels} {further} {start} {at} {to} {piece} sought lt e some l n = rw (l, n)
    (sought_next source first start levels at piece sought lt e some)
