-- The fault at the least place is the first one of the pieces, as they stand in the source.
use Rattle.std.proofs.Common.{◌≡◌, ℕ, ◌<◌, ◌≤◌, ◌⊎◌, inl, inr, List, [], ◌∷◌, ◌++◌, length, Option, Some, None, refl, sym, ap, ◌∙◌, subst, arith}
use Rattle.pm_ops.specs.declared.fault.PatternFault.{PatternFault}
use Rattle.pm_places.specs.FirstFaults.{first_fault}
use Rattle.pd_lexer.specs.declared.token.Token.{Token}
use Rattle.pd_lexer.specs.declared.pieces.Piece.{Piece}
use Rattle.pd_lexer.specs.Cuts.{Cuts, fault_of, tokens_of, IsFaultOf, AreTokens, IsLexFault, HasOutcome}
use Rattle.pd_lexer.specs.Faults.{FaultStands}
use Rattle.pd_lexer.specs.Levels.{Levels, ground}
use Rattle.pd_lexer.specs.Pieces.{end_of, levels_after}
use Rattle.pd_lexer.proofs.Cutting.{one_cut, some_cut}
use Rattle.pd_lexer.proofs.Sound.{IsSound, sound_piece}

-- the faults of all pieces, in the order of the file
abbrev pub faults : List Piece → List (Option PatternFault)
faults [] = []
faults (piece ∷ rest) = fault_of piece rest ∷ faults rest

some_is : {X : Type 0} (x y : X) → Some x ≡ Some y → x ≡ y
some_is x y e = cc

-- where no piece has a fault, this one has none
none_there : (front : List Piece) (piece : Piece) (rest : List Piece) → first_fault (faults (front ++ piece ∷ rest)) ≡ None
    → fault_of piece rest ≡ None
none_there [] piece rest e = by (fault_of piece rest) e where
  by : (o : Option PatternFault) → first_fault (o ∷ faults rest) ≡ None → o ≡ None
  by None e = refl
  by (Some fault) e = absurd cc
none_there (p ∷ front) piece rest e = by (fault_of p (front ++ piece ∷ rest)) e (none_there front piece rest) where
  by : (o : Option PatternFault) → first_fault (o ∷ faults (front ++ piece ∷ rest)) ≡ None
      → (first_fault (faults (front ++ piece ∷ rest)) ≡ None → fault_of piece rest ≡ None) → fault_of piece rest ≡ None
  by None e later = later e
  by (Some fault) e later = absurd cc

-- a piece among others, with its fault
record HasFault (ps : List Piece) (fault : PatternFault) : Type 0 where
  front : List Piece
  piece : Piece
  rest : List Piece
  splits : ps ≡ front ++ piece ∷ rest
  has : fault_of piece rest ≡ Some fault

first_stands : (ps : List Piece) (fault : PatternFault) → first_fault (faults ps) ≡ Some fault → HasFault ps fault
first_stands [] fault e = absurd cc
first_stands (p ∷ ps) fault e = by (fault_of p ps) refl e (first_stands ps fault) where
  by : (o : Option PatternFault) → fault_of p ps ≡ o → first_fault (o ∷ faults ps) ≡ Some fault
      → (first_fault (faults ps) ≡ Some fault → HasFault ps fault) → HasFault (p ∷ ps) fault
  by None has e later =
      let found = later e in
      record { front = p ∷ found.front; piece = found.piece; rest = found.rest; splits = ap (λ qs. p ∷ qs) found.splits; has = found.has }
  by (Some other) has e later = record { front = []; piece = p; rest = ps; splits = refl; has = has ∙ e }

-- a fault stands within the pieces
fault_stands : (source : List ℕ) (levels : Levels) (at : ℕ) (front : List Piece) (piece : Piece) (rest : List Piece) (fault : PatternFault)
    → Cuts source levels at (front ++ piece ∷ rest) → fault_of piece rest ≡ Some fault → FaultStands at (length source) fault
fault_stands source levels at [] piece rest fault cut has =
    let sound = subst (IsSound source at) cut.1 (sound_piece source levels at cut.0) in
    let stands = sound.place rest fault has in
    record {
      behind = stands.behind;
      before = omega (arith, stands.before, sound.within);
      within = omega (arith, stands.within, sound.within);
      lexical = stands.lexical;
    }
fault_stands source levels at (p ∷ front) piece rest fault cut has =
    let sound = subst (IsSound source at) cut.1 (sound_piece source levels at cut.0) in
    let later = fault_stands source (levels_after levels p) (end_of p) front piece rest fault cut.2 has in
    record { behind = omega (arith, sound.ends, later.behind); before = later.before; within = later.within; lexical = later.lexical }

-- the first fault is the one of a piece, or stands before it
first_or_before : (source : List ℕ) (levels : Levels) (at : ℕ) (front : List Piece) (piece : Piece) (rest : List Piece) (first fault : PatternFault)
    → Cuts source levels at (front ++ piece ∷ rest) → fault_of piece rest ≡ Some fault → first_fault (faults (front ++ piece ∷ rest)) ≡ Some first
    → (first ≡ fault) ⊎ (first.at < fault.at)
first_or_before source levels at [] piece rest first fault cut has e =
    inl (some_is first fault (sym e ∙ ap (λ o. first_fault (o ∷ faults rest)) has))
first_or_before source levels at (p ∷ front) piece rest first fault cut has e =
    by (fault_of p (front ++ piece ∷ rest)) refl e
    (first_or_before source (levels_after levels p) (end_of p) front piece rest first fault cut.2 has)
    (fault_stands source (levels_after levels p) (end_of p) front piece rest fault cut.2 has).behind where
      by : (o : Option PatternFault) → fault_of p (front ++ piece ∷ rest) ≡ o → first_fault (o ∷ faults (front ++ piece ∷ rest)) ≡ Some first
          → (first_fault (faults (front ++ piece ∷ rest)) ≡ Some first → (first ≡ fault) ⊎ (first.at < fault.at))
          → end_of p ≤ fault.at → (first ≡ fault) ⊎ (first.at < fault.at)
      by None own e later behind = later e
      by (Some other) own e later behind =
          let place = (subst (IsSound source at) cut.1 (sound_piece source levels at cut.0)).place (front ++ piece ∷ rest) first (own ∙ e) in
          inr (omega (arith, place.before, behind))

-- ---- what the contracts say

pub tokens_from : (source : List ℕ) (ps : List Piece) (ts : List Token) → Cuts source ground 0 ps → first_fault (faults ps) ≡ None → ts ≡ tokens_of ps
    → AreTokens source ts
tokens_from source ps ts cut none are = record { pieces = ps; cut = cut; sound = λ fault is. by fault is; are = are } where
  by : (fault : PatternFault) → IsFaultOf source fault → ⊥
  by fault is =
      let same = one_cut source ground 0 ps (is.front ++ is.piece ∷ is.rest) cut is.cut in
      let own = none_there is.front is.piece is.rest (subst (λ qs. first_fault (faults qs) ≡ None) same none) in
      never fault (sym own ∙ is.has) where
        never : (fault : PatternFault) → None ≡ Some fault → ⊥
        never fault e = cc

pub fault_from : (source : List ℕ) (ps : List Piece) (fault : PatternFault) → Cuts source ground 0 ps → first_fault (faults ps) ≡ Some fault
    → IsLexFault source fault
fault_from source ps fault cut first =
    let found = first_stands ps fault first in
    record {
      is = record {
        front = found.front;
        piece = found.piece;
        rest = found.rest;
        cut = subst
            (Cuts source ground 0) found.splits cut;
        has = found.has;
      };
      least = λ other is.
          let same = one_cut source ground 0 ps (is.front ++ is.piece ∷ is.rest) cut is.cut in
          by other (first_or_before source ground 0 is.front is.piece is.rest fault other is.cut is.has (subst (λ qs. first_fault (faults qs)
          ≡ Some fault) same first));
    } where
      by : (other : PatternFault) → (fault ≡ other) ⊎ (fault.at < other.at) → fault.at ≤ other.at
      by other (inl e) = omega (arith, ap (λ (f : PatternFault). f.at) e)
      by other (inr lt) = omega (arith, lt)

-- the least fault is the first
least_is_first : (source : List ℕ) (ps : List Piece) (fault : PatternFault) → Cuts source ground 0 ps → IsLexFault source fault
    → first_fault (faults ps) ≡ Some fault
least_is_first source ps fault cut least = by (first_fault (faults ps)) refl where
  same : ps ≡ least.is.front ++ least.is.piece ∷ least.is.rest
  same = one_cut source ground 0 ps (least.is.front ++ least.is.piece ∷ least.is.rest) cut least.is.cut

  none : {P : Type 0} (fault : PatternFault) → None ≡ Some fault → P
  none fault e = absurd cc

  by : (o : Option PatternFault) → first_fault (faults ps) ≡ o → o ≡ Some fault
  by None e = none fault (sym (none_there least.is.front least.is.piece least.is.rest (subst (λ qs. first_fault (faults qs) ≡ None) same e))
      ∙ least.is.has)
  by (Some first) e =
      let before = first_or_before source ground 0 least.is.front least.is.piece least.is.rest first fault least.is.cut least.is.has (subst
      (λ qs. first_fault (faults qs) ≡ Some first) same e) in
      decided before (least.least first (fault_from source ps first cut e).is) where
        decided : (first ≡ fault) ⊎ (first.at < fault.at) → fault.at ≤ first.at → Some first ≡ Some fault
        decided (inl e) le = ap Some e
        decided (inr lt) le = absurd (omega (arith, lt, le))

pub same_fault : (source : List ℕ) (a b : PatternFault) → IsLexFault source a → IsLexFault source b → a ≡ b
same_fault source a b p q =
    let ps = p.is.front ++ p.is.piece ∷ p.is.rest in
    some_is a b (sym (least_is_first source ps a p.is.cut p) ∙ least_is_first source ps b p.is.cut q)

pub outcome : (source : List ℕ) → HasOutcome source
outcome source = by (some_cut source ground 0 (omega arith)) where
  by : ((ps : List Piece) × Cuts source ground 0 ps) → HasOutcome source
  by cut = judged (first_fault (faults cut.0)) refl where
    judged : (o : Option PatternFault) → first_fault (faults cut.0) ≡ o → HasOutcome source
    judged None e = inl (tokens_of cut.0, tokens_from source cut.0 (tokens_of cut.0) cut.1 e refl)
    judged (Some fault) e = inr (fault, fault_from source cut.0 fault cut.1 e)

pub first_fault_stands : (source : List ℕ) (fault : PatternFault) → IsLexFault source fault → FaultStands 0 (length source) fault
first_fault_stands source fault lex = fault_stands source ground 0 lex.is.front lex.is.piece lex.is.rest fault lex.is.cut lex.is.has
