-- A source is cut in one way, and its tokens stand one behind the other.
use Rattle.std.proofs.Common.{◌≡◌, ℕ, zero, suc, ◌-◌, ◌<◌, ◌≤◌, ◌⊎◌, inl, inr, List, [], ◌∷◌, ◌++◌, length, refl, sym, ap, ◌∙◌, subst, arith}
use Rattle.std.proofs.lemmas.Bool.{cases_lt}
use Rattle.pm_ops.specs.declared.fault.PatternFault.{PatternFault}
use Rattle.pd_lexer.specs.declared.token.Token.{Token}
use Rattle.pd_lexer.specs.declared.pieces.Piece.{Piece}
use Rattle.pd_lexer.specs.declared.pieces.Piece.TheVariants as pieces
use Rattle.pd_lexer.specs.Cuts.{Cuts, token_of, tokens_of, AreTokens, IsLexFault}
use Rattle.pd_lexer.specs.Levels.{Levels, ground}
use Rattle.pd_lexer.specs.Pieces.{piece_at, end_of, levels_after}
use Rattle.pd_lexer.specs.Spelled.{AllStandIn, InOrder, AreTokensOf}
use Rattle.pd_lexer.proofs.Sound.{IsSound, sound_piece}

-- ---- one way

pub one_cut : (source : List ℕ) (levels : Levels) (at : ℕ) (ps qs : List Piece) → Cuts source levels at ps → Cuts source levels at qs → ps ≡ qs
one_cut source levels at [] [] p q = refl
one_cut source levels at [] (b ∷ qs) p q = absurd (omega (arith, p, q.0))
one_cut source levels at (a ∷ ps) [] p q = absurd (omega (arith, p.0, q))
one_cut source levels at (a ∷ ps) (b ∷ qs) p q =
    let same : b ≡ a = sym q.1 ∙ p.1 in
    let rest : Cuts source (levels_after levels a) (end_of a) qs = subst (λ c. Cuts source (levels_after levels c) (end_of c) qs) same q.2 in
    ap (λ c. c ∷ ps) (sym same) ∙ ap (λ cs. b ∷ cs) (one_cut source (levels_after levels a) (end_of a) ps qs p.2 rest)

cut_from : (source : List ℕ) (left : ℕ) (levels : Levels) (at : ℕ) → at ≤ length source → length source - at ≤ left
    → (ps : List Piece) × Cuts source levels at ps
cut_from source zero levels at le few = ([], omega arith)
cut_from source (suc left) levels at le few =
    by (cases_lt at (length source)) (λ within few. cut_from source left (levels_after levels (piece_at source levels at)) (end_of
    (piece_at source levels at)) within few) where
      by : (at < length source) ⊎ (length source ≤ at)
          → (end_of (piece_at source levels at) ≤ length source → length source - end_of (piece_at source levels at) ≤ left
          → (ps : List Piece) × Cuts source (levels_after levels (piece_at source levels at)) (end_of (piece_at source levels at)) ps)
          → (ps : List Piece) × Cuts source levels at ps
      by (inr ge) further = ([], omega arith)
      by (inl lt) further =
          let sound = sound_piece source levels at lt in
          let rest = further sound.within (omega (arith, sound.ends, sound.within)) in
          (piece_at source levels at ∷ rest.0, (lt, refl, rest.1))

-- from each place in each levels there is a way to the end
pub some_cut : (source : List ℕ) (levels : Levels) (at : ℕ) → at ≤ length source → (ps : List Piece) × Cuts source levels at ps
some_cut source levels at le = cut_from source (length source - at) levels at le (omega arith)

pub same_tokens : (source : List ℕ) (ts us : List Token) → AreTokens source ts → AreTokens source us → ts ≡ us
same_tokens source ts us p q = p.are ∙ ap tokens_of (one_cut source ground 0 p.pieces q.pieces p.cut q.cut) ∙ sym q.are

pub no_tokens : (source : List ℕ) (fault : PatternFault) (ts : List Token) → IsLexFault source fault → AreTokens source ts → ⊥
no_tokens source fault ts p q = q.sound fault p.is

-- ---- where tokens stand

-- of the token of a piece and those behind it, what holds of tokens in order
starts_later : (a b to : ℕ) (ts : List Token) → a ≤ b → InOrder b ts to → InOrder a ts to
starts_later a b to [] le h = omega arith
starts_later a b to (t ∷ ts) le h = (omega (arith, h.0), h.1, h.2)

all_stand : (source : List ℕ) (levels : Levels) (at : ℕ) (ps : List Piece) → Cuts source levels at ps
    → AllStandIn source (tokens_of ps) × InOrder at (tokens_of ps) (length source)
all_stand source levels at [] cut = (tt, omega (arith, cut))
all_stand source levels at (p ∷ ps) cut =
    let sound = subst (IsSound source at) cut.1 (sound_piece source levels at cut.0) in
    by p sound (all_stand source (levels_after levels p) (end_of p) ps cut.2) where
      by : (p : Piece) → IsSound source at p → (AllStandIn source (tokens_of ps) × InOrder (end_of p) (tokens_of ps) (length source))
          → AllStandIn source (token_of p ++ tokens_of ps) × InOrder at (token_of p ++ tokens_of ps) (length source)
      by (pieces.Token t) sound rest =
          let stands = sound.stands t refl in
          ((stands.1, rest.0), (omega (arith, stands.0), stands.1.has_bytes, rest.1))
      by (pieces.Separator to) sound rest = (rest.0, starts_later at to (length source) (tokens_of ps) (omega (arith, sound.ends)) rest.1)
      by (pieces.If holds line) sound rest = (rest.0, starts_later at line.to (length source) (tokens_of ps) (omega (arith, sound.ends)) rest.1)
      by (pieces.Else line) sound rest = (rest.0, starts_later at line.to (length source) (tokens_of ps) (omega (arith, sound.ends)) rest.1)
      by (pieces.EndIf line) sound rest = (rest.0, starts_later at line.to (length source) (tokens_of ps) (omega (arith, sound.ends)) rest.1)
      by (pieces.Fault fault to) sound rest = (rest.0, starts_later at to (length source) (tokens_of ps) (omega (arith, sound.ends)) rest.1)

pub tokens_stand : (source : List ℕ) (ts : List Token) → AreTokens source ts → AreTokensOf source ts
tokens_stand source ts are =
    let all = all_stand source ground 0 are.pieces are.cut in
    subst (AreTokensOf source) (sym are.are) (record { stand = all.0; in_order = all.1 })

-- ---- parts of a list of tokens

all_parts : (source : List ℕ) (front back : List Token) → AllStandIn source (front ++ back) → AllStandIn source front × AllStandIn source back
all_parts source [] back all = (tt, all)
all_parts source (t ∷ front) back all = let rest = all_parts source front back all.1 in ((all.0, rest.0), rest.1)

ends_behind : (a to : ℕ) (ts : List Token) → InOrder a ts to → a ≤ to
ends_behind a to [] h = h
ends_behind a to (t ∷ ts) h = let later = ends_behind t.to to ts h.2 in omega (arith, h.0, h.1, later)

order_parts : (a to : ℕ) (front back : List Token) → InOrder a (front ++ back) to → InOrder a front to × InOrder a back to
order_parts a to [] back h = (ends_behind a to back h, h)
order_parts a to (t ∷ front) back h =
    let rest = order_parts t.to to front back h.2 in
    ((h.0, h.1, rest.0), starts_later a t.to to back (omega (arith, h.0, h.1)) rest.1)

pub parts_stand : (source : List ℕ) (front back : List Token) → AreTokensOf source (front ++ back) → AreTokensOf source front × AreTokensOf source back
parts_stand source front back are =
    let all = all_parts source front back are.stand in
    let order = order_parts 0 (length source) front back are.in_order in
    (record { stand = all.0; in_order = order.0 }, record { stand = all.1; in_order = order.1 })
