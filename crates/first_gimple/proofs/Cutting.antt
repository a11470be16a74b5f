-- The tokens of a text are those that it is cut into, and no others.
use Rattle.std.proofs.Common.{◌≡◌, ℕ, zero, suc, ◌+◌, ◌<◌, ◌≤◌, Bool, true, false, cond, List, [], ◌∷◌, ◌++◌, length, get_or, take, drop, drop-cons, add-one, refl, sym, ap, ◌∙◌, arith}
use Rattle.std.proofs.lemmas.Bool.Decides.{nat_tests}
use Rattle.std.specs.Prelude.{max, ◌==◌, not, ◌&&◌, ◌||◌}
use Rattle.std.specs.List.{list_all}
use Rattle.std.proofs.lemmas.Bool.{and_parts, and_from, not_from_false, eqb-true, false≢true}
use Rattle.std.proofs.lemmas.List.{nil_from_length}
use Rattle.lexing.specs.Bytes.{is_word_byte}
use Rattle.first_gimple.specs.Tokens.{Token, is_space, is_gap, is_token, begins_with_word_byte, ends_before, SpellsTokens}
use Rattle.first_gimple.specs.Pieces.{lengthened, tokens_of}

pub cut_space : (b : ℕ) (bytes : List ℕ) → is_space b ≡ true → tokens_of (b ∷ bytes) ≡ tokens_of bytes
unfolding tokens_of
cut_space b bytes h = rw h refl

pub cut_mark : (b : ℕ) (bytes : List ℕ) → is_space b ≡ false → is_word_byte b ≡ false → tokens_of (b ∷ bytes) ≡ (b ∷ []) ∷ tokens_of bytes
unfolding tokens_of
cut_mark b bytes h g = rw (h, g) refl

pub cut_space_at : (text : List ℕ) (i : ℕ) → i < length text → is_space (get_or text i 0) ≡ true → tokens_of (drop (i + 1) text) ≡ tokens_of (drop i text)
cut_space_at text i lt h = rw (add-one, drop-cons text i 0 lt) (sym (cut_space (get_or text i 0) (drop (suc i) text) h))

word_is_no_space : (b : ℕ) → is_word_byte b ≡ true → is_space b ≡ false
word_is_no_space b h = grind (arith, nat_tests)

cut_one : (b : ℕ) (bytes : List ℕ) → is_word_byte b ≡ true → begins_with_word_byte bytes ≡ false → tokens_of (b ∷ bytes) ≡ (b ∷ []) ∷ tokens_of bytes
unfolding tokens_of
cut_one b bytes h g = rw (word_is_no_space b h, h, g) refl

cut_more : (b : ℕ) (bytes : List ℕ) → is_word_byte b ≡ true → begins_with_word_byte bytes ≡ true → tokens_of (b ∷ bytes) ≡ lengthened b (tokens_of bytes)
unfolding tokens_of
cut_more b bytes h g = rw (word_is_no_space b h, h, g) refl

-- a run of word bytes that none follows
pub cut_run : (text : List ℕ) (n : ℕ) → n < length text → ((k : ℕ) → k < suc n → is_word_byte (get_or text k 0) ≡ true) → (suc n < length text → is_word_byte (get_or text (suc n) 0) ≡ false)
    → tokens_of text ≡ take (suc n) text ∷ tokens_of (drop (suc n) text)
cut_run [] n lt run stops = absurd (omega arith)
cut_run (b ∷ []) zero lt run stops = cut_one b [] (run 0 (omega arith)) refl
cut_run (b ∷ []) (suc n) lt run stops = absurd (omega arith)
cut_run (b ∷ c ∷ bytes) zero lt run stops = cut_one b (c ∷ bytes) (run 0 (omega arith)) (stops (omega arith))
cut_run (b ∷ c ∷ bytes) (suc n) lt run stops =
    cut_more b (c ∷ bytes) (run 0 (omega arith)) (run 1 (omega arith))
    ∙ ap (lengthened b) (cut_run (c ∷ bytes) n (omega arith) (λ k h. run (suc k) (omega arith)) (λ h. stops (omega arith)))

-- the first token of a text that begins with no white space
pub cut_first : (text : List ℕ) (n : ℕ) → 0 < length text → n ≤ length text → (0 < length text → is_space (get_or text 0 0) ≡ false) → ((k : ℕ) → k < n → is_word_byte (get_or text k 0) ≡ true) → (n < length text → is_word_byte (get_or text n 0) ≡ false)
    → tokens_of text ≡ take (max n 1) text ∷ tokens_of (drop (max n 1) text)
cut_first [] n long within seen run stops = absurd (omega arith)
cut_first (b ∷ text) zero long within seen run stops = cut_mark b text (seen long) (stops long)
cut_first (b ∷ text) (suc n) long within seen run stops =
    let e : max (suc n) 1 ≡ suc n = omega arith in
    rw e (cut_run (b ∷ text) n (omega arith) run stops)

pub cut_nothing : (text : List ℕ) → (length text == 0) ≡ true → tokens_of text ≡ []
unfolding tokens_of
cut_nothing text h = ap tokens_of (nil_from_length text (eqb-true (length text) 0 h))

pub is_long : (text : List ℕ) → (length text == 0) ≡ false → 0 < length text
is_long text h = grind (arith, nat_tests)

-- ---- the tokens are spelled by the text

gap_more : (b : ℕ) (bytes : List ℕ) (tokens : List Token) → is_space b ≡ true → SpellsTokens bytes tokens → SpellsTokens (b ∷ bytes) tokens
gap_more b bytes [] space s = and_from (is_space b) (is_gap bytes) space s
gap_more b bytes (token ∷ tokens) space s = (b ∷ s.0, s.1, and_from (is_space b) (is_gap s.0) space s.2, s.3, s.4, ap (λ bs. b ∷ bs) s.5, s.6)

alone : (b : ℕ) (bytes : List ℕ) (tokens : List Token) → is_space b ≡ false → (is_word_byte b && begins_with_word_byte bytes) ≡ false → SpellsTokens bytes tokens → SpellsTokens (b ∷ bytes) ((b ∷ []) ∷ tokens)
alone b bytes tokens other ends s = ([], bytes, refl, token (is_space b) (is_word_byte b) other, not_from_false (is_word_byte b && begins_with_word_byte bytes) ends, refl, s) where
  token : (s w : Bool) → s ≡ false → (w || (not s && not w)) ≡ true
  token s true h = refl
  token true false h = absurd cc
  token false false h = refl

no_gap : (gap rest bytes : List ℕ) → is_gap gap ≡ true → begins_with_word_byte bytes ≡ true → bytes ≡ gap ++ rest → bytes ≡ rest
no_gap [] rest bytes g w e = e
no_gap (b ∷ gap) rest [] g w e = absurd cc
no_gap (b ∷ gap) rest (c ∷ bytes) g w e =
    let same : c ≡ b = cc in
    let space : is_space b ≡ true = (and_parts (is_space b) (is_gap gap) g).0 in
    absurd (false≢true (sym (word_is_no_space c w) ∙ ap is_space same ∙ space))

longer : (b : ℕ) (token rest bytes : List ℕ) → is_word_byte b ≡ true → is_token token ≡ true → begins_with_word_byte bytes ≡ true → bytes ≡ token ++ rest → is_token (b ∷ token) ≡ true
longer b [] rest bytes word is begins e = absurd (false≢true is)
longer b (c ∷ []) rest bytes word is begins e =
    let first : is_word_byte c ≡ true = sym (ap begins_with_word_byte e) ∙ begins in
    and_from (is_word_byte b && is_word_byte c) true (and_from (is_word_byte b) (is_word_byte c) word first) refl
longer b (c ∷ d ∷ token) rest bytes word is begins e =
    let p = and_parts (is_word_byte c && is_word_byte d) (list_all is_word_byte token) is in
    let q = and_parts (is_word_byte c) (is_word_byte d) p.0 in
    and_from (is_word_byte b && is_word_byte c) (list_all is_word_byte (d ∷ token)) (and_from (is_word_byte b) (is_word_byte c) word q.0) (and_from (is_word_byte d) (list_all is_word_byte token) q.1 p.1)

ends_so : (b : ℕ) (token rest bytes : List ℕ) → is_token token ≡ true → begins_with_word_byte bytes ≡ true → bytes ≡ token ++ rest → ends_before token rest ≡ true → ends_before (b ∷ token) rest ≡ true
ends_so b [] rest bytes is begins e h = absurd (false≢true is)
ends_so b (c ∷ token) rest bytes is begins e h =
    let first : is_word_byte c ≡ true = sym (ap begins_with_word_byte e) ∙ begins in
    so (is_word_byte b) (is_word_byte c) (begins_with_word_byte rest) first h where
      so : (x y r : Bool) → y ≡ true → not (y && r) ≡ true → not (x && r) ≡ true
      so x y true f h = absurd (false≢true (sym (ap (λ t. not (t && true)) f) ∙ h))
      so true y false f h = refl
      so false y false f h = refl

joined : (b : ℕ) (bytes : List ℕ) (tokens : List Token) → is_word_byte b ≡ true → begins_with_word_byte bytes ≡ true → SpellsTokens bytes tokens → SpellsTokens (b ∷ bytes) (lengthened b tokens)
joined b [] [] word begins s = absurd (false≢true begins)
joined b (c ∷ bytes) [] word begins s = absurd (false≢true (sym (word_is_no_space c begins) ∙ (and_parts (is_space c) (is_gap bytes) s).0))
joined b bytes (token ∷ tokens) word begins s =
    let cut = no_gap s.0 (token ++ s.1) bytes s.2 begins s.5 in
    ([], s.1, refl, longer b token s.1 bytes word s.3 begins cut, ends_so b token s.1 bytes s.3 begins cut s.4, ap (λ bs. b ∷ bs) cut, s.6)

pub tokens_spelled : (bytes : List ℕ) → SpellsTokens bytes (tokens_of bytes)
unfolding tokens_of
tokens_spelled [] = refl
tokens_spelled (b ∷ bytes) = by (is_space b) (is_word_byte b && begins_with_word_byte bytes) refl refl (tokens_spelled bytes) where
  by : (s w : Bool) → is_space b ≡ s → (is_word_byte b && begins_with_word_byte bytes) ≡ w → SpellsTokens bytes (tokens_of bytes)
      → SpellsTokens (b ∷ bytes) (cond s (tokens_of bytes) (cond w (lengthened b (tokens_of bytes)) ((b ∷ []) ∷ tokens_of bytes)))
  by true w p q rest = gap_more b bytes (tokens_of bytes) p rest
  by false true p q rest = let t = and_parts (is_word_byte b) (begins_with_word_byte bytes) q in joined b bytes (tokens_of bytes) t.0 t.1 rest
  by false false p q rest = alone b bytes (tokens_of bytes) p q rest

-- ---- and no others are

gap_cut : (gap bytes : List ℕ) → is_gap gap ≡ true → tokens_of (gap ++ bytes) ≡ tokens_of bytes
gap_cut [] bytes h = refl
gap_cut (b ∷ gap) bytes h = let p = and_parts (is_space b) (is_gap gap) h in cut_space b (gap ++ bytes) p.0 ∙ gap_cut gap bytes p.1

nothing_cut : (bytes : List ℕ) → is_gap bytes ≡ true → tokens_of bytes ≡ []
unfolding tokens_of
nothing_cut [] h = refl
nothing_cut (b ∷ bytes) h = let p = and_parts (is_space b) (is_gap bytes) h in rw p.0 (nothing_cut bytes p.1)

run_cut : (b : ℕ) (run rest : List ℕ) → is_word_byte b ≡ true → list_all is_word_byte run ≡ true → begins_with_word_byte rest ≡ false → tokens_of ((b ∷ run) ++ rest) ≡ (b ∷ run) ∷ tokens_of rest
run_cut b [] rest word all ends = cut_one b rest word ends
run_cut b (c ∷ run) rest word all ends =
    let p = and_parts (is_word_byte c) (list_all is_word_byte run) all in
    cut_more b ((c ∷ run) ++ rest) word p.0 ∙ ap (lengthened b) (run_cut c run rest p.0 p.1 ends)

ends_of_word : (b : ℕ) (token rest : List ℕ) → is_word_byte b ≡ true → ends_before (b ∷ token) rest ≡ true → begins_with_word_byte rest ≡ false
ends_of_word b token rest word h = ends (is_word_byte b) (begins_with_word_byte rest) word h where
  ends : (w r : Bool) → w ≡ true → not (w && r) ≡ true → r ≡ false
  ends w false e h = refl
  ends w true e h = absurd (false≢true (sym (ap (λ t. not (t && true)) e) ∙ h))

token_cut : (token rest : List ℕ) → is_token token ≡ true → ends_before token rest ≡ true → tokens_of (token ++ rest) ≡ token ∷ tokens_of rest
token_cut [] rest is ends = absurd (false≢true is)
token_cut (b ∷ []) rest is ends = by (is_word_byte b) (is_space b) refl refl is where
  by : (w s : Bool) → is_word_byte b ≡ w → is_space b ≡ s → (w || (not s && not w)) ≡ true → tokens_of (b ∷ rest) ≡ (b ∷ []) ∷ tokens_of rest
  by true s p q h = cut_one b rest p (ends_of_word b [] rest p ends)
  by false true p q h = absurd (false≢true h)
  by false false p q h = cut_mark b rest q p
token_cut (b ∷ c ∷ token) rest is ends =
    let p = and_parts (is_word_byte b && is_word_byte c) (list_all is_word_byte token) is in
    let q = and_parts (is_word_byte b) (is_word_byte c) p.0 in
    run_cut b (c ∷ token) rest q.0 (and_from (is_word_byte c) (list_all is_word_byte token) q.1 p.1) (ends_of_word b (c ∷ token) rest q.0 ends)

pub tokens_only : (tokens : List Token) (bytes : List ℕ) → SpellsTokens bytes tokens → tokens_of bytes ≡ tokens
tokens_only [] bytes s = nothing_cut bytes s
tokens_only (token ∷ tokens) bytes s =
    ap tokens_of s.5 ∙ gap_cut s.0 (token ++ s.1) s.2 ∙ token_cut token s.1 s.3 s.4 ∙ ap (λ ts. token ∷ ts) (tokens_only tokens s.1 s.6)

-- ---- no more tokens than bytes

lengthened_short : (b : ℕ) (tokens : List Token) → length (lengthened b tokens) ≤ suc (length tokens)
lengthened_short b [] = omega arith
lengthened_short b (token ∷ tokens) = omega arith

pub few_tokens : (bytes : List ℕ) → length (tokens_of bytes) ≤ length bytes
unfolding tokens_of
few_tokens [] = omega arith
few_tokens (b ∷ bytes) = by (is_space b) (is_word_byte b && begins_with_word_byte bytes) (few_tokens bytes) where
  by : (s w : Bool) → length (tokens_of bytes) ≤ length bytes → length (cond s (tokens_of bytes) (cond w (lengthened b (tokens_of bytes)) ((b ∷ []) ∷ tokens_of bytes))) ≤ length (b ∷ bytes)
  by true w h = omega arith
  by false true h = omega (arith, lengthened_short b (tokens_of bytes))
  by false false h = omega arith
