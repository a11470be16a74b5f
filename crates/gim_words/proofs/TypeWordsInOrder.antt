-- The words so far lead the machine to the state that stands for them, in any order.
use Rattle.std.proofs.Common.{◌≡◌, ℕ, zero, suc, ◌+◌, ◌<◌, ◌≤◌, List, [], ◌∷◌, ◌++◌, length, Bool, true, false, Option, Some, None, refl, sym, ap, subst, ◌∙◌, arith, lit<}
use Rattle.std.specs.Prelude.{map, Contains, slice_index_or, nat_le, nat_lt, is_some, ◌||◌, ◌&&◌, if◌then◌else◌}
use Rattle.std.specs.List.{list_all}
use Rattle.std.proofs.lemmas.Bool.{le-leb}
use Rattle.grammar.specs.Spelling.{Leads, Driven}
use Rattle.pm_wide.specs.Types.{Ty}
use Rattle.gim_text.specs.Meanings.{type_word}
use Rattle.gim_text.specs.declared.token.Token.{Token}
use Rattle.gim_text.specs.declared.token.Token.TheVariants as tokens
use Rattle.gim_text.specs.declared.token.TypeWord.{TypeWord}
use Rattle.gim_text.specs.declared.token.TypeWord.TheVariants as words
use Rattle.gim_words.specs.declared.type_words.SignWords.{SignWords}
use Rattle.gim_words.specs.declared.type_words.SignWords.TheVariants.{NoSign, SaysSigned, SaysUnsigned}
use Rattle.gim_words.specs.declared.type_words.SizeWords.{SizeWords}
use Rattle.gim_words.specs.declared.type_words.SizeWords.TheVariants.{NoSize, SaysChar, SaysShort, SaysShortInt, SaysInt, SaysLong, SaysLongInt, SaysLongLong, SaysLongLongInt, SaysInt128}
use Rattle.gim_words.specs.declared.type_words.TypeWords.{TypeWords}
use Rattle.gim_words.specs.declared.type_words.TypeWords.TheVariants.{SaysBool, SaysInteger}
use Rattle.gim_words.specs.Types.{forms, Counts, one_more, count_on, counts, some_word, SpellsType}
use Rattle.gim_words.specs.TypeReaders.{words_after, type_words_after, type_of}

-- the words that a state stands for, in one order

sign_words : SignWords → List TypeWord
sign_words NoSign = []
sign_words SaysSigned = words.Signed ∷ []
sign_words SaysUnsigned = words.Unsigned ∷ []

size_words : SizeWords → List TypeWord
size_words NoSize = []
size_words SaysChar = words.Char ∷ []
size_words SaysShort = words.Short ∷ []
size_words SaysShortInt = words.Short ∷ words.Int ∷ []
size_words SaysInt = words.Int ∷ []
size_words SaysLong = words.Long ∷ []
size_words SaysLongInt = words.Long ∷ words.Int ∷ []
size_words SaysLongLong = words.Long ∷ words.Long ∷ []
size_words SaysLongLongInt = words.Long ∷ words.Long ∷ words.Int ∷ []
size_words SaysInt128 = words.Int128 ∷ []

abbrev words_so_far : TypeWords → List TypeWord
unfolding sign_words size_words
words_so_far SaysBool = words.BoolWord ∷ []
words_so_far (SaysInteger sign size) = sign_words sign ++ size_words size

abbrev state_counts : TypeWords → Counts
state_counts s = counts (words_so_far s)

-- a state is told by its counts

sign_at : Counts → SignWords
sign_at c = if nat_lt 0 c.signed then SaysSigned else (if nat_lt 0 c.unsigned then SaysUnsigned else NoSign)

with_int : Counts → SizeWords → SizeWords → SizeWords
with_int c yes_int no_int = if nat_lt 0 c.int then yes_int else no_int

size_at : Counts → SizeWords
unfolding with_int
size_at c = if nat_lt 0 c.char then SaysChar else (if nat_lt 0 c.int128 then SaysInt128 else (if nat_lt 0 c.short then with_int c SaysShortInt SaysShort
    else (if nat_lt 1 c.long then with_int c SaysLongLongInt SaysLongLong else (if nat_lt 0 c.long then with_int c SaysLongInt SaysLong else with_int c SaysInt NoSize))))

state_at : Counts → TypeWords
unfolding sign_at size_at
state_at c = if nat_lt 0 c.boolean then SaysBool else SaysInteger (sign_at c) (size_at c)

told : (s : TypeWords) → state_at (state_counts s) ≡ s
unfolding state_at sign_at size_at with_int sign_words size_words
told SaysBool = refl
told (SaysInteger NoSign NoSize) = refl
told (SaysInteger SaysSigned NoSize) = refl
told (SaysInteger SaysUnsigned NoSize) = refl
told s = refl

-- a word more

after_counts : Option TypeWords → Counts → Counts
after_counts None c = c
after_counts (Some m) c = state_counts m

step_counts : (s : TypeWords) (w : TypeWord) → after_counts (words_after s w) (one_more w (state_counts s)) ≡ one_more w (state_counts s)
unfolding after_counts sign_words size_words
step_counts SaysBool w = elim w as (λ v. after_counts (words_after SaysBool v) (one_more v (state_counts SaysBool)) ≡ one_more v (state_counts SaysBool)) [ words.Signed ↦ refl | words.Unsigned ↦ refl | words.Char ↦ refl | words.Short ↦ refl | words.Int ↦ refl | words.Long ↦ refl | words.Int128 ↦ refl | words.BoolWord ↦ refl ]
step_counts (SaysInteger NoSign NoSize) w = elim w as (λ v. after_counts (words_after (SaysInteger NoSign NoSize) v) (one_more v (state_counts (SaysInteger NoSign NoSize))) ≡ one_more v (state_counts (SaysInteger NoSign NoSize))) [ words.Signed ↦ refl | words.Unsigned ↦ refl | words.Char ↦ refl | words.Short ↦ refl | words.Int ↦ refl | words.Long ↦ refl | words.Int128 ↦ refl | words.BoolWord ↦ refl ]
step_counts (SaysInteger SaysSigned NoSize) w = elim w as (λ v. after_counts (words_after (SaysInteger SaysSigned NoSize) v) (one_more v (state_counts (SaysInteger SaysSigned NoSize))) ≡ one_more v (state_counts (SaysInteger SaysSigned NoSize))) [ words.Signed ↦ refl | words.Unsigned ↦ refl | words.Char ↦ refl | words.Short ↦ refl | words.Int ↦ refl | words.Long ↦ refl | words.Int128 ↦ refl | words.BoolWord ↦ refl ]
step_counts (SaysInteger SaysUnsigned NoSize) w = elim w as (λ v. after_counts (words_after (SaysInteger SaysUnsigned NoSize) v) (one_more v (state_counts (SaysInteger SaysUnsigned NoSize))) ≡ one_more v (state_counts (SaysInteger SaysUnsigned NoSize))) [ words.Signed ↦ refl | words.Unsigned ↦ refl | words.Char ↦ refl | words.Short ↦ refl | words.Int ↦ refl | words.Long ↦ refl | words.Int128 ↦ refl | words.BoolWord ↦ refl ]
step_counts s w = elim w as (λ v. after_counts (words_after s v) (one_more v (state_counts s)) ≡ one_more v (state_counts s)) [ words.Signed ↦ refl | words.Unsigned ↦ refl | words.Char ↦ refl | words.Short ↦ refl | words.Int ↦ refl | words.Long ↦ refl | words.Int128 ↦ refl | words.BoolWord ↦ refl ]

-- no state has the words of a state and a word that may not follow them

abbrev component : TypeWord → Counts → ℕ
component words.Signed c = c.signed
component words.Unsigned c = c.unsigned
component words.Char c = c.char
component words.Short c = c.short
component words.Int c = c.int
component words.Long c = c.long
component words.Int128 c = c.int128
component words.BoolWord c = c.boolean

no_less : (k w : TypeWord) (c : Counts) → component k c ≤ component k (one_more w c)
no_less words.Signed w c = elim w as (λ v. component words.Signed c ≤ component words.Signed (one_more v c)) [ words.Signed ↦ omega arith | words.Unsigned ↦ omega arith | words.Char ↦ omega arith | words.Short ↦ omega arith | words.Int ↦ omega arith | words.Long ↦ omega arith | words.Int128 ↦ omega arith | words.BoolWord ↦ omega arith ]
no_less words.Unsigned w c = elim w as (λ v. component words.Unsigned c ≤ component words.Unsigned (one_more v c)) [ words.Signed ↦ omega arith | words.Unsigned ↦ omega arith | words.Char ↦ omega arith | words.Short ↦ omega arith | words.Int ↦ omega arith | words.Long ↦ omega arith | words.Int128 ↦ omega arith | words.BoolWord ↦ omega arith ]
no_less words.Char w c = elim w as (λ v. component words.Char c ≤ component words.Char (one_more v c)) [ words.Signed ↦ omega arith | words.Unsigned ↦ omega arith | words.Char ↦ omega arith | words.Short ↦ omega arith | words.Int ↦ omega arith | words.Long ↦ omega arith | words.Int128 ↦ omega arith | words.BoolWord ↦ omega arith ]
no_less words.Short w c = elim w as (λ v. component words.Short c ≤ component words.Short (one_more v c)) [ words.Signed ↦ omega arith | words.Unsigned ↦ omega arith | words.Char ↦ omega arith | words.Short ↦ omega arith | words.Int ↦ omega arith | words.Long ↦ omega arith | words.Int128 ↦ omega arith | words.BoolWord ↦ omega arith ]
no_less words.Int w c = elim w as (λ v. component words.Int c ≤ component words.Int (one_more v c)) [ words.Signed ↦ omega arith | words.Unsigned ↦ omega arith | words.Char ↦ omega arith | words.Short ↦ omega arith | words.Int ↦ omega arith | words.Long ↦ omega arith | words.Int128 ↦ omega arith | words.BoolWord ↦ omega arith ]
no_less words.Long w c = elim w as (λ v. component words.Long c ≤ component words.Long (one_more v c)) [ words.Signed ↦ omega arith | words.Unsigned ↦ omega arith | words.Char ↦ omega arith | words.Short ↦ omega arith | words.Int ↦ omega arith | words.Long ↦ omega arith | words.Int128 ↦ omega arith | words.BoolWord ↦ omega arith ]
no_less words.Int128 w c = elim w as (λ v. component words.Int128 c ≤ component words.Int128 (one_more v c)) [ words.Signed ↦ omega arith | words.Unsigned ↦ omega arith | words.Char ↦ omega arith | words.Short ↦ omega arith | words.Int ↦ omega arith | words.Long ↦ omega arith | words.Int128 ↦ omega arith | words.BoolWord ↦ omega arith ]
no_less words.BoolWord w c = elim w as (λ v. component words.BoolWord c ≤ component words.BoolWord (one_more v c)) [ words.Signed ↦ omega arith | words.Unsigned ↦ omega arith | words.Char ↦ omega arith | words.Short ↦ omega arith | words.Int ↦ omega arith | words.Long ↦ omega arith | words.Int128 ↦ omega arith | words.BoolWord ↦ omega arith ]

no_less_on : (k : TypeWord) (written : List TypeWord) (c : Counts) → component k c ≤ component k (count_on written c)
no_less_on k [] c = omega arith
no_less_on k (w ∷ written) c = omega (arith, no_less k w c, no_less_on k written (one_more w c))

all_words : List TypeWord
all_words = words.Signed ∷ words.Unsigned ∷ words.Char ∷ words.Short ∷ words.Int ∷ words.Long ∷ words.Int128 ∷ words.BoolWord ∷ []

abbrev word_place : TypeWord → ℕ
word_place words.Signed = 0
word_place words.Unsigned = 1
word_place words.Char = 2
word_place words.Short = 3
word_place words.Int = 4
word_place words.Long = 5
word_place words.Int128 = 6
word_place words.BoolWord = 7

word_listed : (w : TypeWord) → Contains all_words w
unfolding all_words
word_listed words.Signed = (0, lit< tt, refl)
word_listed w = (word_place w, lit< tt, refl)

all_sizes : List SizeWords
all_sizes = NoSize ∷ SaysChar ∷ SaysShort ∷ SaysShortInt ∷ SaysInt ∷ SaysLong ∷ SaysLongInt ∷ SaysLongLong ∷ SaysLongLongInt ∷ SaysInt128 ∷ []

all_states : List TypeWords
unfolding all_sizes
all_states = SaysBool ∷ (map (SaysInteger NoSign) all_sizes ++ (map (SaysInteger SaysSigned) all_sizes ++ map (SaysInteger SaysUnsigned) all_sizes))

abbrev size_place : SizeWords → ℕ
size_place NoSize = 0
size_place SaysChar = 1
size_place SaysShort = 2
size_place SaysShortInt = 3
size_place SaysInt = 4
size_place SaysLong = 5
size_place SaysLongInt = 6
size_place SaysLongLong = 7
size_place SaysLongLongInt = 8
size_place SaysInt128 = 9

abbrev state_place : TypeWords → ℕ
state_place SaysBool = 0
state_place (SaysInteger NoSign size) = 1 + size_place size
state_place (SaysInteger SaysSigned size) = 11 + size_place size
state_place (SaysInteger SaysUnsigned size) = 21 + size_place size

state_listed : (s : TypeWords) → Contains all_states s
unfolding all_states all_sizes
state_listed SaysBool = (state_place SaysBool, lit< tt, refl)
state_listed (SaysInteger NoSign NoSize) = (state_place (SaysInteger NoSign NoSize), lit< tt, refl)
state_listed (SaysInteger SaysSigned NoSize) = (state_place (SaysInteger SaysSigned NoSize), lit< tt, refl)
state_listed (SaysInteger SaysUnsigned NoSize) = (state_place (SaysInteger SaysUnsigned NoSize), lit< tt, refl)
state_listed s = (state_place s, lit< tt, refl)

both : (a b : Bool) → (a && b) ≡ true → (a ≡ true) × (b ≡ true)
both true b e = (refl, e)
both false b e = absurd (cc)

passes : {A : Type 0} (p : A → Bool) (xs : List A) (k : ℕ) (d : A) → list_all p xs ≡ true → k < length xs → p (slice_index_or xs k d) ≡ true
passes p [] k d e lt = absurd (omega arith)
passes p (x ∷ xs) zero d e lt = (both (p x) (list_all p xs) e).0
passes p (x ∷ xs) (suc k) d e lt = passes p xs k d ((both (p x) (list_all p xs) e).1) (omega arith)

passes_at : {A : Type 0} (p : A → Bool) (xs : List A) (x : A) → list_all p xs ≡ true → Contains xs x → p x ≡ true
passes_at p xs x e (k, lt, is) = subst (λ y. p y ≡ true) is (passes p xs k x e lt)

all_pass : {A : Type 0} (p : A → Bool) → ((x : A) → p x ≡ true) → (xs : List A) → list_all p xs ≡ true
all_pass p h [] = refl
all_pass p h (x ∷ xs) = rw (h x) (all_pass p h xs)

fits : Counts → Counts → Bool
fits c d = list_all (λ k. nat_le (component k c) (component k d)) all_words

negation : Bool → Bool
negation true = false
negation false = true

is_stuck : TypeWords → TypeWord → TypeWords → Bool
is_stuck s w e = is_some (words_after s w) || negation (fits (one_more w (state_counts s)) (state_counts e))

all_stuck : list_all (λ s. list_all (λ w. list_all (λ e. is_stuck s w e) all_states) all_words) all_states ≡ true
unfolding is_stuck negation fits all_words all_states all_sizes sign_words size_words
all_stuck = refl

stuck : (s : TypeWords) (w : TypeWord) (e : TypeWords) → is_stuck s w e ≡ true
stuck s w e =
    passes_at (λ d. is_stuck s w d) all_states e
    (passes_at (λ v. list_all (λ d. is_stuck s v d) all_states) all_words w
    (passes_at (λ r. list_all (λ v. list_all (λ d. is_stuck r v d) all_states) all_words) all_states s all_stuck (state_listed s)) (word_listed w))
    (state_listed e)

fits_on : (written : List TypeWord) (c : Counts) → fits c (count_on written c) ≡ true
unfolding fits
fits_on written c = all_pass (λ k. nat_le (component k c) (component k (count_on written c))) (λ k. le-leb (component k c) (component k (count_on written c)) (no_less_on k written c)) all_words

never_stuck : (s : TypeWords) (w : TypeWord) (e : TypeWords) (written : List TypeWord) → count_on written (one_more w (state_counts s)) ≡ state_counts e → words_after s w ≡ None → ⊥
unfolding is_stuck negation
never_stuck s w e written same none =
    let test : is_stuck s w e ≡ true = stuck s w e in
    let fitting : fits (one_more w (state_counts s)) (state_counts e) ≡ true = subst (λ d. fits (one_more w (state_counts s)) d ≡ true) same (fits_on written (one_more w (state_counts s))) in
    let no_more : (is_some (words_after s w) || negation (fits (one_more w (state_counts s)) (state_counts e))) ≡ false = rw (none, fitting) refl in
    cc

-- what leads to a state has its counts, and what has its counts leads there

counted : (s e : TypeWords) (written : List TypeWord) → Leads words_after s e written → count_on written (state_counts s) ≡ state_counts e
unfolding after_counts
counted s e [] led = ap state_counts led
counted s e (w ∷ written) (m, is, led) =
    let more : state_counts m ≡ one_more w (state_counts s) = ap (λ o. after_counts o (one_more w (state_counts s))) (sym is) ∙ step_counts s w in
    ap (count_on written) (sym more) ∙ counted m e written led

leads_there : (written : List TypeWord) (s e : TypeWords) → count_on written (state_counts s) ≡ state_counts e → Leads words_after s e written
unfolding after_counts
leads_there [] s e same = sym (told s) ∙ ap state_at same ∙ told e
leads_there (w ∷ written) s e same = by_next (words_after s w) refl (λ m more. leads_there written m e more)
  where
    by_next : (o : Option TypeWords) → words_after s w ≡ o → ((m : TypeWords) → count_on written (state_counts m) ≡ state_counts e → Leads words_after m e written) → Leads words_after s e (w ∷ written)
    by_next None is further = absurd (never_stuck s w e written same is)
    by_next (Some m) is further =
        let more : state_counts m ≡ one_more w (state_counts s) = ap (λ o. after_counts o (one_more w (state_counts s))) (sym is) ∙ step_counts s w in
        (m, is, further m (ap (count_on written) more ∙ same))

-- states and forms

abbrev FormOf : Option Ty → List TypeWord → Type 0
FormOf None written = Unit {0}
FormOf (Some t) written = Contains forms (t, written)

form_of : (s : TypeWords) → FormOf (type_of s) (words_so_far s)
unfolding sign_words size_words
form_of SaysBool = (0, lit< tt, refl)
form_of (SaysInteger NoSign NoSize) = tt
form_of (SaysInteger NoSign SaysChar) = (1, lit< tt, refl)
form_of (SaysInteger SaysSigned SaysChar) = (2, lit< tt, refl)
form_of (SaysInteger SaysUnsigned SaysChar) = (3, lit< tt, refl)
form_of (SaysInteger NoSign SaysShort) = (4, lit< tt, refl)
form_of (SaysInteger SaysSigned SaysShort) = (5, lit< tt, refl)
form_of (SaysInteger NoSign SaysShortInt) = (6, lit< tt, refl)
form_of (SaysInteger SaysSigned SaysShortInt) = (7, lit< tt, refl)
form_of (SaysInteger SaysUnsigned SaysShort) = (8, lit< tt, refl)
form_of (SaysInteger SaysUnsigned SaysShortInt) = (9, lit< tt, refl)
form_of (SaysInteger NoSign SaysInt) = (10, lit< tt, refl)
form_of (SaysInteger SaysSigned NoSize) = (11, lit< tt, refl)
form_of (SaysInteger SaysSigned SaysInt) = (12, lit< tt, refl)
form_of (SaysInteger SaysUnsigned NoSize) = (13, lit< tt, refl)
form_of (SaysInteger SaysUnsigned SaysInt) = (14, lit< tt, refl)
form_of (SaysInteger NoSign SaysLong) = (15, lit< tt, refl)
form_of (SaysInteger SaysSigned SaysLong) = (16, lit< tt, refl)
form_of (SaysInteger NoSign SaysLongInt) = (17, lit< tt, refl)
form_of (SaysInteger SaysSigned SaysLongInt) = (18, lit< tt, refl)
form_of (SaysInteger NoSign SaysLongLong) = (19, lit< tt, refl)
form_of (SaysInteger SaysSigned SaysLongLong) = (20, lit< tt, refl)
form_of (SaysInteger NoSign SaysLongLongInt) = (21, lit< tt, refl)
form_of (SaysInteger SaysSigned SaysLongLongInt) = (22, lit< tt, refl)
form_of (SaysInteger SaysUnsigned SaysLong) = (23, lit< tt, refl)
form_of (SaysInteger SaysUnsigned SaysLongInt) = (24, lit< tt, refl)
form_of (SaysInteger SaysUnsigned SaysLongLong) = (25, lit< tt, refl)
form_of (SaysInteger SaysUnsigned SaysLongLongInt) = (26, lit< tt, refl)
form_of (SaysInteger NoSign SaysInt128) = (27, lit< tt, refl)
form_of (SaysInteger SaysSigned SaysInt128) = (28, lit< tt, refl)
form_of (SaysInteger SaysUnsigned SaysInt128) = (29, lit< tt, refl)

abbrev Each : {A : Type 0} → (A → Type 0) → List A → Type 0
Each P [] = Unit {0}
Each P (x ∷ xs) = P x × Each P xs

each_at : {A : Type 0} (P : A → Type 0) (xs : List A) (k : ℕ) (d : A) → Each P xs → k < length xs → P (slice_index_or xs k d)
each_at P [] k d each lt = absurd (omega arith)
each_at P (x ∷ xs) zero d each lt = each.0
each_at P (x ∷ xs) (suc k) d each lt = each_at P xs k d each.1 (omega arith)

-- a state that stands for the form
abbrev StateOf : Ty × List TypeWord → Type 0
StateOf form = (s : TypeWords) × (state_counts s ≡ counts form.1) × (type_of s ≡ Some form.0)

states_of : Each StateOf forms
unfolding sign_words size_words
states_of =
    ((SaysBool, refl, refl), ((SaysInteger NoSign SaysChar, refl, refl), ((SaysInteger SaysSigned SaysChar, refl, refl), ((SaysInteger SaysUnsigned SaysChar, refl, refl), ((SaysInteger NoSign SaysShort, refl, refl), ((SaysInteger SaysSigned SaysShort, refl, refl), ((SaysInteger NoSign SaysShortInt, refl, refl), ((SaysInteger SaysSigned SaysShortInt, refl, refl), ((SaysInteger SaysUnsigned SaysShort, refl, refl), ((SaysInteger SaysUnsigned SaysShortInt, refl, refl), ((SaysInteger NoSign SaysInt, refl, refl), ((SaysInteger SaysSigned NoSize, refl, refl), ((SaysInteger SaysSigned SaysInt, refl, refl), ((SaysInteger SaysUnsigned NoSize, refl, refl), ((SaysInteger SaysUnsigned SaysInt, refl, refl), ((SaysInteger NoSign SaysLong, refl, refl), ((SaysInteger SaysSigned SaysLong, refl, refl), ((SaysInteger NoSign SaysLongInt, refl, refl), ((SaysInteger SaysSigned SaysLongInt, refl, refl), ((SaysInteger NoSign SaysLongLong, refl, refl), ((SaysInteger SaysSigned SaysLongLong, refl, refl), ((SaysInteger NoSign SaysLongLongInt, refl, refl), ((SaysInteger SaysSigned SaysLongLongInt, refl, refl), ((SaysInteger SaysUnsigned SaysLong, refl, refl), ((SaysInteger SaysUnsigned SaysLongInt, refl, refl), ((SaysInteger SaysUnsigned SaysLongLong, refl, refl), ((SaysInteger SaysUnsigned SaysLongLongInt, refl, refl), ((SaysInteger NoSign SaysInt128, refl, refl), ((SaysInteger SaysSigned SaysInt128, refl, refl), ((SaysInteger SaysUnsigned SaysInt128, refl, refl), tt))))))))))))))))))))))))))))))

-- words as tokens

word_tokens : (s e : TypeWords) (input : List Token) → Leads type_words_after s e input → (written : List TypeWord) × (map type_word input ≡ map some_word written) × Leads words_after s e written
word_tokens s e [] led = ([], refl, led)
word_tokens s e (tokens.TypeWord w at ∷ input) (m, is, led) =
    let rest = word_tokens m e input led in
    (w ∷ rest.0, ap (λ l. Some w ∷ l) rest.1, (m, is, rest.2))
word_tokens s e (t ∷ input) (m, is, led) = absurd (cc)

-- a token that is the word leads as the word does
as_token : (s m : TypeWords) (t : Token) (w : TypeWord) → type_word t ≡ Some w → words_after s w ≡ Some m → type_words_after s t ≡ Some m
as_token s m (tokens.TypeWord v at) w e is =
    let same : v ≡ w = cc in
    ap (words_after s) same ∙ is
as_token s m t w e is = absurd (cc)

as_tokens : (s e : TypeWords) (input : List Token) (written : List TypeWord) → map type_word input ≡ map some_word written → Leads words_after s e written → Leads type_words_after s e input
as_tokens s e [] [] same led = led
as_tokens s e [] (w ∷ written) same led = absurd (cc)
as_tokens s e (t ∷ input) [] same led = absurd (cc)
as_tokens s e (t ∷ input) (w ∷ written) same (m, is, led) =
    let word : type_word t ≡ Some w = cc in
    let others : map type_word input ≡ map some_word written = cc in
    (m, as_token s m t w word is, as_tokens m e input written others led)

pub type_of_machine : (t : Ty) (input : List Token) → Driven type_words_after type_of (SaysInteger NoSign NoSize) t input → SpellsType t input
unfolding sign_words size_words
type_of_machine t input (e, led, is) =
    let found = word_tokens (SaysInteger NoSign NoSize) e input led in
    record {
      written = found.0;
      is_written = found.1;
      form = words_so_far e;
      is_form = subst (λ o. FormOf o (words_so_far e)) is (form_of e);
      in_any_order = counted (SaysInteger NoSign NoSize) e found.0 found.2;
    }

pub machine_of_type : (t : Ty) (input : List Token) → SpellsType t input → Driven type_words_after type_of (SaysInteger NoSign NoSize) t input
unfolding sign_words size_words
machine_of_type t input spelled =
    let place = spelled.is_form in
    let at : StateOf (t, spelled.form) = subst StateOf place.2 (each_at StateOf forms place.0 (t, spelled.form) states_of place.1) in
    let led : Leads words_after (SaysInteger NoSign NoSize) at.0 spelled.written = leads_there spelled.written (SaysInteger NoSign NoSize) at.0 (spelled.in_any_order ∙ sym at.1) in
    (at.0, as_tokens (SaysInteger NoSign NoSize) at.0 input spelled.written spelled.is_written led, at.2)
