-- Each token: what is read of it is spelled so, and what is spelled so is read.
use Rattle.std.proofs.Common.{◌≡◌, ◌≢◌, ℕ, Bool, true, false, cond, eqb, List, [], ◌∷◌, ◌++◌, length, take, drop, codes, Option, Some, None, refl, sym, ap, subst, ◌∙◌, arith}
use Rattle.std.specs.List.{AllPass}
use Rattle.std.specs.Str.{bytes_eq}
use Rattle.std.proofs.lemmas.Bool.Decides.{nat_tests}
use Rattle.std.proofs.lemmas.List.{take-append-drop, take_at, drop_at}
use Rattle.std.proofs.lemmas.List.Sums.{AllPass-from_list_all}
use Rattle.std.proofs.lemmas.Slice.Eq.{bytes_eq-Decides}
use Rattle.pm_ops.specs.declared.code.Code.{Code}
use Rattle.pm_ops.specs.declared.code.Code.TheVariants.{Plus, Minus, Mult, BitAnd, BitIor, BitXor}
use Rattle.pm_ops.specs.Names.{code_name, code_named}
use Rattle.pm_ops.proofs.NameLemmas.{code_named-code_name, name_of_code_named}
use Rattle.first_patterns.specs.FirstForm.{is_white, is_digit, is_first_code, Gap, Break, Digits}
use Rattle.first_patterns.specs.Reading.{◌>>=◌, is_word, front, past, strip, token_at, code_at, capture_at, apart_capture_at}
use Rattle.first_patterns.proofs.Runs.{Stops, parts, front_passes, front_again, past_again}

-- ---- steps that did not fail

pub bind_some : {A B : Type 0} (r : Option A) (f : A → Option B) (y : B) → (r >>= f) ≡ Some y → (x : A) × (r ≡ Some x) × (f x ≡ Some y)
bind_some (Some x) f y e = (x, refl, e)
bind_some None f y e = absurd cc

pub some_is : {A : Type 0} (x y : A) → ◌≡◌ {A = Option A} (Some x) (Some y) → x ≡ y
some_is x y e = cc

pub guard_some : {A : Type 0} (b : Bool) (x y : A) → cond b (Some x) None ≡ Some y → (b ≡ true) × (x ≡ y)
guard_some true x y e = (refl, cc)
guard_some false x y e = absurd cc

guard_none : {A : Type 0} (b : Bool) (r : Option A) (y : A) → cond b None r ≡ Some y → (b ≡ false) × (r ≡ Some y)
guard_none true r y e = absurd cc
guard_none false r y e = (refl, e)

-- a list with a length that is tested to be nought, or not
not_empty : (xs : List ℕ) → eqb (length xs) 0 ≡ false → xs ≢ []
not_empty [] e = absurd cc
not_empty (x ∷ xs) e = λ is. absurd cc

pub has_some : (xs : List ℕ) → xs ≢ [] → eqb (length xs) 0 ≡ false
has_some [] some = absurd (some refl)
has_some (x ∷ xs) some = grind (arith, nat_tests)

-- ---- white space keeps words and numbers apart

pub white_is_no_word : (b : ℕ) → is_white b ≡ true → is_word b ≡ false
white_is_no_word b white = grind (arith, nat_tests)

pub white_is_no_digit : (b : ℕ) → is_white b ≡ true → is_digit b ≡ false
white_is_no_digit b white = grind (arith, nat_tests)

-- ---- fixed tokens

pub strip_parts : (token bytes rest : List ℕ) → strip token bytes ≡ Some rest → bytes ≡ token ++ rest
unfolding strip
strip_parts token bytes rest e =
    let n = length token in
    let g = guard_some (bytes_eq (take n bytes) token) (drop n bytes) rest e in
    let begins : take n bytes ≡ token = (bytes_eq-Decides (take n bytes) token).0 g.0 in
    let whole : bytes ≡ take n bytes ++ drop n bytes = sym (take-append-drop n bytes) in
    whole ∙ ap (λ (xs : List ℕ). xs ++ drop n bytes) begins ∙ ap (λ (xs : List ℕ). token ++ xs) g.1

pub strip_again : (token rest : List ℕ) → strip token (token ++ rest) ≡ Some rest
unfolding strip
strip_again token rest =
    let same : bytes_eq token token ≡ true = (bytes_eq-Decides token token).1 refl in
    rw (take_at token rest (length token) refl, drop_at token rest (length token) refl, same) refl

-- the gap before something
abbrev pub gap_of : List ℕ → Gap
gap_of bytes = record { bytes = front is_white bytes; white = front_passes is_white bytes }

pub token_parts : (token bytes rest : List ℕ) → token_at token bytes ≡ Some rest → bytes ≡ (gap_of bytes).bytes ++ (token ++ rest)
unfolding token_at
token_parts token bytes rest e =
    parts is_white bytes ∙ ap (λ (xs : List ℕ). front is_white bytes ++ xs) (strip_parts token (past is_white bytes) rest e)

pub token_again : (gap : Gap) (token rest : List ℕ) → Stops is_white (token ++ rest) → token_at token (gap.bytes ++ (token ++ rest)) ≡ Some rest
unfolding token_at
token_again gap token rest stops = rw (past_again is_white gap.bytes (token ++ rest) gap.white stops) (strip_again token rest)

-- ---- operations

pub record TakesCode (bytes : List ℕ) (code : Code) (rest : List ℕ) : Type 0 where
  pub text : bytes ≡ code_name code ++ rest
  pub first : is_first_code code ≡ true

pub code_parts : (bytes : List ℕ) (code : Code) (rest : List ℕ) → code_at bytes ≡ Some (code, rest) → TakesCode bytes code rest
unfolding code_at
code_parts bytes code rest e =
    let word = front is_word bytes in
    let a = bind_some (code_named word) _ (code, rest) e in
    let g = guard_some (is_first_code a.0) (a.0, past is_word bytes) (code, rest) a.2 in
    let code_is : a.0 ≡ code = ap (λ (x : Code × List ℕ). x.0) g.1 in
    let rest_is : past is_word bytes ≡ rest = ap (λ (x : Code × List ℕ). x.1) g.1 in
    let name : word ≡ code_name code = name_of_code_named word a.0 a.1 ∙ ap code_name code_is in
    record {
      text = parts is_word bytes ∙ ap (λ (xs : List ℕ). xs ++ past is_word bytes) name ∙ ap (λ (xs : List ℕ). code_name code ++ xs) rest_is;
      first = subst (λ (c : Code). is_first_code c ≡ true) code_is g.0;
    }

-- the names of the operations are words, and begin with no white space
pub name_stops : (code : Code) → is_first_code code ≡ true → (rest : List ℕ) → Stops is_white (code_name code ++ rest)
name_stops Plus first rest = refl
name_stops Minus first rest = refl
name_stops Mult first rest = refl
name_stops BitAnd first rest = refl
name_stops BitIor first rest = refl
name_stops BitXor first rest = refl
name_stops _ first rest = absurd cc

name_is_word : (code : Code) → is_first_code code ≡ true → AllPass is_word (code_name code)
name_is_word Plus first = AllPass-from_list_all is_word (code_name Plus) refl
name_is_word Minus first = AllPass-from_list_all is_word (code_name Minus) refl
name_is_word Mult first = AllPass-from_list_all is_word (code_name Mult) refl
name_is_word BitAnd first = AllPass-from_list_all is_word (code_name BitAnd) refl
name_is_word BitIor first = AllPass-from_list_all is_word (code_name BitIor) refl
name_is_word BitXor first = AllPass-from_list_all is_word (code_name BitXor) refl
name_is_word _ first = absurd cc

pub code_again : (code : Code) (rest : List ℕ) → is_first_code code ≡ true → Stops is_word rest → code_at (code_name code ++ rest) ≡ Some (code, rest)
unfolding code_at
code_again code rest first stops =
    let word = name_is_word code first in
    rw (front_again is_word (code_name code) rest word stops, past_again is_word (code_name code) rest word stops, code_named-code_name code, first) refl

-- ---- captures

-- digits that are read, before the rest
pub record TakesCapture (bytes digits rest : List ℕ) : Type 0 where
  pub text : bytes ≡ codes "@" ++ (digits ++ rest)
  pub digit : AllPass is_digit digits
  pub some : digits ≢ []

pub capture_parts : (bytes digits rest : List ℕ) → capture_at bytes ≡ Some (digits, rest) → TakesCapture bytes digits rest
unfolding capture_at
capture_parts bytes digits rest e =
    let a = bind_some (strip (codes "@") bytes) _ (digits, rest) e in
    let g = guard_none (eqb (length (front is_digit a.0)) 0) (Some (front is_digit a.0, past is_digit a.0)) (digits, rest) a.2 in
    let both = some_is (front is_digit a.0, past is_digit a.0) (digits, rest) g.1 in
    let digits_are : front is_digit a.0 ≡ digits = ap (λ (x : List ℕ × List ℕ). x.0) both in
    let rest_is : past is_digit a.0 ≡ rest = ap (λ (x : List ℕ × List ℕ). x.1) both in
    let behind : a.0 ≡ digits ++ rest = parts is_digit a.0 ∙ ap (λ (xs : List ℕ). xs ++ past is_digit a.0) digits_are ∙ ap (λ (xs : List ℕ). digits ++ xs) rest_is in
    record {
      text = strip_parts (codes "@") bytes a.0 a.1 ∙ ap (λ (xs : List ℕ). codes "@" ++ xs) behind;
      digit = subst (λ (xs : List ℕ). AllPass is_digit xs) digits_are (front_passes is_digit a.0);
      some = subst (λ (xs : List ℕ). xs ≢ []) digits_are (not_empty (front is_digit a.0) g.0);
    }

pub capture_again : (d : Digits) (rest : List ℕ) → Stops is_digit rest → capture_at (codes "@" ++ (d.bytes ++ rest)) ≡ Some (d.bytes, rest)
unfolding capture_at
capture_again d rest stops =
    rw (strip_again (codes "@") (d.bytes ++ rest), front_again is_digit d.bytes rest d.digits stops, past_again is_digit d.bytes rest d.digits stops, has_some d.bytes d.some) refl

-- digits behind white space that is there
pub record TakesApart (bytes digits rest : List ℕ) : Type 0 where
  pub gap : Break
  pub digit : AllPass is_digit digits
  pub some : digits ≢ []
  pub text : bytes ≡ gap.bytes ++ (codes "@" ++ (digits ++ rest))

pub apart_parts : (bytes digits rest : List ℕ) → apart_capture_at bytes ≡ Some (digits, rest) → TakesApart bytes digits rest
unfolding apart_capture_at
apart_parts bytes digits rest e =
    let g = guard_none (eqb (length (front is_white bytes)) 0) (capture_at (past is_white bytes)) (digits, rest) e in
    let t = capture_parts (past is_white bytes) digits rest g.1 in
    record {
      gap = record { bytes = front is_white bytes; white = front_passes is_white bytes; some = not_empty (front is_white bytes) g.0 };
      digit = t.digit;
      some = t.some;
      text = parts is_white bytes ∙ ap (λ (xs : List ℕ). front is_white bytes ++ xs) t.text;
    }

pub apart_again : (gap : Break) (d : Digits) (rest : List ℕ) → Stops is_digit rest → apart_capture_at (gap.bytes ++ (codes "@" ++ (d.bytes ++ rest))) ≡ Some (d.bytes, rest)
unfolding apart_capture_at
apart_again gap d rest stops =
    rw (front_again is_white gap.bytes (codes "@" ++ (d.bytes ++ rest)) gap.white refl, past_again is_white gap.bytes (codes "@" ++ (d.bytes ++ rest)) gap.white refl, has_some gap.bytes gap.some) (capture_again d rest stops)
