-- Tokens are read as what they mean, and nothing else is.
use Rattle.std.proofs.Common.{◌≡◌, ℕ, suc, ◌-◌, ◌^◌, ◌<◌, Bool, true, false, cond, List, [], ◌∷◌, ◌++◌, length, get_or, take, codes, Option, Some, None, refl, sym, ap, subst, ◌∙◌, arith}
use Rattle.std.specs.Prelude.{IsTrue, ◌==◌, option_map}
use Rattle.std.specs.List.{list_all, list_any}
use Rattle.std.specs.Str.{bytes_eq}
use Rattle.std.specs.Fmt.{decimal}
use Rattle.std.specs.Cmp.Lexicographic.{bytes_decides}
use Rattle.std.proofs.lemmas.Bool.{and_parts, ne_eqb, false≢true, or_from, or_right}
use Rattle.std.proofs.lemmas.Bool.Decides.{nat_tests}
use Rattle.std.proofs.lemmas.List.{take_at, length-append}
use Rattle.pm_ops.specs.declared.code.Code.{Code}
use Rattle.pm_ops.specs.declared.code.Code.TheVariants.{Convert, Plus, Minus, Mult, TruncDiv, TruncMod, Negate, Abs, Absu, BitAnd, BitIor, BitXor, BitNot, Lshift, Rshift, Min, Max, Eq, Ne, Lt, Le, Gt, Ge, Cond}
use Rattle.gim_ast.specs.Identifiers.{anonymous}
use Rattle.lexing.specs.Bytes.{is_digit}
use Rattle.gim_ast.specs.Numbers.{name_below}
use Rattle.lexing.specs.Numbers.{number_below}
use Rattle.gim_ast.proofs.NumberLemmas.{name_below_is, name_below-anonymous}
use Rattle.lexing.proofs.NumberLemmas.{number_below_is, number_below-decimal, decimal_digits}
use Rattle.first_gimple.specs.Tokens.{Token}
use Rattle.first_gimple.specs.Reading.{then_read, fixed, token_at, literal_of, local_from, local_of, code_of, meant_at, type_at, mark_at}
use Rattle.first_gimple.specs.Spelling.{versions, is_suffix, operator_of}

-- ---- steps

pub then_some : {X Y : Type 0} (read : Option X) (next : X → Option Y) (y : Y) → then_read read next ≡ Some y → (x : X) × (read ≡ Some x) × (next x ≡ Some y)
unfolding then_read
then_some None next y e = absurd cc
then_some (Some x) next y e = (x, refl, e)

pub then_here : {X Y : Type 0} (read : Option X) (next : X → Option Y) (x : X) → read ≡ Some x → then_read read next ≡ next x
unfolding then_read
then_here read next x e = rw e refl

pub some_is : {X : Type 0} (x y : X) → Some x ≡ Some y → x ≡ y
some_is x y e = cc

-- ---- tokens

same_bytes : (a b : List ℕ) → bytes_eq a b ≡ true → a ≡ b
same_bytes a b h = (bytes_decides a b).0 h

bytes_itself : (a : List ℕ) → bytes_eq a a ≡ true
bytes_itself a = (bytes_decides a a).1 refl

chosen : {X : Type 0} (b : Bool) (x y : X) → cond b (Some x) None ≡ Some y → (b ≡ true) × (x ≡ y)
chosen true x y e = (refl, cc)
chosen false x y e = absurd cc

pub fixed_is : (word : Token) (tokens rest : List Token) → fixed word tokens ≡ Some rest → tokens ≡ word ∷ rest
unfolding fixed
fixed_is word [] rest e = absurd cc
fixed_is word (token ∷ tokens) rest e = let c = chosen (bytes_eq token word) tokens rest e in ap (λ t. t ∷ tokens) (same_bytes token word c.0) ∙ ap (λ ts. word ∷ ts) c.1

pub fixed_here : (word : Token) (rest : List Token) → fixed word (word ∷ rest) ≡ Some rest
unfolding fixed
fixed_here word rest = rw (bytes_itself word) refl

pub token_is : (tokens : List Token) (x : Token × List Token) → token_at tokens ≡ Some x → tokens ≡ x.0 ∷ x.1
unfolding token_at
token_is [] x e = absurd cc
token_is (token ∷ tokens) x e = ap (λ (y : Token × List Token). y.0 ∷ y.1) (some_is (token, tokens) x e)

pub token_here : (token : Token) (tokens : List Token) → token_at (token ∷ tokens) ≡ Some (token, tokens)
unfolding token_at
token_here token tokens = refl

mapped : {X Y : Type 0} (f : X → Y) (o : Option X) (y : Y) → option_map f o ≡ Some y → (x : X) × (o ≡ Some x) × (f x ≡ y)
mapped f None y e = absurd cc
mapped f (Some x) y e = (x, refl, cc)

pub meant_is : {X : Type 0} (meaning : Token → Option X) (tokens : List Token) (x : X × List Token) → meant_at meaning tokens ≡ Some x → (token : Token) × (tokens ≡ token ∷ x.1) × (meaning token ≡ Some x.0)
unfolding meant_at
meant_is meaning tokens x e =
    let t = then_some _ _ _ e in
    let m = mapped (λ y. (y, t.0.1)) (meaning t.0.0) x t.2 in
    subst (λ z. (token : Token) × (tokens ≡ token ∷ z.1) × (meaning token ≡ Some z.0)) m.2 (t.0.0, token_is tokens t.0 t.1, m.1)

pub meant_here : {X : Type 0} (meaning : Token → Option X) (token : Token) (tokens : List Token) (x : X) → meaning token ≡ Some x → meant_at meaning (token ∷ tokens) ≡ Some (x, tokens)
unfolding meant_at
meant_here meaning token tokens x e = then_here (token_at (token ∷ tokens)) (λ t. option_map (λ x. (x, t.1)) (meaning t.0)) (token, tokens) (token_here token tokens) ∙ ap (option_map (λ x. (x, tokens))) e

pub type_is : (tokens rest : List Token) → type_at tokens ≡ Some rest → tokens ≡ codes "unsigned" ∷ codes "int" ∷ rest
unfolding type_at
type_is tokens rest e = let t = then_some _ _ _ e in fixed_is (codes "unsigned") tokens t.0 t.1 ∙ ap (λ ts. codes "unsigned" ∷ ts) (fixed_is (codes "int") t.0 rest t.2)

pub type_here : (rest : List Token) → type_at (codes "unsigned" ∷ codes "int" ∷ rest) ≡ Some rest
unfolding type_at
type_here rest = then_here _ _ _ (fixed_here (codes "unsigned") (codes "int" ∷ rest)) ∙ fixed_here (codes "int") rest

pub mark_is : (tokens rest : List Token) → mark_at tokens ≡ Some rest → tokens ≡ codes "(" ∷ codes "D" ∷ codes ")" ∷ rest
unfolding mark_at
mark_is tokens rest e =
    let a = then_some _ _ _ e in
    let b = then_some _ _ _ a.2 in
    fixed_is (codes "(") tokens a.0 a.1 ∙ ap (λ ts. codes "(" ∷ ts) (fixed_is (codes "D") a.0 b.0 b.1 ∙ ap (λ ts. codes "D" ∷ ts) (fixed_is (codes ")") b.0 rest b.2))

pub mark_here : (rest : List Token) → mark_at (codes "(" ∷ codes "D" ∷ codes ")" ∷ rest) ≡ Some rest
unfolding mark_at
mark_here rest = then_here _ _ _ (fixed_here (codes "(") (codes "D" ∷ codes ")" ∷ rest)) ∙ (then_here _ _ _ (fixed_here (codes "D") (codes ")" ∷ rest)) ∙ fixed_here (codes ")") rest)

-- ---- names and numbers

pub local_is : (token : Token) (v : ℕ) → local_of token ≡ Some v → (v < versions) × (token ≡ anonymous v)
unfolding local_of
local_is token v e = from (name_below versions token) refl e where
  from : (name : Option (List ℕ × ℕ)) → name_below versions token ≡ name → local_from name ≡ Some v → (v < versions) × (token ≡ anonymous v)
  from None read e = absurd cc
  from (Some ([], n)) read e = let same : n ≡ v = some_is n v e in subst (λ m. (m < versions) × (token ≡ anonymous m)) same (name_below_is versions token ([], n) (omega arith) read)
  from (Some (b ∷ base, n)) read e = absurd cc

pub local_here : (v : ℕ) → v < versions → local_of (anonymous v) ≡ Some v
unfolding local_of
local_here v lt = ap local_from (name_below-anonymous versions [] v (omega arith) lt)

-- a token cut before its last byte
before_last : (token : Token) → 0 < length token → token ≡ take (length token - 1) token ++ get_or token (length token - 1) 0 ∷ []
before_last [] long = absurd (omega arith)
before_last (b ∷ []) long = refl
before_last (b ∷ c ∷ token) long =
    let e : length (b ∷ c ∷ token) - 1 ≡ suc (length (c ∷ token) - 1) = omega arith in
    rw e (ap (λ bs. b ∷ bs) (before_last (c ∷ token) (omega arith)))

pub literal_is : (token : Token) (n : ℕ) → literal_of token ≡ Some n → (suffix : ℕ) × IsTrue (is_suffix suffix) × (n < 2 ^ 32) × (token ≡ decimal n ++ suffix ∷ [])
unfolding literal_of
literal_is [] n e = absurd cc
literal_is (b ∷ bytes) n e =
    let token = b ∷ bytes in
    let c = test (is_suffix (get_or token (length token - 1) 0)) (number_below (2 ^ 32) (take (length token - 1) token)) e in
    let r = number_below_is (2 ^ 32) n (take (length token - 1) token) (omega arith) c.1 in
    (get_or token (length token - 1) 0, c.0, r.0, before_last token (omega arith) ∙ ap (λ ds. ds ++ get_or token (length token - 1) 0 ∷ []) r.1) where
      test : (t : Bool) (o : Option ℕ) → cond t o None ≡ Some n → (t ≡ true) × (o ≡ Some n)
      test true o e = (refl, e)
      test false o e = absurd cc

at_last : (bs : List ℕ) (s d : ℕ) → get_or (bs ++ s ∷ []) (length bs) d ≡ s
at_last [] s d = refl
at_last (b ∷ bs) s d = at_last bs s d

pub literal_here : (n suffix : ℕ) → n < 2 ^ 32 → is_suffix suffix ≡ true → literal_of (decimal n ++ suffix ∷ []) ≡ Some n
unfolding literal_of
literal_here n suffix lt is =
    let len : length (decimal n ++ suffix ∷ []) - 1 ≡ length (decimal n) = omega (arith, length-append (decimal n) (suffix ∷ [])) in
    rw (len, at_last (decimal n) suffix 0, is, take_at (decimal n) (suffix ∷ []) (length (decimal n)) refl) (number_below-decimal (2 ^ 32) n (omega arith) lt)

-- an underscore stands in each name, and in no number
underscored : List ℕ → Bool
underscored bs = list_any (λ b. b == 95) bs

name_is_underscored : (base : List ℕ) (v : ℕ) → underscored (base ++ anonymous v) ≡ true
unfolding underscored
name_is_underscored [] v = refl
name_is_underscored (b ∷ base) v = or_right (b == 95) (list_any (λ c. c == 95) (base ++ anonymous v)) (name_is_underscored base v)

digits_are_not : (ds : List ℕ) (s : ℕ) → list_all is_digit ds ≡ true → is_suffix s ≡ true → underscored (ds ++ s ∷ []) ≡ false
unfolding underscored
digits_are_not [] s digits is = or_from (s == 95) false (apart s is) refl where
  apart : (s : ℕ) → is_suffix s ≡ true → (s == 95) ≡ false
  apart s is = grind (arith, nat_tests)
digits_are_not (d ∷ ds) s digits is =
    let p = and_parts (is_digit d) (list_all is_digit ds) digits in
    or_from (d == 95) (list_any (λ c. c == 95) (ds ++ s ∷ [])) (ne_eqb d 95 (λ e. false≢true (ap is_digit (sym e) ∙ p.0))) (digits_are_not ds s p.1 is)

pub no_literal_in_name : (base : List ℕ) (v : ℕ) → literal_of (base ++ anonymous v) ≡ None
no_literal_in_name base v = from (literal_of (base ++ anonymous v)) refl where
  from : (o : Option ℕ) → literal_of (base ++ anonymous v) ≡ o → o ≡ None
  from None e = refl
  from (Some n) e =
      let l = literal_is (base ++ anonymous v) n e in
      absurd (false≢true (sym (digits_are_not (decimal n) l.0 (decimal_digits n (omega (arith, l.2))) l.1) ∙ ap underscored (sym l.3) ∙ name_is_underscored base v))

-- ---- operators

pub code_is : (token : Token) (code : Code) → code_of token ≡ Some code → operator_of code ≡ Some token
code_is token code e =
    by (bytes_eq token (codes "+")) (bytes_eq token (codes "-")) (bytes_eq token (codes "*")) (bytes_eq token (codes "&")) (bytes_eq token (codes "|")) (bytes_eq token (codes "^"))
    (same_bytes token (codes "+")) (same_bytes token (codes "-")) (same_bytes token (codes "*")) (same_bytes token (codes "&")) (same_bytes token (codes "|")) (same_bytes token (codes "^")) e where
      answer : (c : Code) (word : Token) → operator_of c ≡ Some word → token ≡ word → Some c ≡ Some code → operator_of code ≡ Some token
      answer c word is same e = ap operator_of (sym (some_is c code e)) ∙ is ∙ ap Some (sym same)

      by : (a b c d f g : Bool) → (a ≡ true → token ≡ codes "+") → (b ≡ true → token ≡ codes "-") → (c ≡ true → token ≡ codes "*") → (d ≡ true → token ≡ codes "&") → (f ≡ true → token ≡ codes "|") → (g ≡ true → token ≡ codes "^")
          → cond a (Some Plus) (cond b (Some Minus) (cond c (Some Mult) (cond d (Some BitAnd) (cond f (Some BitIor) (cond g (Some BitXor) None))))) ≡ Some code → operator_of code ≡ Some token
      by true b c d f g p q r s t u e = answer Plus (codes "+") refl (p refl) e
      by false true c d f g p q r s t u e = answer Minus (codes "-") refl (q refl) e
      by false false true d f g p q r s t u e = answer Mult (codes "*") refl (r refl) e
      by false false false true f g p q r s t u e = answer BitAnd (codes "&") refl (s refl) e
      by false false false false true g p q r s t u e = answer BitIor (codes "|") refl (t refl) e
      by false false false false false true p q r s t u e = answer BitXor (codes "^") refl (u refl) e
      by false false false false false false p q r s t u e = absurd cc

pub code_here : (token : Token) (code : Code) → operator_of code ≡ Some token → code_of token ≡ Some code
code_here token Convert e = absurd cc
code_here token Plus e = ap code_of (sym (some_is (codes "+") token e))
code_here token Minus e = ap code_of (sym (some_is (codes "-") token e))
code_here token Mult e = ap code_of (sym (some_is (codes "*") token e))
code_here token TruncDiv e = absurd cc
code_here token TruncMod e = absurd cc
code_here token Negate e = absurd cc
code_here token Abs e = absurd cc
code_here token Absu e = absurd cc
code_here token BitAnd e = ap code_of (sym (some_is (codes "&") token e))
code_here token BitIor e = ap code_of (sym (some_is (codes "|") token e))
code_here token BitXor e = ap code_of (sym (some_is (codes "^") token e))
code_here token BitNot e = absurd cc
code_here token Lshift e = absurd cc
code_here token Rshift e = absurd cc
code_here token Min e = absurd cc
code_here token Max e = absurd cc
code_here token Eq e = absurd cc
code_here token Ne e = absurd cc
code_here token Lt e = absurd cc
code_here token Le e = absurd cc
code_here token Gt e = absurd cc
code_here token Ge e = absurd cc
code_here token Cond e = absurd cc
