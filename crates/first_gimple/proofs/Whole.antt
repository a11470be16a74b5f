-- A whole function is read as what is spelled, and what is spelled is read.
use Rattle.std.proofs.Common.{◌≡◌, ◌⊎◌, ℕ, zero, suc, ◌+◌, ◌<◌, ◌≤◌, cond, List, [], ◌∷◌, length, codes, Option, Some, None, refl, sym, ap, subst, ◌∙◌, arith, inl, inr}
use Rattle.std.specs.Str.{bytes_eq}
use Rattle.std.specs.Fmt.{decimal}
use Rattle.gim_ast.specs.Identifiers.{anonymous}
use Rattle.lexing.specs.Numbers.{number_below}
use Rattle.lexing.proofs.NumberLemmas.{number_below_is, number_below-decimal}
use Rattle.first_gimple.specs.declared.draft.Draft.{Draft}
use Rattle.first_gimple.specs.declared.draft.Line.{Line}
use Rattle.first_gimple.specs.declared.draft.Taken.{Taken}
use Rattle.first_gimple.specs.declared.draft.Taken.TheVariants.{Local, Initial, Literal}
use Rattle.first_gimple.specs.Tokens.{Token}
use Rattle.first_gimple.specs.Reading.{then_read, or_read, fixed, line_at, with_first, ended, items_at, local_at, further_param_at, params_or_void, params_at, head_at, number_at, nothing_behind, end_at, signature_at, draft_at}
use Rattle.first_gimple.specs.Spelling.{versions, SpellsTaken, SpellsLine, SpellsLocal, SpellsFurther, SpellsItems, SpellsParams, SpellsDraft}
use Rattle.first_gimple.proofs.Words.{then_some, then_here, some_is, fixed_is, fixed_here, token_is, token_here, meant_is, meant_here, type_is, type_here}
use Rattle.first_gimple.proofs.Lines.{taken_is, taken_here, line_is, line_here, local_line_is, local_line_here, param_is, param_here, further_is, further_here}

-- ---- choices

or_some : {X : Type 0} (first second : Option X) (x : X) → or_read first second ≡ Some x → (first ≡ Some x) ⊎ ((first ≡ None) × (second ≡ Some x))
unfolding or_read
or_some None second x e = inr (refl, e)
or_some (Some y) second x e = inl e

or_here : {X : Type 0} (first second : Option X) (x : X) → first ≡ Some x → or_read first second ≡ Some x
unfolding or_read
or_here first second x e = rw e refl

or_else : {X : Type 0} (first second : Option X) → first ≡ None → or_read first second ≡ second
unfolding or_read
or_else first second e = rw e refl

then_none : {X Y : Type 0} (read : Option X) (next : X → Option Y) → read ≡ None → then_read read next ≡ None
unfolding then_read
then_none read next e = rw e refl

other_fixed : (word token : Token) (rest : List Token) → fixed word (token ∷ rest) ≡ cond (bytes_eq token word) (Some rest) None
unfolding fixed
other_fixed word token rest = refl

ended_is : {X : Type 0} (end : Token) (tokens : List Token) (x : List X × List Token) → then_read (fixed end tokens) ended ≡ Some x → (tokens ≡ end ∷ x.1) × (x ≡ ([], x.1))
ended_is end tokens x e =
    let t = then_some _ _ _ e in
    let same : ([], t.0) ≡ x = some_is ([], t.0) x t.2 in
    (fixed_is end tokens t.0 t.1 ∙ ap (λ (y : List _ × List Token). end ∷ y.1) same, sym same ∙ ap (λ (y : List _ × List Token). ([], y.1)) same)

-- ---- items

pub items_are : {X : Type 0} (Spells : X → List Token → List Token → Type 0) (end : Token) (item : List Token → Option (X × List Token))
    → ((tokens : List Token) (x : X × List Token) → item tokens ≡ Some x → Spells x.0 tokens x.1)
    → (n : ℕ) (tokens : List Token) (x : List X × List Token) → items_at end item n tokens ≡ Some x → SpellsItems Spells x.0 tokens (end ∷ x.1)
unfolding items_at
items_are Spells end item one zero tokens x e = absurd cc
items_are {X} Spells end item one (suc n) tokens x e =
    elim (or_some _ _ _ e) [
      | inl h ↦ let t = ended_is end tokens x h in subst (λ (y : List X × List Token). SpellsItems Spells y.0 tokens (end ∷ y.1)) (sym t.1) t.0
      | inr h ↦
          let a = then_some _ _ _ h.1 in
          let b = then_some _ _ _ a.2 in
          subst (λ (y : List X × List Token). SpellsItems Spells y.0 tokens (end ∷ y.1)) (some_is (with_first a.0.0 b.0) x b.2)
          (a.0.1, one tokens a.0 a.1, items_are Spells end item one n a.0.1 b.0 b.1)
    ]

pub items_here : {X : Type 0} (Spells : X → List Token → List Token → Type 0) (end : Token) (item : List Token → Option (X × List Token))
    → ((x : X) (tokens rest : List Token) → Spells x tokens rest → item tokens ≡ Some (x, rest))
    → ((x : X) (tokens rest : List Token) → Spells x tokens rest → fixed end tokens ≡ None)
    → (n : ℕ) (xs : List X) (tokens rest : List Token) → length xs < n → SpellsItems Spells xs tokens (end ∷ rest) → items_at end item n tokens ≡ Some (xs, rest)
unfolding items_at
items_here Spells end item one other zero xs tokens rest lt s = absurd (omega arith)
items_here Spells end item one other (suc n) [] tokens rest lt s =
    or_here _ _ _ (ap (λ ts. then_read (fixed end ts) ended) s ∙ then_here _ _ _ (fixed_here end rest))
items_here Spells end item one other (suc n) (x ∷ xs) tokens rest lt s =
    or_else _ _ (then_none _ _ (other x tokens s.0 s.1))
    ∙ then_here _ _ _ (one x tokens s.0 s.1)
    ∙ then_here _ _ _ (items_here Spells end item one other n xs s.0 rest (omega arith) s.2)

pub items_shorter : {X : Type 0} (Spells : X → List Token → List Token → Type 0) → ((x : X) (tokens rest : List Token) → Spells x tokens rest → length rest < length tokens)
    → (xs : List X) (tokens rest : List Token) → SpellsItems Spells xs tokens rest → length xs + length rest ≤ length tokens
items_shorter Spells one [] tokens rest s = let e : length tokens ≡ length rest = ap length s in omega arith
items_shorter Spells one (x ∷ xs) tokens rest s =
    let a = one x tokens s.0 s.1 in
    let b = items_shorter Spells one xs s.0 rest s.2 in
    omega arith

-- ---- lengths, and which tokens do not begin a line

taken_shorter : (taken : Taken) (tokens rest : List Token) → SpellsTaken taken tokens rest → length rest < length tokens
taken_shorter (Local v) tokens rest s = omega (arith, ap length s.1)
taken_shorter (Initial [] v) tokens rest s = absurd s
taken_shorter (Initial (b ∷ base) v) tokens rest s = omega (arith, ap length s.1)
taken_shorter (Literal n) tokens rest s = omega (arith, ap length s.3)

line_shorter : (line : Line) (tokens rest : List Token) → SpellsLine line tokens rest → length rest < length tokens
line_shorter line tokens rest s =
    let a = ap length s.name in
    let b = taken_shorter line.left s.left (s.operator ∷ s.right) s.first in
    let c = taken_shorter line.right s.right (codes ";" ∷ rest) s.second in
    omega arith

local_shorter : (v : ℕ) (tokens rest : List Token) → SpellsLocal v tokens rest → length rest < length tokens
local_shorter v tokens rest s = omega (arith, ap length s.1)

further_shorter : (name : Token) (tokens rest : List Token) → SpellsFurther name tokens rest → length rest < length tokens
further_shorter name tokens rest s = omega (arith, ap length s)

line_is_no_end : (line : Line) (tokens rest : List Token) → SpellsLine line tokens rest → fixed (codes "return") tokens ≡ None
line_is_no_end line tokens rest s = ap (fixed (codes "return")) s.name ∙ other_fixed (codes "return") (anonymous line.name) (codes "=" ∷ s.left)

local_is_no_end : (v : ℕ) (tokens rest : List Token) → SpellsLocal v tokens rest → fixed (codes "__BB") tokens ≡ None
local_is_no_end v tokens rest s = ap (fixed (codes "__BB")) s.1 ∙ other_fixed (codes "__BB") (codes "unsigned") (codes "int" ∷ anonymous v ∷ codes ";" ∷ rest)

further_is_no_end : (name : Token) (tokens rest : List Token) → SpellsFurther name tokens rest → fixed (codes ")") tokens ≡ None
further_is_no_end name tokens rest s = ap (fixed (codes ")")) s ∙ other_fixed (codes ")") (codes ",") (codes "unsigned" ∷ codes "int" ∷ name ∷ rest)

-- ---- parameters

params_are_from : (n : ℕ) (tokens : List Token) (void : Option (List Token)) (x : List Token × List Token) → fixed (codes "void") tokens ≡ void → params_or_void n tokens void ≡ Some x → SpellsParams x.0 tokens x.1
params_are_from n tokens (Some rest) x v e =
    let t = ended_is (codes ")") rest x e in
    subst (λ (y : List Token × List Token). SpellsParams y.0 tokens y.1) (sym t.1) (inr (fixed_is (codes "void") tokens rest v ∙ ap (λ ts. codes "void" ∷ ts) t.0))
params_are_from n tokens None x v e =
    let a = then_some _ _ _ e in
    let b = then_some _ _ _ a.2 in
    subst (λ (y : List Token × List Token). SpellsParams y.0 tokens y.1) (some_is (with_first a.0.0 b.0) x b.2)
    (a.0.1, param_is tokens a.0 a.1, items_are SpellsFurther (codes ")") further_param_at further_is n a.0.1 b.0 b.1)

pub params_are : (n : ℕ) (tokens : List Token) (x : List Token × List Token) → params_at n tokens ≡ Some x → SpellsParams x.0 tokens x.1
unfolding params_at
params_are n tokens x e =
    elim (or_some _ _ _ e) [
      | inl h ↦ let t = ended_is (codes ")") tokens x h in subst (λ (y : List Token × List Token). SpellsParams y.0 tokens y.1) (sym t.1) (inl t.0)
      | inr h ↦ params_are_from n tokens (fixed (codes "void") tokens) x refl h.1
    ]

pub params_here : (n : ℕ) (names : List Token) (tokens rest : List Token) → length names ≤ n → SpellsParams names tokens rest → params_at n tokens ≡ Some (names, rest)
unfolding params_at
params_here n [] tokens rest le (inl s) = or_here _ _ _ (ap (λ ts. then_read (fixed (codes ")") ts) ended) s ∙ then_here _ _ _ (fixed_here (codes ")") rest))
params_here n [] tokens rest le (inr s) =
    ap (params_at n) s
    ∙ or_else _ _ (then_none _ _ (other_fixed (codes ")") (codes "void") (codes ")" ∷ rest)))
    ∙ ap (params_or_void n (codes "void" ∷ codes ")" ∷ rest)) (fixed_here (codes "void") (codes ")" ∷ rest))
    ∙ then_here _ _ _ (fixed_here (codes ")") rest)
params_here n (name ∷ names) tokens rest le s =
    let head = codes "unsigned" ∷ codes "int" ∷ name ∷ s.0 in
    ap (params_at n) s.1
    ∙ or_else _ _ (then_none _ _ (other_fixed (codes ")") (codes "unsigned") (codes "int" ∷ name ∷ s.0)))
    ∙ ap (params_or_void n head) (other_fixed (codes "void") (codes "unsigned") (codes "int" ∷ name ∷ s.0))
    ∙ then_here _ _ _ (param_here name s.0)
    ∙ then_here _ _ _ (items_here SpellsFurther (codes ")") further_param_at further_here further_is_no_end n names s.0 rest (omega arith) s.2)

pub params_shorter : (names : List Token) (tokens rest : List Token) → SpellsParams names tokens rest → length names + length rest < length tokens
params_shorter [] tokens rest (inl s) = omega (arith, ap length s)
params_shorter [] tokens rest (inr s) = omega (arith, ap length s)
params_shorter (name ∷ names) tokens rest s =
    let a = ap length s.1 in
    let b = items_shorter SpellsFurther further_shorter names s.0 (codes ")" ∷ rest) s.2 in
    omega arith

-- ---- the head, the number and the end

pub head_is : (tokens rest : List Token) → head_at tokens ≡ Some rest → tokens ≡ codes "unsigned" ∷ codes "int" ∷ codes "__GIMPLE" ∷ codes "(" ∷ codes "ssa" ∷ codes ")" ∷ rest
unfolding head_at
head_is tokens rest e =
    let a = then_some _ _ _ e in
    let b = then_some _ _ _ a.2 in
    let c = then_some _ _ _ b.2 in
    let d = then_some _ _ _ c.2 in
    type_is tokens a.0 a.1 ∙ ap (λ ts. codes "unsigned" ∷ codes "int" ∷ ts) (fixed_is (codes "__GIMPLE") a.0 b.0 b.1 ∙ ap (λ ts. codes "__GIMPLE" ∷ ts) (fixed_is (codes "(") b.0 c.0 c.1
    ∙ ap (λ ts. codes "(" ∷ ts) (fixed_is (codes "ssa") c.0 d.0 d.1 ∙ ap (λ ts. codes "ssa" ∷ ts) (fixed_is (codes ")") d.0 rest d.2))))

pub head_here : (rest : List Token) → head_at (codes "unsigned" ∷ codes "int" ∷ codes "__GIMPLE" ∷ codes "(" ∷ codes "ssa" ∷ codes ")" ∷ rest) ≡ Some rest
unfolding head_at
head_here rest =
    then_here _ _ _ (type_here (codes "__GIMPLE" ∷ codes "(" ∷ codes "ssa" ∷ codes ")" ∷ rest))
    ∙ then_here _ _ _ (fixed_here (codes "__GIMPLE") (codes "(" ∷ codes "ssa" ∷ codes ")" ∷ rest))
    ∙ then_here _ _ _ (fixed_here (codes "(") (codes "ssa" ∷ codes ")" ∷ rest))
    ∙ then_here _ _ _ (fixed_here (codes "ssa") (codes ")" ∷ rest))
    ∙ fixed_here (codes ")") rest

pub number_is : (tokens : List Token) (x : ℕ × List Token) → number_at tokens ≡ Some x → (x.0 < versions) × (tokens ≡ codes "(" ∷ decimal x.0 ∷ codes ")" ∷ codes ":" ∷ x.1)
unfolding number_at
number_is tokens x e =
    let a = then_some _ _ _ e in
    let b = then_some _ _ _ a.2 in
    let c = then_some _ _ _ b.2 in
    let d = then_some _ _ _ c.2 in
    let word = meant_is (number_below versions) a.0 b.0 b.1 in
    let number = number_below_is versions b.0.0 word.0 (omega arith) word.2 in
    subst (λ (y : ℕ × List Token). (y.0 < versions) × (tokens ≡ codes "(" ∷ decimal y.0 ∷ codes ")" ∷ codes ":" ∷ y.1)) (some_is (b.0.0, d.0) x d.2)
    (number.0, fixed_is (codes "(") tokens a.0 a.1 ∙ ap (λ ts. codes "(" ∷ ts) (word.1 ∙ ap (λ t. t ∷ b.0.1) number.1 ∙ ap (λ ts. decimal b.0.0 ∷ ts) (fixed_is (codes ")") b.0.1 c.0 c.1 ∙ ap (λ ts. codes ")" ∷ ts) (fixed_is (codes ":") c.0 d.0 d.1))))

pub number_here : (n : ℕ) (rest : List Token) → n < versions → number_at (codes "(" ∷ decimal n ∷ codes ")" ∷ codes ":" ∷ rest) ≡ Some (n, rest)
unfolding number_at
number_here n rest lt =
    then_here _ _ _ (fixed_here (codes "(") (decimal n ∷ codes ")" ∷ codes ":" ∷ rest))
    ∙ then_here _ _ _ (meant_here (number_below versions) (decimal n) (codes ")" ∷ codes ":" ∷ rest) n (number_below-decimal versions n (omega arith) lt))
    ∙ then_here _ _ _ (fixed_here (codes ")") (codes ":" ∷ rest))
    ∙ then_here _ _ _ (fixed_here (codes ":") rest)

nothing_is : (taken : Taken) (tokens : List Token) (x : Taken) → nothing_behind taken tokens ≡ Some x → (taken ≡ x) × (tokens ≡ [])
nothing_is taken [] x e = (some_is taken x e, refl)
nothing_is taken (token ∷ tokens) x e = absurd cc

pub end_is : (tokens : List Token) (taken : Taken) → end_at tokens ≡ Some taken → SpellsTaken taken tokens (codes ";" ∷ codes "}" ∷ [])
unfolding end_at
end_is tokens taken e =
    let a = then_some _ _ _ e in
    let b = then_some _ _ _ a.2 in
    let c = then_some _ _ _ b.2 in
    let d = nothing_is a.0.0 c.0 taken c.2 in
    let rest : a.0.1 ≡ codes ";" ∷ codes "}" ∷ [] = fixed_is (codes ";") a.0.1 b.0 b.1 ∙ ap (λ ts. codes ";" ∷ ts) (fixed_is (codes "}") b.0 c.0 c.1 ∙ ap (λ ts. codes "}" ∷ ts) d.1) in
    subst (λ t. SpellsTaken t tokens (codes ";" ∷ codes "}" ∷ [])) d.0 (subst (SpellsTaken a.0.0 tokens) rest (taken_is tokens a.0 a.1))

pub end_here : (taken : Taken) (tokens : List Token) → SpellsTaken taken tokens (codes ";" ∷ codes "}" ∷ []) → end_at tokens ≡ Some taken
unfolding end_at
end_here taken tokens s =
    then_here _ _ _ (taken_here taken tokens (codes ";" ∷ codes "}" ∷ []) s)
    ∙ then_here _ _ _ (fixed_here (codes ";") (codes "}" ∷ []))
    ∙ then_here _ _ _ (fixed_here (codes "}") [])

-- ---- the whole

pub draft_is : (n : ℕ) (tokens : List Token) (draft : Draft) → draft_at n tokens ≡ Some draft → SpellsDraft draft tokens
unfolding draft_at signature_at
draft_is n tokens draft e =
    let a = then_some _ _ _ e in
    let b = then_some _ _ _ a.2 in
    let c = then_some _ _ _ b.2 in
    let d = then_some _ _ _ c.2 in
    let f = then_some _ _ _ d.2 in
    let p = then_some _ _ _ a.1 in
    let q = then_some _ _ _ p.2 in
    let r = then_some _ _ _ q.2 in
    let s = then_some _ _ _ r.2 in
    let t = then_some _ _ _ s.2 in
    let signature : ((q.0.0, s.0.0), t.0) ≡ a.0 = some_is ((q.0.0, s.0.0), t.0) a.0 t.2 in
    let name : q.0.0 ≡ a.0.0.0 = ap (λ (x : (Token × List Token) × List Token). x.0.0) signature in
    let names : s.0.0 ≡ a.0.0.1 = ap (λ (x : (Token × List Token) × List Token). x.0.1) signature in
    let behind : t.0 ≡ a.0.1 = ap (λ (x : (Token × List Token) × List Token). x.1) signature in
    let number = number_is b.0.1 c.0 c.1 in
    let made : Draft = record { name = a.0.0.0; params = a.0.0.1; locals = b.0.0; number = c.0.0; lines = d.0.0; end = f.0 } in
    let params = params_are n r.0 s.0 s.1 in
    let brace : s.0.1 ≡ codes "{" ∷ a.0.1 = fixed_is (codes "{") s.0.1 t.0 t.1 ∙ ap (λ ts. codes "{" ∷ ts) behind in
    subst (λ x. SpellsDraft x tokens) (some_is made draft f.2) (record {
      params = r.0;
      locals = a.0.1;
      lines = c.0.1;
      end = d.0.1;
      head = head_is tokens p.0 p.1 ∙ ap (λ ts. codes "unsigned" ∷ codes "int" ∷ codes "__GIMPLE" ∷ codes "(" ∷ codes "ssa" ∷ codes ")" ∷ ts)
          (token_is p.0 q.0 q.1 ∙ ap (λ t. t ∷ q.0.1) name ∙ ap (λ ts. a.0.0.0 ∷ ts) (fixed_is (codes "(") q.0.1 r.0 r.1));
      spells_params = subst (λ ns. SpellsParams ns r.0 (codes "{" ∷ a.0.1)) names (subst (SpellsParams s.0.0 r.0) brace params);
      spells_locals = subst (λ ts. SpellsItems SpellsLocal b.0.0 a.0.1 (codes "__BB" ∷ ts)) number.1 (items_are SpellsLocal (codes "__BB") local_at local_line_is n a.0.1 b.0 b.1);
      number = number.0;
      spells_lines = items_are SpellsLine (codes "return") line_at line_is n c.0.1 d.0 d.1;
      spells_end = end_is d.0.1 f.0 f.1;
    })

signature_here : (n : ℕ) (name : Token) (names : List Token) (tokens params locals : List Token) → length names ≤ n
    → tokens ≡ codes "unsigned" ∷ codes "int" ∷ codes "__GIMPLE" ∷ codes "(" ∷ codes "ssa" ∷ codes ")" ∷ name ∷ codes "(" ∷ params → SpellsParams names params (codes "{" ∷ locals)
    → signature_at n tokens ≡ Some ((name, names), locals)
unfolding signature_at
signature_here n name names tokens params locals le head s =
    ap (signature_at n) head
    ∙ then_here _ _ _ (head_here (name ∷ codes "(" ∷ params))
    ∙ then_here _ _ _ (token_here name (codes "(" ∷ params))
    ∙ then_here _ _ _ (fixed_here (codes "(") params)
    ∙ then_here _ _ _ (params_here n names params (codes "{" ∷ locals) le s)
    ∙ then_here _ _ _ (fixed_here (codes "{") locals)

pub draft_here : (n : ℕ) (tokens : List Token) (draft : Draft) → length tokens ≤ n → SpellsDraft draft tokens → draft_at n tokens ≡ Some draft
unfolding draft_at
draft_here n tokens draft le s =
    let a = ap length s.head in
    let b = params_shorter draft.params s.params (codes "{" ∷ s.locals) s.spells_params in
    let c = items_shorter SpellsLocal local_shorter draft.locals s.locals (codes "__BB" ∷ codes "(" ∷ decimal draft.number ∷ codes ")" ∷ codes ":" ∷ s.lines) s.spells_locals in
    let d = items_shorter SpellsLine line_shorter draft.lines s.lines (codes "return" ∷ s.end) s.spells_lines in
    let few_params : length draft.params ≤ n = omega arith in
    let few_locals : length draft.locals < n = omega arith in
    let few_lines : length draft.lines < n = omega arith in
    then_here _ _ _ (signature_here n draft.name draft.params tokens s.params s.locals few_params s.head s.spells_params)
    ∙ then_here _ _ _ (items_here SpellsLocal (codes "__BB") local_at local_line_here local_is_no_end n draft.locals s.locals (codes "(" ∷ decimal draft.number ∷ codes ")" ∷ codes ":" ∷ s.lines) few_locals s.spells_locals)
    ∙ then_here _ _ _ (number_here draft.number s.lines s.number)
    ∙ then_here _ _ _ (items_here SpellsLine (codes "return") line_at line_here line_is_no_end n draft.lines s.lines s.end few_lines s.spells_lines)
    ∙ then_here _ _ _ (end_here draft.end s.end s.spells_end)
