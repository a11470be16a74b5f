-- Lines are read as what is spelled, and what is spelled is read.
use Rattle.std.proofs.Common.{◌≡◌, ℕ, List, [], ◌∷◌, ◌++◌, codes, Option, Some, None, refl, sym, ap, subst, ◌∙◌, arith}
use Rattle.std.specs.Fmt.{decimal}
use Rattle.gim_ast.specs.Identifiers.{anonymous}
use Rattle.gim_ast.specs.Numbers.{name_below}
use Rattle.gim_ast.proofs.NumberLemmas.{name_below_is, name_below-anonymous}
use Rattle.first_gimple.specs.declared.draft.Line.{Line}
use Rattle.first_gimple.specs.declared.draft.Taken.{Taken}
use Rattle.first_gimple.specs.declared.draft.Taken.TheVariants.{Local, Initial, Literal}
use Rattle.first_gimple.specs.Tokens.{Token}
use Rattle.first_gimple.specs.Reading.{literal_of, local_of, code_of, taken_from, taken_at, line_at, local_at, param_at, further_param_at}
use Rattle.first_gimple.specs.Spelling.{versions, SpellsTaken, SpellsLine, SpellsLocal, SpellsFurther}
use Rattle.first_gimple.proofs.Words.{then_some, then_here, some_is, fixed_is, fixed_here, token_is, token_here, meant_is, meant_here, type_is, type_here, mark_is, mark_here, local_is, local_here, literal_is, literal_here, no_literal_in_name, code_is, code_here}

-- ---- operands

taken_from_is : (token : Token) (tokens : List Token) (literal : Option ℕ) (name : Option (List ℕ × ℕ)) (x : Taken × List Token) → literal_of token ≡ literal → name_below versions token ≡ name
    → taken_from literal name tokens ≡ Some x → SpellsTaken x.0 (token ∷ tokens) x.1
taken_from_is token tokens (Some n) name x l m e =
    let spelled = literal_is token n l in
    subst (λ (y : Taken × List Token). SpellsTaken y.0 (token ∷ tokens) y.1) (some_is (Literal n, tokens) x e) (spelled.0, spelled.1, spelled.2, ap (λ t. t ∷ tokens) spelled.3)
taken_from_is token tokens None None x l m e = absurd cc
taken_from_is token tokens None (Some ([], v)) x l m e =
    let spelled = name_below_is versions token ([], v) (omega arith) m in
    subst (λ (y : Taken × List Token). SpellsTaken y.0 (token ∷ tokens) y.1) (some_is (Local v, tokens) x e) (spelled.0, ap (λ t. t ∷ tokens) spelled.1)
taken_from_is token tokens None (Some (b ∷ base, v)) x l m e =
    let spelled = name_below_is versions token (b ∷ base, v) (omega arith) m in
    let t = then_some _ _ _ e in
    subst (λ (y : Taken × List Token). SpellsTaken y.0 (token ∷ tokens) y.1) (some_is (Initial (b ∷ base) v, t.0) x t.2)
    (spelled.0, ap (λ t. t ∷ tokens) spelled.1 ∙ ap (λ ts. ((b ∷ base) ++ anonymous v) ∷ ts) (mark_is tokens t.0 t.1))

pub taken_is : (tokens : List Token) (x : Taken × List Token) → taken_at tokens ≡ Some x → SpellsTaken x.0 tokens x.1
unfolding taken_at
taken_is tokens x e =
    let t = then_some _ _ _ e in
    subst (λ ts. SpellsTaken x.0 ts x.1) (sym (token_is tokens t.0 t.1)) (taken_from_is t.0.0 t.0.1 (literal_of t.0.0) (name_below versions t.0.0) x refl refl t.2)

taken_at_token : (token : Token) (tokens : List Token) → taken_at (token ∷ tokens) ≡ taken_from (literal_of token) (name_below versions token) tokens
unfolding taken_at
taken_at_token token tokens = then_here _ _ _ (token_here token tokens)

pub taken_here : (taken : Taken) (tokens rest : List Token) → SpellsTaken taken tokens rest → taken_at tokens ≡ Some (taken, rest)
taken_here (Local v) tokens rest s =
    ap taken_at s.1 ∙ taken_at_token (anonymous v) rest
    ∙ ap (λ l. taken_from l (name_below versions (anonymous v)) rest) (no_literal_in_name [] v)
    ∙ ap (λ m. taken_from None m rest) (name_below-anonymous versions [] v (omega arith) s.0)
taken_here (Initial [] v) tokens rest s = absurd s
taken_here (Initial (b ∷ base) v) tokens rest s =
    let name = (b ∷ base) ++ anonymous v in
    let more = codes "(" ∷ codes "D" ∷ codes ")" ∷ rest in
    ap taken_at s.1 ∙ taken_at_token name more
    ∙ ap (λ l. taken_from l (name_below versions name) more) (no_literal_in_name (b ∷ base) v)
    ∙ ap (λ m. taken_from None m more) (name_below-anonymous versions (b ∷ base) v (omega arith) s.0)
    ∙ then_here _ _ _ (mark_here rest)
taken_here (Literal n) tokens rest s =
    ap taken_at s.3 ∙ taken_at_token (decimal n ++ s.0 ∷ []) rest
    ∙ ap (λ l. taken_from l (name_below versions (decimal n ++ s.0 ∷ [])) rest) (literal_here n s.0 s.2 s.1)

-- ---- statements and declarations

pub line_is : (tokens : List Token) (x : Line × List Token) → line_at tokens ≡ Some x → SpellsLine x.0 tokens x.1
unfolding line_at
line_is tokens x e =
    let a = then_some _ _ _ e in
    let b = then_some _ _ _ a.2 in
    let c = then_some _ _ _ b.2 in
    let d = then_some _ _ _ c.2 in
    let f = then_some _ _ _ d.2 in
    let g = then_some _ _ _ f.2 in
    let name = meant_is local_of tokens a.0 a.1 in
    let version = local_is name.0 a.0.0 name.2 in
    let code = meant_is code_of c.0.1 d.0 d.1 in
    let made : Line = record { name = a.0.0; code = d.0.0; left = c.0.0; right = f.0.0 } in
    subst (λ (y : Line × List Token). SpellsLine y.0 tokens y.1) (some_is (made, g.0) x g.2) (record {
      left = b.0;
      right = d.0.1;
      operator = code.0;
      version = version.0;
      name = name.1 ∙ ap (λ t. t ∷ a.0.1) version.1 ∙ ap (λ ts. anonymous a.0.0 ∷ ts) (fixed_is (codes "=") a.0.1 b.0 b.1);
      code = code_is code.0 d.0.0 code.2;
      first = subst (SpellsTaken c.0.0 b.0) code.1 (taken_is b.0 c.0 c.1);
      second = subst (SpellsTaken f.0.0 d.0.1) (fixed_is (codes ";") f.0.1 g.0 g.1) (taken_is d.0.1 f.0 f.1);
    })

pub line_here : (line : Line) (tokens rest : List Token) → SpellsLine line tokens rest → line_at tokens ≡ Some (line, rest)
unfolding line_at
line_here line tokens rest s =
    ap line_at s.name
    ∙ then_here _ _ _ (meant_here local_of (anonymous line.name) (codes "=" ∷ s.left) line.name (local_here line.name s.version))
    ∙ then_here _ _ _ (fixed_here (codes "=") s.left)
    ∙ then_here _ _ _ (taken_here line.left s.left (s.operator ∷ s.right) s.first)
    ∙ then_here _ _ _ (meant_here code_of s.operator s.right line.code (code_here s.operator line.code s.code))
    ∙ then_here _ _ _ (taken_here line.right s.right (codes ";" ∷ rest) s.second)
    ∙ then_here _ _ _ (fixed_here (codes ";") rest)

pub local_line_is : (tokens : List Token) (x : ℕ × List Token) → local_at tokens ≡ Some x → SpellsLocal x.0 tokens x.1
unfolding local_at
local_line_is tokens x e =
    let a = then_some _ _ _ e in
    let b = then_some _ _ _ a.2 in
    let c = then_some _ _ _ b.2 in
    let name = meant_is local_of a.0 b.0 b.1 in
    let version = local_is name.0 b.0.0 name.2 in
    subst (λ (y : ℕ × List Token). SpellsLocal y.0 tokens y.1) (some_is (b.0.0, c.0) x c.2)
    (version.0, type_is tokens a.0 a.1 ∙ ap (λ ts. codes "unsigned" ∷ codes "int" ∷ ts) (name.1 ∙ ap (λ t. t ∷ b.0.1) version.1 ∙ ap (λ ts. anonymous b.0.0 ∷ ts) (fixed_is (codes ";") b.0.1 c.0 c.1)))

pub local_line_here : (v : ℕ) (tokens rest : List Token) → SpellsLocal v tokens rest → local_at tokens ≡ Some (v, rest)
unfolding local_at
local_line_here v tokens rest s =
    ap local_at s.1
    ∙ then_here _ _ _ (type_here (anonymous v ∷ codes ";" ∷ rest))
    ∙ then_here _ _ _ (meant_here local_of (anonymous v) (codes ";" ∷ rest) v (local_here v s.0))
    ∙ then_here _ _ _ (fixed_here (codes ";") rest)

pub param_is : (tokens : List Token) (x : Token × List Token) → param_at tokens ≡ Some x → tokens ≡ codes "unsigned" ∷ codes "int" ∷ x.0 ∷ x.1
unfolding param_at
param_is tokens x e = let a = then_some _ _ _ e in type_is tokens a.0 a.1 ∙ ap (λ ts. codes "unsigned" ∷ codes "int" ∷ ts) (token_is a.0 x a.2)

pub param_here : (name : Token) (rest : List Token) → param_at (codes "unsigned" ∷ codes "int" ∷ name ∷ rest) ≡ Some (name, rest)
unfolding param_at
param_here name rest = then_here _ _ _ (type_here (name ∷ rest)) ∙ token_here name rest

pub further_is : (tokens : List Token) (x : Token × List Token) → further_param_at tokens ≡ Some x → SpellsFurther x.0 tokens x.1
unfolding further_param_at
further_is tokens x e = let a = then_some _ _ _ e in fixed_is (codes ",") tokens a.0 a.1 ∙ ap (λ ts. codes "," ∷ ts) (param_is a.0 x a.2)

pub further_here : (name : Token) (tokens rest : List Token) → SpellsFurther name tokens rest → further_param_at tokens ≡ Some (name, rest)
unfolding further_param_at
further_here name tokens rest s = ap further_param_at s ∙ then_here _ _ _ (fixed_here (codes ",") (codes "unsigned" ∷ codes "int" ∷ name ∷ rest)) ∙ param_here name rest
