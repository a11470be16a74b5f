-- The value of a `wide_int` is read exactly: after `wi::add (` and its like it may be a call with a flag.
use Rattle.std.proofs.Common.{◌≡◌, ℕ, suc, ◌+◌, ◌<◌, List, [], ◌∷◌, ◌++◌, length, Option, Some, None, refl, sym, ap, subst, ◌∙◌, inl, inr, arith, append_assoc}
use Rattle.std.proofs.lemmas.List.{append-nil}
use Rattle.grammar.specs.Spelling.{Spelling, Begins, Meant, Mapped, Many}
use Rattle.grammar.specs.Exact.{IsApart, IsExact}
use Rattle.grammar.proofs.Parts as parts
use Rattle.grammar.proofs.Parts.{SameStart, same_head, same_tail}
use Rattle.grammar.proofs.Starts.{Begun, meant_begun, front_begun, same_begun, first_meant, takes_token, begins_with, after_first}
use Rattle.pm_places.specs.declared.span.Span.{Span}
use Rattle.pd_text.specs.declared.symbol.Symbol.{Symbol}
use Rattle.pd_text.specs.declared.symbol.Symbol.TheVariants as symbols
use Rattle.pd_text.specs.declared.symbol.Mark.TheVariants as marks
use Rattle.pd_text.specs.declared.symbol.Word.TheVariants as words
use Rattle.pd_text.specs.Meanings as meanings
use Rattle.cond_subset.specs.declared.tree.Arithmetic.{Arithmetic}
use Rattle.cond_subset.specs.declared.tree.Arithmetic.TheVariants as arithmetics
use Rattle.cond_subset.specs.declared.tree.FlaggedCall.{FlaggedCall}
use Rattle.cond_subset.specs.GoesOn.{GoesOn}
use Rattle.cond_subset.specs.Words.{arithmetic, before_flag}
use Rattle.cond_subset.specs.Trees.{Expr, named, call, nil, exprs}
use Rattle.cond_subset.specs.Grammar.{◌▸◌, AMark, SpellsCallee, Spells, SpellsArgs, SpellsFurther, Within}
use Rattle.cond_subset.specs.Declarations.{Value, plain, flagged, SpellsOpening, SpellsValue}
use Rattle.cond_subset.specs.Readers.{Inner, Read}
use Rattle.cond_subset.specs.DeclarationReaders.{callee_of, plain_at, opened_at, wide_value_at, value_at}
use Rattle.cond_subset.proofs.SymbolsExact.{somewhere}
use Rattle.cond_subset.proofs.Ranks.{rank_small}
use Rattle.cond_subset.proofs.LinksExact.{Continued, continued_far, some_continued}
use Rattle.cond_subset.proofs.Grouping.{grouped, of_grouped}
use Rattle.cond_subset.proofs.ArgumentsExact.{FurtherArg, Closed, args_of, ends, expression_begun}
use Rattle.cond_subset.proofs.OperandsExact.{WideRest, IsOpen, IsColons, open_is, colons_are, call_to, of_operand, operand_not_empty}
use Rattle.cond_subset.proofs.CallTails.{Last, OneMore, AfterArgument, Tail, last_tail, tail_last, one_more_tail, tail_one_more}
use Rattle.cond_subset.proofs.ValuesExact.{Opened, opened_exact}

-- how many arguments stand between the first and the flag
abbrev between : Arithmetic → ℕ
between arithmetics.Negate = 0
between op = 2

one_and_between : (op : Arithmetic) → suc (between op) ≡ before_flag op
one_and_between arithmetics.Negate = refl
one_and_between op = refl

argument_tail : (c : FlaggedCall) (op : Arithmetic) (args : List Expr) (v : Value) (w : List Symbol) → AfterArgument c op args v w → Tail (between op) c args v w
argument_tail c arithmetics.Negate args v w rest = last_tail c args v w rest
argument_tail c op args v w rest =
    one_more_tail 1 c (OneMore c (Last c)) (one_more_tail 0 c (Last c) (last_tail c) (tail_last c)) (tail_one_more 0 c (Last c) (last_tail c) (tail_last c)) args v w rest

tail_argument : (c : FlaggedCall) (op : Arithmetic) (args : List Expr) (v : Value) (w : List Symbol) → Tail (between op) c args v w → AfterArgument c op args v w
tail_argument c arithmetics.Negate args v w rest = tail_last c args v w rest
tail_argument c op args v w rest =
    tail_one_more 1 c (OneMore c (Last c)) (one_more_tail 0 c (Last c) (last_tail c) (tail_last c)) (tail_one_more 0 c (Last c) (last_tail c) (tail_last c)) args v w rest

-- the call that may have a flag, by the places of its symbols
abbrev call_of : Arithmetic × Span → Span → FlaggedCall
call_of op at = record { operation = op.0; wide = at; name = op.1 }

arithmetic_named : (t : Symbol) (op : Arithmetic × Span) → arithmetic t ≡ Some op → meanings.identifier t ≡ Some op.1
arithmetic_named (symbols.Word words.Add at) op e = cc
arithmetic_named (symbols.Word words.Subtract at) op e = cc
arithmetic_named (symbols.Word words.Multiply at) op e = cc
arithmetic_named (symbols.Word words.Negate at) op e = cc
arithmetic_named t op e = absurd (cc)

-- to the grammar

abbrev Front : Span → Span → Symbol → Span → List Symbol → List Symbol
Front at d t o w = symbols.Word words.Wide at ∷ symbols.Mark marks.DoubleColon d ∷ t ∷ symbols.Mark marks.Open o ∷ w

front_callee : (at d : Span) (t : Symbol) (op : Arithmetic × Span) → arithmetic t ≡ Some op
    → SpellsCallee (callee_of (call_of op at)) (symbols.Word words.Wide at ∷ symbols.Mark marks.DoubleColon d ∷ t ∷ [])
front_callee at d t op is = (
  symbols.Word words.Wide at ∷ symbols.Mark marks.DoubleColon d ∷ [],
  t ∷ [],
  (
    symbols.Word words.Wide at ∷ [],
    symbols.Mark marks.DoubleColon d ∷ [],
    (symbols.Word words.Wide at, refl, refl),
    (d, (symbols.Mark marks.DoubleColon d, refl, refl)),
    refl,
  ),
  (t, arithmetic_named t op is, refl),
  refl,
)

closed_plain : (at d o : Span) (t : Symbol) (op : Arithmetic × Span) → arithmetic t ≡ Some op → (a e : Expr) (u z : List Symbol) → Closed (callee_of (call_of op at)) a u → Continued 10 a e z
    → Spells e (Front at d t o (u ++ z))
closed_plain at d o t op is a e u z closed continued =
    let operand : Within 0 a (Front at d t o u) =
    call_to (callee_of (call_of op at)) a (symbols.Word words.Wide at ∷ symbols.Mark marks.DoubleColon d ∷ t ∷ []) (symbols.Mark marks.Open o ∷ u) (front_callee at d t op is)
    (o, symbols.Mark marks.Open o ∷ [], u, (symbols.Mark marks.Open o, refl, refl), closed, refl) in
    (grouped 10 e (Front at d t o (u ++ z)) (a, Front at d t o u, z, operand, continued, refl)).1

front_opening : (at d o : Span) (t : Symbol) (op : Arithmetic × Span) → arithmetic t ≡ Some op → SpellsOpening (call_of op at) (Front at d t o [])
front_opening at d o t op is = (
  symbols.Word words.Wide at ∷ [],
  symbols.Mark marks.DoubleColon d ∷ t ∷ symbols.Mark marks.Open o ∷ [],
  (symbols.Word words.Wide at, refl, refl),
  (
    symbols.Mark marks.DoubleColon d ∷ [],
    t ∷ symbols.Mark marks.Open o ∷ [],
    (d, (symbols.Mark marks.DoubleColon d, refl, refl)),
    (t ∷ [], symbols.Mark marks.Open o ∷ [], (t, is, refl), (o, (symbols.Mark marks.Open o, refl, refl)), refl),
    refl,
  ),
  refl,
)

opened_to : (at d o : Span) (t : Symbol) (op : Arithmetic × Span) → arithmetic t ≡ Some op → (v : Value) (w : List Symbol) → Opened (call_of op at) v w → SpellsValue v (Front at d t o w)
opened_to at d o t op is v w (inl (k, p, q, close, (e, continued, same), cut)) =
    subst (λ x. SpellsValue x (Front at d t o w)) same
    (subst (λ l. Spells e (Front at d t o l)) (sym cut)
    (closed_plain at d o t op is (call (callee_of (call_of op at)) nil) e p q (inl (k, p, [], close, (refl, refl), sym (append-nil p))) continued))
opened_to at d o t op is v w (inr (e₁, u, z, (any, first), rest, cut)) = by_tail (argument_tail (call_of op at) op.0 (e₁ ∷ []) v z rest)
  where
    by_tail : Tail (between op.0) (call_of op at) (e₁ ∷ []) v z → SpellsValue v (Front at d t o w)
    by_tail (inl (es, p, q, many, (k, p₁, q₁, close, (e, continued, same), cut₁), cut₂)) =
        subst (λ x. SpellsValue x (Front at d t o w)) same
        (subst (λ l. Spells e (Front at d t o l))
        (append_assoc (u ++ p) p₁ q₁ ∙ append_assoc u p (p₁ ++ q₁) ∙ ap (λ l. u ++ (p ++ l)) (sym cut₁) ∙ ap (λ l. u ++ l) (sym cut₂) ∙ sym cut)
        (closed_plain at d o t op is (call (callee_of (call_of op at)) (exprs (e₁ ∷ es))) e ((u ++ p) ++ p₁) q₁
        (inr (e₁ ∷ es, u ++ p, p₁, (u, p, first, many, refl), (k, p₁, [], close, (refl, refl), sym (append-nil p₁)), refl)) continued))
    by_tail (inr (es, p, q, long, many, (m, a₁, b₁, comma, (m₂, a₂, b₂, mark, (flag, a₃, b₃, name, (k, a₄, b₄, close, (same, empty), c₄), c₃), c₂), c₁), cut₂)) =
        let all : suc (between op.0) ≡ before_flag op.0 = one_and_between op.0 in
        subst (λ x. SpellsValue x (Front at d t o w)) (sym same) (
          omega arith,
          (
            Front at d t o [],
            w,
            front_opening at d o t op is,
            (
              u ++ p,
              q,
              args_of (e₁ ∷ es) (u ++ p) (u, p, first, many, refl),
              (a₁, b₁, (m, comma), (a₂, b₂, (m₂, mark), (a₃, b₃, name, (k, ends (Meant (meanings.mark marks.Close) k) a₄ b₄ b₃ close empty c₄), c₃), c₂), c₁),
              cut ∙ ap (λ l. u ++ l) cut₂ ∙ sym (append_assoc u p q),
            ),
            refl,
          ),
        )

-- from the grammar

-- an expression that begins with `wi::` is a call, and what goes on it
WideCall : Span → Expr → List Symbol → Type 0
WideCall at e w =
    (name : Span) × (a : Expr) × (p : List Symbol) × (q : List Symbol) × (u : List Symbol) × (z : List Symbol) × Meant meanings.identifier name p × AMark marks.Open q
    × Closed (record { wide = Some at; name = name }) a u × Continued 10 a e z × (w ≡ p ++ (q ++ (u ++ z)))

wide_call : (e : Expr) (at d : Span) (w : List Symbol) → Spells e (symbols.Word words.Wide at ∷ symbols.Mark marks.DoubleColon d ∷ w) → WideCall at e w
unfolding WideCall
wide_call e at d w spelled =
    let (a, u, z, operand, continued, cut) = of_grouped 10 e (symbols.Word words.Wide at ∷ symbols.Mark marks.DoubleColon d ∷ w) (rank_small e, spelled) in
    by_front a u z operand continued cut
  where
    by_rest : (a : Expr) (u z : List Symbol) → Continued 10 a e z → symbols.Mark marks.DoubleColon d ∷ w ≡ u ++ z
        → WideRest at a u → WideCall at e w
    by_rest a u z continued cut (inl (same, empty)) =
        let far = continued_far 10 a e z [] continued tt in
        let here : z ++ [] ≡ symbols.Mark marks.DoubleColon d ∷ w = append-nil z ∙ ap (λ l. l ++ z) (sym empty) ∙ sym cut in
        absurd (subst (λ l. IsApart (GoesOn 0) l) here far (inl tt))
    by_rest a u z continued cut (inr (inl (o, p, q, left, closed, inside))) =
        let other = begins_with (meanings.mark marks.Open) o (symbols.Mark marks.DoubleColon d) w p (q ++ z) left (cut ∙ ap (λ l. l ++ z) inside ∙ append_assoc p q z) in
        absurd (cc)
    by_rest a u z continued cut (inr (inr (d₂, p, q, colons, (name, p₁, q₁, word, (o, p₂, q₂, left, closed, c₂), c₁), inside))) =
        let (is, rest) = first_meant (meanings.mark marks.DoubleColon) d₂ (symbols.Mark marks.DoubleColon d) w p (q ++ z) colons (cut ∙ ap (λ l. l ++ z) inside ∙ append_assoc p q z) in (
          name,
          a,
          p₁,
          p₂,
          q₂,
          z,
          word,
          (o, left),
          closed,
          continued,
          sym rest ∙ ap (λ l. l ++ z) c₁ ∙ append_assoc p₁ q₁ z ∙ ap (λ l. p₁ ++ (l ++ z)) c₂ ∙ ap (λ l. p₁ ++ l) (append_assoc p₂ q₂ z),
        )

    by_front : (a : Expr) (u z : List Symbol) → Within 0 a u → Continued 10 a e z → symbols.Word words.Wide at ∷ symbols.Mark marks.DoubleColon d ∷ w ≡ u ++ z → WideCall at e w
    by_front a [] z operand continued cut = absurd (operand_not_empty a operand)
    by_front a (h ∷ u) z operand continued cut =
        let same = same_head (symbols.Word words.Wide at) h (symbols.Mark marks.DoubleColon d ∷ w) (u ++ z) cut in
        let rest = same_tail (symbols.Word words.Wide at) h (symbols.Mark marks.DoubleColon d ∷ w) (u ++ z) cut in
        by_rest a u z continued rest (of_operand a (symbols.Word words.Wide at) u (subst (λ s. Within 0 a (s ∷ u)) (sym same) operand))

further_list : (es : List Expr) (w : List Symbol) → SpellsFurther (exprs es) w → Many FurtherArg es w
further_list [] w empty = empty
further_list (e ∷ es) w (u, v, first, others, cut) = (u, v, first, further_list es v others, cut)

plain_opened : (at o : Span) (t : Symbol) (op : Arithmetic × Span) → arithmetic t ≡ Some op → (e : Expr) (w : List Symbol) → WideCall at e (t ∷ symbols.Mark marks.Open o ∷ w)
    → Opened (call_of op at) (plain e) w
unfolding WideCall
plain_opened at o t op is e w (name, a, p, q, u, z, word, (o₂, left), closed, continued, cut) =
    let (named_so, after_name) = first_meant meanings.identifier name t (symbols.Mark marks.Open o ∷ w) p (q ++ (u ++ z)) word cut in
    let (opened_so, after_open) = first_meant (meanings.mark marks.Open) o₂ (symbols.Mark marks.Open o) w q (u ++ z) left (sym after_name) in
    let also : meanings.identifier t ≡ Some op.1 = arithmetic_named t op is in
    let one : name ≡ op.1 = cc in
    by_closed (subst (λ n. Closed (record { wide = Some at; name = n }) a u) one closed) (sym after_open)
  where
    by_closed : Closed (callee_of (call_of op at)) a u → w ≡ u ++ z → Opened (call_of op at) (plain e) w
    by_closed (inl (k, p₁, q₁, close, (same, empty), inside)) cut =
        inl (k, u, z, ends (Meant (meanings.mark marks.Close) k) p₁ q₁ u close empty inside, (e, subst (λ x. Continued 10 x e z) same continued, refl), cut)
    by_closed (inr ([], p₁, q₁, none, rest, inside)) cut = absurd none
    by_closed (inr (e₁ ∷ es, p₁, q₁, (x, y, first, many, listed), (k, p₂, q₂, close, (same, empty), c₂), inside)) cut =
        inr (
          e₁,
          x,
          y ++ (q₁ ++ z),
          (rank_small e₁, first),
          tail_argument (call_of op at) op.0 (e₁ ∷ []) (plain e) (y ++ (q₁ ++ z))
              (inl (
                es,
                y,
                q₁ ++ z,
                many,
                (k, q₁, z, ends (Meant (meanings.mark marks.Close) k) p₂ q₂ q₁ close empty c₂, (e, subst (λ n. Continued 10 n e z) same continued, refl), refl),
                refl,
              )),
          cut ∙ ap (λ l. l ++ z) inside ∙ ap (λ l. (l ++ q₁) ++ z) listed ∙ append_assoc (x ++ y) q₁ z ∙ append_assoc x y (q₁ ++ z),
        )

same_call : (op : Arithmetic × Span) (at : Span) (c : FlaggedCall) → (c.operation, c.name) ≡ op → c.wide ≡ at → c ≡ call_of op at
same_call op at c one other = ap (λ (p : Arithmetic × Span). call_of p c.wide) one ∙ ap (λ (s : Span). call_of op s) other

flag_opened : (at d o : Span) (t : Symbol) (op : Arithmetic × Span) → arithmetic t ≡ Some op → (c : FlaggedCall) (args : List Expr) (flag : Span) (w : List Symbol)
    → SpellsValue (flagged c args flag) (Front at d t o w) → Opened (call_of op at) (flagged c args flag) w
flag_opened at d o t op is c args flag w (long, (u, z, (u₁, z₁, wide, (u₂, z₂, (d₂, colons), (u₃, z₃, word, (o₂, left), c₃), c₂), c₁), rest, cut)) =
    let (is₁, rest₁) = first_meant (meanings.word words.Wide) c.wide (symbols.Word words.Wide at) (symbols.Mark marks.DoubleColon d ∷ t ∷ symbols.Mark marks.Open o ∷ w) u₁ (z₁ ++ z) wide (cut ∙ ap (λ l. l ++ z) c₁ ∙ append_assoc u₁ z₁ z) in
    let (is₂, rest₂) = first_meant (meanings.mark marks.DoubleColon) d₂ (symbols.Mark marks.DoubleColon d) (t ∷ symbols.Mark marks.Open o ∷ w) u₂ (z₂ ++ z) colons (sym rest₁ ∙ ap (λ l. l ++ z) c₂ ∙ append_assoc u₂ z₂ z) in
    let (is₃, rest₃) = first_meant arithmetic (c.operation, c.name) t (symbols.Mark marks.Open o ∷ w) u₃ (z₃ ++ z) word (sym rest₂ ∙ ap (λ l. l ++ z) c₃ ∙ append_assoc u₃ z₃ z) in
    let (is₄, rest₄) = first_meant (meanings.mark marks.Open) o₂ (symbols.Mark marks.Open o) w z₃ z left (sym rest₃) in
    let one : (c.operation, c.name) ≡ op = cc in
    let other : c.wide ≡ at = cc in
    subst (λ f. Opened f (flagged c args flag) w) (same_call op at c one other) (by_args args long rest (sym rest₄))
  where
    by_args : (args : List Expr) → length args ≡ before_flag c.operation
        → (SpellsArgs (exprs args) ▸ AMark marks.Comma ▸ AMark marks.Ampersand ▸ Meant meanings.identifier flag ▸ AMark marks.Close) z → w ≡ z → Opened c (flagged c args flag) w
    by_args [] long rest here = let all : suc (between c.operation) ≡ before_flag c.operation = one_and_between c.operation in absurd (omega arith)
    by_args (e₁ ∷ es) long (a, b, (x, y, first, further, inside), (a₁, b₁, (m, comma), (a₂, b₂, (m₂, mark), (a₃, b₃, name, (k, close), q₃), q₂), q₁), cut₁) here =
        let all : suc (between c.operation) ≡ before_flag c.operation = one_and_between c.operation in
        inr (
          e₁,
          x,
          y ++ b,
          (rank_small e₁, first),
          tail_argument c c.operation (e₁ ∷ []) (flagged c (e₁ ∷ es) flag) (y ++ b)
              (inr (
                es,
                y,
                b,
                omega arith,
                further_list es y further,
                (m, a₁, b₁, comma, (m₂, a₂, b₂, mark, (flag, a₃, b₃, name, (k, b₃, [], close, (refl, refl), sym (append-nil b₃)), q₃), q₂), q₁),
                refl,
              )),
          here ∙ cut₁ ∙ ap (λ l. l ++ b) inside ∙ append_assoc x y b,
        )

of_opened : (at d o : Span) (t : Symbol) (op : Arithmetic × Span) → arithmetic t ≡ Some op → (v : Value) (w : List Symbol) → SpellsValue v (Front at d t o w) → Opened (call_of op at) v w
of_opened at d o t op is (plain e) w spelled = plain_opened at o t op is e w (wide_call e at d (t ∷ symbols.Mark marks.Open o ∷ w) spelled)
of_opened at d o t op is (flagged c args flag) w spelled = flag_opened at d o t op is c args flag w spelled

-- exactness

abbrev pub Plain : Spelling Symbol Value
Plain = Mapped plain Spells

plain_value : (v : Value) (w : List Symbol) → Plain v w → SpellsValue v w
plain_value v w (e, spelled, same) = subst (λ x. SpellsValue x w) same spelled

abbrev IsWide : Symbol → Type 0
IsWide (symbols.Word words.Wide at) = Unit {0}
IsWide t = ⊥

wide_is : (t : Symbol) (at : Span) → meanings.word words.Wide t ≡ Some at → IsWide t
wide_is (symbols.Word words.Wide p) at e = tt
wide_is t at e = absurd (cc)

-- The texts of values that begin with a front: where the next symbol goes on no call with a flag, they are expressions.
after_front : (front : List Symbol) (First : Symbol → Type 0) → Begins (λ v w. SpellsValue v (front ++ w)) []
    → ((c : FlaggedCall) (args : List Expr) (flag : Span) (w : List Symbol) → SpellsValue (flagged c args flag) (front ++ w) → Begun First w)
    → (input : List Symbol) (answer : Read Value) → ¬ Begun First input → IsExact (λ v w. Plain v (front ++ w)) (GoesOn 10) input answer
    → IsExact (λ v w. SpellsValue v (front ++ w)) (GoesOn 10) input answer
after_front front First some flags input answer none exact =
    parts.starting_so (λ v w. Plain v (front ++ w)) (λ v w. SpellsValue v (front ++ w)) (GoesOn 10) input answer some (λ v w spelled start. plain_value v (front ++ w) spelled) back exact
  where
    back : (v : Value) (w : List Symbol) → SpellsValue v (front ++ w) → SameStart input w → Plain v (front ++ w)
    back (plain e) w spelled start = (e, spelled, refl)
    back (flagged c args flag) w spelled start = absurd (none (same_begun First input w start (flags c args flag w spelled)))

-- the symbols that a call with a flag begins with
Opening : FlaggedCall → List Symbol → Type 0
Opening c w =
    (d : Span) × (o : Span) × (a : List Symbol) × (b : List Symbol) × (e : List Symbol) × (f : List Symbol) × (z : List Symbol) × Meant (meanings.word words.Wide) c.wide a
    × Meant (meanings.mark marks.DoubleColon) d b × Meant arithmetic (c.operation, c.name) e × Meant (meanings.mark marks.Open) o f × (w ≡ a ++ (b ++ (e ++ (f ++ z))))

opening_of : (c : FlaggedCall) (args : List Expr) (flag : Span) (w : List Symbol) → SpellsValue (flagged c args flag) w → Opening c w
unfolding Opening
opening_of c args flag w (long, (u, z, (u₁, z₁, wide, (u₂, z₂, (d, colons), (u₃, z₃, word, (o, left), c₃), c₂), c₁), rest, cut)) = (
  d,
  o,
  u₁,
  u₂,
  u₃,
  z₃,
  z,
  wide,
  colons,
  word,
  left,
  cut ∙ ap (λ l. l ++ z) c₁ ∙ append_assoc u₁ z₁ z ∙ ap (λ l. u₁ ++ (l ++ z)) c₂ ∙ ap (λ l. u₁ ++ l) (append_assoc u₂ z₂ z) ∙ ap (λ l. u₁ ++ (u₂ ++ (l ++ z))) c₃
      ∙ ap (λ l. u₁ ++ (u₂ ++ l)) (append_assoc u₃ z₃ z),
)

abbrev IsArithmetic : Symbol → Type 0
IsArithmetic t = (op : Arithmetic × Span) × (arithmetic t ≡ Some op)

first_flag : (c : FlaggedCall) (args : List Expr) (flag : Span) (w : List Symbol) → SpellsValue (flagged c args flag) w → Begun IsWide w
unfolding Opening
first_flag c args flag w spelled =
    let (d, o, a, b, e, f, z, wide, colons, word, left, cut) = opening_of c args flag w spelled in
    front_begun IsWide a (b ++ (e ++ (f ++ z))) w (meant_begun (meanings.word words.Wide) IsWide wide_is c.wide a wide) cut

second_flag : (at : Span) (c : FlaggedCall) (args : List Expr) (flag : Span) (w : List Symbol) → SpellsValue (flagged c args flag) (symbols.Word words.Wide at ∷ w) → Begun IsColons w
unfolding Opening
second_flag at c args flag w spelled =
    let (d, o, a, b, e, f, z, wide, colons, word, left, cut) = opening_of c args flag (symbols.Word words.Wide at ∷ w) spelled in
    let (is, rest) = first_meant (meanings.word words.Wide) c.wide (symbols.Word words.Wide at) w a (b ++ (e ++ (f ++ z))) wide cut in
    front_begun IsColons b (e ++ (f ++ z)) w (meant_begun (meanings.mark marks.DoubleColon) IsColons colons_are d b colons) (sym rest)

third_flag : (at p : Span) (c : FlaggedCall) (args : List Expr) (flag : Span) (w : List Symbol)
    → SpellsValue (flagged c args flag) (symbols.Word words.Wide at ∷ symbols.Mark marks.DoubleColon p ∷ w) → Begun IsArithmetic w
unfolding Opening
third_flag at p c args flag w spelled =
    let (d, o, a, b, e, f, z, wide, colons, word, left, cut) = opening_of c args flag (symbols.Word words.Wide at ∷ symbols.Mark marks.DoubleColon p ∷ w) spelled in
    let (is, rest) = first_meant (meanings.word words.Wide) c.wide (symbols.Word words.Wide at) (symbols.Mark marks.DoubleColon p ∷ w) a (b ++ (e ++ (f ++ z))) wide cut in
    let (is₂, rest₂) = first_meant (meanings.mark marks.DoubleColon) d (symbols.Mark marks.DoubleColon p) w b (e ++ (f ++ z)) colons (sym rest) in
    front_begun IsArithmetic e (f ++ z) w (meant_begun arithmetic IsArithmetic (λ t op has. (op, has)) (c.operation, c.name) e word) (sym rest₂)

fourth_flag : (at p : Span) (t : Symbol) (c : FlaggedCall) (args : List Expr) (flag : Span) (w : List Symbol)
    → SpellsValue (flagged c args flag) (symbols.Word words.Wide at ∷ symbols.Mark marks.DoubleColon p ∷ t ∷ w) → Begun IsOpen w
unfolding Opening
fourth_flag at p t c args flag w spelled =
    let (d, o, a, b, e, f, z, wide, colons, word, left, cut) = opening_of c args flag (symbols.Word words.Wide at ∷ symbols.Mark marks.DoubleColon p ∷ t ∷ w) spelled in
    let (is, rest) = first_meant (meanings.word words.Wide) c.wide (symbols.Word words.Wide at) (symbols.Mark marks.DoubleColon p ∷ t ∷ w) a (b ++ (e ++ (f ++ z))) wide cut in
    let (is₂, rest₂) = first_meant (meanings.mark marks.DoubleColon) d (symbols.Mark marks.DoubleColon p) (t ∷ w) b (e ++ (f ++ z)) colons (sym rest) in
    let (is₃, rest₃) = first_meant arithmetic (c.operation, c.name) t w e (f ++ z) word (sym rest₂) in
    front_begun IsOpen f z w (meant_begun (meanings.mark marks.Open) IsOpen open_is o f left) (sym rest₃)

value_not_empty : (v : Value) → SpellsValue v [] → ⊥
value_not_empty (plain e) spelled = expression_begun e [] spelled
value_not_empty (flagged c args flag) spelled = first_flag c args flag [] spelled

colons_need_name : (v : Value) (at p : Span) → SpellsValue v (symbols.Word words.Wide at ∷ symbols.Mark marks.DoubleColon p ∷ []) → ⊥
unfolding WideCall
colons_need_name (plain e) at p spelled =
    let (name, a, x, y, u, z, word, left, closed, continued, cut) = wide_call e at p [] spelled in
    takes_token meanings.identifier name x (y ++ (u ++ z)) word cut
colons_need_name (flagged c args flag) at p spelled = third_flag at p c args flag [] spelled

-- `wi::add ()`, and what goes on it
some_wide : (at p : Span) (t : Symbol) (op : Arithmetic × Span) → arithmetic t ≡ Some op
    → Begins (λ v w. Plain v (symbols.Word words.Wide at ∷ symbols.Mark marks.DoubleColon p ∷ t ∷ w)) []
some_wide at p t op is =
    let rest = some_continued 10 (call (callee_of (call_of op at)) nil) in
    let close : List Symbol = symbols.Mark marks.Close somewhere ∷ [] in
    record {
      value = plain rest.value;
      after = symbols.Mark marks.Open somewhere ∷ (close ++ rest.after);
      spelled = (
        rest.value,
        closed_plain at p somewhere t op is (call (callee_of (call_of op at)) nil) rest.value close rest.after
            (inl (somewhere, close, [], (symbols.Mark marks.Close somewhere, refl, refl), (refl, refl), refl)) rest.spelled,
        refl,
      );
    }

some_after_colons : (at p : Span) → Begins (λ v w. Plain v (symbols.Word words.Wide at ∷ symbols.Mark marks.DoubleColon p ∷ w)) []
some_after_colons at p =
    let some = some_wide at p (symbols.Word words.Add somewhere) (arithmetics.Add, somewhere) refl in
    record { value = some.value; after = symbols.Word words.Add somewhere ∷ some.after; spelled = some.spelled }

some_after_wide : (at p : Span) → Begins (λ v w. Plain v (symbols.Word words.Wide at ∷ w)) (symbols.Mark marks.DoubleColon p ∷ [])
some_after_wide at p = let some = some_after_colons at p in record { value = some.value; after = some.after; spelled = some.spelled }

some_name : (at : Span) → Begins Plain (symbols.Word words.Wide at ∷ [])
some_name at = record { value = plain (named at); after = []; spelled = (named at, (symbols.Word words.Wide at, refl, refl), refl) }

as_value : (front : List Symbol) → Begins (λ v w. Plain v (front ++ w)) [] → Begins (λ v w. SpellsValue v (front ++ w)) []
as_value front some = record { value = some.value; after = some.after; spelled = plain_value some.value (front ++ some.after) some.spelled }

module _ (inner : Inner) (bound : ℕ) (good : (r : ℕ) (rest : List Symbol) → length rest < bound → IsExact (Within r) (GoesOn r) rest (inner r rest)) where
  pub plain_exact : (input : List Symbol) → length input < bound → IsExact Plain (GoesOn 10) input (plain_at inner input)
  plain_exact input fits =
      parts.mapped plain Spells (GoesOn 10) input (inner 10 input)
      (parts.in_words (Within 10) Spells (GoesOn 10) input (inner 10 input) (λ e w spelled. spelled.1) (λ e w spelled. (rank_small e, spelled)) (good 10 input fits))

  -- after `wi`, after `wi::` and after `wi::add`, where a value is exact there
  from_wide : (at : Span) (rest : List Symbol) (answer : Read Value) → IsExact (λ v w. SpellsValue v (symbols.Word words.Wide at ∷ w)) (GoesOn 10) rest answer
      → IsExact SpellsValue (GoesOn 10) (symbols.Word words.Wide at ∷ rest) answer
  from_wide at rest answer exact =
      parts.from_token SpellsValue (λ v w. SpellsValue v (symbols.Word words.Wide at ∷ w)) (GoesOn 10) (symbols.Word words.Wide at) rest answer (λ v w s. s) (λ v w s. s)
      (λ v s. absurd (value_not_empty v s)) exact

  from_colons : (at p : Span) (rest : List Symbol) (answer : Read Value) → IsExact (λ v w. SpellsValue v (symbols.Word words.Wide at ∷ symbols.Mark marks.DoubleColon p ∷ w)) (GoesOn 10) rest answer
      → IsExact SpellsValue (GoesOn 10) (symbols.Word words.Wide at ∷ symbols.Mark marks.DoubleColon p ∷ rest) answer
  from_colons at p rest answer exact =
      from_wide at (symbols.Mark marks.DoubleColon p ∷ rest) answer
      (parts.from_token (λ v w. SpellsValue v (symbols.Word words.Wide at ∷ w)) (λ v w. SpellsValue v (symbols.Word words.Wide at ∷ symbols.Mark marks.DoubleColon p ∷ w)) (GoesOn 10)
      (symbols.Mark marks.DoubleColon p) rest answer (λ v w s. s) (λ v w s. s) (λ v s. inl tt) exact)

  from_name : (at p : Span) (t : Symbol) (rest : List Symbol) (answer : Read Value)
      → IsExact (λ v w. SpellsValue v (symbols.Word words.Wide at ∷ symbols.Mark marks.DoubleColon p ∷ t ∷ w)) (GoesOn 10) rest answer
      → IsExact SpellsValue (GoesOn 10) (symbols.Word words.Wide at ∷ symbols.Mark marks.DoubleColon p ∷ t ∷ rest) answer
  from_name at p t rest answer exact =
      from_colons at p (t ∷ rest) answer
      (parts.from_token (λ v w. SpellsValue v (symbols.Word words.Wide at ∷ symbols.Mark marks.DoubleColon p ∷ w))
      (λ v w. SpellsValue v (symbols.Word words.Wide at ∷ symbols.Mark marks.DoubleColon p ∷ t ∷ w)) (GoesOn 10) t rest answer (λ v w s. s) (λ v w s. s)
      (λ v s. absurd (colons_need_name v at p s)) exact)

  plain_after_wide : (at : Span) (rest : List Symbol) → length rest + 1 < bound
      → IsExact (λ v w. Plain v (symbols.Word words.Wide at ∷ w)) (GoesOn 10) rest (plain_at inner (symbols.Word words.Wide at ∷ rest))
  plain_after_wide at rest fits =
      after_first Plain (GoesOn 10) (symbols.Word words.Wide at) rest (plain_at inner (symbols.Word words.Wide at ∷ rest)) (some_name at)
      (plain_exact (symbols.Word words.Wide at ∷ rest) (omega arith))

  plain_after_colons : (at p : Span) (rest : List Symbol) → length rest + 2 < bound
      → IsExact (λ v w. Plain v (symbols.Word words.Wide at ∷ symbols.Mark marks.DoubleColon p ∷ w)) (GoesOn 10) rest
      (plain_at inner (symbols.Word words.Wide at ∷ symbols.Mark marks.DoubleColon p ∷ rest))
  plain_after_colons at p rest fits =
      after_first (λ v w. Plain v (symbols.Word words.Wide at ∷ w)) (GoesOn 10) (symbols.Mark marks.DoubleColon p) rest
      (plain_at inner (symbols.Word words.Wide at ∷ symbols.Mark marks.DoubleColon p ∷ rest)) (some_after_wide at p)
      (plain_after_wide at (symbols.Mark marks.DoubleColon p ∷ rest) (omega arith))

  -- no call with a flag after `wi::`
  no_name : (at p : Span) (rest : List Symbol) → length rest + 2 < bound → ¬ Begun IsArithmetic rest
      → IsExact SpellsValue (GoesOn 10) (symbols.Word words.Wide at ∷ symbols.Mark marks.DoubleColon p ∷ rest) (plain_at inner (symbols.Word words.Wide at ∷ symbols.Mark marks.DoubleColon p ∷ rest))
  no_name at p rest fits none =
      from_colons at p rest (plain_at inner (symbols.Word words.Wide at ∷ symbols.Mark marks.DoubleColon p ∷ rest))
      (after_front (symbols.Word words.Wide at ∷ symbols.Mark marks.DoubleColon p ∷ []) IsArithmetic
      (as_value (symbols.Word words.Wide at ∷ symbols.Mark marks.DoubleColon p ∷ []) (some_after_colons at p)) (third_flag at p) rest
      (plain_at inner (symbols.Word words.Wide at ∷ symbols.Mark marks.DoubleColon p ∷ rest)) none (plain_after_colons at p rest fits))

  -- no call after `wi::add`
  no_open : (at p : Span) (t : Symbol) (op : Arithmetic × Span) → arithmetic t ≡ Some op → (rest : List Symbol) → length rest + 3 < bound → ¬ Begun IsOpen rest
      → IsExact SpellsValue (GoesOn 10) (symbols.Word words.Wide at ∷ symbols.Mark marks.DoubleColon p ∷ t ∷ rest)
      (plain_at inner (symbols.Word words.Wide at ∷ symbols.Mark marks.DoubleColon p ∷ t ∷ rest))
  no_open at p t op is rest fits none =
      let some = some_wide at p t op is in
      let here : Begins (λ v w. Plain v (symbols.Word words.Wide at ∷ symbols.Mark marks.DoubleColon p ∷ w)) (t ∷ []) = record { value = some.value; after = some.after; spelled = some.spelled } in
      let answer = plain_at inner (symbols.Word words.Wide at ∷ symbols.Mark marks.DoubleColon p ∷ t ∷ rest) in
      from_name at p t rest answer
      (after_front (symbols.Word words.Wide at ∷ symbols.Mark marks.DoubleColon p ∷ t ∷ []) IsOpen
      (as_value (symbols.Word words.Wide at ∷ symbols.Mark marks.DoubleColon p ∷ t ∷ []) some) (fourth_flag at p t) rest answer none
      (after_first (λ v w. Plain v (symbols.Word words.Wide at ∷ symbols.Mark marks.DoubleColon p ∷ w)) (GoesOn 10) t rest answer here (plain_after_colons at p (t ∷ rest) (omega arith))))

  not_open : (at p : Span) (t : Symbol) (m : Option (Arithmetic × Span)) → arithmetic t ≡ m → (rest : List Symbol) → length rest + 3 < bound → ¬ Begun IsOpen rest
      → IsExact SpellsValue (GoesOn 10) (symbols.Word words.Wide at ∷ symbols.Mark marks.DoubleColon p ∷ t ∷ rest)
      (plain_at inner (symbols.Word words.Wide at ∷ symbols.Mark marks.DoubleColon p ∷ t ∷ rest))
  not_open at p t None is rest fits none = no_name at p (t ∷ rest) (omega arith) (λ has. cc (has.1))
  not_open at p t (Some op) is rest fits none = no_open at p t op is rest fits none

  opened_here : (at p o : Span) (t : Symbol) (m : Option (Arithmetic × Span)) → arithmetic t ≡ m → (rest : List Symbol) → length rest + 4 < bound
      → IsExact SpellsValue (GoesOn 10) (Front at p t o rest) (wide_value_at inner at m rest (Front at p t o rest))
  opened_here at p o t None is rest fits = no_name at p (t ∷ symbols.Mark marks.Open o ∷ rest) (omega arith) (λ has. cc (has.1))
  opened_here at p o t (Some op) is rest fits =
      let answer = opened_at inner (call_of op at) rest in
      from_name at p t (symbols.Mark marks.Open o ∷ rest) answer
      (parts.from_token (λ v w. SpellsValue v (symbols.Word words.Wide at ∷ symbols.Mark marks.DoubleColon p ∷ t ∷ w)) (λ v w. SpellsValue v (Front at p t o w)) (GoesOn 10)
      (symbols.Mark marks.Open o) rest answer (λ v w s. s) (λ v w s. s) (λ v s. inl tt)
      (parts.in_words (Opened (call_of op at)) (λ v w. SpellsValue v (Front at p t o w)) (GoesOn 10) rest answer (opened_to at p o t op is) (of_opened at p o t op is)
      (opened_exact inner bound good (call_of op at) rest (omega arith))))

  fourth : (at p : Span) (t : Symbol) (rest : List Symbol) → length rest + 3 < bound
      → IsExact SpellsValue (GoesOn 10) (symbols.Word words.Wide at ∷ symbols.Mark marks.DoubleColon p ∷ t ∷ rest)
      (value_at inner (symbols.Word words.Wide at ∷ symbols.Mark marks.DoubleColon p ∷ t ∷ rest))
  fourth at p t (symbols.Mark marks.Open o ∷ rest) fits = opened_here at p o t (arithmetic t) refl rest (omega arith)
  fourth at p t rest fits = not_open at p t (arithmetic t) refl rest fits (λ h. h)

  no_colons : (at : Span) (rest : List Symbol) → length rest + 1 < bound → ¬ Begun IsColons rest
      → IsExact SpellsValue (GoesOn 10) (symbols.Word words.Wide at ∷ rest) (plain_at inner (symbols.Word words.Wide at ∷ rest))
  no_colons at rest fits none =
      from_wide at rest (plain_at inner (symbols.Word words.Wide at ∷ rest))
      (after_front (symbols.Word words.Wide at ∷ []) IsColons (as_value (symbols.Word words.Wide at ∷ []) (some_alone at)) (second_flag at) rest
      (plain_at inner (symbols.Word words.Wide at ∷ rest)) none (plain_after_wide at rest fits))
    where
      some_alone : (at : Span) → Begins (λ v w. Plain v (symbols.Word words.Wide at ∷ w)) []
      some_alone at = record { value = plain (named at); after = []; spelled = (named at, (symbols.Word words.Wide at, refl, refl), refl) }

  second : (at : Span) (rest : List Symbol) → length rest + 1 < bound
      → IsExact SpellsValue (GoesOn 10) (symbols.Word words.Wide at ∷ rest) (value_at inner (symbols.Word words.Wide at ∷ rest))
  second at (symbols.Mark marks.DoubleColon p ∷ []) fits = no_name at p [] (omega arith) (λ h. h)
  second at (symbols.Mark marks.DoubleColon p ∷ t ∷ rest) fits = fourth at p t rest (omega arith)
  second at rest fits = no_colons at rest fits (λ h. h)

  not_wide : (input : List Symbol) → length input < bound → ¬ Begun IsWide input → IsExact SpellsValue (GoesOn 10) input (plain_at inner input)
  not_wide input fits none =
      after_front [] IsWide (as_value [] (record { value = plain (named somewhere); after = symbols.Identifier somewhere ∷ []; spelled = (named somewhere, (symbols.Identifier somewhere, refl, refl), refl) }))
      first_flag input (plain_at inner input) none (plain_exact input fits)

  pub value_exact : (input : List Symbol) → length input < bound → IsExact SpellsValue (GoesOn 10) input (value_at inner input)
  value_exact (symbols.Word words.Wide at ∷ rest) fits = second at rest (omega arith)
  value_exact input fits = not_wide input fits (λ h. h)
