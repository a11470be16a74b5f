-- Forms are read exactly, at every input.
use Rattle.std.proofs.Common.{◌≡◌, ℕ, suc, ◌+◌, ◌<◌, Bool, true, false, if◌then◌else◌, List, [], ◌∷◌, ◌++◌, length, Option, Some, None, refl, sym, ap, subst, arith}
use Rattle.std.specs.Prelude.{is_some, ◌||◌}
use Rattle.grammar.specs.Spelling.{Spelling, Begins, Meant, Then, Many}
use Rattle.grammar.specs.Reading.{◌>>=◌, meant_at, more_at}
use Rattle.grammar.specs.Exact.{IsExact}
use Rattle.grammar.proofs.Parts as parts
use Rattle.grammar.proofs.Sequence.{Never, token_then}
use Rattle.grammar.proofs.Recursion.{by_length}
use Rattle.grammar.proofs.EveryInput.{Reads, one_token, after_free, after_token}
use Rattle.grammar.proofs.Items.{Added}
use Rattle.grammar.proofs.Starts.{Begun, meant_begun, front_begun}
use Rattle.pm_ops.specs.declared.fault.PatternKind.TheVariants.{Syntax}
use Rattle.pm_places.specs.declared.span.Span.{Span}
use Rattle.pd_text.specs.declared.symbol.Symbol.{Symbol}
use Rattle.pd_text.specs.declared.symbol.Symbol.TheVariants as symbols
use Rattle.pd_text.specs.declared.symbol.Capture.{Capture}
use Rattle.pd_text.specs.declared.symbol.Mark.TheVariants as marks
use Rattle.pd_text.specs.declared.symbol.Word.{Word}
use Rattle.pd_text.specs.declared.symbol.Word.TheVariants as words
use Rattle.pd_text.specs.Meanings as meanings
use Rattle.cond_subset.specs.Declarations.{AWord}
use Rattle.cond_subset.proofs.SymbolsExact.{somewhere, some_mark, some_identifier}
use Rattle.pd_files.specs.declared.tree.CaseHeadText.{CaseHeadText}
use Rattle.pd_forms.specs.SymbolReaders.{joined}
use Rattle.pd_forms.specs.Trees.{Pattern}
use Rattle.pd_forms.specs.LeafReaders.{captured}
use Rattle.pd_forms.specs.Tails.{SpellsTail, IsOpen}
use Rattle.pd_forms.specs.Grammar.{SpellsPattern, IsJoined}
use Rattle.pd_forms.specs.ResultGrammar.{SpellsCondition, SpellsResult}
use Rattle.pd_forms.specs.PatternReaders.{whole_pattern_at}
use Rattle.pd_forms.specs.PartReaders.{condition_at}
use Rattle.pd_forms.specs.ResultReaders.{whole_result_at}
use Rattle.pd_forms.specs.TailReaders.{whole_tail_at}
use Rattle.pd_files.specs.Forms.{Form, simplify, case, choices, conditional, operators, predicates, Forms, none, more, forms, SpellsSome, SpellsNames, SpellsList, SpellsCaseHead, SpellsForm, SpellsForms, SpellsBody, SpellsTop}
use Rattle.pd_files.specs.FormReaders.{Inner, names_at, lists_at, case_head_at, node_at, close_at, simplify_at, match_at, begins_form, body_at, operators_at, predicates_at, Opening, simplified, matched, chosen, tested, operator_list, predicate_list, opening, top_opening, after_opening, opened_at, any_form_at, forms_at, top_at}
use Rattle.pd_forms.proofs.BoundedReading as bounded
use Rattle.pd_forms.proofs.BoundedReading.{ReadsBelow}
use Rattle.pd_forms.proofs.PatternsExact.{IsClose, pattern_reads}
use Rattle.pd_forms.proofs.LeavesExact.{IsStart}
use Rattle.pd_forms.proofs.ResultsExact.{result_begun, result_reads}
use Rattle.pd_forms.proofs.PartsExact.{condition_reads}
use Rattle.pd_forms.proofs.TailsExact.{tail_reads}
use Rattle.pd_files.proofs.NodesExact.{Node, node_reads, close_not_open, tail_begun, IsOpenOrClose, tail_not_joined}
use Rattle.pd_files.proofs.ListsExact.{before, ToClose, to_close_begun, to_close_reads, some_of_added, added_of_some, some_begun, IsName, close_not_name, names_reads, lists_reads, case_head_reads}

-- what may stand after the first symbols

abbrev Resulting : Span → Pattern → Spelling Symbol Form
Resulting at p = Then SpellsResult (λ r. ToClose (simplify at p r))

abbrev Tailed : Span → CaseHeadText → Pattern → Spelling Symbol Form
Tailed at head p = Then SpellsTail (λ t. ToClose (case at head p t))

abbrev Patterned : Span → CaseHeadText → Spelling Symbol Form
Patterned at head = Then SpellsPattern (Tailed at head)

abbrev Body : (List Form → Form) → Spelling Symbol Form
Body f = Then (SpellsSome SpellsForm) (λ fs. ToClose (f fs))

abbrev Named : Span → Spelling Symbol Form
Named name = Then SpellsNames (λ es. ToClose (operators (record { name = name; entries = es })))

abbrev AfterOpening : Span → Opening → Spelling Symbol Form
AfterOpening at simplified = Then Node (Resulting at)
AfterOpening at matched = Then SpellsCaseHead (Patterned at)
AfterOpening at chosen = Then (SpellsSome SpellsList) (λ lists. Body (λ fs. choices at lists (forms fs)))
AfterOpening at tested = Then SpellsCondition (λ c. Body (λ fs. conditional c (forms fs)))
AfterOpening at operator_list = Then (Meant meanings.identifier) Named
AfterOpening at predicate_list = Then SpellsNames (λ names. ToClose (predicates names))

abbrev Opened : (Symbol → Option Opening) → Span → Spelling Symbol Form
Opened asked at = Then (Meant asked) (AfterOpening at)

abbrev AnyForm : (Symbol → Option Opening) → Spelling Symbol Form
AnyForm asked = Then (Meant (meanings.mark marks.Open)) (Opened asked)

-- first symbols

joined_flag : (j v : Bool) (c d : Capture) → (if j then Some c else None) ≡ Some d → is_some (if j || v then None else Some (captured c.at)) ≡ true → ⊥
joined_flag true v c d e is = cc
joined_flag false v c d e is = cc

start_not_joined : (t : Symbol) → IsStart t → ¬ IsJoined t
start_not_joined (symbols.Capture c) is = λ has. joined_flag c.joined c.by_value c has.0 has.1 is
start_not_joined t is = λ has. absurd (cc)

resulting_begun : (at : Span) (p : Pattern) (x : Form) (w : List Symbol) → Resulting at p x w → Begun IsStart w
resulting_begun at p x w (r, u, v, spelled, rest, cut) = front_begun IsStart u v w (result_begun r u spelled) cut

tailed_begun : (at : Span) (head : CaseHeadText) (p : Pattern) (x : Form) (w : List Symbol) → Tailed at head p x w → Begun IsOpenOrClose w
tailed_begun at head p x w (t, u, v, spelled, rest, cut) = tail_begun t u v w spelled (to_close_begun (case at head p t) x v rest) cut

abbrev IsForm : Symbol → Type 0
IsForm t = begins_form t ≡ true

form_is : (t : Symbol) (at : Span) → meanings.mark marks.Open t ≡ Some at → IsForm t
form_is t at e = ap is_some e

form_begun : (f : Form) (w : List Symbol) → SpellsForm f w → Begun IsForm w
form_begun (simplify at p r) w (is, (u, v, left, others, cut)) = front_begun IsForm u v w (meant_begun (meanings.mark marks.Open) IsForm form_is at u left) cut
form_begun (case at head p t) w (u, v, left, others, cut) = front_begun IsForm u v w (meant_begun (meanings.mark marks.Open) IsForm form_is at u left) cut
form_begun (choices at lists body) w (u, v, left, others, cut) = front_begun IsForm u v w (meant_begun (meanings.mark marks.Open) IsForm form_is at u left) cut
form_begun (conditional c body) w (u, v, (at, left), others, cut) = front_begun IsForm u v w (meant_begun (meanings.mark marks.Open) IsForm form_is at u left) cut
form_begun (operators list) w impossible = absurd impossible
form_begun (predicates names) w impossible = absurd impossible

body_begun : (f : List Form → Form) (x : Form) (w : List Symbol) → Body f x w → Begun IsForm w
body_begun f x w (fs, u, v, spelled, rest, cut) = front_begun IsForm u v w (some_begun SpellsForm IsForm form_begun fs u spelled) cut

form_not_name : (t : Symbol) → IsForm t → ¬ IsName t
form_not_name (symbols.Mark m at) is = λ e. cc
form_not_name (symbols.Identifier at) is = absurd (cc)
form_not_name (symbols.Word word at) is = absurd (cc)
form_not_name t is = absurd (cc)

close_not_form : (t : Symbol) → IsClose t → ¬ IsForm t
close_not_form (symbols.Mark marks.Close at) is = λ e. cc
close_not_form t is = absurd is

-- forms that hold no others

simplified_reads : (at : Span) → Reads (AfterOpening at simplified) Never (simplify_at at)
simplified_reads at =
    before Node (Resulting at) IsJoined Never IsStart (resulting_begun at) start_not_joined node_at (λ p. whole_result_at p.1 >>= λ r. close_at (simplify at p.0 r.0) r.1) node_reads
    (λ p. after_free SpellsResult (λ r. ToClose (simplify at p r)) Never whole_result_at (λ r. close_at (simplify at p r.0) r.1) result_reads (λ r. to_close_reads (simplify at p r)))

tailed_reads : (at : Span) (head : CaseHeadText) (p : Pattern) → Reads (Tailed at head p) Never (λ input. whole_tail_at input >>= λ t. close_at (case at head p t.0) t.1)
tailed_reads at head p =
    before SpellsTail (λ t. ToClose (case at head p t)) IsOpen Never IsClose (λ t. to_close_begun (case at head p t)) close_not_open whole_tail_at (λ t. close_at (case at head p t.0) t.1) tail_reads
    (λ t. to_close_reads (case at head p t))

matched_reads : (at : Span) → Reads (AfterOpening at matched) Never (match_at at)
matched_reads at =
    after_free SpellsCaseHead (Patterned at) Never case_head_at (λ head. whole_pattern_at head.1 >>= λ p. whole_tail_at p.1 >>= λ t. close_at (case at head.0 p.0 t.0) t.1) case_head_reads
    (λ head.
    before SpellsPattern (Tailed at head) IsJoined Never IsOpenOrClose (tailed_begun at head) tail_not_joined whole_pattern_at (λ p. whole_tail_at p.1 >>= λ t. close_at (case at head p.0 t.0) t.1)
    pattern_reads (tailed_reads at head))

operators_reads : (at : Span) → Reads (AfterOpening at operator_list) Never operators_at
operators_reads at =
    after_token meanings.identifier Syntax some_identifier Named Never (λ name. names_at name.1 >>= λ es. close_at (operators (record { name = name.0; entries = es.0 })) es.1)
    (λ name.
    before SpellsNames (λ es. ToClose (operators (record { name = name; entries = es }))) IsName Never IsClose (λ es. to_close_begun (operators (record { name = name; entries = es }))) close_not_name names_at
    (λ es. close_at (operators (record { name = name; entries = es.0 })) es.1) names_reads (λ es. to_close_reads (operators (record { name = name; entries = es }))))

predicates_reads : (at : Span) → Reads (AfterOpening at predicate_list) Never predicates_at
predicates_reads at =
    before SpellsNames (λ names. ToClose (predicates names)) IsName Never IsClose (λ names. to_close_begun (predicates names)) close_not_name names_at (λ names. close_at (predicates names.0) names.1)
    names_reads (λ names. to_close_reads (predicates names))

-- exactness, where the readers one level deeper are exact below a length

module _ (limit : ℕ) (inner : Inner) (good : ReadsBelow limit SpellsForm Never inner) where
  some_below : ReadsBelow limit (SpellsSome SpellsForm) IsForm (body_at inner)
  some_below =
      bounded.in_words limit (Then SpellsForm (λ x. Added SpellsForm (x ∷ []))) (SpellsSome SpellsForm) IsForm (body_at inner) (some_of_added SpellsForm) (added_of_some SpellsForm)
      (bounded.free limit SpellsForm (λ x. Added SpellsForm (x ∷ [])) IsForm inner (λ first. more_at begins_form inner (first.0 ∷ []) first.1) good
      (λ x.
      bounded.items_added limit SpellsForm begins_form inner Never IsForm good (λ f spelled. form_begun f [] spelled) (λ f t w spelled. form_begun f (t ∷ w) spelled) (λ t is impossible. impossible)
      (λ t impossible. absurd impossible) (λ t is. is) (x ∷ [])))

  body_below : (f : List Form → Form) → ReadsBelow limit (Body f) Never (λ input. body_at inner input >>= λ body. close_at (f body.0) body.1)
  body_below f =
      bounded.before limit (SpellsSome SpellsForm) (λ fs. ToClose (f fs)) IsForm Never IsClose (λ fs. to_close_begun (f fs)) close_not_form (body_at inner) (λ body. close_at (f body.0) body.1) some_below
      (λ fs. bounded.at_each limit (ToClose (f fs)) Never (λ input. close_at (f fs) input) (to_close_reads (f fs)))

  after_opening_below : (at : Span) (o : Opening) → ReadsBelow limit (AfterOpening at o) Never (after_opening inner at o)
  after_opening_below at simplified = bounded.at_each limit (AfterOpening at simplified) Never (simplify_at at) (simplified_reads at)
  after_opening_below at matched = bounded.at_each limit (AfterOpening at matched) Never (match_at at) (matched_reads at)
  after_opening_below at chosen =
      bounded.before limit (SpellsSome SpellsList) (λ lists. Body (λ fs. choices at lists (forms fs))) IsName Never IsForm (λ lists. body_begun (λ fs. choices at lists (forms fs))) form_not_name lists_at
      (λ lists. body_at inner lists.1 >>= λ body. close_at (choices at lists.0 (forms body.0)) body.1) (bounded.at_each limit (SpellsSome SpellsList) IsName lists_at lists_reads)
      (λ lists. body_below (λ fs. choices at lists (forms fs)))
  after_opening_below at tested =
      bounded.free limit SpellsCondition (λ c. Body (λ fs. conditional c (forms fs))) Never condition_at (λ c. body_at inner c.1 >>= λ body. close_at (conditional c.0 (forms body.0)) body.1)
      (bounded.at_each limit SpellsCondition Never condition_at condition_reads) (λ c. body_below (λ fs. conditional c (forms fs)))
  after_opening_below at operator_list = bounded.at_each limit (AfterOpening at operator_list) Never operators_at (operators_reads at)
  after_opening_below at predicate_list = bounded.at_each limit (AfterOpening at predicate_list) Never predicates_at (predicates_reads at)

  opened_below : (asked : Symbol → Option Opening) → Begins (Meant asked) [] → (at : Span) → ReadsBelow limit (Opened asked at) Never (opened_at asked inner at)
  opened_below asked some at =
      bounded.free limit (Meant asked) (AfterOpening at) Never (λ input. meant_at asked Syntax input) (λ o. after_opening inner at o.0 o.1)
      (bounded.at_each limit (Meant asked) Never (λ input. meant_at asked Syntax input) (one_token asked Syntax Never some)) (after_opening_below at)

-- the word of an opening

abbrev word_of : Opening → Word
word_of simplified = words.Simplify
word_of matched = words.Match
word_of chosen = words.For
word_of tested = words.If
word_of operator_list = words.OperatorList
word_of predicate_list = words.Predicates

abbrev HasWord : Opening → Symbol → Type 0
HasWord o t = (at : Span) × (meanings.word (word_of o) t ≡ Some at)

the_same : (o k : Opening) → ◌≡◌ {A = Option Opening} (Some o) (Some k) → o ≡ k
the_same o k e = cc

opening_word : (t : Symbol) (o : Opening) → opening t ≡ Some o → HasWord o t
opening_word (symbols.Word words.Simplify at) o e = subst (λ k. HasWord k (symbols.Word words.Simplify at)) (the_same simplified o e) (at, refl)
opening_word (symbols.Word words.Match at) o e = subst (λ k. HasWord k (symbols.Word words.Match at)) (the_same matched o e) (at, refl)
opening_word (symbols.Word words.For at) o e = subst (λ k. HasWord k (symbols.Word words.For at)) (the_same chosen o e) (at, refl)
opening_word (symbols.Word words.If at) o e = subst (λ k. HasWord k (symbols.Word words.If at)) (the_same tested o e) (at, refl)
opening_word t o e = absurd (cc)

abbrev is_nested : Opening → Bool
is_nested operator_list = false
is_nested predicate_list = false
is_nested o = true

opening_nested : (t : Symbol) (o : Opening) → opening t ≡ Some o → is_nested o ≡ true
opening_nested (symbols.Word words.Simplify at) o e = sym (ap is_nested (the_same simplified o e))
opening_nested (symbols.Word words.Match at) o e = sym (ap is_nested (the_same matched o e))
opening_nested (symbols.Word words.For at) o e = sym (ap is_nested (the_same chosen o e))
opening_nested (symbols.Word words.If at) o e = sym (ap is_nested (the_same tested o e))
opening_nested t o e = absurd (cc)

top_word : (t : Symbol) (o : Opening) → top_opening t ≡ Some o → HasWord o t
top_word (symbols.Word words.OperatorList at) o e = subst (λ k. HasWord k (symbols.Word words.OperatorList at)) (the_same operator_list o e) (at, refl)
top_word (symbols.Word words.Predicates at) o e = subst (λ k. HasWord k (symbols.Word words.Predicates at)) (the_same predicate_list o e) (at, refl)
top_word (symbols.Word words.Simplify at) o e = subst (λ k. HasWord k (symbols.Word words.Simplify at)) (the_same simplified o e) (at, refl)
top_word (symbols.Word words.Match at) o e = subst (λ k. HasWord k (symbols.Word words.Match at)) (the_same matched o e) (at, refl)
top_word (symbols.Word words.For at) o e = subst (λ k. HasWord k (symbols.Word words.For at)) (the_same chosen o e) (at, refl)
top_word (symbols.Word words.If at) o e = subst (λ k. HasWord k (symbols.Word words.If at)) (the_same tested o e) (at, refl)
top_word t o e = absurd (cc)

nested_top : (t : Symbol) (o : Opening) → opening t ≡ Some o → top_opening t ≡ Some o
nested_top (symbols.Word words.OperatorList at) o e = absurd (cc)
nested_top (symbols.Word words.Predicates at) o e = absurd (cc)
nested_top t o e = e

simplify_opening : (t : Symbol) (at : Span) → meanings.word words.Simplify t ≡ Some at → opening t ≡ Some simplified
simplify_opening (symbols.Word words.Simplify p) at e = refl
simplify_opening t at e = absurd (cc)

match_opening : (t : Symbol) (at : Span) → meanings.word words.Match t ≡ Some at → opening t ≡ Some matched
match_opening (symbols.Word words.Match p) at e = refl
match_opening t at e = absurd (cc)

for_opening : (t : Symbol) (at : Span) → meanings.word words.For t ≡ Some at → opening t ≡ Some chosen
for_opening (symbols.Word words.For p) at e = refl
for_opening t at e = absurd (cc)

if_opening : (t : Symbol) (at : Span) → meanings.word words.If t ≡ Some at → opening t ≡ Some tested
if_opening (symbols.Word words.If p) at e = refl
if_opening t at e = absurd (cc)

list_opening : (t : Symbol) (at : Span) → meanings.word words.OperatorList t ≡ Some at → top_opening t ≡ Some operator_list
list_opening (symbols.Word words.OperatorList p) at e = refl
list_opening t at e = absurd (cc)

predicates_opening : (t : Symbol) (at : Span) → meanings.word words.Predicates t ≡ Some at → top_opening t ≡ Some predicate_list
predicates_opening (symbols.Word words.Predicates p) at e = refl
predicates_opening t at e = absurd (cc)

-- to the grammar

forms_of_many : (fs : List Form) (w : List Symbol) → Many SpellsForm fs w → SpellsForms (forms fs) w
forms_of_many [] w empty = empty
forms_of_many (f ∷ fs) w (u, v, first, others, cut) = (u, v, first, forms_of_many fs v others, cut)

many_of_forms : (fs : Forms) (w : List Symbol) → SpellsForms fs w → (qs : List Form) × (forms qs ≡ fs) × Many SpellsForm qs w
many_of_forms none w empty = ([], refl, empty)
many_of_forms (more f fs) w (u, v, first, others, cut) =
    let (qs, same, many) = many_of_forms fs v others in
    (f ∷ qs, ap (more f) same, (u, v, first, many, cut))

body_of_some : (fs : List Form) (w : List Symbol) → SpellsSome SpellsForm fs w → SpellsBody (forms fs) w
body_of_some [] w impossible = absurd impossible
body_of_some (f ∷ fs) w (u, v, first, others, cut) = (u, v, first, forms_of_many fs v others, cut)

some_of_body : (fs : Forms) (w : List Symbol) → SpellsBody fs w → (qs : List Form) × (forms qs ≡ fs) × SpellsSome SpellsForm qs w
some_of_body none w impossible = absurd impossible
some_of_body (more f fs) w (u, v, first, others, cut) =
    let (qs, same, many) = many_of_forms fs v others in
    (f ∷ qs, ap (more f) same, (u, v, first, many, cut))

false_is_no_truth : false ≡ true → ⊥
false_is_no_truth e = cc

to_nested : (at : Span) (f : Form) (o : Opening) (u v u₁ v₁ w : List Symbol) → is_nested o ≡ true → Meant (meanings.mark marks.Open) at u → AWord (word_of o) u₁ → AfterOpening at o f v₁ → v ≡ u₁ ++ v₁ → w ≡ u ++ v
    → SpellsForm f w
to_nested at f simplified u v u₁ v₁ w nested left word (p, u₂, v₂, (is, pattern), (r, u₃, v₃, result, (k, close, same), cut₃), cut₂) cut₁ cut =
    subst (λ x. SpellsForm x w) same (is, (u, v, left, (u₁, v₁, word, (u₂, v₂, pattern, (u₃, v₃, result, (k, close), cut₃), cut₂), cut₁), cut))
to_nested at f matched u v u₁ v₁ w nested left word (head, u₂, v₂, spelled, (p, u₃, v₃, pattern, (t, u₄, v₄, tail, (k, close, same), cut₄), cut₃), cut₂) cut₁ cut =
    subst (λ x. SpellsForm x w) same (u, v, left, (u₁, v₁, word, (u₂, v₂, spelled, (u₃, v₃, pattern, (u₄, v₄, tail, (k, close), cut₄), cut₃), cut₂), cut₁), cut)
to_nested at f chosen u v u₁ v₁ w nested left word (lists, u₂, v₂, spelled, (fs, u₃, v₃, body, (k, close, same), cut₃), cut₂) cut₁ cut =
    subst (λ x. SpellsForm x w) same (u, v, left, (u₁, v₁, word, (u₂, v₂, spelled, (u₃, v₃, body_of_some fs u₃ body, (k, close), cut₃), cut₂), cut₁), cut)
to_nested at f tested u v u₁ v₁ w nested left word (c, u₂, v₂, condition, (fs, u₃, v₃, body, (k, close, same), cut₃), cut₂) cut₁ cut =
    subst (λ x. SpellsForm x w) same (u, v, (at, left), (u₁, v₁, word, (u₂, v₂, condition, (u₃, v₃, body_of_some fs u₃ body, (k, close), cut₃), cut₂), cut₁), cut)
to_nested at f operator_list u v u₁ v₁ w nested left word rest cut₁ cut = absurd (false_is_no_truth nested)
to_nested at f predicate_list u v u₁ v₁ w nested left word rest cut₁ cut = absurd (false_is_no_truth nested)

to_form : (f : Form) (w : List Symbol) → AnyForm opening f w → SpellsForm f w
to_form f w (at, u, v, left, (o, u₁, v₁, (t, is, one), rest, cut₁), cut) =
    let (p, e) = opening_word t o is in
    to_nested at f o u v u₁ v₁ w (opening_nested t o is) left (p, (t, e, one)) rest cut₁ cut

of_form : (f : Form) (w : List Symbol) → SpellsForm f w → AnyForm opening f w
of_form (simplify at p r) w (is, (u, v, left, (u₁, v₁, (q, (t, has, one)), (u₂, v₂, pattern, (u₃, v₃, result, (k, close), cut₃), cut₂), cut₁), cut)) =
    (at, u, v, left, (simplified, u₁, v₁, (t, simplify_opening t q has, one), (p, u₂, v₂, (is, pattern), (r, u₃, v₃, result, (k, close, refl), cut₃), cut₂), cut₁), cut)
of_form (case at head p tail) w (u, v, left, (u₁, v₁, (q, (t, has, one)), (u₂, v₂, spelled, (u₃, v₃, pattern, (u₄, v₄, end, (k, close), cut₄), cut₃), cut₂), cut₁), cut) =
    (at, u, v, left, (matched, u₁, v₁, (t, match_opening t q has, one), (head, u₂, v₂, spelled, (p, u₃, v₃, pattern, (tail, u₄, v₄, end, (k, close, refl), cut₄), cut₃), cut₂), cut₁), cut)
of_form (choices at lists body) w (u, v, left, (u₁, v₁, (q, (t, has, one)), (u₂, v₂, spelled, (u₃, v₃, inside, (k, close), cut₃), cut₂), cut₁), cut) =
    let (fs, same, some) = some_of_body body u₃ inside in
    (at, u, v, left, (chosen, u₁, v₁, (t, for_opening t q has, one), (lists, u₂, v₂, spelled, (fs, u₃, v₃, some, (k, close, ap (choices at lists) same), cut₃), cut₂), cut₁), cut)
of_form (conditional c body) w (u, v, (at, left), (u₁, v₁, (q, (t, has, one)), (u₂, v₂, condition, (u₃, v₃, inside, (k, close), cut₃), cut₂), cut₁), cut) =
    let (fs, same, some) = some_of_body body u₃ inside in
    (at, u, v, left, (tested, u₁, v₁, (t, if_opening t q has, one), (c, u₂, v₂, condition, (fs, u₃, v₃, some, (k, close, ap (conditional c) same), cut₃), cut₂), cut₁), cut)
of_form (operators list) w impossible = absurd impossible
of_form (predicates names) w impossible = absurd impossible

form_at_top : (f : Form) (w : List Symbol) → SpellsForm f w → SpellsTop f w
form_at_top (operators list) w impossible = absurd impossible
form_at_top (predicates names) w impossible = absurd impossible
form_at_top f w spelled = spelled

to_top : (f : Form) (w : List Symbol) → AnyForm top_opening f w → SpellsTop f w
to_top f w (at, u, v, left, (operator_list, u₁, v₁, (t, is, one), (name, u₂, v₂, meant, (es, u₃, v₃, names, (k, close, same), cut₃), cut₂), cut₁), cut) =
    let (p, e) = top_word t operator_list is in
    subst (λ x. SpellsTop x w) same (u, v, (at, left), (u₁, v₁, (p, (t, e, one)), (u₂, v₂, meant, (u₃, v₃, names, (k, close), cut₃), cut₂), cut₁), cut)
to_top f w (at, u, v, left, (predicate_list, u₁, v₁, (t, is, one), (names, u₂, v₂, spelled, (k, close, same), cut₂), cut₁), cut) =
    let (p, e) = top_word t predicate_list is in
    subst (λ x. SpellsTop x w) same (u, v, (at, left), (u₁, v₁, (p, (t, e, one)), (u₂, v₂, spelled, (k, close), cut₂), cut₁), cut)
to_top f w (at, u, v, left, (simplified, u₁, v₁, (t, is, one), rest, cut₁), cut) =
    let (p, e) = top_word t simplified is in
    form_at_top f w (to_nested at f simplified u v u₁ v₁ w refl left (p, (t, e, one)) rest cut₁ cut)
to_top f w (at, u, v, left, (matched, u₁, v₁, (t, is, one), rest, cut₁), cut) =
    let (p, e) = top_word t matched is in
    form_at_top f w (to_nested at f matched u v u₁ v₁ w refl left (p, (t, e, one)) rest cut₁ cut)
to_top f w (at, u, v, left, (chosen, u₁, v₁, (t, is, one), rest, cut₁), cut) =
    let (p, e) = top_word t chosen is in
    form_at_top f w (to_nested at f chosen u v u₁ v₁ w refl left (p, (t, e, one)) rest cut₁ cut)
to_top f w (at, u, v, left, (tested, u₁, v₁, (t, is, one), rest, cut₁), cut) =
    let (p, e) = top_word t tested is in
    form_at_top f w (to_nested at f tested u v u₁ v₁ w refl left (p, (t, e, one)) rest cut₁ cut)

lift_top : (f : Form) (w : List Symbol) → AnyForm opening f w → AnyForm top_opening f w
lift_top f w (at, u, v, left, (o, u₁, v₁, (t, is, one), rest, cut₁), cut) = (at, u, v, left, (o, u₁, v₁, (t, nested_top t o is, one), rest, cut₁), cut)

of_top : (f : Form) (w : List Symbol) → SpellsTop f w → AnyForm top_opening f w
of_top (operators list) w (u, v, (at, left), (u₁, v₁, (q, (t, has, one)), (u₂, v₂, meant, (u₃, v₃, names, (k, close), cut₃), cut₂), cut₁), cut) =
    (at, u, v, left, (operator_list, u₁, v₁, (t, list_opening t q has, one), (list.name, u₂, v₂, meant, (list.entries, u₃, v₃, names, (k, close, refl), cut₃), cut₂), cut₁), cut)
of_top (predicates names) w (u, v, (at, left), (u₁, v₁, (q, (t, has, one)), (u₂, v₂, spelled, (k, close), cut₂), cut₁), cut) =
    (at, u, v, left, (predicate_list, u₁, v₁, (t, predicates_opening t q has, one), (names, u₂, v₂, spelled, (k, close, refl), cut₂), cut₁), cut)
of_top (simplify at p r) w spelled = lift_top (simplify at p r) w (of_form (simplify at p r) w spelled)
of_top (case at head p t) w spelled = lift_top (case at head p t) w (of_form (case at head p t) w spelled)
of_top (choices at lists body) w spelled = lift_top (choices at lists body) w (of_form (choices at lists body) w spelled)
of_top (conditional c body) w spelled = lift_top (conditional c body) w (of_form (conditional c body) w spelled)

-- at every input

some_opening : Begins (Meant opening) []
some_opening = record { value = simplified; after = symbols.Word words.Simplify somewhere ∷ []; spelled = (symbols.Word words.Simplify somewhere, refl, refl) }

some_top_opening : Begins (Meant top_opening) []
some_top_opening =
    record { value = predicate_list; after = symbols.Word words.Predicates somewhere ∷ []; spelled = (symbols.Word words.Predicates somewhere, refl, refl) }

some_form : Begins SpellsForm []
some_form =
    let s = simplified_reads somewhere in
    record {
      value = s.some.value;
      after = symbols.Mark marks.Open somewhere ∷ symbols.Word words.Simplify somewhere ∷ s.some.after;
      spelled = to_form s.some.value (symbols.Mark marks.Open somewhere ∷ symbols.Word words.Simplify somewhere ∷ s.some.after) (
        somewhere,
        symbols.Mark marks.Open somewhere ∷ [],
        symbols.Word words.Simplify somewhere ∷ s.some.after,
        (symbols.Mark marks.Open somewhere, refl, refl),
        (simplified, symbols.Word words.Simplify somewhere ∷ [], s.some.after, (symbols.Word words.Simplify somewhere, refl, refl), s.some.spelled, refl),
        refl,
      );
    }

AreExact : Inner → List Symbol → Type 0
AreExact inner input = IsExact SpellsForm Never input (inner input)

any_exact : (asked : Symbol → Option Opening) → Begins (Meant asked) [] → (inner : Inner) (input : List Symbol) (limit : ℕ) → length input < suc limit → ReadsBelow limit SpellsForm Never inner
    → IsExact (AnyForm asked) Never input (any_form_at asked inner input)
any_exact asked some inner input limit below good =
    token_then (meanings.mark marks.Open) Syntax (some_mark marks.Open) (Opened asked) Never (λ at. (opened_below limit inner good asked some at).some) input
    (λ left. opened_at asked inner left.0 left.1)
    (λ at rest shorter. (opened_below limit inner good asked some at).exact rest (omega (arith, shorter, below)))

forms_exact : (n : ℕ) (input : List Symbol) → length input < n → IsExact SpellsForm Never input (forms_at n input)
unfolding AreExact
forms_exact = by_length forms_at AreExact deeper
  where
    deeper : (n : ℕ) (input : List Symbol) → ((rest : List Symbol) → length rest < length input → IsExact SpellsForm Never rest (forms_at n rest))
        → IsExact SpellsForm Never input (forms_at (suc n) input)
    deeper n input good =
        parts.in_words (AnyForm opening) SpellsForm Never input (any_form_at opening (forms_at n) input) to_form of_form
        (any_exact opening some_opening (forms_at n) input (length input) (omega arith) (record { some = some_form; exact = λ rest below. good rest below }))

top_exact : (input : List Symbol) → IsExact SpellsTop Never input (top_at input)
top_exact input =
    parts.in_words (AnyForm top_opening) SpellsTop Never input (top_at input) to_top of_top
    (any_exact top_opening some_top_opening (forms_at (length input + 1)) input (length input + 1) (omega arith)
    (record { some = some_form; exact = λ rest below. forms_exact (length input + 1) rest below }))

pub top_reads : Reads SpellsTop Never top_at
top_reads = record {
  some = record { value = some_form.value; after = some_form.after; spelled = form_at_top some_form.value some_form.after some_form.spelled };
  exact = top_exact;
}

pub top_begun : (f : Form) (w : List Symbol) → SpellsTop f w → Begun IsForm w
top_begun f w spelled = by_open f w (of_top f w spelled)
  where
    by_open : (f : Form) (w : List Symbol) → AnyForm top_opening f w → Begun IsForm w
    by_open f w (at, u, v, left, rest, cut) = front_begun IsForm u v w (meant_begun (meanings.mark marks.Open) IsForm form_is at u left) cut
