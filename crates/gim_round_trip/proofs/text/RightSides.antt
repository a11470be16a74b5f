-- The printed right sides are read as these.
use Rattle.std.proofs.Common.{◌≡◌, ℕ, Bool, true, false, Option, Some, List, [], ◌∷◌, ◌++◌, map, codes, inl, inr, refl, sym, subst, ap}
use Rattle.std.proofs.lemmas.Bool.{false≢true}
use Rattle.std.proofs.lemmas.List.{append_assoc}
use Rattle.grammar.specs.Spelling.{Meant}
use Rattle.pm_ops.specs.declared.code.Code.{Code}
use Rattle.pm_ops.specs.declared.code.Code.TheVariants as operations
use Rattle.pm_wide.specs.Types.{Ty}
use Rattle.pm_wide.specs.Typing.{well_typed_unary, well_typed_binary, well_typed_ternary, well_typed_operation}
use Rattle.pm_wide.specs.declared.operand.Operand.{Operand}
use Rattle.gim_ast.specs.declared.function.Function.{Function}
use Rattle.gim_ast.specs.declared.function.Rhs.{Rhs}
use Rattle.gim_ast.specs.declared.function.Rhs.TheVariants as sides
use Rattle.gim_ast.specs.Functions.{operands_of_rhs}
use Rattle.gim_printer.specs.Printing.{type_text, operand_text, negated_text, prefix_text, sign_text}
use Rattle.gim_printer.specs.Printing.{unary_text, infix_text, binary_text, ternary_text, operation_text}
use Rattle.gim_printer.specs.Printing.{rhs_text}
use Rattle.gim_ast.specs.WellFormed.{IsWellFormed, is_type_of, operand_holds, rhs_fits, type_of}
use Rattle.gim_text.specs.Meanings.{identifier, span_of}
use Rattle.pm_places.specs.declared.span.Span.{Span}
use Rattle.gim_text.specs.declared.token.Token.{Token}
use Rattle.gim_text.specs.declared.token.Token.TheVariants as tokens
use Rattle.gim_text.specs.declared.token.Keyword.{Keyword}
use Rattle.gim_text.specs.declared.token.Keyword.TheVariants as keywords
use Rattle.gim_text.specs.declared.token.Mark.{Mark}
use Rattle.gim_text.specs.declared.token.Mark.TheVariants as marks
use Rattle.gim_text.specs.declared.tree.OperandText.{OperandText}
use Rattle.gim_text.specs.declared.tree.OperandText.TheVariants.{Name, Default, Literal}
use Rattle.gim_text.specs.declared.tree.RightText.{RightText}
use Rattle.gim_text.specs.declared.tree.RightForm.{RightForm}
use Rattle.gim_text.specs.declared.tree.RightForm.TheVariants.{Copy, Unary, Cast, Binary, Choice}
use Rattle.gim_text.proofs.Membership.{Has}
use Rattle.gim_statements.specs.Words.{prefix_code, call_code}
use Rattle.gim_statements.specs.Grammar.{◌▸◌, AMark, SpellsOperand, MayStandUnder, SpellsForm, SpellsRight}
use Rattle.gim_round_trip.specs.ReadBack.{IsWithinLimits}
use Rattle.gim_round_trip.proofs.text.Prints.{Close, any_end, word_end, Prints, joined, seen, sooner, blanks_before, blanks_after}
use Rattle.gim_round_trip.proofs.text.OperationSigns.{is_infix, sign_prints}
use Rattle.gim_round_trip.proofs.text.Tokens.{keyword_text, keyword_there, is_plain_mark, plain_mark_text, mark_there, a_mark_prints}
use Rattle.gim_round_trip.proofs.text.Operands.{type_prints, operand_prints, negated_prints}
use Rattle.gim_round_trip.proofs.text.Sequences.{Quiet, lead, trail, told}
use Rattle.gim_round_trip.proofs.tree.Writes.{WritesOperand, WritesForm}

-- ---- operands and types

-- an operand that holds is read as itself
abbrev pub IsRead : List ℕ → Function → Operand → Type 0
IsRead source f a = Prints source word_end SpellsOperand (λ (tree : OperandText). WritesOperand source f tree a) (operand_text f a)

-- ---- the first token

-- Some token is there.
abbrev NotNone : (List Token → Type 0) → Type 0
NotNone Q = Q [] → ⊥

front_is_nothing : (u v : List Token) → [] ≡ u ++ v → u ≡ []
front_is_nothing [] v e = refl
front_is_nothing (t ∷ u) v e = cc

first_has_token : {P Q : List Token → Type 0} → NotNone P → NotNone (P ▸ Q)
first_has_token {P} not_none (u, v, first, second, e) = not_none (subst P (front_is_nothing u v e) first)

meant_has_token : {A : Type 0} (meaning : Token → Option A) (x : A) → NotNone (Meant meaning x)
meant_has_token meaning x (t, is, e) = cc

mark_has_token : (m : Mark) → NotNone (AMark m)
mark_has_token m (at, (t, is, e)) = cc

operand_has_token : (a : OperandText) → NotNone (SpellsOperand a)
operand_has_token (Name at) h = meant_has_token identifier at h
operand_has_token (Default at) h = first_has_token (meant_has_token identifier at) h
operand_has_token (Literal literal) h = absurd h.0

form_has_token : (form : RightForm) → NotNone (SpellsForm form)
form_has_token (Copy a) h = operand_has_token a h
form_has_token (Unary op a) h = first_has_token (meant_has_token prefix_code op) h.1
form_has_token (Cast t a) h = first_has_token (mark_has_token marks.Open) h
form_has_token (Binary op a b) (inl h) = first_has_token (operand_has_token a) h
form_has_token (Binary op a b) (inr h) = first_has_token (meant_has_token call_code op) h
form_has_token (Choice c a b) h = first_has_token (operand_has_token c) h

-- the same, with the place of its first token
with_start : (form : RightForm) (w : List Token) → SpellsForm form w → (right : RightText) × SpellsRight right w × (right.form ≡ form)
with_start form [] h = absurd (form_has_token form h)
with_start form (t ∷ w) h = (record { start = span_of t; form = form }, (refl, h), refl)

started : {Is : RightForm → Type 0} {source : List ℕ} {end : Close} {a : List ℕ} → Prints source end SpellsForm Is a
    → Prints source end SpellsRight (λ right. Is right.form) a
started {Is = Is} one = record {
  read = λ at rest ends left.
      let r = one.read at rest ends left in
      let right = with_start r.value r.tokens r.spelled in
      record {
        value = right.0;
        tokens = r.tokens;
        to = r.to;
        cut = r.cut;
        left = r.left;
        spelled = right.1;
        is = subst Is (sym right.2) r.is;
      };
}

-- ---- what the sign of an operation means

mark_of : (source : List ℕ) (meaning : Token → Option Code) (op : Code) (m : Mark) → is_plain_mark m ≡ true
    → ((at : Span) → meaning (tokens.Mark m at) ≡ Some op) → Quiet source any_end (Meant meaning op) (plain_mark_text m)
mark_of source meaning op m plain means =
    seen (mark_there source m plain) (λ at. tt) (λ at w is e. (tokens.Mark m at, means at, e)) (λ at is. tt)

word_of : (source : List ℕ) (meaning : Token → Option Code) (op : Code) (k : Keyword)
    → ((at : Span) → meaning (tokens.Keyword k at) ≡ Some op)
    → Quiet source word_end (Meant meaning op) (keyword_text k)
word_of source meaning op k means = seen (keyword_there source k) (λ at. tt) (λ at w is e. (tokens.Keyword k at, means at, e)) (λ at is. tt)

-- ---- one operand

-- a right side is read as itself
abbrev FormIsRead : List ℕ → Function → Ty → Rhs → List ℕ → Type 0
FormIsRead source f t rhs text = Prints source word_end SpellsForm (λ (form : RightForm). WritesForm source f t form rhs) text

cast_prints : (source : List ℕ) (f : Function) (t : Ty) (a : Operand) → is_type_of t ≡ true → IsRead source f a
    → FormIsRead source f t (sides.Op operations.Convert (a ∷ [])) ((codes "(" ++ type_text t ++ codes ") ") ++ operand_text f a)
cast_prints source f t a is one =
    let whole = lead (a_mark_prints source marks.Open refl) (λ rest. tt)
    (lead (type_prints source t is) (λ rest. refl)
    (lead (a_mark_prints source marks.Close refl) (λ rest. tt) (blanks_before (codes " ") refl one))) in
    told (ap (λ bs. codes "(" ++ bs) (sym (append_assoc (type_text t) (codes ") ") (operand_text f a))))
    (seen whole (λ tree. Cast t tree) (λ tree w is h. h) (λ tree is. (refl, refl, is)))

negate_prints : (source : List ℕ) (f : Function) (t : Ty) (a : Operand)
    → Prints source word_end (λ (tree : OperandText) (w : List Token). MayStandUnder operations.Negate tree
    × SpellsOperand tree w) (λ tree. WritesOperand source f tree a) (negated_text f a)
    → FormIsRead source f t (sides.Op operations.Negate (a ∷ [])) (codes "-" ++ negated_text f a)
negate_prints source f t a one =
    let sign = mark_of source prefix_code operations.Negate marks.Minus refl (λ at. refl) in
    seen (lead sign (λ rest. tt) one) (λ tree. Unary operations.Negate tree)
    (λ tree w is h. (h.3.0, (h.0, h.1, h.2, h.3.1, h.4))) (λ tree is. (refl, is))

prefix_prints : (source : List ℕ) (f : Function) (t : Ty) (op : Code) (a : Operand) (bs : List ℕ)
    → ((tree : OperandText) → MayStandUnder op tree)
    → Quiet source any_end (Meant prefix_code op) bs → IsRead source f a
    → FormIsRead source f t (sides.Op op (a ∷ [])) (bs ++ operand_text f a)
prefix_prints source f t op a bs may sign one =
    seen (lead sign (λ rest. tt) one) (λ tree. Unary op tree) (λ tree w is h. (may tree, h)) (λ tree is. (refl, is))

unary_prints : (source : List ℕ) (f : Function) (t : Ty) (op : Code) (a : Operand) → IsWellFormed f → IsWithinLimits f
    → is_type_of t ≡ true → operand_holds f a ≡ true → well_typed_unary op t (type_of a) ≡ true
    → FormIsRead source f t (sides.Op op (a ∷ [])) (unary_text f t op a)
unfolding prefix_text
unary_prints source f t operations.Convert a well limits is holds typed =
    cast_prints source f t a is (operand_prints source f a well limits holds)
unary_prints source f t operations.Negate a well limits is holds typed =
    negate_prints source f t a (negated_prints source f a well limits holds)
unary_prints source f t operations.BitNot a well limits is holds typed =
    prefix_prints source f t operations.BitNot a (codes "~") (λ tree. tt)
    (mark_of source prefix_code operations.BitNot marks.Tilde refl (λ at. refl))
    (operand_prints source f a well limits holds)
unary_prints source f t operations.Abs a well limits is holds typed =
    let sign = blanks_after (codes " ") refl (λ rest. refl) (word_of source prefix_code operations.Abs keywords.Abs (λ at. refl)) in
    prefix_prints source f t operations.Abs a (codes "__ABS ") (λ tree. tt) sign (operand_prints source f a well limits holds)
unary_prints source f t operations.Absu a well limits is holds typed =
    let sign = blanks_after (codes " ") refl (λ rest. refl) (word_of source prefix_code operations.Absu keywords.Absu (λ at. refl)) in
    prefix_prints source f t operations.Absu a (codes "__ABSU ") (λ tree. tt) sign (operand_prints source f a well limits holds)
unary_prints source f t op a well limits is holds typed = absurd (false≢true typed)

-- ---- two operands

infix_whole : (a sign b : List ℕ) → a ++ ((codes " " ++ sign ++ codes " ") ++ b) ≡ a ++ codes " " ++ sign ++ codes " " ++ b
infix_whole a sign b = simp append_assoc

infix_prints : (source : List ℕ) (f : Function) (t : Ty) (op : Code) (a b : Operand) → is_infix op ≡ true
    → IsRead source f a → IsRead source f b
    → FormIsRead source f t (sides.Op op (a ∷ b ∷ [])) (infix_text f op a b)
infix_prints source f t op a b is one two =
    let whole = joined one (λ rest. refl) (lead (sign_prints source op is) (λ rest. tt) two) in
    told (infix_whole (operand_text f a) (sign_text op) (operand_text f b))
    (seen whole (λ trees. Binary op trees.0 trees.1) (λ trees w is h. inl h) (λ trees is. (refl, is.0, is.1)))

call_whole : (word a b : List ℕ) → word ++ (codes " (" ++ (a ++ (codes ", " ++ (b ++ codes ")")))) ≡ word ++ codes " ("
    ++ a ++ codes ", " ++ b ++ codes ")"
call_whole word a b = simp append_assoc

call_prints : (source : List ℕ) (f : Function) (t : Ty) (op : Code) (word : Keyword) (a b : Operand)
    → ((at : Span) → call_code (tokens.Keyword word at) ≡ Some op) → IsRead source f a → IsRead source f b
    → FormIsRead source f t (sides.Op op (a ∷ b ∷ []))
    (keyword_text word ++ codes " (" ++ operand_text f a ++ codes ", " ++ operand_text f b ++ codes ")")
call_prints source f t op word a b means one two =
    let called = word_of source call_code op word means in
    let inner =
    joined one (λ rest. refl) (lead (a_mark_prints source marks.Comma refl) (λ rest. tt)
    (blanks_before (codes " ") refl (trail two (λ rest. refl) (a_mark_prints source marks.Close refl)))) in
    let whole =
    lead called (λ rest. refl) (blanks_before (codes " ") refl
    (lead (a_mark_prints source marks.Open refl) (λ rest. tt) inner)) in
    told (call_whole (keyword_text word) (operand_text f a) (operand_text f b))
    (sooner (seen whole (λ trees. Binary op trees.0 trees.1) (λ trees w is h. inr h) (λ trees is. (refl, is.0, is.1))))

abbrev is_call : Code → Bool
is_call operations.Min = true
is_call operations.Max = true
is_call op = false

typed_is_infix : (op : Code) (t a b : Ty) → is_call op ≡ false → well_typed_binary op t a b ≡ true → is_infix op ≡ true
typed_is_infix operations.Plus t a b other typed = cc
typed_is_infix op t a b other typed = cc

binary_prints : (source : List ℕ) (f : Function) (t : Ty) (op : Code) (a b : Operand) → IsRead source f a → IsRead source f b
    → well_typed_binary op t (type_of a) (type_of b) ≡ true → FormIsRead source f t (sides.Op op (a ∷ b ∷ [])) (binary_text f op a b)
binary_prints source f t operations.Min a b one two typed = call_prints source f t operations.Min keywords.Min a b (λ at. refl) one two
binary_prints source f t operations.Max a b one two typed = call_prints source f t operations.Max keywords.Max a b (λ at. refl) one two
binary_prints source f t op a b one two typed =
    infix_prints source f t op a b (typed_is_infix op t (type_of a) (type_of b) refl typed) one two

-- ---- three operands

choice_whole : (a b c : List ℕ) → a ++ (codes " ? " ++ (b ++ (codes " : " ++ c))) ≡ a ++ codes " ? " ++ b ++ codes " : " ++ c
choice_whole a b c = simp append_assoc

choice_prints : (source : List ℕ) (f : Function) (t : Ty) (a b c : Operand) → IsRead source f a → IsRead source f b → IsRead source f c
    → FormIsRead source f t (sides.Op operations.Cond (a ∷ b ∷ c ∷ [])) (ternary_text f a b c)
choice_prints source f t a b c one two three =
    let question = blanks_before (codes " ") refl (a_mark_prints source marks.Question refl) in
    let colon = blanks_before (codes " ") refl (a_mark_prints source marks.Colon refl) in
    let others = joined two (λ rest. refl) (lead colon (λ rest. tt) (blanks_before (codes " ") refl three)) in
    let whole = joined one (λ rest. refl) (lead question (λ rest. tt) (blanks_before (codes " ") refl others)) in
    told (choice_whole (operand_text f a) (operand_text f b) (operand_text f c))
    (seen whole (λ trees. Choice trees.0 trees.1.0 trees.1.1) (λ trees w is h. h) (λ trees is. (refl, is.0, is.1.0, is.1.1)))

ternary_prints : (source : List ℕ) (f : Function) (t : Ty) (op : Code) (a b c : Operand) → IsRead source f a
    → IsRead source f b → IsRead source f c
    → well_typed_ternary op t (type_of a) (type_of b) (type_of c) ≡ true
    → FormIsRead source f t (sides.Op op (a ∷ b ∷ c ∷ [])) (ternary_text f a b c)
ternary_prints source f t operations.Cond a b c one two three typed = choice_prints source f t a b c one two three
ternary_prints source f t op a b c one two three typed = absurd (false≢true typed)

-- ---- right sides

abbrev pub OperandsHold : Function → List Operand → Type 0
OperandsHold f operands = (a : Operand) → Has operands a → operand_holds f a ≡ true

operation_prints : (source : List ℕ) (f : Function) (t : Ty) (op : Code) (operands : List Operand) → IsWellFormed f
    → IsWithinLimits f → is_type_of t ≡ true → OperandsHold f operands
    → well_typed_operation op t (map type_of operands) ≡ true
    → FormIsRead source f t (sides.Op op operands) (operation_text f t op operands)
unfolding operation_text well_typed_operation
operation_prints source f t op [] well limits is hold typed = absurd (false≢true typed)
operation_prints source f t op (a ∷ []) well limits is hold typed = unary_prints source f t op a well limits is (hold a (inl refl)) typed
operation_prints source f t op (a ∷ b ∷ []) well limits is hold typed =
    let one = operand_prints source f a well limits (hold a (inl refl)) in
    let two = operand_prints source f b well limits (hold b (inr (inl refl))) in
    binary_prints source f t op a b one two typed
operation_prints source f t op (a ∷ b ∷ c ∷ []) well limits is hold typed =
    let one = operand_prints source f a well limits (hold a (inl refl)) in
    let two = operand_prints source f b well limits (hold b (inr (inl refl))) in
    let three = operand_prints source f c well limits (hold c (inr (inr (inl refl)))) in
    ternary_prints source f t op a b c one two three typed
operation_prints source f t op (a ∷ b ∷ c ∷ d ∷ others) well limits is hold typed = absurd (false≢true typed)

form_prints : (source : List ℕ) (f : Function) (t : Ty) (rhs : Rhs) → IsWellFormed f → IsWithinLimits f
    → is_type_of t ≡ true → OperandsHold f (operands_of_rhs rhs)
    → rhs_fits t rhs ≡ true → FormIsRead source f t rhs (rhs_text f t rhs)
unfolding rhs_text
form_prints source f t (sides.Copy a) well limits is hold fits =
    seen (operand_prints source f a well limits (hold a (inl refl))) (λ tree. Copy tree) (λ tree w is h. h)
    (λ tree is. is)
form_prints source f t (sides.Op op operands) well limits is hold fits = operation_prints source f t op operands well limits is hold fits

-- a right side of a type, on operands that hold
pub right_prints : (source : List ℕ) (f : Function) (t : Ty) (rhs : Rhs) → IsWellFormed f → IsWithinLimits f
    → is_type_of t ≡ true → OperandsHold f (operands_of_rhs rhs)
    → rhs_fits t rhs ≡ true → Prints source word_end SpellsRight
    (λ (right : RightText). WritesForm source f t right.form rhs) (rhs_text f t rhs)
right_prints source f t rhs well limits is hold fits = started (form_prints source f t rhs well limits is hold fits)
