-- A sum less its second summand is the first one, so an operand of the sum is put for the
-- difference.
use Rattle.std.proofs.Common.{◌≡◌, ℕ, true, Option, Some, None, [], ◌∷◌, ◌&&◌, refl, sym, ap, ap₂}
use Rattle.std.proofs.Common.{subst, ◌∙◌, arith}
use Rattle.std.specs.Prelude.{ℤ, ◌+ℤ◌, ◌-ℤ◌, ◌==◌}
use Rattle.std.proofs.lemmas.Int.{ints}
use Rattle.std.proofs.lemmas.Bool.{and_parts, or_left, eq-eqb}
use Rattle.pm_ops.specs.declared.code.Code.TheVariants.{Plus, Minus}
use Rattle.pm_wide.specs.Types.{Ty, Word, IsType, IsWord, value, word_of, same_type}
use Rattle.pm_wide.specs.Congruence.{Congruent}
use Rattle.pm_wide.specs.Operations.{exact, operation_value}
use Rattle.pm_wide.specs.Typing.{well_typed_operation}
use Rattle.pm_wide.specs.declared.operand.Operand.{Operand}
use Rattle.pm_wide.specs.declared.operand.Operand.TheVariants.{Name, Const}
use Rattle.pm_wide.proofs.Congruence.{same, differences}
use Rattle.pm_wide.proofs.Results.{same_type_is}
use Rattle.pm_wide.proofs.Values.{exact_cases, exact_congruent}
use Rattle.pm_wide.proofs.Words.{same_word, word-value}
use Rattle.pm_term.specs.Terms.{term_value, operation_on, with_value}
use Rattle.pm_term.specs.Trees.{Tree, node, nil, cons, leaf}
use Rattle.gim_ast.specs.declared.function.Function.{Function}
use Rattle.gim_ast.specs.declared.function.Rhs.TheVariants.{Op}
use Rattle.gim_ast.specs.Functions.{right_of}
use Rattle.gim_ast.specs.Readable.{operand, further, names_among, IsValid}
use Rattle.gim_ast.specs.Runs.{name_type}
use Rattle.gim_ast.specs.WellFormed.{IsWellFormed, is_among, type_of, operand_holds}
use Rattle.gim_changes.specs.Substitution.{put_in_all}
use Rattle.gim_changes.specs.Trimming.{tidied}
use Rattle.gim_meaning.specs.KeptRuns.{KeepsDefinedRuns}
use Rattle.gim_meaning.specs.Unfolding.{Unfolds, itself, computed, no_operand, one_more}
use Rattle.gim_meaning.specs.Unfolding.{IsOfSupport, AreWordsOfNames, Refines}
use Rattle.gim_meaning.proofs.KeptInARow.{keeps_through}
use Rattle.gim_meaning.proofs.ReadableValues.{reads_of}
use Rattle.gim_meaning.proofs.TermsAfterInsertion.{FitsItsName, right_fits_its_name}
use Rattle.gim_meaning.proofs.TrimmingRuns.{tidying_keeps_runs}
use Rattle.gim_meaning.proofs.TypedWords.{constant_is_word, name_has_type}
use Rattle.gim_meaning.proofs.UnfoldedTerms.{refining_support_keeps_runs}

-- ---- words

abbrev word_with : Ty → ℕ → Word
word_with t n = record { bits = n; ty = t }

back_again : (a b : ℤ) → (a +ℤ b) -ℤ b ≡ a
back_again a b = omega (arith, ints)

same_bits : (t : Ty) (m n : ℕ) → m ≡ n → word_with t m ≡ word_with t n
same_bits t m n e = ap (word_with t) e

taken_away : (t : Ty) (a b s r : Word) → a.ty ≡ t → IsWord a →
    exact t (value a +ℤ value b) ≡ Some s → exact t (value s -ℤ value b) ≡ Some r → r ≡ a
taken_away t a b s r typed is sum rest =
    let there : Congruent t.width (value s -ℤ value b) (value a) =
    subst (Congruent t.width (value s -ℤ value b)) (back_again (value a) (value b))
    (differences t.width (value s) (value a +ℤ value b) (value b) (value b)
    (exact_congruent t (value a +ℤ value b) s sum) (same t.width (value b))) in
    (exact_cases t (value s -ℤ value b) r rest).1
    ∙ same_bits t (word_of t (value s -ℤ value b)) (word_of t (value a))
    (same_word t (value s -ℤ value b) (value a) there)
    ∙ subst (λ u. word_with u (word_of u (value a)) ≡ a) typed
    (same_bits a.ty (word_of a.ty (value a)) a.bits (word-value a.ty a.bits is.0))

-- ---- terms

-- the term of an operand has a word of its type
record HasWord (words : ℕ → Ty → Word) (t : Ty) (a : Operand) : Type 0 where
  word_is : Word
  gives : term_value words (leaf a) ≡ Some word_is
  typed : word_is.ty ≡ t
  is : IsWord word_is

operand_word : (f : Function) (words : ℕ → Ty → Word) → AreWordsOfNames words → (t : Ty) →
    IsType t → (a : Operand) → operand_holds f a ≡ true → type_of a ≡ t → HasWord words t a
operand_word f words named t is (Name x u) holds typed =
    let there = named x u (subst IsType (sym typed) is) in
    record { word_is = words x u; gives = refl; typed = there.0 ∙ typed; is = there.1 }
operand_word f words named t is (Const w) holds typed =
    record { word_is = w; gives = refl; typed = typed; is = constant_is_word w holds }

abbrev sum_of : Ty → Operand → Operand → Tree
sum_of t a b = node Plus t (cons (leaf a) (cons (leaf b) nil))

abbrev difference_of : Ty → Tree → Operand → Tree
difference_of t sum b = node Minus t (cons sum (cons (leaf b) nil))

difference_refines : (f : Function) (t : Ty) (a b : Operand) → IsType t → operand_holds f a ≡ true →
    operand_holds f b ≡ true → type_of a ≡ t → type_of b ≡ t →
    Refines (difference_of t (sum_of t a b) b) (leaf a)
unfolding operation_value
difference_refines f t a b is a_holds b_holds a_typed b_typed words named w gives =
    let left = operand_word f words named t is a a_holds a_typed in
    let right = operand_word f words named t is b b_holds b_typed in
    left.gives ∙ ap Some (sym (by left right
    (exact t (value left.word_is +ℤ value right.word_is)) refl
    (sym (ap₂ (λ p q. operation_on Minus t
    (with_value (operation_on Plus t (with_value p (with_value q (Some []))))
    (with_value q (Some [])))) left.gives right.gives) ∙ gives)))
  where
    by : (left : HasWord words t a) (right : HasWord words t b) (sum : Option Word) →
        exact t (value left.word_is +ℤ value right.word_is) ≡ sum →
        operation_on Minus t (with_value (exact t (value left.word_is +ℤ value right.word_is))
        (Some (right.word_is ∷ []))) ≡ Some w → w ≡ left.word_is
    by left right None none e =
        let fails : None ≡ Some w = sym (ap
        (λ sum. operation_on Minus t (with_value sum (Some (right.word_is ∷ [])))) none)
        ∙ e in cc
    by left right (Some s) sum e =
        taken_away t left.word_is right.word_is s w left.typed left.is sum
        (sym (ap (λ found. operation_on Minus t (with_value found (Some (right.word_is ∷ [])))) sum)
        ∙ e)

-- ---- functions

-- a sum and a difference have the types of their operands
record AreOfType (t : Ty) (a b : Operand) : Type 0 where
  first : type_of a ≡ t
  second : type_of b ≡ t

both_typed : (t : Ty) (a b : Operand) →
    (same_type (type_of a) t && same_type (type_of b) t) ≡ true → AreOfType t a b
both_typed t a b h =
    let parts = and_parts (same_type (type_of a) t) (same_type (type_of b) t) h in
    record {
      first = same_type_is (type_of a) t parts.0;
      second = same_type_is (type_of b) t parts.1;
    }

plus_typed : (t : Ty) (a b : Operand) →
    well_typed_operation Plus t (type_of a ∷ type_of b ∷ []) ≡ true → AreOfType t a b
unfolding well_typed_operation
plus_typed t a b h = both_typed t a b h

minus_typed : (t : Ty) (a b : Operand) →
    well_typed_operation Minus t (type_of a ∷ type_of b ∷ []) ≡ true → AreOfType t a b
unfolding well_typed_operation
minus_typed t a b h = both_typed t a b h

of_support : (f : Function) (x y : ℕ) (t : Ty) (a b : Operand) →
    right_of f x ≡ Some (Op Plus (a ∷ b ∷ [])) →
    right_of f y ≡ Some (Op Minus (Name x t ∷ b ∷ [])) → IsOfSupport f y a
of_support f x y t (Name z u) b sum difference =
    further y x z (subst (λ l. is_among x l ≡ true)
    (sym (reads_of f y (Op Minus (Name x t ∷ b ∷ [])) difference))
    (or_left (x == x) (is_among x (names_among (b ∷ []))) (eq-eqb x x refl)))
    (operand x z (subst (λ l. is_among z l ≡ true)
    (sym (reads_of f x (Op Plus (Name z u ∷ b ∷ [])) sum))
    (or_left (z == z) (is_among z (names_among (b ∷ []))) (eq-eqb z z refl))))
of_support f x y t (Const w) b sum difference = tt

pub difference_keeps_runs : (f : Function) (x y : ℕ) (t : Ty) (a b : Operand) → IsValid f →
    right_of f x ≡ Some (Op Plus (a ∷ b ∷ [])) →
    right_of f y ≡ Some (Op Minus (Name x t ∷ b ∷ [])) →
    KeepsDefinedRuns f (tidied (put_in_all y a f))
difference_keeps_runs f x y t a b valid sum difference =
    keeps_through f (put_in_all y a f) (tidied (put_in_all y a f))
    (refining_support_keeps_runs f y (name_type f y) a
    (difference_of (name_type f y) (sum_of (name_type f x) a b) b) (leaf a) valid
    (of_support f x y t a b sum difference) before (itself a a_holds) refines)
    (tidying_keeps_runs (put_in_all y a f))
  where
    well : IsWellFormed f
    well = valid.well_formed

    of_sum : FitsItsName f x (Op Plus (a ∷ b ∷ []))
    of_sum = right_fits_its_name f well x (Op Plus (a ∷ b ∷ [])) sum

    of_difference : FitsItsName f y (Op Minus (Name x t ∷ b ∷ []))
    of_difference = right_fits_its_name f well y (Op Minus (Name x t ∷ b ∷ [])) difference

    a_holds : operand_holds f a ≡ true
    a_holds = (and_parts (operand_holds f a) (operand_holds f b && true) of_sum.operands).0

    b_holds : operand_holds f b ≡ true
    b_holds = (and_parts (operand_holds f b) true
        ((and_parts (operand_holds f a) (operand_holds f b && true) of_sum.operands).1)).0

    before : Unfolds f (Name y (name_type f y))
        (difference_of (name_type f y) (sum_of (name_type f x) a b) b)
    before =
        computed y (name_type f y) Minus (Name x t ∷ b ∷ [])
        (cons (sum_of (name_type f x) a b) (cons (leaf b) nil)) difference
        (one_more (Name x t) (b ∷ []) (sum_of (name_type f x) a b) (cons (leaf b) nil)
        (computed x t Plus (a ∷ b ∷ []) (cons (leaf a) (cons (leaf b) nil)) sum
        (one_more a (b ∷ []) (leaf a) (cons (leaf b) nil) (itself a a_holds)
        (one_more b [] (leaf b) nil (itself b b_holds) no_operand)))
        (one_more b [] (leaf b) nil (itself b b_holds) no_operand))

    sum_types : AreOfType (name_type f x) a b
    sum_types = plus_typed (name_type f x) a b of_sum.fits

    difference_types : AreOfType (name_type f y) (Name x t) b
    difference_types = minus_typed (name_type f y) (Name x t) b of_difference.fits

    one_type : name_type f x ≡ name_type f y
    one_type = sym sum_types.second ∙ difference_types.second

    refines : Refines (difference_of (name_type f y) (sum_of (name_type f x) a b) b) (leaf a)
    refines =
        subst (λ u. Refines (difference_of (name_type f y) (sum_of u a b) b) (leaf a))
        (sym one_type)
        (difference_refines f (name_type f y) a b (name_has_type f well y) a_holds b_holds
        (sum_types.first ∙ one_type) difference_types.second)
