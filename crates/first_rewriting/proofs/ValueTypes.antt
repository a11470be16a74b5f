-- The types of values: what an operation gives, what a row gives, and what exchanged operands may be.
use Rattle.std.proofs.Common.{◌≡◌, ◌==◌, Bool, true, false, List, [], ◌∷◌, map, Some, None, refl, ap, sym, ◌∙◌, subst}
use Rattle.std.specs.Prelude.{◌&&◌, ◌||◌, not, if◌then◌else◌}
use Rattle.pm_ops.specs.Codes.{is_commutative_code, is_comparison_code, swapped_code}
use Rattle.pm_ops.specs.declared.code.Code.{Code}
use Rattle.pm_ops.specs.declared.code.Code.TheVariants.{Convert, Plus, Minus, Mult, TruncDiv, TruncMod, Negate, Abs}
use Rattle.pm_ops.specs.declared.code.Code.TheVariants.{Absu, BitAnd, BitIor, BitXor, BitNot, Lshift, Rshift, Min, Max}
use Rattle.pm_ops.specs.declared.code.Code.TheVariants.{Eq, Ne, Lt, Le, Gt, Ge, Cond}
use Rattle.pm_ops.proofs.SameCodes.{same_code_is}
use Rattle.pm_wide.specs.Types.{Ty, Word, same_type, bool_type}
use Rattle.pm_wide.specs.Typing.{well_typed_operation, well_typed_unary, well_typed_binary, well_typed_ternary}
use Rattle.pm_wide.specs.Operations.{operation_value, unary_value, binary_value, ternary_value}
use Rattle.first_patterns.specs.declared.row.Side.{Side}
use Rattle.first_patterns.specs.declared.row.Side.TheVariants.{Left, Right}
use Rattle.first_rewriting.specs.Typed.{is_left, is_shift_code}
use Rattle.first_rewriting.proofs.Typings.{and_left, and_right, and_both, same_type_is, same_type_refl}

-- ---- exchanged operands

turned : (a b : Bool) → (a && b) ≡ true → (b && a) ≡ true
turned a b h = and_both b a (and_right a b h) (and_left a b h)

compared : (t a b : Ty) → (same_type a b && same_type t bool_type) ≡ true → (same_type b a && same_type t bool_type) ≡ true
compared t a b h =
    let same : a ≡ b = same_type_is a b (and_left (same_type a b) (same_type t bool_type) h) in
    and_both (same_type b a) (same_type t bool_type) (subst (λ u. same_type b u ≡ true) (sym same) (same_type_refl b))
    (and_right (same_type a b) (same_type t bool_type) h)

pub exchanged_fits : (code : Code) (t a b : Ty) → (is_commutative_code code || is_comparison_code code) ≡ true
    → well_typed_binary code t a b ≡ true → well_typed_binary (swapped_code code) t b a ≡ true
exchanged_fits Convert t a b may h = cc
exchanged_fits Plus t a b may h = turned (same_type a t) (same_type b t) h
exchanged_fits Minus t a b may h = cc
exchanged_fits Mult t a b may h = turned (same_type a t) (same_type b t) h
exchanged_fits TruncDiv t a b may h = cc
exchanged_fits TruncMod t a b may h = cc
exchanged_fits Negate t a b may h = cc
exchanged_fits Abs t a b may h = cc
exchanged_fits Absu t a b may h = cc
exchanged_fits BitAnd t a b may h = turned (same_type a t) (same_type b t) h
exchanged_fits BitIor t a b may h = turned (same_type a t) (same_type b t) h
exchanged_fits BitXor t a b may h = turned (same_type a t) (same_type b t) h
exchanged_fits BitNot t a b may h = cc
exchanged_fits Lshift t a b may h = cc
exchanged_fits Rshift t a b may h = cc
exchanged_fits Min t a b may h = turned (same_type a t) (same_type b t) h
exchanged_fits Max t a b may h = turned (same_type a t) (same_type b t) h
exchanged_fits Eq t a b may h = compared t a b h
exchanged_fits Ne t a b may h = compared t a b h
exchanged_fits Lt t a b may h = compared t a b h
exchanged_fits Le t a b may h = compared t a b h
exchanged_fits Gt t a b may h = compared t a b h
exchanged_fits Ge t a b may h = compared t a b h
exchanged_fits Cond t a b may h = cc

-- ---- the type of a value

some_type : (v w : Word) → Some v ≡ Some w → w.ty ≡ v.ty
some_type v w is =
    let same : v ≡ w = cc in
    ap (λ (u : Word). u.ty) (sym same)

choice_type : (b : Bool) (v w : Word) → (if b then Some v else None) ≡ Some w → w.ty ≡ v.ty
choice_type true v w is = some_type v w is
choice_type false v w is = cc

unary_type : (code : Code) (t : Ty) (a w : Word) → well_typed_unary code t a.ty ≡ true → unary_value code t a ≡ Some w → w.ty ≡ t
unary_type Convert t a w typed is = some_type _ w is
unary_type Plus t a w typed is = cc
unary_type Minus t a w typed is = cc
unary_type Mult t a w typed is = cc
unary_type TruncDiv t a w typed is = cc
unary_type TruncMod t a w typed is = cc
unary_type Negate t a w typed is = choice_type _ _ w is
unary_type Abs t a w typed is = choice_type _ _ w is
unary_type Absu t a w typed is = some_type _ w is
unary_type BitAnd t a w typed is = cc
unary_type BitIor t a w typed is = cc
unary_type BitXor t a w typed is = cc
unary_type BitNot t a w typed is = some_type _ w is
unary_type Lshift t a w typed is = cc
unary_type Rshift t a w typed is = cc
unary_type Min t a w typed is = cc
unary_type Max t a w typed is = cc
unary_type Eq t a w typed is = cc
unary_type Ne t a w typed is = cc
unary_type Lt t a w typed is = cc
unary_type Le t a w typed is = cc
unary_type Gt t a w typed is = cc
unary_type Ge t a w typed is = cc
unary_type Cond t a w typed is = cc

truth_type : (t : Ty) (v w : Word) (same : Bool) → v.ty ≡ bool_type → (same && same_type t bool_type) ≡ true → Some v ≡ Some w → w.ty ≡ t
truth_type t v w same of typed is =
    some_type v w is ∙ (of ∙ sym (same_type_is t bool_type (and_right same (same_type t bool_type) typed)))

binary_type : (code : Code) (t : Ty) (a b w : Word) → well_typed_binary code t a.ty b.ty ≡ true
    → binary_value code t a b ≡ Some w → w.ty ≡ t
binary_type Convert t a b w typed is = cc
binary_type Plus t a b w typed is = choice_type _ _ w is
binary_type Minus t a b w typed is = choice_type _ _ w is
binary_type Mult t a b w typed is = choice_type _ _ w is
binary_type TruncDiv t a b w typed is = choice_type _ _ w is
binary_type TruncMod t a b w typed is = choice_type _ _ w is
binary_type Negate t a b w typed is = cc
binary_type Abs t a b w typed is = cc
binary_type Absu t a b w typed is = cc
binary_type BitAnd t a b w typed is = some_type _ w is
binary_type BitIor t a b w typed is = some_type _ w is
binary_type BitXor t a b w typed is = some_type _ w is
binary_type BitNot t a b w typed is = cc
binary_type Lshift t a b w typed is = choice_type _ _ w is
binary_type Rshift t a b w typed is = choice_type _ _ w is
binary_type Min t a b w typed is = some_type _ w is
binary_type Max t a b w typed is = some_type _ w is
binary_type Eq t a b w typed is = truth_type t _ w (same_type a.ty b.ty) refl typed is
binary_type Ne t a b w typed is = truth_type t _ w (same_type a.ty b.ty) refl typed is
binary_type Lt t a b w typed is = truth_type t _ w (same_type a.ty b.ty) refl typed is
binary_type Le t a b w typed is = truth_type t _ w (same_type a.ty b.ty) refl typed is
binary_type Gt t a b w typed is = truth_type t _ w (same_type a.ty b.ty) refl typed is
binary_type Ge t a b w typed is = truth_type t _ w (same_type a.ty b.ty) refl typed is
binary_type Cond t a b w typed is = cc

ternary_type : (code : Code) (t : Ty) (a b c w : Word) → well_typed_ternary code t a.ty b.ty c.ty ≡ true
    → ternary_value code t a b c ≡ Some w → w.ty ≡ t
ternary_type Convert t a b c w typed is = cc
ternary_type Plus t a b c w typed is = cc
ternary_type Minus t a b c w typed is = cc
ternary_type Mult t a b c w typed is = cc
ternary_type TruncDiv t a b c w typed is = cc
ternary_type TruncMod t a b c w typed is = cc
ternary_type Negate t a b c w typed is = cc
ternary_type Abs t a b c w typed is = cc
ternary_type Absu t a b c w typed is = cc
ternary_type BitAnd t a b c w typed is = cc
ternary_type BitIor t a b c w typed is = cc
ternary_type BitXor t a b c w typed is = cc
ternary_type BitNot t a b c w typed is = cc
ternary_type Lshift t a b c w typed is = cc
ternary_type Rshift t a b c w typed is = cc
ternary_type Min t a b c w typed is = cc
ternary_type Max t a b c w typed is = cc
ternary_type Eq t a b c w typed is = cc
ternary_type Ne t a b c w typed is = cc
ternary_type Lt t a b c w typed is = cc
ternary_type Le t a b c w typed is = cc
ternary_type Gt t a b c w typed is = cc
ternary_type Ge t a b c w typed is = cc
ternary_type Cond t a b c w typed is =
    let both = and_left (same_type a.ty bool_type && same_type b.ty t) (same_type c.ty t) typed in
    let b_type = same_type_is b.ty t (and_right (same_type a.ty bool_type) (same_type b.ty t) both) in
    let c_type = same_type_is c.ty t (and_right (same_type a.ty bool_type && same_type b.ty t) (same_type c.ty t) typed) in
    (elim (a.bits == 1) as (λ d. (if d then Some b else Some c) ≡ Some w → w.ty ≡ t) [
      | true ↦ λ h. some_type b w h
          ∙ b_type
      | false ↦ λ h. some_type c w h ∙ c_type
    ]) is

-- the type of a word
abbrev pub word_type : Word → Ty
word_type w = w.ty

pub value_type : (code : Code) (t : Ty) (words : List Word) (w : Word)
    → well_typed_operation code t (map word_type words) ≡ true → operation_value code t words ≡ Some w → w.ty ≡ t
unfolding operation_value well_typed_operation
value_type code t [] w typed is = cc
value_type code t (a ∷ []) w typed is = unary_type code t a w typed is
value_type code t (a ∷ b ∷ []) w typed is = binary_type code t a b w typed is
value_type code t (a ∷ b ∷ c ∷ []) w typed is = ternary_type code t a b c w typed is
value_type code t (a ∷ b ∷ c ∷ d ∷ words) w typed is = cc

-- ---- the type of an operand that a row gives

abbrev pub side_type : Side → Ty → Ty → Ty
side_type Left a b = a
side_type Right a b = b

either : (side : Side) (t a b : Ty) → (same_type a t && same_type b t) ≡ true → side_type side a b ≡ t
either Left t a b h = same_type_is a t (and_left (same_type a t) (same_type b t) h)
either Right t a b h = same_type_is b t (and_right (same_type a t) (same_type b t) h)

shifted : (side : Side) (t a b : Ty) → is_left side ≡ true → same_type a t ≡ true → side_type side a b ≡ t
shifted Left t a b left h = same_type_is a t h
shifted Right t a b left h = cc

pub row_type : (code : Code) (side : Side) (t a b : Ty)
    → (not (is_comparison_code code) && (not (is_shift_code code) || is_left side)) ≡ true
    → well_typed_binary code t a b ≡ true → side_type side a b ≡ t
row_type Convert side t a b keeps h = cc
row_type Plus side t a b keeps h = either side t a b h
row_type Minus side t a b keeps h = either side t a b h
row_type Mult side t a b keeps h = either side t a b h
row_type TruncDiv side t a b keeps h = either side t a b h
row_type TruncMod side t a b keeps h = either side t a b h
row_type Negate side t a b keeps h = cc
row_type Abs side t a b keeps h = cc
row_type Absu side t a b keeps h = cc
row_type BitAnd side t a b keeps h = either side t a b h
row_type BitIor side t a b keeps h = either side t a b h
row_type BitXor side t a b keeps h = either side t a b h
row_type BitNot side t a b keeps h = cc
row_type Lshift side t a b keeps h = shifted side t a b keeps h
row_type Rshift side t a b keeps h = shifted side t a b keeps h
row_type Min side t a b keeps h = either side t a b h
row_type Max side t a b keeps h = either side t a b h
row_type Eq side t a b keeps h = cc
row_type Ne side t a b keeps h = cc
row_type Lt side t a b keeps h = cc
row_type Le side t a b keeps h = cc
row_type Gt side t a b keeps h = cc
row_type Ge side t a b keeps h = cc
row_type Cond side t a b keeps h = cc
