-- Operations that have a value on all words of their operands' types, or by a constant.
use Rattle.std.proofs.Common.{◌≡◌, ◌^◌, ◌<◌, ◌==◌, Bool, true, false, not, cond, ◌&&◌, ◌||◌, Some, None, List, [], ◌∷◌, map, refl, sym, ap, subst, ◌∙◌, arith}
use Rattle.std.specs.Prelude.{ℤ, pos, negsuc, ◌+ℤ◌, ◌-ℤ◌, ◌*ℤ◌, neg_ℤ, All, IsSome, IsTrue, nat_lt}
use Rattle.std.proofs.lemmas.Bool.{and_parts}
use Rattle.std.proofs.lemmas.Bool.Decides.{nat_tests}
use Rattle.std.proofs.lemmas.List.Elements.{All-head, All-tail}
use Rattle.pm_ops.specs.declared.code.Code.{Code}
use Rattle.pm_ops.specs.declared.code.Code.TheVariants.{Convert, Plus, Minus, Mult, TruncDiv, TruncMod, Negate, Abs, Absu, BitAnd, BitIor, BitXor, BitNot, Lshift, Rshift, Min, Max, Eq, Ne, Lt, Le, Gt, Ge, Cond}
use Rattle.pm_wide.specs.Operations.{exact, divides, shifts, int_same, operation_value, unary_value, binary_value, ternary_value}
use Rattle.pm_wide.specs.Types.{Ty, Word, IsType, IsWord, value, word, in_range, least, same_type, bool_type}
use Rattle.pm_wide.specs.Typing.{well_typed_operation, well_typed_unary, well_typed_binary, well_typed_ternary}
use Rattle.pm_wide.proofs.Partial.{divides_is}
use Rattle.pm_wide.proofs.Results.{same_type_is}
use Rattle.pm_wide.proofs.Values.{width_positive}
use Rattle.pm_wide.proofs.Words.{value_in_range}
use Rattle.justify.specs.DefinedByRule.{has_truth_count, always_has_value, IsFineConstant}
use Rattle.justify.proofs.FineConstants.{place_is}

chosen : {X : Type 0} (b : Bool) (x y : X) → IsSome (cond b (Some x) (Some y))
chosen true x y = refl
chosen false x y = refl

where_true : {X : Type 0} (b : Bool) (x : X) → b ≡ true → IsSome (cond b (Some x) None)
where_true true x h = refl
where_true false x h = cc

unsigned_some : (ty : Ty) (z : ℤ) → ty.unsigned ≡ true → IsSome (exact ty z)
unsigned_some ty z h = where_true (ty.unsigned || in_range ty z) (word ty z) (ap (λ b. b || in_range ty z) h)

truth_below : (ty s : Ty) (b : Word) → IsType ty → IsWord b → has_truth_count ty (s ∷ b.ty ∷ []) ≡ true → shifts ty (value b) ≡ true
truth_below ty s b k h e =
    let parts = and_parts (same_type b.ty bool_type) (not (ty.width == 1)) e in
    let small : b.bits < 2 = subst (λ (t : Ty). b.bits < 2 ^ t.width) (same_type_is b.ty bool_type parts.0) h.0 in
    let some = width_positive ty k in
    let within : nat_lt b.bits ty.width ≡ true = grind (arith, nat_tests, small, some, parts.1) in
    sym (place_is ty b k h) ∙ within

always_unary : (code : Code) (ty : Ty) (a : Word) → IsTrue (well_typed_unary code ty a.ty) → IsTrue (always_has_value code ty (a.ty ∷ [])) → IsSome (unary_value code ty a)
always_unary Convert ty a w h = refl
always_unary Negate ty a w h = unsigned_some ty (neg_ℤ (value a)) h
always_unary Abs ty a w h = cc
always_unary Absu ty a w h = refl
always_unary BitNot ty a w h = refl
always_unary _ ty a w h = cc

always_binary : (code : Code) (ty : Ty) (a b : Word) → IsType ty → IsWord b → IsTrue (well_typed_binary code ty a.ty b.ty) → IsTrue (always_has_value code ty (a.ty ∷ b.ty ∷ [])) → IsSome (binary_value code ty a b)
always_binary Plus ty a b k i w h = unsigned_some ty (value a +ℤ value b) h
always_binary Minus ty a b k i w h = unsigned_some ty (value a -ℤ value b) h
always_binary Mult ty a b k i w h = unsigned_some ty (value a *ℤ value b) h
always_binary TruncDiv ty a b k i w h = cc
always_binary TruncMod ty a b k i w h = cc
always_binary BitAnd ty a b k i w h = refl
always_binary BitIor ty a b k i w h = refl
always_binary BitXor ty a b k i w h = refl
always_binary Lshift ty a b k i w h = where_true (shifts ty (value b)) _ (truth_below ty a.ty b k i h)
always_binary Rshift ty a b k i w h = where_true (shifts ty (value b)) _ (truth_below ty a.ty b k i h)
always_binary Min ty a b k i w h = refl
always_binary Max ty a b k i w h = refl
always_binary Eq ty a b k i w h = refl
always_binary Ne ty a b k i w h = refl
always_binary Lt ty a b k i w h = refl
always_binary Le ty a b k i w h = refl
always_binary Gt ty a b k i w h = refl
always_binary Ge ty a b k i w h = refl
always_binary _ ty a b k i w h = cc

always_ternary : (code : Code) (ty : Ty) (a b c : Word) → IsTrue (well_typed_ternary code ty a.ty b.ty c.ty) → IsSome (ternary_value code ty a b c)
always_ternary Cond ty a b c w = chosen (a.bits == 1) b c
always_ternary _ ty a b c w = cc

-- the table is right: on all words of its operands' types
pub always_some : (code : Code) (ty : Ty) (ws : List Word) → IsType ty → IsTrue (well_typed_operation code ty (map (λ (w : Word). w.ty) ws)) → IsTrue (always_has_value code ty (map (λ (w : Word). w.ty) ws)) → All IsWord ws
    → IsSome (operation_value code ty ws)
unfolding operation_value well_typed_operation
always_some code ty [] k w h i = cc
always_some code ty (a ∷ []) k w h i = always_unary code ty a w h
always_some code ty (a ∷ b ∷ []) k w h i = always_binary code ty a b k (All-head IsWord b [] (All-tail IsWord a (b ∷ []) i)) w h
always_some code ty (a ∷ b ∷ c ∷ []) k w h i = always_ternary code ty a b c w
always_some code ty (a ∷ b ∷ c ∷ d ∷ ws) k w h i = cc

own_range : (ty : Ty) (a : Word) → IsWord a → a.ty ≡ ty → IsTrue (in_range ty (value a))
own_range ty a h e = subst (λ (t : Ty). IsTrue (in_range t (value a))) e (value_in_range a.ty a.bits (width_positive a.ty h.1) h.0)

not_minus_one : (a b c d : Bool) → (not a && not d) ≡ true → (not a && not (b && (c && d))) ≡ true
not_minus_one true b c d h = cc
not_minus_one false true true true h = cc
not_minus_one false true true false h = refl
not_minus_one false true false d h = refl
not_minus_one false false c d h = refl

divides_by : (ty : Ty) (a b : Word) → IsType ty → IsWord a → IsWord b → IsTrue (same_type a.ty ty && same_type b.ty ty) → (not (int_same (value b) (pos 0)) && not (int_same (value b) (negsuc 0))) ≡ true → divides ty (value a) (value b) ≡ true
divides_by ty a b k i j w h =
    let types = and_parts (same_type a.ty ty) (same_type b.ty ty) w in
    divides_is ty (value a) (value b) k (own_range ty a i (same_type_is a.ty ty types.0)) (own_range ty b j (same_type_is b.ty ty types.1))
    ∙ not_minus_one (int_same (value b) (pos 0)) (not ty.unsigned) (int_same (value a) (least ty)) (int_same (value b) (negsuc 0)) h

-- a shift or a division by such a constant
pub fine_some : (code : Code) (ty : Ty) (a b : Word) → IsType ty → IsWord a → IsWord b → IsTrue (well_typed_binary code ty a.ty b.ty) → IsFineConstant code ty b → IsSome (binary_value code ty a b)
fine_some Lshift ty a b k i j w h = where_true (shifts ty (value b)) _ h
fine_some Rshift ty a b k i j w h = where_true (shifts ty (value b)) _ h
fine_some TruncDiv ty a b k i j w h = where_true (divides ty (value a) (value b)) _ (divides_by ty a b k i j w h)
fine_some TruncMod ty a b k i j w h = where_true (divides ty (value a) (value b)) _ (divides_by ty a b k i j w h)
fine_some _ ty a b k i j w h = absurd h
