-- The term of a draft has the draft's type.
use Rattle.std.proofs.Common.{◌≡◌, Bool, true, false, cond, Option, Some, None, List, [], ◌∷◌, map, refl, ap, sym, ◌∙◌}
use Rattle.std.specs.Option.{option_or}
use Rattle.std.proofs.lemmas.Bool.{and_parts, both_ways}
use Rattle.std.proofs.lemmas.Option.{same_Some, none-some}
use Rattle.pm_ops.specs.declared.code.Code.{Code}
use Rattle.pm_ops.specs.declared.code.Code.TheVariants.{Convert}
use Rattle.pm_ops.specs.Codes.{same_code}
use Rattle.pm_wide.specs.declared.operand.Operand.TheVariants.{Name, Const}
use Rattle.pm_wide.specs.Types.{Ty, same_type}
use Rattle.pm_wide.specs.Typing.{well_typed_operation}
use Rattle.pm_term.specs.Trees.{Tree, node, trees, type_of, leaf as operand_tree}
use Rattle.result_types.specs.declared.draft.Head.{Head}
use Rattle.result_types.specs.Drafts.{Shape, leaf, one, two, three}
use Rattle.result_types.specs.OwnTypes.{own, type_in}
use Rattle.result_build.specs.TypedResults.{asked, converted, is_dropped, operation, on_one, on_two, on_three, typed}
use Rattle.result_build.proofs.SameTypes.{same_type_is}

-- an operation that is made has its type
made_type : (code : Code) (u : Ty) (args : List Tree) (t : Tree) → operation code u args ≡ Some t → Some u ≡ Some (type_of t)
made_type code u args t made =
    elim (well_typed_operation code u (map type_of args)) as (λ b. cond b (Some (node code u (trees args))) None ≡ Some t → Some u ≡ Some (type_of t))
    [ true ↦ λ e. ap (λ (x : Tree). Some (type_of x)) (same_Some (node code u (trees args)) t e) | false ↦ λ e. absurd (none-some t e) ] made

on_one_type : (code : Code) (ty : Option Ty) (a : Option Tree) (t : Tree) → on_one code ty a ≡ Some t → ty ≡ Some (type_of t)
on_one_type code None a t made = absurd (none-some t made)
on_one_type code (Some u) None t made = absurd (none-some t made)
on_one_type code (Some u) (Some x) t made = made_type code u (x ∷ []) t made

on_two_type : (code : Code) (ty : Option Ty) (a b : Option Tree) (t : Tree) → on_two code ty a b ≡ Some t → ty ≡ Some (type_of t)
on_two_type code None a b t made = absurd (none-some t made)
on_two_type code (Some u) None b t made = absurd (none-some t made)
on_two_type code (Some u) (Some x) None t made = absurd (none-some t made)
on_two_type code (Some u) (Some x) (Some y) t made = made_type code u (x ∷ y ∷ []) t made

on_three_type : (code : Code) (ty : Option Ty) (a b c : Option Tree) (t : Tree) → on_three code ty a b c ≡ Some t → ty ≡ Some (type_of t)
on_three_type code None a b c t made = absurd (none-some t made)
on_three_type code (Some u) None b c t made = absurd (none-some t made)
on_three_type code (Some u) (Some x) None c t made = absurd (none-some t made)
on_three_type code (Some u) (Some x) (Some y) None t made = absurd (none-some t made)
on_three_type code (Some u) (Some x) (Some y) (Some z) t made = made_type code u (x ∷ y ∷ z ∷ []) t made

-- what a dropped conversion converts has the conversion's type, whatever is asked for
dropped_type : (code : Code) (ty had wanted : Option Ty) (v : Ty) → is_dropped code ty had ≡ true → option_or had wanted ≡ Some v → ty ≡ Some v
dropped_type code None had wanted v dropped has = absurd (both_ways false refl dropped)
dropped_type code (Some u) None wanted v dropped has = absurd (both_ways false refl dropped)
dropped_type code (Some u) (Some w) wanted v dropped has =
    ap (λ (x : Ty). Some x) (sym (same_type_is w u (and_parts (same_code code Convert) (same_type w u) dropped).1)) ∙ has

converted_type : (code : Code) (ty wanted : Option Ty) (a : Shape) (t : Tree) → ((v : Tree) → typed wanted a ≡ Some v → type_in wanted a ≡ Some (type_of v))
    → converted code ty (own a) (typed wanted a) ≡ Some t → ty ≡ Some (type_of t)
converted_type code ty wanted a t below made = by (is_dropped code ty (own a)) refl made
  where
    by : (b : Bool) → is_dropped code ty (own a) ≡ b → cond b (typed wanted a) (on_one code ty (typed wanted a)) ≡ Some t → ty ≡ Some (type_of t)
    by true dropped e = dropped_type code ty (own a) wanted (type_of t) dropped (below t e)
    by false kept e = on_one_type code ty (typed wanted a) t e

pub term_type : (wanted : Option Ty) (s : Shape) (t : Tree) → typed wanted s ≡ Some t → type_in wanted s ≡ Some (type_of t)
term_type wanted (leaf (Name version ty)) t made = ap (λ (x : Tree). Some (type_of x)) (same_Some (operand_tree (Name version ty)) t made)
term_type wanted (leaf (Const word)) t made = ap (λ (x : Tree). Some (type_of x)) (same_Some (operand_tree (Const word)) t made)
term_type wanted (one head a) t made =
    let inner = (asked head.code (type_in wanted (one head a)) (own a) None).0 in
    converted_type head.code (type_in wanted (one head a)) inner a t (λ v e. term_type inner a v e) made
term_type wanted (two head a b) t made =
    let asks = asked head.code (type_in wanted (two head a b)) (own a) (own b) in
    on_two_type head.code (type_in wanted (two head a b)) (typed asks.0 a) (typed asks.1 b) t made
term_type wanted (three head a b c) t made =
    let asks = asked head.code (type_in wanted (three head a b c)) (own a) (own b) in
    on_three_type head.code (type_in wanted (three head a b c)) (typed asks.0 a) (typed asks.1 b) (typed asks.2 c) t made
