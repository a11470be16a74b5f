-- The operation that a row gives has the subject's type.
use Rattle.std.proofs.Common.{◌≡◌, Bool, true, false, cond, Option, Some, None, List, [], refl, sym, subst, ◌∙◌}
use Rattle.std.specs.Option.{option_map, option_and_then}
use Rattle.std.proofs.lemmas.Option.{same_Some, none-some, option_and_then_some}
use Rattle.pm_wide.specs.declared.operand.Operand.TheVariants.{Name, Const}
use Rattle.pm_wide.specs.Types.{Ty}
use Rattle.pm_term.specs.Trees.{Tree, name, constant, node, type_of, leaf as operand_tree}
use Rattle.pd_ast.specs.declared.result.Out.{Out}
use Rattle.pattern_rows.specs.declared.caps.Caps.{Caps}
use Rattle.pattern_rows.specs.Places.{outermost}
use Rattle.cond_eval.specs.declared.environment.CEnv.{CEnv}
use Rattle.result_types.specs.declared.draft.Head.{Head}
use Rattle.result_types.specs.Drafts.{Shape, leaf, one, two, three}
use Rattle.result_types.specs.OwnTypes.{type_in}
use Rattle.result_build.specs.declared.raw.Raw.{Raw}
use Rattle.result_build.specs.Given.{given}
use Rattle.result_build.specs.Marks.{marks}
use Rattle.result_build.specs.RawResults.{OperationHas, body_of, raw, raw_of, raw_of_typed, raw_result}
use Rattle.result_build.specs.TypedResults.{may_be, typed}
use Rattle.result_build.proofs.TermTypes.{term_type}

body_has : (t : Ty) (tree : Tree) → type_of tree ≡ t → OperationHas t (body_of tree)
body_has t (name version ty) has = tt
body_has t (constant word) has = tt
body_has t (node code ty args) has = has

typed_has : (t : Ty) (s : Shape) (r : Raw) → type_in None s ≡ Some t → raw_of_typed s ≡ Some r → OperationHas t r.body
typed_has t s r has made = by (typed None s) refl made
  where
    by : (o : Option Tree) → typed None s ≡ o → option_map (λ tree. raw tree (marks None outermost s)) o ≡ Some r → OperationHas t r.body
    by None is e = absurd (none-some r e)
    by (Some tree) is e =
        subst (λ (x : Raw). OperationHas t x.body) (same_Some (raw tree (marks None outermost s)) r e)
        (body_has t tree (sym (same_Some t (type_of tree) (sym has ∙ term_type None s tree is))))

-- a head of the subject's type
abbrev typed_head : Ty → Head → Head
typed_head t head = record { code = head.code; must_fold = head.must_fold; ty = Some t }

operation_has : (t : Ty) (head : Head) (shape : Head → Shape) (r : Raw) → type_in None (shape (typed_head t head)) ≡ Some t
    → option_and_then raw_of_typed (option_map shape (cond (may_be t head.ty) (Some (typed_head t head)) None)) ≡ Some r → OperationHas t r.body
operation_has t head shape r has made = by (may_be t head.ty) made
  where
    by : (b : Bool) → option_and_then raw_of_typed (option_map shape (cond b (Some (typed_head t head)) None)) ≡ Some r → OperationHas t r.body
    by true e = typed_has t (shape (typed_head t head)) r has e
    by false e = absurd (none-some r e)

raw_has : (t : Ty) (s : Shape) (r : Raw) → raw_of t s ≡ Some r → OperationHas t r.body
raw_has t (leaf (Name version ty)) r made = subst (λ (x : Raw). OperationHas t x.body) (same_Some (raw (operand_tree (Name version ty)) []) r made) tt
raw_has t (leaf (Const word)) r made = subst (λ (x : Raw). OperationHas t x.body) (same_Some (raw (operand_tree (Const word)) []) r made) tt
raw_has t (one head a) r made = operation_has t head (λ h. one h a) r refl made
raw_has t (two head a b) r made = operation_has t head (λ h. two h a b) r refl made
raw_has t (three head a b c) r made = operation_has t head (λ h. three h a b c) r refl made

pub result_has : (out : Out) (caps : Caps) (env : CEnv) (r : Raw) → raw_result out caps env ≡ Some r → OperationHas env.ty r.body
result_has out caps env r made =
    option_and_then_some (raw_of env.ty) (given caps out env) r made (λ s is e. raw_has env.ty s r e)
