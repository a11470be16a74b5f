-- The locals that declarations add, and overflow flags.
use Rattle.std.specs.Prelude.{ℕ, Bool, false, ℤ, neg_ℤ, ◌+ℤ◌, ◌-ℤ◌, ◌*ℤ◌, List, [], ◌∷◌, ◌++◌, map, Option, Some, None, ◌<◌, ◌≤◌, ◌^◌}
use Rattle.std.specs.Option.{option_map, option_and_then}
use Rattle.pd_ast.specs.declared.c_text.CDecl.{CDecl}
use Rattle.pd_ast.specs.declared.c_text.CExpr.{CExpr, out-CExpr}
use Rattle.pd_ast.specs.declared.c_text.CNode.{CNode, CNode-F, out-CNode}
use Rattle.pd_ast.specs.declared.c_text.CNode.TheOpen as node
use Rattle.pd_ast.specs.declared.call.Call.{Call}
use Rattle.pd_ast.specs.declared.call.Call.TheVariants.{Add, Sub, Mul, Neg}
use Rattle.pd_ast.specs.Calls.{call_named}
use Rattle.pm_ops.specs.Names.{Name}
use Rattle.cond_eval.specs.declared.environment.CEnv.{CEnv}
use Rattle.cond_eval.specs.declared.flagged.Flagged.{Flagged}
use Rattle.cond_eval.specs.declared.pair.Pair.{Pair}
use Rattle.cond_eval.specs.declared.value.CValue.{CValue}
use Rattle.cond_eval.specs.declared.value.CValue.TheVariants.{Truth, WideRef, Sign}
use Rattle.cond_eval.specs.CValues.{c_value}
use Rattle.cond_eval.specs.Values.{on_three, words_of}
use Rattle.cond_eval.specs.Words.{read, exactly}

-- a word with a flag
abbrev pub flagged : ℕ → ℕ × Bool → Option Flagged
flagged precision r = Some (record { precision = precision; bits = r.0; overflow = r.1 })

abbrev pub IsFlagged : Flagged → Type 0
IsFlagged f = (0 < f.precision) × (f.precision ≤ 128) × (f.bits < 2 ^ f.precision)

-- the word of an exact result of two words that are read by a sign, and whether the result is
-- outside the range of their precision
abbrev pub exact_on : (ℤ → ℤ → ℤ) → Bool → Pair → Option Flagged
exact_on f u w =
    flagged w.precision
    (exactly u w.precision (f (read u w.precision w.left) (read u w.precision w.right)))

abbrev pub exact_call : Call → Bool → Pair → Option Flagged
exact_call Add u w = exact_on (λ x y. x +ℤ y) u w
exact_call Sub u w = exact_on (λ x y. x -ℤ y) u w
exact_call Mul u w = exact_on (λ x y. x *ℤ y) u w
exact_call _ u w = None

-- the same of one word, read with a sign
abbrev pub exact_negative : Call → ℕ → ℕ → Option Flagged
exact_negative Neg p a = flagged p (exactly false p (neg_ℤ (read false p a)))
exact_negative _ p a = None

-- by the arguments: a word, or two words and a sign
abbrev pub flagged_one : Call → CValue → Option Flagged
flagged_one call (WideRef p a) = exact_negative call p a
flagged_one call _ = None

abbrev pub flagged_three : Call → CValue → CValue → CValue → Option Flagged
flagged_three call a b (Sign u) = option_and_then (exact_call call u) (words_of a b)
flagged_three call a b _ = None

abbrev pub flagged_call : Call → List (Option CValue) → Option Flagged
flagged_call call (a ∷ []) = option_and_then (flagged_one call) a
flagged_call call (a ∷ b ∷ c ∷ []) = on_three (flagged_three call) a b c
flagged_call call _ = None

-- a call whose last argument is a flag; here stand the others
abbrev pub flagged_named : Name → List (Option CValue) → Option Flagged
flagged_named name args = option_and_then (λ call. flagged_call call args) (call_named name)

abbrev pub flagged_node : CEnv → CNode-F CNode CExpr → Option Flagged
flagged_node env (node.Call name args) = flagged_named name (map (c_value env) args)
flagged_node env _ = None

abbrev pub flagged_value : CEnv → CExpr → Option Flagged
flagged_value env expr = flagged_node env (out-CNode (out-CExpr expr).node)

abbrev pub flag_and_word : Name → Name → Flagged → List (Name × CValue)
flag_and_word flag name r = (flag, Truth r.overflow) ∷ (name, WideRef r.precision r.bits) ∷ []

-- what a declaration adds: an overflow flag nothing, until a call sets it; that call the flag, and
-- then the word
abbrev pub added : CEnv → Name → Option CExpr → Option Name → Option (List (Name × CValue))
added env name None overflow = Some []
added env name (Some expr) None = option_map (λ v. (name, v) ∷ []) (c_value env expr)
added env name (Some expr) (Some flag) =
    option_map (flag_and_word flag name) (flagged_value env expr)

abbrev pub with_locals : CEnv → List (Name × CValue) → CEnv
with_locals env new = record {
  captures = env.captures;
  locals = env.locals ++ new;
  ty = env.ty;
  uses = env.uses;
}

abbrev pub after_one : CEnv → CDecl → Option CEnv
after_one env decl = option_map (with_locals env) (added env decl.name decl.value decl.overflow)

-- the environment after declarations, in order
abbrev pub locals_after : List CDecl → CEnv → Option CEnv
locals_after [] env = Some env
locals_after (d ∷ ds) env = option_and_then (locals_after ds) (after_one env d)
