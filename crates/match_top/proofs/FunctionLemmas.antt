-- What a fault of the check on readability says.
use Rattle.std.proofs.Common.{◌≡◌, ◌⊎◌, ℕ, List, [], ◌∷◌, ◌++◌, ◌≤◌, ◌-◌, length, get_or, take, drop, arith, refl, sym, ap, subst, ◌∙◌, inl, inr}
use Rattle.std.proofs.lemmas.List.{take_all}
use Rattle.gim_ast.specs.WellFormed.{IsWellFormed}
use Rattle.std.specs.List.{AllByRecursion}
use Rattle.gim_ast.specs.declared.function.Function.{Function}
use Rattle.gim_ast.specs.Readable.{IsValid, IsFirstUnreadable}
use Rattle.gim_ssa.specs.Checking.{IsFaultOf}
use Rattle.gim_ssa.specs.declared.fault.CheckFault.{CheckFault}
use Rattle.gim_ssa.specs.declared.fault.CheckFault.TheVariants.{NotReadable}
use Rattle.match_top.specs.Answer.{refusal, OrMemory}
use Rattle.gim_text.specs.declared.fault.GimpleFault.{GimpleFault}
use Rattle.gim_text.specs.declared.fault.GimpleKind.{GimpleKind}
use Rattle.gim_text.specs.declared.fault.GimpleKind.TheVariants as kinds
use Rattle.gim_reader.specs.Files as files
use Rattle.gim_reader.specs.Files.{IsFile}
use Rattle.match_top.specs.Functions.{by_fault, by_unreadable, gimple_fault_text, unreadable_text}
use Rattle.match_top.specs.Given.{IsRefusal}
use Rattle.match_top.specs.Invalid.{EndsAtUnreadable, EndsAtInvalid, EndsAtFault}
use Rattle.match_top.specs.declared.answer.Stop.{Stop}
use Rattle.match_top.specs.declared.answer.Stop.TheVariants.{Memory}
use Rattle.match_top.specs.declared.needs.Kind.TheVariants.{Functions}
use Rattle.match_top.specs.declared.status.Cause.TheVariants.{BadFunctions}

pub ends_at : (f : Function) (fault : CheckFault) (block item name : ℕ) (stop : Stop) → fault ≡ NotReadable block item name → IsFaultOf f fault
    → (stop ≡ refusal BadFunctions (unreadable_text f block item name)) ⊎ (stop ≡ Memory) → (stop ≡ Memory) ⊎ EndsAtUnreadable f stop
ends_at f fault block item name stop is fault_of (inl e) =
    let first : IsFirstUnreadable f block item name = subst (IsFaultOf f) is fault_of in
    inr (record { block = block; item = item; name = name; unreadable = first; answered = e })
ends_at f fault block item name stop is fault_of (inr e) = inl e

-- where those before it are valid, a function that isn't is the first
pub ends_first : (fs before after : List Function) (f : Function) (stop : Stop) → fs ≡ before ++ f ∷ after → AllByRecursion IsValid before
    → (stop ≡ Memory) ⊎ EndsAtUnreadable f stop → (stop ≡ Memory) ⊎ EndsAtInvalid fs stop
ends_first fs before after f stop in_order valid (inl e) = inl e
ends_first fs before after f stop in_order valid (inr u) = inr (record {
  function = f;
  block = u.block;
  item = u.item;
  name = u.name;
  first = record { before = before; after = after; in_order = in_order; valid_before = valid; unreadable = u.unreadable };
  answered = u.answered;
})

pub one_more_valid : (before : List Function) (f : Function) → AllByRecursion IsValid before → IsValid f → AllByRecursion IsValid (before ++ f ∷ [])
one_more_valid [] f valid here = (here, tt)
one_more_valid (b ∷ before) f valid here = (valid.0, one_more_valid before f valid.1 here)

pub moved : (before : List Function) (f : Function) (after : List Function) → before ++ f ∷ after ≡ (before ++ f ∷ []) ++ after
moved [] f after = refl
moved (b ∷ before) f after = ap (λ l. b ∷ l) (moved before f after)

pub all_before : (fs before : List Function) → fs ≡ before ++ [] → AllByRecursion IsValid before → AllByRecursion IsValid fs
all_before fs before e valid = subst (AllByRecursion IsValid) (sym (e ∙ nothing before)) valid where
  nothing : (l : List Function) → l ++ [] ≡ l
  nothing [] = refl
  nothing (x ∷ l) = ap (λ k. x ∷ k) (nothing l)

-- those of the functions that were judged are valid, and the rest is well formed
abbrev pub Judged : List Function → List Function → Type 0
Judged fs rest = AllByRecursion IsWellFormed rest × ((before : List Function) × (fs ≡ before ++ rest) × AllByRecursion IsValid before)

cut : (rest : List Function) (f : Function) → 1 ≤ length rest → f ≡ get_or rest 0 f → rest ≡ f ∷ take (length rest - 1) (drop 1 rest)
cut [] f some is = absurd (omega (arith, some))
cut (g ∷ rest) f some is = let whole : take (length (g ∷ rest) - 1) rest ≡ rest = take_all (length (g ∷ rest) - 1) rest (omega arith) in rw (is, whole) refl

pub well_formed_first : (fs rest : List Function) (f : Function) → 1 ≤ length rest → f ≡ get_or rest 0 f → Judged fs rest → IsWellFormed f
well_formed_first fs rest f some is judged = (subst (AllByRecursion IsWellFormed) (cut rest f some is) judged.0).0

pub next_valid : (fs rest : List Function) (f : Function) → 1 ≤ length rest → f ≡ get_or rest 0 f → Judged fs rest → IsValid f → Judged fs (take (length rest - 1) (drop 1 rest))
next_valid fs rest f some is judged here =
    let after = take (length rest - 1) (drop 1 rest) in
    let before = judged.1.0 in (
      (subst (AllByRecursion IsWellFormed) (cut rest f some is) judged.0).1,
      (before ++ f ∷ [], judged.1.1 ∙ ap (λ l. before ++ l) (cut rest f some is) ∙ moved before f after, one_more_valid before f judged.1.2 here),
    )

pub ends_at_first : (fs rest : List Function) (f : Function) (stop : Stop) → 1 ≤ length rest → f ≡ get_or rest 0 f → Judged fs rest
    → (stop ≡ Memory) ⊎ EndsAtUnreadable f stop → (stop ≡ Memory) ⊎ EndsAtInvalid fs stop
ends_at_first fs rest f stop some is judged ends =
    ends_first fs judged.1.0 (take (length rest - 1) (drop 1 rest)) f stop (judged.1.1 ∙ ap (λ l. judged.1.0 ++ l) (cut rest f some is)) judged.1.2 ends

-- ---- refused files

pub refused_invalid : (source : List ℕ) (fs seen : List Function) (stop : Stop) → IsFile source fs → seen ≡ fs → (stop ≡ Memory) ⊎ EndsAtInvalid seen stop
    → IsRefusal Functions source stop ⊎ (stop ≡ Memory)
refused_invalid source fs seen stop stands same (inl e) = inr e
refused_invalid source fs seen stop stands same (inr u) = inl (record {
  text = unreadable_text u.function u.block u.item u.name;
  refused = by_unreadable seen u.function u.block u.item u.name (subst (IsFile source) (sym same) stands) u.first refl;
  answered = u.answered;
})

pub refused_fault : (source : List ℕ) (fault : GimpleFault) (stop : Stop) → files.IsRefusal source fault → EndsAtFault fault.kind source fault stop
    → IsRefusal Functions source stop ⊎ (stop ≡ Memory)
refused_fault source fault stop why h = by fault.kind refl h why where
  other : (kind : GimpleKind) → fault.kind ≡ kind → (kind ≡ kinds.Memory → ⊥) → OrMemory (refusal BadFunctions (gimple_fault_text source fault)) stop → files.IsRefusal source fault
      → IsRefusal Functions source stop ⊎ (stop ≡ Memory)
  other kind is apart (inr e) r = inr e
  other kind is apart (inl e) (files.by_memory m) = absurd (apart (sym is ∙ m))
  other kind is apart (inl e) (files.by_fault f) = inl (record { text = gimple_fault_text source fault; refused = by_fault fault f refl; answered = e })

  by : (kind : GimpleKind) → fault.kind ≡ kind → EndsAtFault kind source fault stop → files.IsRefusal source fault → IsRefusal Functions source stop ⊎ (stop ≡ Memory)
  by kinds.Memory is h r = inr h
  by kind is h r = other kind is (λ e. cc) h r
