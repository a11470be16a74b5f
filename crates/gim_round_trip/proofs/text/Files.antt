-- The printed text of functions is cut into tokens that spell trees which write these functions.
use Rattle.std.proofs.Common.{◌≡◌, ℕ, List, [], ◌∷◌, length, drop, inl, inr, refl, sym, ap, subst, arith}
use Rattle.std.specs.List.{AllByRecursion, AllZip}
use Rattle.std.proofs.lemmas.List.{append-nil, length-drop}
use Rattle.gim_ast.specs.declared.function.Function.{Function}
use Rattle.gim_printer.specs.Printing.{function_text, text}
use Rattle.gim_ast.specs.WellFormed.{IsWellFormed}
use Rattle.gim_text.specs.declared.token.Token.{Token}
use Rattle.gim_text.specs.declared.tree.FunctionText.{FunctionText}
use Rattle.gim_lexer.specs.Cuts.{Cuts, AreTokens}
use Rattle.gim_text.proofs.Membership.{Has, each_has}
use Rattle.gim_syntax.specs.Grammar.{SpellsFunction, SpellsFile}
use Rattle.gim_round_trip.specs.ReadBack.{IsWithinLimits}
use Rattle.gim_round_trip.proofs.text.RestOfSource.{Left, left_at_start}
use Rattle.gim_round_trip.proofs.text.Prints.{any_end, Prints, joined, seen, blanks_before}
use Rattle.gim_round_trip.proofs.text.Sequences.{many, nothing_prints}
use Rattle.gim_round_trip.proofs.text.Functions.{function_prints}
use Rattle.gim_round_trip.proofs.tree.Writes.{Writes}

pub record ReadsAs (source : List ℕ) (fs : List Function) : Type 0 where
  pub tokens : List Token
  pub trees : List FunctionText
  pub are_tokens : AreTokens source tokens
  pub spelled : SpellsFile trees tokens
  pub written : AllZip (Writes source) trees fs

-- functions with an empty line between two
file_prints : (source : List ℕ) (fs : List Function) → ((f : Function) → Has fs f → IsWellFormed f)
    → ((f : Function) → Has fs f → IsWithinLimits f)
    → Prints source any_end SpellsFile (λ (trees : List FunctionText). AllZip (Writes source) trees fs) (text fs)
unfolding text
file_prints source [] well limits = nothing_prints source any_end [] refl tt
file_prints source (f ∷ fs) well limits =
    let each =
    λ (g : Function) (there : Has fs g). blanks_before (10 ∷ []) refl
    (function_prints source g (well g (inr there)) (limits g (inr there))) in
    let others = many source any_end SpellsFunction (Writes source) (λ g. 10 ∷ function_text g) fs each (λ g rest ends. tt) in
    let whole = joined (function_prints source f (well f (inl refl)) (limits f (inl refl))) (λ rest. tt) others in
    seen whole (λ x. x.0 ∷ x.1) (λ x w is h. h) (λ x is. is)

-- where nothing is left, the source ends
left_at_end : (source : List ℕ) (at : ℕ) → Left source at [] → at ≡ length source
left_at_end source at left = let none : length (drop at source) ≡ 0 = ap length left.is in omega (arith, length-drop at source, left.within)

pub text_reads : (fs : List Function) → AllByRecursion IsWellFormed fs → AllByRecursion IsWithinLimits fs → ReadsAs (text fs) fs
text_reads fs well limits =
    let source = text fs in
    let prints = file_prints source fs (each_has IsWellFormed fs well) (each_has IsWithinLimits fs limits) in
    let r = prints.read 0 [] tt (subst (Left source 0) (sym (append-nil source)) (left_at_start source)) in
    record {
      tokens = r.tokens;
      trees = r.value;
      are_tokens = subst (Cuts source 0 r.tokens) (left_at_end source r.to r.left) r.cut;
      spelled =
          r.spelled;
      written = r.is;
    }
