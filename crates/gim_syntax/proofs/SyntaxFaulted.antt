-- What a reader of syntax answers at the first offending token is the fault of syntax.
use Rattle.std.proofs.Common.{◌≡◌, ℕ, ◌-◌, List, [], ◌∷◌, ◌++◌, length, take, Option, Some, None, refl, sym, ap, ◌∙◌, arith, length-append}
use Rattle.grammar.specs.Whole.{IsFirstFault}
use Rattle.pm_places.specs.declared.span.Span.{Span}
use Rattle.gim_text.specs.declared.token.Token.{Token}
use Rattle.gim_text.specs.declared.fault.GimpleFault.{GimpleFault}
use Rattle.gim_text.specs.declared.fault.GimpleKind.{GimpleKind}
use Rattle.gim_text.specs.declared.fault.GimpleKind.TheVariants.{Memory}
use Rattle.gim_syntax.specs.Grammar.{SpellsFile}
use Rattle.gim_syntax.specs.SyntaxFaults.{unsupported, named_fault, syntax_fault, IsRefused}

take_front : {T : Type 0} (front rest : List T) → take (length front) (front ++ rest) ≡ front
take_front [] rest = refl
take_front (t ∷ front) rest = ap (λ l. t ∷ l) (take_front front rest)

front_is : {T : Type 0} (input front rest : List T) → input ≡ front ++ rest → take (length input - length rest) input ≡ front
front_is input front rest cut =
    let long : length input ≡ length (front ++ rest) = ap length cut in
    let count : length input - length rest ≡ length front = omega (arith, length-append front rest) in
    ap (λ n. take n input) count ∙ ap (λ l. take (length front) l) cut ∙ take_front front rest

never_memory : (source_len : ℕ) (front rest : List Token) → (syntax_fault source_len front rest).kind ≡ Memory → ⊥
never_memory source_len front [] e = cc
never_memory source_len front (t ∷ rest) e = by_name (unsupported front t) e
  where
    by_name : (name : Option Span) → (named_fault t name).kind ≡ Memory → ⊥
    by_name None e = cc
    by_name (Some at) e = cc

pub is_refused : (source_len : ℕ) (input rest : List Token) (fault : GimpleFault) → IsFirstFault SpellsFile input rest
    → fault ≡ syntax_fault source_len (take (length input - length rest) input) rest → IsRefused source_len input fault fault.kind
is_refused source_len input rest fault first e = by_kind fault.kind refl
  where
    is : fault ≡ syntax_fault source_len first.front rest
    is = e ∙ ap (λ l. syntax_fault source_len l rest) (front_is input first.front rest first.cut)

    by_kind : (kind : GimpleKind) → fault.kind ≡ kind → IsRefused source_len input fault kind
    by_kind Memory same = absurd (never_memory source_len first.front rest (ap (λ (f : GimpleFault). f.kind) (sym is) ∙ same))
    by_kind kind same = record { rest = rest; first = first; is = is }
