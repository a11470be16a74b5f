-- The last pair that passes a test, found from the front.
use Rattle.std.proofs.Common.{◌≡◌, Bool, true, false, cond, Option, Some, None, List, [], ◌∷◌, ◌++◌, All, IfSome, refl}
use Rattle.std.proofs.lemmas.List.Elements.{All-head, All-tail, All-append, All-cons, All-nil}
use Rattle.std.specs.Str.{bytes_eq}
use Rattle.std.specs.Option.{option_or}
use Rattle.pm_ops.specs.Names.{Name}
use Rattle.cond_eval.specs.declared.value.CValue.{CValue}
use Rattle.cond_eval.specs.Environments.{last_where, named, AreValues}
use Rattle.cond_eval.specs.Values.{IsValue}

-- one pair further
pub one_further : {X : Type 0} (later : Option X) (test : Bool) (x : X) (found : Option X)
    → option_or (option_or later (cond test (Some x) None)) found
    ≡ option_or later (cond test (Some x) found)
one_further None true x found = refl
one_further None false x found = refl
one_further (Some y) test x found = refl

-- nothing found before
pub none_before : {X : Type 0} (later : Option X) → option_or later None ≡ later
none_before None = refl
none_before (Some x) = refl

-- what is found has what all have
found_has : {K X : Type 0} (P : X → Type 0) (test : K → Bool) (pairs : List (K × X))
    → All (λ (p : K × X). P p.1) pairs → IfSome (last_where test pairs) P
found_has P test [] all = tt
found_has {K} {X} P test (p ∷ ps) all =
    let Has : K × X → Type 0 = λ q. P q.1 in
    let later = found_has P test ps (All-tail Has p ps all) in
    by (last_where test ps) (test p.0) later (All-head Has p ps all)
  where
    by : (later : Option X) (t : Bool) → IfSome later P → P p.1
        → IfSome (option_or later (cond t (Some p.1) None)) P
    by (Some x) t h k = h
    by None true h k = k
    by None false h k = h

pub named_value : (locals : List (Name × CValue)) (name : Name) → AreValues locals
    → IfSome (named locals name) IsValue
named_value locals name all = found_has IsValue (λ key. bytes_eq key name) locals all

pub one_more : (locals : List (Name × CValue)) (name : Name) (value : CValue) → AreValues locals
    → IsValue value → AreValues (locals ++ (name, value) ∷ [])
one_more locals name value all is =
    let Is : Name × CValue → Type 0 = λ p. IsValue p.1 in
    All-append Is locals _ all (All-cons Is (name, value) [] is (All-nil Is))
