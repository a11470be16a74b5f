-- An exact answer at a whole input: found, only and first fault.
use Rattle.std.proofs.Common.{◌≡◌, List, [], ◌∷◌, Result, Ok, Err, sym, ap, subst, ◌∙◌}
use Rattle.std.specs.Prelude.{IfOk, IfErr}
use Rattle.std.proofs.lemmas.List.{append-nil}
use Rattle.grammar.specs.Spelling.{Spelling}
use Rattle.grammar.specs.Reading.{Answer}
use Rattle.grammar.specs.Exact.{IsExact}
use Rattle.grammar.specs.declared.stop.Stop.{Stop}
use Rattle.grammar.specs.declared.stop.Stop.TheVariants as stops
use Rattle.grammar.specs.Gives.{GivesInMemory}
use Rattle.grammar.specs.Whole.{IsFirstFault, StopsFirst, whole_of, IsReading}
use Rattle.grammar.proofs.Basics.{is_no_fault, same_value, same_rest}

ok_is : {A F : Type 0} (x y : A) → ◌≡◌ {A = Result A F} (Ok x) (Ok y) → x ≡ y
ok_is x y e = cc

err_is : {A F : Type 0} (x y : F) → ◌≡◌ {A = Result A F} (Err x) (Err y) → x ≡ y
err_is x y e = cc

ok_no_err : {A F : Type 0} (x : A) (y : F) → ◌≡◌ {A = Result A F} (Ok x) (Err y) → ⊥
ok_no_err x y e = cc

nil_is_no_cons : {T : Type 0} (t : T) (l : List T) → t ∷ l ≡ [] → ⊥
nil_is_no_cons t l e = cc

module _ {T E A : Type 0} (N : Spelling T A) (more : T → Type 0) (kind : E) (tokens : List T) where
  -- Each reader of a whole input by an exact answer reads it.
  pub whole : (answer : Answer T E A) → IsExact N more tokens answer → IsReading N tokens (whole_of kind answer)
  whole (Err fault) exact = record {
    found = λ x e. absurd (ok_no_err x fault (sym e));
    only = λ x spelled. absurd (is_no_fault fault x [] (exact.only x tokens [] spelled (sym (append-nil tokens)) tt));
    fault = λ f e.
        let same : fault ≡ f = err_is fault f e in
        let here : IsFirstFault N tokens fault.1 = record {
          front = exact.front;
          cut = exact.cut;
          begun = exact.takes;
          offends = exact.stops;
          ends = λ done x spelled. is_no_fault fault x [] (exact.only x tokens [] spelled (sym (append-nil tokens)) tt);
        } in
        subst (λ (g : E × List T). IsFirstFault N tokens g.1) same here;
  }
  whole (Ok (y, [])) exact = record {
    found = λ x e. subst (λ a. N a tokens) (ok_is y x e) (subst (λ l. N y l) (sym (exact.cut ∙ append-nil exact.front)) exact.takes);
    only = λ x spelled. ap (λ a. Ok a) (same_value y x [] [] (exact.only x tokens [] spelled (sym (append-nil tokens)) tt));
    fault = λ f e. absurd (ok_no_err y f e);
  }
  whole (Ok (y, t ∷ rest)) exact = record {
    found = λ x e. absurd (ok_no_err x (kind, t ∷ rest) (sym e));
    only = λ x spelled. absurd (nil_is_no_cons t rest (same_rest y x (t ∷ rest) [] (exact.only x tokens [] spelled (sym (append-nil tokens)) tt)));
    fault = λ f e.
        let here : IsFirstFault N tokens (t ∷ rest) = record {
          front = exact.front;
          cut = exact.cut;
          begun = record { value = y; after = []; spelled = subst (λ l. N y l) (sym (append-nil exact.front)) exact.takes };
          offends = exact.stops;
          ends = λ done x spelled. nil_is_no_cons t rest done;
        } in
        subst (λ (g : E × List T). IsFirstFault N tokens g.1) (err_is (kind, t ∷ rest) f e) here;
  }

-- What a function of the program owes, whose result is a reading.
module _ {T E A : Type 0} (N : Spelling T A) (tokens : List T) (answer : Result A (E × List T)) (reading : IsReading N tokens answer) where
  pub found_in_memory : (result : Result A (Stop T E)) → GivesInMemory (λ x. x) result answer → IfOk result (λ x. N x tokens)
  found_in_memory (Ok x) given = reading.found x given
  found_in_memory (Err stop) given = tt

  pub only_in_memory : (result : Result A (Stop T E)) → GivesInMemory (λ x. x) result answer → (x : A) → N x tokens → GivesInMemory {T = T} {E = E} (λ x. x) result (Ok x)
  only_in_memory (Ok y) given x spelled = sym (reading.only x spelled) ∙ given
  only_in_memory (Err stops.Memory) given x spelled = tt
  only_in_memory (Err (stops.Fault fault)) given x spelled = sym (reading.only x spelled) ∙ given

  pub fault_in_memory : (result : Result A (Stop T E)) → GivesInMemory (λ x. x) result answer → IfErr result (StopsFirst N tokens)
  fault_in_memory (Ok y) given = tt
  fault_in_memory (Err stops.Memory) given = tt
  fault_in_memory (Err (stops.Fault fault)) given = reading.fault (fault.kind, fault.rest.now) given
