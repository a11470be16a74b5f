-- A search along jumps that looks on from one block after another, until none waits.
use Rattle.std.proofs.Common.{◌≡◌, ℕ, ◌+◌, ◌<◌, ◌≤◌, Bool, true, false, cond, not, ◌&&◌, ◌||◌, Option, Some, None, is_some, List, [], ◌∷◌, ◌++◌, ◌⊎◌, length, eqb, refl, sym, ap, ◌∙◌, subst, inl, inr, ⊎_elim, arith}
use Rattle.std.specs.Prelude.{find}
use Rattle.std.specs.Option.{option_map_or}
use Rattle.std.specs.List.{AllByRecursion}
use Rattle.std.proofs.lemmas.Bool.{or_left, or_right, or_cases, and_parts, both_ways, eq-eqb, eqb-true, not-true, not-false, not_from_true}
use Rattle.std.proofs.lemmas.Option.{same_Some, none-some}
use Rattle.std.proofs.lemmas.List.Folds.{list_any-append}
use Rattle.std.proofs.lemmas.List.{length-append}
use Rattle.gim_ast.specs.declared.function.Block.{Block}
use Rattle.gim_ast.specs.Functions.{targets_of, first_where}
use Rattle.gim_ast.specs.WellFormed.{is_among}
use Rattle.cfg_tidy.specs.declared.reaching.Reach.{Reach}
use Rattle.cfg_tidy.specs.Reached.{leads_to, IsReached, entry, jump}
use Rattle.cfg_tidy.specs.Tidying.{AllReached, IsFirstUnreached}
use Rattle.cfg_tidy.specs.Search.{block_is, is_there, is_new, is_unfound, count_unfound, entry_numbers, remaining, Adds, HasNumbers, TellsReached}

pub found_first : {X : Type 0} (p : X → Bool) (xs : List X) → find p xs ≡ first_where p xs
found_first p [] = refl
found_first p (x ∷ xs) = ap (λ o. cond (p x) (Some x) o) (found_first p xs)

-- ---- numbers among others

pub among_parts : (q : ℕ) (xs ys : List ℕ) → is_among q (xs ++ ys) ≡ true → (is_among q xs ≡ true) ⊎ (is_among q ys ≡ true)
among_parts q xs ys h = or_cases (is_among q xs) (is_among q ys) (sym (list_any-append (λ m. eqb m q) xs ys) ∙ h)

pub among_left : (q : ℕ) (xs ys : List ℕ) → is_among q xs ≡ true → is_among q (xs ++ ys) ≡ true
among_left q xs ys h = list_any-append (λ m. eqb m q) xs ys ∙ or_left (is_among q xs) (is_among q ys) h

pub among_right : (q : ℕ) (xs ys : List ℕ) → is_among q ys ≡ true → is_among q (xs ++ ys) ≡ true
among_right q xs ys h = list_any-append (λ m. eqb m q) xs ys ∙ or_right (is_among q xs) (is_among q ys) h

pub alone : (q k : ℕ) → is_among q (k ∷ []) ≡ true → k ≡ q
alone q k h = ⊎_elim (λ here. eqb-true k q here) (λ later. absurd (both_ways false refl later)) (or_cases (eqb k q) false h)

none_among : (q : ℕ) → is_among q [] ≡ true → ⊥
none_among q h = both_ways false refl h

-- ---- what is left to do

still_unfound : (n : ℕ) (found : List ℕ) (block : Block) → is_among block.number found ≡ true →
    is_unfound (found ++ n ∷ []) block ≡ false
still_unfound n found block h = not_from_true _ (among_left block.number found (n ∷ []) h)

no_more_unfound : (n : ℕ) (found : List ℕ) (blocks : List Block) →
    count_unfound (found ++ n ∷ []) blocks ≤ count_unfound found blocks
no_more_unfound n found [] = omega arith
no_more_unfound n found (block ∷ blocks) = by (no_more_unfound n found blocks) (is_among block.number found) refl (is_among block.number (found ++ n ∷ [])) refl
  where
    by : count_unfound (found ++ n ∷ []) blocks ≤ count_unfound found blocks → (b : Bool) → is_among block.number found ≡ b → (d : Bool) → is_among block.number (found ++ n ∷ []) ≡ d →
        count_unfound (found ++ n ∷ []) (block ∷ blocks) ≤ count_unfound found (block ∷ blocks)
    by rest true is true then = rw (is, then) (omega (arith, rest))
    by rest true is false then = absurd (both_ways _ then (among_left block.number found (n ∷ []) is))
    by rest false is true then = rw (is, then) (omega (arith, rest))
    by rest false is false then = rw (is, then) (omega (arith, rest))

fewer_unfound : (n : ℕ) (found : List ℕ) (blocks : List Block) → is_among n found ≡ false → is_there blocks n ≡ true →
    count_unfound (found ++ n ∷ []) blocks < count_unfound found blocks
fewer_unfound n found [] new there = absurd (both_ways false refl there)
fewer_unfound n found (block ∷ blocks) new there = by (fewer_unfound n found blocks new) (eqb block.number n) refl there
  where
    by : (is_there blocks n ≡ true → count_unfound (found ++ n ∷ []) blocks < count_unfound found blocks) → (b : Bool) → eqb block.number n ≡ b → is_some (cond b (Some block) (first_where (block_is n) blocks)) ≡ true →
        count_unfound (found ++ n ∷ []) (block ∷ blocks) < count_unfound found (block ∷ blocks)
    by rest true is there =
        let same : n ≡ block.number = sym (eqb-true block.number n is) in
        let before : is_among block.number found ≡ false = subst (λ m. is_among m found ≡ false) same new in
        let after : is_among block.number (found ++ n ∷ []) ≡ true =
        among_right block.number found (n ∷ []) (or_left (eqb n block.number) false (eq-eqb n block.number same)) in
        rw (before, after) (let r = no_more_unfound n found blocks in omega arith)
    by rest false is there = later (rest there) (is_among block.number found) refl (is_among block.number (found ++ n ∷ [])) refl
      where
        later : count_unfound (found ++ n ∷ []) blocks < count_unfound found blocks → (b : Bool) → is_among block.number found ≡ b → (d : Bool) → is_among block.number (found ++ n ∷ []) ≡ d →
            count_unfound (found ++ n ∷ []) (block ∷ blocks) < count_unfound found (block ∷ blocks)
        later rest true is true then = rw (is, then) (omega (arith, rest))
        later rest true is false then = absurd (both_ways _ then (among_left block.number found (n ∷ []) is))
        later rest false is true then = rw (is, then) (omega (arith, rest))
        later rest false is false then = rw (is, then) (omega (arith, rest))

-- ---- steps

pub adds_none : (blocks : List Block) (s : Reach) → HasNumbers s.set s.found → Adds blocks [] s s
adds_none blocks s indexed = record {
  keeps = λ q h. h;
  adds = λ q h there. absurd (none_among q h);
  only = λ q h. inl h;
  waits = λ q h. inl h;
  only_waits = λ q h. inl h;
  still_waits = λ q h. h;
  costs = omega arith;
  indexed = indexed;
}

pub adds_more : (blocks : List Block) (xs ys : List ℕ) (a b c : Reach) → Adds blocks xs a b → Adds blocks ys b c → Adds blocks (xs ++ ys) a c
adds_more blocks xs ys a b c first second = record {
  keeps = λ q h. second.keeps q (first.keeps q h);
  adds = λ q h there. ⊎_elim (λ early. second.keeps q (first.adds q early there)) (λ late. second.adds q late there) (among_parts q xs ys h);
  only = λ q h. ⊎_elim
      (λ before. ⊎_elim (λ at_start. inl at_start) (λ early. inr (among_left q xs ys early)) (first.only q before))
      (λ late. inr (among_right q xs ys late))
      (second.only q h);
  waits = λ q h. ⊎_elim
      (λ before. ⊎_elim (λ at_start. inl at_start) (λ early. inr (second.still_waits q early)) (first.waits q before))
      (λ late. inr late)
      (second.waits q h);
  only_waits = λ q h. ⊎_elim
      (λ before. ⊎_elim (λ at_start. inl at_start) (λ early. inr (second.keeps q early)) (first.only_waits q before))
      (λ late. inr late)
      (second.only_waits q h);
  still_waits = λ q h. second.still_waits q (first.still_waits q h);
  costs = (let one = first.costs in let two = second.costs in omega arith);
  indexed = second.indexed;
}

either : (a old was : Bool) → old ≡ was → cond a true old ≡ (was || (a || false))
either true old true is = refl
either true old false is = refl
either false old true is = is
either false old false is = is

-- the set has one more number, and so has the list
pub indexed_more : (n : ℕ) (numbers more : List ℕ) (had has : ℕ → Bool) → ((q : ℕ) → has q ≡ cond (eqb n q) true (had q)) → ((q : ℕ) → had q ≡ is_among q numbers) →
    more ≡ numbers ++ n ∷ [] → (q : ℕ) → has q ≡ is_among q more
indexed_more n numbers more had has updates indexed is q =
    updates q ∙ (either (eqb n q) (had q) (is_among q numbers) (indexed q)
    ∙ (sym (list_any-append (λ m. eqb m q) numbers (n ∷ [])) ∙ ap (is_among q) (sym is)))

-- nothing is added where the number isn't new
pub adds_old : (blocks : List Block) (n : ℕ) (s : Reach) → is_new blocks s n ≡ false → HasNumbers s.set s.found → Adds blocks (n ∷ []) s s
adds_old blocks n s old indexed = record {
  keeps = λ q h. h;
  adds = λ q h there. by (is_among n s.found) refl q (alone q n h) there;
  only = λ q h. inl h;
  waits = λ q h. inl h;
  only_waits = λ q h. inl h;
  still_waits = λ q h. h;
  costs = omega arith;
  indexed = indexed;
}
  where
    by : (b : Bool) → is_among n s.found ≡ b → (q : ℕ) → n ≡ q → is_there blocks q ≡ true → is_among q s.found ≡ true
    by true is q same there = subst (λ m. is_among m s.found ≡ true) same is
    by false is q same there = absurd (both_ways (is_new blocks s n) old
        (ap (λ b. not b && is_there blocks n) is ∙ subst (λ m. is_there blocks m ≡ true) (sym same) there))

pub adds_new : (blocks : List Block) (n : ℕ) (s t : Reach) → is_new blocks s n ≡ true → t.found ≡ s.found ++ n ∷ [] →
    t.waiting ≡ s.waiting ++ n ∷ [] → HasNumbers t.set t.found → Adds blocks (n ∷ []) s t
adds_new blocks n s t new found waiting indexed = record {
  keeps = λ q h. subst (λ l. is_among q l ≡ true) (sym found) (among_left q s.found (n ∷ []) h);
  adds = λ q h there. subst (λ l. is_among q l ≡ true) (sym found) (among_right q s.found (n ∷ []) h);
  only = λ q h. among_parts q s.found (n ∷ []) (subst (λ l. is_among q l ≡ true) found h);
  waits = λ q h. ⊎_elim (λ before. inl before) (λ here. inr (subst (λ l. is_among q l ≡ true) (sym waiting) (among_right q s.waiting (n ∷ []) here)))
      (among_parts q s.found (n ∷ []) (subst (λ l. is_among q l ≡ true) found h));
  only_waits = λ q h. ⊎_elim (λ before. inl before) (λ here. inr (subst (λ l. is_among q l ≡ true) (sym found) (among_right q s.found (n ∷ []) here)))
      (among_parts q s.waiting (n ∷ []) (subst (λ l. is_among q l ≡ true) waiting h));
  still_waits = λ q h. subst (λ l. is_among q l ≡ true) (sym waiting) (among_left q s.waiting (n ∷ []) h);
  costs = (let parts = and_parts (not (is_among n s.found)) (is_there blocks n) new in
      let fewer = fewer_unfound n s.found blocks (not-true _ parts.0) parts.1 in
      let long : length (s.waiting ++ n ∷ []) ≡ length s.waiting + 1 = length-append s.waiting (n ∷ []) in
      rw (found, waiting) (omega (arith, fewer, long)));
  indexed = indexed;
}

-- ---- the whole search

-- what is found is reached, and what doesn't wait has been looked on from
pub record IsSearching (blocks : List Block) (s : Reach) : Type 0 where
  pub sound : (q : ℕ) → is_among q s.found ≡ true → IsReached blocks q
  pub found_first : (q : ℕ) → is_among q s.waiting ≡ true → is_among q s.found ≡ true
  pub settled : (q : ℕ) → is_among q s.found ≡ true → (is_among q s.waiting ≡ true) ⊎
      ((r : ℕ) → is_among r (leads_to blocks q) ≡ true → is_there blocks r ≡ true → is_among r s.found ≡ true)
  pub began : (q : ℕ) → is_among q (entry_numbers blocks) ≡ true → is_there blocks q ≡ true → is_among q s.found ≡ true
  pub indexed : HasNumbers s.set s.found

entries_reached : (blocks : List Block) (q : ℕ) → is_among q (entry_numbers blocks) ≡ true → IsReached blocks q
entries_reached [] q h = absurd (none_among q h)
entries_reached (block ∷ blocks) q h = subst (IsReached (block ∷ blocks)) (alone q block.number h) (entry block blocks refl)

pub searching_begins : (blocks : List Block) (s t : Reach) → s.found ≡ [] → s.waiting ≡ [] → Adds blocks (entry_numbers blocks) s t → IsSearching blocks t
searching_begins blocks s t none idle adds = record {
  sound = λ q h. ⊎_elim (λ before. absurd (empty q before)) (λ here. entries_reached blocks q here) (adds.only q h);
  found_first = λ q h. ⊎_elim (λ before. absurd (still q before)) (λ here. here) (adds.only_waits q h);
  settled = λ q h. ⊎_elim (λ before. absurd (empty q before)) (λ waits. inl waits) (adds.waits q h);
  began = adds.adds;
  indexed = adds.indexed;
}
  where
    empty : (q : ℕ) → is_among q s.found ≡ true → ⊥
    empty q h = none_among q (subst (λ l. is_among q l ≡ true) none h)

    still : (q : ℕ) → is_among q s.waiting ≡ true → ⊥
    still q h = none_among q (subst (λ l. is_among q l ≡ true) idle h)

-- n is taken out, and what it leads to is found
pub searching_goes_on : (blocks : List Block) (s t u : Reach) (n : ℕ) → IsSearching blocks s → s.waiting ≡ t.waiting ++ n ∷ [] → t.found ≡ s.found →
    Adds blocks (leads_to blocks n) t u → IsSearching blocks u
searching_goes_on blocks s t u n searching waiting found adds = record {
  sound = λ q h. ⊎_elim (λ before. searching.sound q (back q before)) (λ leads. jump n q leads (searching.sound n (searching.found_first n waited))) (adds.only q h);
  found_first = λ q h. ⊎_elim (λ before. adds.keeps q (there q (searching.found_first q (waits_before q before)))) (λ here. here) (adds.only_waits q h);
  settled = λ q h. ⊎_elim
      (λ before. ⊎_elim
      (λ waited. ⊎_elim (λ waits. inl (adds.still_waits q waits))
      (λ here. inr (subst (λ m. (r : ℕ) → is_among r (leads_to blocks m) ≡ true → is_there blocks r ≡ true → is_among r u.found ≡ true) (alone q n here) adds.adds))
      (among_parts q t.waiting (n ∷ []) (subst (λ l. is_among q l ≡ true) waiting waited)))
      (λ done. inr (λ r leads is. adds.keeps r (there r (done r leads is))))
      (searching.settled q (back q before)))
      (λ waits. inl waits)
      (adds.waits q h);
  began = λ q h is. adds.keeps q (there q (searching.began q h is));
  indexed = adds.indexed;
}
  where
    there : (q : ℕ) → is_among q s.found ≡ true → is_among q t.found ≡ true
    there q h = subst (λ l. is_among q l ≡ true) (sym found) h

    back : (q : ℕ) → is_among q t.found ≡ true → is_among q s.found ≡ true
    back q h = subst (λ l. is_among q l ≡ true) found h

    waits_before : (q : ℕ) → is_among q t.waiting ≡ true → is_among q s.waiting ≡ true
    waits_before q h = subst (λ l. is_among q l ≡ true) (sym waiting) (among_left q t.waiting (n ∷ []) h)

    waited : is_among n s.waiting ≡ true
    waited = subst (λ l. is_among n l ≡ true) (sym waiting) (among_right n t.waiting (n ∷ []) (or_left (eqb n n) false (eq-eqb n n refl)))

pub taken_costs : (blocks : List Block) (s t u : Reach) (n : ℕ) → s.waiting ≡ t.waiting ++ n ∷ [] → t.found ≡ s.found →
    Adds blocks (leads_to blocks n) t u → remaining blocks u < remaining blocks s
taken_costs blocks s t u n waiting found adds =
    let long : length s.waiting ≡ length t.waiting + 1 = ap length waiting ∙ length-append t.waiting (n ∷ []) in
    let same : count_unfound t.found blocks ≡ count_unfound s.found blocks = ap (λ l. count_unfound l blocks) found in
    let most = adds.costs in
    omega (arith, long, same, most)

-- what leads anywhere is there
leads_from_there : (blocks : List Block) (m n : ℕ) → is_among n (leads_to blocks m) ≡ true → is_there blocks m ≡ true
leads_from_there blocks m n leads = by (first_where (block_is m) blocks) leads
  where
    by : (o : Option Block) → is_among n (option_map_or (λ (block : Block). targets_of block.end) o []) ≡ true → is_some o ≡ true
    by None leads = absurd (none_among n leads)
    by (Some block) leads = refl

pub searching_ends : (blocks : List Block) (s : Reach) → IsSearching blocks s → s.waiting ≡ [] → TellsReached blocks s
searching_ends blocks s searching idle = record { sound = searching.sound; complete = complete; indexed = searching.indexed }
  where
    complete : (q : ℕ) → IsReached blocks q → is_there blocks q ≡ true → is_among q s.found ≡ true
    complete _ (entry first rest is) there = searching.began first.number
        (subst (λ l. is_among first.number (entry_numbers l) ≡ true) (sym is) (or_left (eqb first.number first.number) false (eq-eqb first.number first.number refl))) there
    complete _ (jump m n leads reached) there = ⊎_elim
        (λ waits. absurd (none_among m (subst (λ l. is_among m l ≡ true) idle waits)))
        (λ done. done n leads there)
        (searching.settled m (complete m reached (leads_from_there blocks m n leads)))

-- ---- the first block that is not found

all_found : (p : Block → Bool) (blocks : List Block) → find p blocks ≡ None → AllByRecursion (λ block. p block ≡ false) blocks
all_found p [] none = tt
all_found p (block ∷ blocks) none = by (p block) refl none (all_found p blocks)
  where
    by : (b : Bool) → p block ≡ b → cond b (Some block) (find p blocks) ≡ None →
        (find p blocks ≡ None → AllByRecursion (λ block. p block ≡ false) blocks) → AllByRecursion (λ block. p block ≡ false) (block ∷ blocks)
    by true is none rest = absurd (none-some block (sym none))
    by false is none rest = (is, rest none)

record IsFirstOf (p : Block → Bool) (blocks : List Block) (block : Block) : Type 0 where
  before : List Block
  after : List Block
  in_order : blocks ≡ before ++ block ∷ after
  none_before : AllByRecursion (λ block. p block ≡ false) before
  passes : p block ≡ true

first_of : (p : Block → Bool) (blocks : List Block) (block : Block) → find p blocks ≡ Some block → IsFirstOf p blocks block
first_of p [] block is = absurd (none-some block is)
first_of p (head ∷ blocks) block is = by (p head) refl is (first_of p blocks block)
  where
    by : (b : Bool) → p head ≡ b → cond b (Some head) (find p blocks) ≡ Some block → (find p blocks ≡ Some block → IsFirstOf p blocks block) →
        IsFirstOf p (head ∷ blocks) block
    by true passes is rest =
        let same : head ≡ block = same_Some head block is in
        record { before = []; after = blocks; in_order = ap (λ b. b ∷ blocks) same; none_before = tt; passes = subst (λ b. p b ≡ true) same passes }
    by false fails is rest =
        let found = rest is in
        record { before = head ∷ found.before; after = found.after; in_order = ap (λ bs. head ∷ bs) found.in_order; none_before = (fails, found.none_before); passes = found.passes }

found_are_reached : (blocks : List Block) (s : Reach) → TellsReached blocks s → (some : List Block) →
    AllByRecursion (λ block. is_unfound s.found block ≡ false) some → AllReached blocks some
found_are_reached blocks s tells [] all = tt
found_are_reached blocks s tells (block ∷ some) all = (tells.sound block.number (not-false _ all.0), found_are_reached blocks s tells some all.1)

there_among : (before : List Block) (block : Block) (after : List Block) → is_there (before ++ block ∷ after) block.number ≡ true
there_among [] block after = rw (eq-eqb block.number block.number refl) refl
there_among (head ∷ before) block after = by (eqb head.number block.number) (there_among before block after)
  where
    by : (b : Bool) → is_there (before ++ block ∷ after) block.number ≡ true →
        is_some (cond b (Some head) (first_where (block_is block.number) (before ++ block ∷ after))) ≡ true
    by true rest = refl
    by false rest = rest

pub all_are_reached : (blocks : List Block) (s : Reach) → TellsReached blocks s → find (is_unfound s.found) blocks ≡ None → AllReached blocks blocks
all_are_reached blocks s tells none = found_are_reached blocks s tells blocks (all_found (is_unfound s.found) blocks none)

pub first_is_unreached : (blocks : List Block) (s : Reach) (block : Block) → TellsReached blocks s → find (is_unfound s.found) blocks ≡ Some block →
    IsFirstUnreached blocks block.number
first_is_unreached blocks s block tells is =
    let first = first_of (is_unfound s.found) blocks block is in
    record {
      before = first.before;
      block = block;
      after = first.after;
      in_order = first.in_order;
      reached = found_are_reached blocks s tells first.before first.none_before;
      unreached = λ reached. both_ways _ (not-true _ first.passes) (tells.complete block.number reached
          (subst (λ bs. is_there bs block.number ≡ true) (sym first.in_order) (there_among first.before block first.after)));
      number = refl;
    }
