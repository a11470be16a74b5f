-- Lists that a loop has gone through in part: from the front by a map, from the back by a filter.
use Rattle.std.proofs.Common.{◌≡◌, ◌≢◌, ◌==◌, ℕ, zero, suc, ◌+◌, ◌<◌, ◌≤◌, Bool, true, false, List, [], ◌∷◌, length, map, Some, slice_get, slice_set, get_or, refl, ap, sym, ◌∙◌, arith}
use Rattle.std.specs.Prelude.{not, filter, remove}
use Rattle.std.proofs.lemmas.Option.{slice_get_read}
use Rattle.std.proofs.lemmas.Bool.Decides.{nat_tests}

pub same_fails : (a b : ℕ) → a ≡ b → not (a == b) ≡ false
same_fails a b e = grind (arith, nat_tests)

pub other_passes : (a b : ℕ) → a ≢ b → not (a == b) ≡ true
other_passes a b e = grind (arith, nat_tests)

module _ {X : Type 0} where
  -- f of the first n elements
  abbrev pub mapped : (X → X) → ℕ → List X → List X
  mapped f zero xs = xs
  mapped f (suc n) [] = []
  mapped f (suc n) (x ∷ xs) = f x ∷ mapped f n xs

  pub length_mapped : (f : X → X) (n : ℕ) (xs : List X) → length (mapped f n xs) ≡ length xs
  length_mapped f zero xs = refl
  length_mapped f (suc n) [] = refl
  length_mapped f (suc n) (x ∷ xs) = ap suc (length_mapped f n xs)

  pub mapped_whole : (f : X → X) (xs : List X) → mapped f (length xs) xs ≡ map f xs
  mapped_whole f [] = refl
  mapped_whole f (x ∷ xs) = ap (λ ys. f x ∷ ys) (mapped_whole f xs)

  pub mapped_more : (f : X → X) (n : ℕ) (xs : List X) (x : X) → slice_get (mapped f n xs) n ≡ Some x → slice_set (mapped f n xs) n (f x) ≡ mapped f (suc n) xs
  mapped_more f zero [] x is = refl
  mapped_more f zero (y ∷ ys) x is = cc
  mapped_more f (suc n) [] x is = refl
  mapped_more f (suc n) (y ∷ ys) x is = ap (λ zs. f y ∷ zs) (mapped_more f n ys x is)

  -- a loop that changes each element where it stands has come to place n
  pub record IsMapped (f : X → X) (n end : ℕ) (xs ys : List X) : Type 0 where
    pub is : ys ≡ mapped f n xs
    pub long : length ys ≡ end
    pub all : end ≡ length xs

  pub mapped_next : {f : X → X} {n end : ℕ} {xs ys : List X} → IsMapped f n end xs ys → (x w : X) → slice_get ys n ≡ Some x → w ≡ f x → IsMapped f (n + 1) end xs (slice_set ys n w)
  mapped_next {f} {n} {end} {xs} {ys} so_far x w got new =
      let there : slice_get (mapped f n xs) n ≡ Some x = ap (λ zs. slice_get zs n) (sym so_far.is) ∙ got in
      let more = mapped_more f n xs x there in
      let next : n + 1 ≡ suc n = omega arith in
      let is : slice_set ys n w ≡ mapped f (n + 1) xs = rw (next, new, so_far.is) more in
      record {
        is = is;
        long = ap length is ∙ (length_mapped f (n + 1) xs ∙ sym so_far.all);
        all = so_far.all;
      }

  -- the same, where the element was read by its index from a slice seen as the list
  pub mapped_next_at : {f : X → X} {n end : ℕ} {xs ys : List X} → IsMapped f n end xs ys → {seen zs : List X} (x w : X) → n < end → seen ≡ ys → x ≡ get_or seen n x → w ≡ f x → zs ≡ slice_set ys n w → IsMapped f (n + 1) end xs zs
  mapped_next_at {f} {n} {end} {xs} {ys} so_far {seen} {zs} x w within same is new set =
      let there : slice_get ys n ≡ Some x = slice_get_read ys end n x (sym so_far.long) within (rw same at is) in
      rw set (mapped_next so_far x w there new)

  pub mapped_end : {f : X → X} {n end : ℕ} {xs ys : List X} → IsMapped f n end xs ys → n ≡ end → ys ≡ map f xs
  mapped_end {f} {n} {end} {xs} {ys} so_far done =
      let e : n ≡ length xs = done ∙ so_far.all in
      so_far.is ∙ (rw e (mapped_whole f xs))

  -- the elements from place n on filtered
  abbrev pub filtered : (X → Bool) → ℕ → List X → List X
  filtered p zero xs = filter p xs
  filtered p (suc n) [] = []
  filtered p (suc n) (x ∷ xs) = x ∷ filtered p n xs

  pub filtered_none : (p : X → Bool) (xs : List X) → filtered p (length xs) xs ≡ xs
  filtered_none p [] = refl
  filtered_none p (x ∷ xs) = ap (λ ys. x ∷ ys) (filtered_none p xs)

  filtered_out : (p : X → Bool) (n : ℕ) (xs : List X) (x : X) → slice_get (filtered p (suc n) xs) n ≡ Some x → p x ≡ false → remove (filtered p (suc n) xs) n ≡ filtered p n xs
  filtered_out p zero [] x is out = refl
  filtered_out p zero (y ∷ ys) x is out =
      let h : p y ≡ false = cc in
      rw h refl
  filtered_out p (suc n) [] x is out = refl
  filtered_out p (suc n) (y ∷ ys) x is out = ap (λ zs. y ∷ zs) (filtered_out p n ys x is out)

  filtered_in : (p : X → Bool) (n : ℕ) (xs : List X) (x : X) → slice_get (filtered p (suc n) xs) n ≡ Some x → p x ≡ true → filtered p (suc n) xs ≡ filtered p n xs
  filtered_in p zero [] x is kept = refl
  filtered_in p zero (y ∷ ys) x is kept =
      let h : p y ≡ true = cc in
      rw h refl
  filtered_in p (suc n) [] x is kept = refl
  filtered_in p (suc n) (y ∷ ys) x is kept = ap (λ zs. y ∷ zs) (filtered_in p n ys x is kept)

  filtered_long : (p : X → Bool) (n : ℕ) (xs : List X) → n ≤ length xs → n ≤ length (filtered p n xs)
  filtered_long p zero xs within = omega arith
  filtered_long p (suc n) [] within = within
  filtered_long p (suc n) (x ∷ xs) within = omega (arith, filtered_long p n xs (omega arith))

  -- a loop that goes from the end to the front and takes out what fails has come to place n
  pub record IsFiltered (p : X → Bool) (n : ℕ) (xs ys : List X) : Type 0 where
    pub is : ys ≡ filtered p n xs
    pub long : n ≤ length ys
    pub within : n ≤ length xs

  pub filtered_start : {p : X → Bool} {xs : List X} (n : ℕ) → n ≡ length xs → IsFiltered p n xs xs
  filtered_start {p} {xs} n e =
      record { is = sym (rw e (filtered_none p xs)); long = omega arith; within = omega arith }

  filtered_step : {p : X → Bool} {m : ℕ} {xs ys zs : List X} → IsFiltered p m xs ys → (n : ℕ) → m ≡ n + 1 → zs ≡ filtered p n xs → IsFiltered p n xs zs
  filtered_step {p} {m} {xs} {ys} {zs} so_far n more is =
      let w : n ≤ length xs = omega (arith, so_far.within) in
      record { is = is; long = omega (arith, filtered_long p n xs w, ap length is); within = w }

  pub filtered_fails : {p : X → Bool} {m : ℕ} {xs ys zs : List X} → IsFiltered p m xs ys → (n : ℕ) → m ≡ n + 1 → (x : X) → slice_get ys n ≡ Some x → p x ≡ false → zs ≡ remove ys n → IsFiltered p n xs zs
  filtered_fails {p} {m} {xs} {ys} {zs} so_far n more x got out removed =
      let e : m ≡ suc n = omega arith in
      let is : ys ≡ filtered p (suc n) xs = so_far.is ∙ ap (λ k. filtered p k xs) e in
      let there : slice_get (filtered p (suc n) xs) n ≡ Some x = rw is at got in
      filtered_step so_far n more (removed ∙ rw is (filtered_out p n xs x there out))

  pub filtered_passes : {p : X → Bool} {m : ℕ} {xs ys : List X} → IsFiltered p m xs ys → (n : ℕ) → m ≡ n + 1 → (x : X) → slice_get ys n ≡ Some x → p x ≡ true → IsFiltered p n xs ys
  filtered_passes {p} {m} {xs} {ys} so_far n more x got kept =
      let e : m ≡ suc n = omega arith in
      let is : ys ≡ filtered p (suc n) xs = so_far.is ∙ ap (λ k. filtered p k xs) e in
      let there : slice_get (filtered p (suc n) xs) n ≡ Some x = rw is at got in
      filtered_step so_far n more (is ∙ filtered_in p n xs x there kept)

  pub filtered_end : {p : X → Bool} {n : ℕ} {xs ys : List X} → IsFiltered p n xs ys → n ≡ 0 → ys ≡ filter p xs
  filtered_end {p} {n} {xs} {ys} so_far done = so_far.is ∙ ap (λ k. filtered p k xs) done
