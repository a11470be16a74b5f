-- How many different texts a list has bounds how many can be chosen from it.
use Rattle.std.proofs.Common.{◌≡◌, ◌≤◌, ℕ, suc, Bool, true, false, List, [], ◌∷◌, length, refl, sym, ap, ◌∙◌, arith}
use Rattle.std.specs.Prelude.{not, ◌||◌, if◌then◌else◌}
use Rattle.std.specs.List.{list_any, list_all}
use Rattle.std.proofs.lemmas.Bool.{and_parts, and_from, false_from_ne_true}
use Rattle.gim_ast.specs.WellFormed.{same_text, all_distinct}
use Rattle.gim_shape.specs.Blocks.{is_among}
use Rattle.gim_limits.specs.Limits.{different}
use Rattle.gim_shape.proofs.DistinctTexts.{not_true}
use Rattle.gim_text.proofs.SameTexts.{same_text_is}

-- the list without a text
abbrev pub without : List ℕ → List (List ℕ) → List (List ℕ)
without text [] = []
without text (t ∷ texts) = if same_text t text then without text texts else t ∷ without text texts

-- what stands in the list without a text stands in the list
still_among : (text q : List ℕ) (texts : List (List ℕ)) → is_among (without text texts) q ≡ true → is_among texts q ≡ true
still_among text q [] h = h
still_among text q (t ∷ texts) h = by (same_text t text) refl h (still_among text q texts) where
  or_later : (a b : Bool) → b ≡ true → (a || b) ≡ true
  or_later true b e = refl
  or_later false b e = e

  either : (a b c : Bool) → (a || b) ≡ true → (b ≡ true → c ≡ true) → (a || c) ≡ true
  either true b c e f = refl
  either false b c e f = f e

  by : (s : Bool) → same_text t text ≡ s → is_among (without text (t ∷ texts)) q ≡ true
      → (is_among (without text texts) q ≡ true → is_among texts q ≡ true) → is_among (t ∷ texts) q ≡ true
  by true e h further = or_later (same_text q t) (is_among texts q) (further (rw e at h))
  by false e h further = either (same_text q t) (is_among (without text texts) q) (is_among texts q) (rw e at h) further

stays_new : (text q : List ℕ) (texts : List (List ℕ)) → not (is_among texts q) ≡ true → not (is_among (without text texts) q) ≡ true
stays_new text q texts new =
    ap not (false_from_ne_true (is_among (without text texts) q) (λ e. let there = still_among text q texts e in
    let no = not_true (is_among texts q) new in cc))

distinct_without : (text : List ℕ) (texts : List (List ℕ)) → all_distinct same_text texts ≡ true
    → all_distinct same_text (without text texts) ≡ true
distinct_without text [] distinct = refl
distinct_without text (t ∷ texts) distinct = by (same_text t text) refl (distinct_without text texts d.1) where
  d : (not (list_any (same_text t) texts) ≡ true) × (all_distinct same_text texts ≡ true)
  d = and_parts (not (list_any (same_text t) texts)) (all_distinct same_text texts) distinct

  by : (s : Bool) → same_text t text ≡ s → all_distinct same_text (without text texts) ≡ true
      → all_distinct same_text (without text (t ∷ texts)) ≡ true
  by true e further = rw e further
  by false e further =
      rw e (and_from (not (is_among (without text texts) t)) (all_distinct same_text (without text texts))
      (stays_new text t texts d.0) further)

-- a list that has not the text
nothing_lost : (text : List ℕ) (texts : List (List ℕ)) → is_among texts text ≡ false → without text texts ≡ texts
nothing_lost text [] none_there = refl
nothing_lost text (t ∷ texts) none_there = by (same_text text t) (same_text t text) refl refl none_there (nothing_lost text texts) where
  by : (s r : Bool) → same_text text t ≡ s → same_text t text ≡ r → (same_text text t || is_among texts text) ≡ false
      → (is_among texts text ≡ false → without text texts ≡ texts)
      → without text (t ∷ texts) ≡ t ∷ texts
  by true r e f h further = let no = rw e at h in absurd cc
  by false true e f h further = let is = same_text_is t text f in let itself : same_text text t ≡ true =
      ap (λ u. same_text u t) (sym is) ∙ ap (same_text t) is ∙ f in absurd cc
  by false false e f h further = rw f (ap (λ ts. t ∷ ts) (further (rw e at h)))

one_lost : (text : List ℕ) (texts : List (List ℕ)) → all_distinct same_text texts ≡ true → length texts ≤ suc (length (without text texts))
one_lost text [] distinct = omega arith
one_lost text (t ∷ texts) distinct = by (same_text t text) refl (one_lost text texts d.1) where
  d : (not (list_any (same_text t) texts) ≡ true) × (all_distinct same_text texts ≡ true)
  d = and_parts (not (list_any (same_text t) texts)) (all_distinct same_text texts) distinct

  by : (s : Bool) → same_text t text ≡ s → length texts ≤ suc (length (without text texts))
      → length (t ∷ texts) ≤ suc (length (without text (t ∷ texts)))
  by true e further =
      let gone : without text texts ≡ texts =
      nothing_lost text texts (ap (is_among texts) (sym (same_text_is t text e)) ∙ not_true (is_among texts t) d.0) in
      let same = ap length gone in
      rw e (omega arith)
  by false e further = rw e (omega arith)

among_rest : (t : List ℕ) (texts chosen : List (List ℕ)) → list_all (is_among (t ∷ texts)) chosen ≡ true
    → list_all (is_among texts) (without t chosen) ≡ true
among_rest t texts [] all = refl
among_rest t texts (c ∷ chosen) all = by (same_text c t) refl a.0 (among_rest t texts chosen a.1) where
  a : (is_among (t ∷ texts) c ≡ true) × (list_all (is_among (t ∷ texts)) chosen ≡ true)
  a = and_parts (is_among (t ∷ texts) c) (list_all (is_among (t ∷ texts)) chosen) all

  by : (s : Bool) → same_text c t ≡ s → (same_text c t || is_among texts c) ≡ true → list_all (is_among texts) (without t chosen) ≡ true
      → list_all (is_among texts) (without t (c ∷ chosen)) ≡ true
  by true e h further = rw e further
  by false e h further = rw e (and_from (is_among texts c) (list_all (is_among texts) (without t chosen)) (rw e at h) further)

among_same : (t : List ℕ) (texts chosen : List (List ℕ)) → is_among texts t ≡ true
    → list_all (is_among (t ∷ texts)) chosen ≡ true → list_all (is_among texts) chosen ≡ true
among_same t texts [] there all = refl
among_same t texts (c ∷ chosen) there all =
    and_from (is_among texts c) (list_all (is_among texts) chosen) (by (same_text c t) refl a.0) (among_same t texts chosen there a.1) where
      a : (is_among (t ∷ texts) c ≡ true) × (list_all (is_among (t ∷ texts)) chosen ≡ true)
      a = and_parts (is_among (t ∷ texts) c) (list_all (is_among (t ∷ texts)) chosen) all

      by : (s : Bool) → same_text c t ≡ s → (same_text c t || is_among texts c) ≡ true → is_among texts c ≡ true
      by true e h = ap (is_among texts) (same_text_is c t e) ∙ there
      by false e h = rw e at h

pub chosen_are_few : (texts chosen : List (List ℕ)) → all_distinct same_text chosen ≡ true
    → list_all (is_among texts) chosen ≡ true → length chosen ≤ different texts
chosen_are_few [] [] distinct all = omega arith
chosen_are_few [] (c ∷ chosen) distinct all = absurd cc
chosen_are_few (t ∷ texts) chosen distinct all =
    by (is_among texts t) refl (chosen_are_few texts chosen distinct)
    (chosen_are_few texts (without t chosen) (distinct_without t chosen distinct)) where
      by : (s : Bool) → is_among texts t ≡ s → (list_all (is_among texts) chosen ≡ true → length chosen ≤ different texts)
          → (list_all (is_among texts) (without t chosen) ≡ true → length (without t chosen) ≤ different texts)
          → length chosen ≤ different (t ∷ texts)
      by true e same fewer = rw e (same (among_same t texts chosen e all))
      by false e same fewer = let lost = one_lost t chosen distinct in let rest =
          fewer (among_rest t texts chosen all) in rw e (omega arith)
