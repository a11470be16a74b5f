-- Two cuts of one list.
use Rattle.std.proofs.Common.{◌≡◌, List, [], ◌∷◌, ◌++◌, refl, sym, ◌⊎◌, inl, inr}

-- the first cut lies in the second, with m between them
pub record Between {T : Type 0} (a b u v : List T) : Type 0 where
  pub middle : List T
  pub left : u ≡ a ++ middle
  pub right : b ≡ middle ++ v

-- the first cut lies beyond the second
pub record Beyond {T : Type 0} (a b u v : List T) : Type 0 where
  pub head : T
  pub tail : List T
  pub left : a ≡ u ++ head ∷ tail
  pub right : v ≡ head ∷ tail ++ b

cons_cut : {T : Type 0} (x y : T) (a b u v : List T) → x ≡ y → Between a b u v ⊎ Beyond a b u v → Between (x ∷ a) b (y ∷ u) v ⊎ Beyond (x ∷ a) b (y ∷ u) v
cons_cut x y a b u v e (inl c) = inl (record { middle = c.middle; left = cc (c.left); right = c.right })
cons_cut x y a b u v e (inr c) = inr (record { head = c.head; tail = c.tail; left = cc (c.left); right = c.right })

-- Of two cuts of one list one lies in the other.
pub cuts : {T : Type 0} (a b u v : List T) → a ++ b ≡ u ++ v → Between a b u v ⊎ Beyond a b u v
cuts [] b u v e = inl (record { middle = u; left = refl; right = e })
cuts (x ∷ a) b [] v e = inr (record { head = x; tail = a; left = refl; right = sym e })
cuts {T = T} (x ∷ a) b (y ∷ u) v e =
    let tails : a ++ b ≡ u ++ v = cc in
    let heads : x ≡ y = cc in
    cons_cut x y a b u v heads (cuts a b u v tails)
