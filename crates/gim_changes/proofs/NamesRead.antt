-- Which names a function reads at which points: the uses of names, by the phis, statements and ends where they stand.
use Rattle.std.proofs.Common.{◌≡◌, ℕ, ◌+◌, List, [], ◌∷◌, ◌++◌, length, map, flat_map, refl, sym, ap, subst, inl, inr, ⊎_elim}
use Rattle.std.specs.List.{AllByRecursion}
use Rattle.pm_wide.specs.declared.operand.Operand.{Operand}
use Rattle.gim_ast.specs.declared.function.Function.{Function}
use Rattle.gim_ast.specs.declared.function.Block.{Block}
use Rattle.gim_ast.specs.declared.function.Phi.{Phi}
use Rattle.gim_ast.specs.declared.function.Stmt.{Stmt}
use Rattle.gim_ast.specs.Functions.{operands_of_stmt, operands_of_end, stmt_name}
use Rattle.gim_ast.specs.Readable.{names_among, Use, uses_at, uses_in_phi, uses_in_phis, uses_in_stmts, uses_in_block, uses_in}
use Rattle.gim_changes.proofs.Members.{IsMember, each_member, each_from_members, mapped_member, member_mapped}

-- the block reads the name at the point
pub data IsReadIn (b : Block) (y n : ℕ) (left : List ℕ) : Type 0 where
  by_phi : (phi : Phi) (a : Operand) → IsMember phi b.phis → IsMember (n, a) phi.args → IsMember y (names_among (a ∷ [])) → left ≡ [] → IsReadIn b y n left
  by_stmt : (front : List Stmt) (stmt : Stmt) (rest : List Stmt) → b.stmts ≡ front ++ stmt ∷ rest → IsMember y (names_among (operands_of_stmt stmt)) →
      n ≡ b.number → left ≡ map stmt_name (stmt ∷ rest) → IsReadIn b y n left
  by_end : IsMember y (names_among (operands_of_end b.end)) → n ≡ b.number → left ≡ [] → IsReadIn b y n left

-- some block of the function does
abbrev pub IsRead : Function → ℕ → ℕ → List ℕ → Type 0
IsRead f y n left = (b : Block) × IsMember b f.blocks × IsReadIn b y n left

module _ (Q : ℕ → ℕ → List ℕ → Type 0) where
  -- what is said of a use
  abbrev pub Said : Use → Type 0
  Said place = Q place.name place.at place.left

  -- ---- from what is read to all uses

  said_at : (n k at : ℕ) (left : List ℕ) (operands : List Operand) → ((y : ℕ) → IsMember y (names_among operands) → Q y at left) → AllByRecursion Said (uses_at n k at left operands)
  said_at n k at left operands each = each_from_members Said (uses_at n k at left operands) (λ place one.
      let found = member_mapped (λ x. record { block = n; item = k; name = x; at = at; left = left }) place (names_among operands) one in
      subst Said found.2 (each found.0 found.1))

  said_both : (xs ys : List Use) → AllByRecursion Said xs → AllByRecursion Said ys → AllByRecursion Said (xs ++ ys)
  said_both [] ys h k = k
  said_both (x ∷ xs) ys h k = (h.0, said_both xs ys h.1 k)

  said_in_phi : (n k : ℕ) (args : List (ℕ × Operand)) → ((m : ℕ) (a : Operand) (y : ℕ) → IsMember (m, a) args → IsMember y (names_among (a ∷ [])) → Q y m []) →
      AllByRecursion Said (flat_map (λ (arg : ℕ × Operand). uses_at n k arg.0 [] (arg.1 ∷ [])) args)
  said_in_phi n k [] each = tt
  said_in_phi n k (arg ∷ args) each =
      said_both (uses_at n k arg.0 [] (arg.1 ∷ [])) (flat_map (λ (more : ℕ × Operand). uses_at n k more.0 [] (more.1 ∷ [])) args)
      (said_at n k arg.0 [] (arg.1 ∷ []) (λ y one. each arg.0 arg.1 y (inl refl) one))
      (said_in_phi n k args (λ m a y one name. each m a y (inr one) name))

  said_in_phis : (n k : ℕ) (phis : List Phi) → ((phi : Phi) (m : ℕ) (a : Operand) (y : ℕ) → IsMember phi phis → IsMember (m, a) phi.args → IsMember y (names_among (a ∷ [])) → Q y m []) →
      AllByRecursion Said (uses_in_phis n k phis)
  said_in_phis n k [] each = tt
  said_in_phis n k (phi ∷ phis) each =
      said_both (uses_in_phi n k phi) (uses_in_phis n (k + 1) phis)
      (said_in_phi n k phi.args (λ m a y one name. each phi m a y (inl refl) one name))
      (said_in_phis n (k + 1) phis (λ other m a y one arg name. each other m a y (inr one) arg name))

  said_in_stmts : (n k : ℕ) (stmts : List Stmt) →
      ((front : List Stmt) (stmt : Stmt) (rest : List Stmt) (y : ℕ) → stmts ≡ front ++ stmt ∷ rest → IsMember y (names_among (operands_of_stmt stmt)) → Q y n (map stmt_name (stmt ∷ rest))) →
      AllByRecursion Said (uses_in_stmts n k stmts)
  said_in_stmts n k [] each = tt
  said_in_stmts n k (stmt ∷ stmts) each =
      said_both (uses_at n k n (map stmt_name (stmt ∷ stmts)) (operands_of_stmt stmt)) (uses_in_stmts n (k + 1) stmts)
      (said_at n k n (map stmt_name (stmt ∷ stmts)) (operands_of_stmt stmt) (λ y one. each [] stmt stmts y refl one))
      (said_in_stmts n (k + 1) stmts (λ front other rest y is one. each (stmt ∷ front) other rest y (ap (λ l. stmt ∷ l) is) one))

  said_in_block : (b : Block) → ((y n : ℕ) (left : List ℕ) → IsReadIn b y n left → Q y n left) → AllByRecursion Said (uses_in_block b)
  said_in_block b each =
      let n = b.number in
      let phis = uses_in_phis n 1 b.phis in
      let stmts = uses_in_stmts n (1 + length b.phis) b.stmts in
      let ends = uses_at n (1 + length b.phis + length b.stmts) n [] (operands_of_end b.end) in
      said_both (phis ++ stmts) ends
      (said_both phis stmts
      (said_in_phis n 1 b.phis (λ phi m a y one arg name. each y m [] (by_phi phi a one arg name refl)))
      (said_in_stmts n (1 + length b.phis) b.stmts (λ front stmt rest y is one. each y n (map stmt_name (stmt ∷ rest)) (by_stmt front stmt rest is one refl refl))))
      (said_at n (1 + length b.phis + length b.stmts) n [] (operands_of_end b.end) (λ y one. each y n [] (by_end one refl refl)))

  said_in_blocks : (bs : List Block) → ((b : Block) (y n : ℕ) (left : List ℕ) → IsMember b bs → IsReadIn b y n left → Q y n left) → AllByRecursion Said (flat_map uses_in_block bs)
  said_in_blocks [] each = tt
  said_in_blocks (b ∷ bs) each =
      said_both (uses_in_block b) (flat_map uses_in_block bs)
      (said_in_block b (λ y n left reads. each b y n left (inl refl) reads))
      (said_in_blocks bs (λ c y n left one reads. each c y n left (inr one) reads))

  pub said_of_uses : (f : Function) → ((y n : ℕ) (left : List ℕ) → IsRead f y n left → Q y n left) → AllByRecursion Said (uses_in f)
  said_of_uses f each = said_in_blocks f.blocks (λ b y n left one reads. each y n left (b, one, reads))

  -- ---- from all uses to what is read

  left_of_both : (xs ys : List Use) → AllByRecursion Said (xs ++ ys) → AllByRecursion Said xs
  left_of_both [] ys h = tt
  left_of_both (x ∷ xs) ys h = (h.0, left_of_both xs ys h.1)

  right_of_both : (xs ys : List Use) → AllByRecursion Said (xs ++ ys) → AllByRecursion Said ys
  right_of_both [] ys h = h
  right_of_both (x ∷ xs) ys h = right_of_both xs ys h.1

  at_use : (n k at : ℕ) (left : List ℕ) (operands : List Operand) → AllByRecursion Said (uses_at n k at left operands) → (y : ℕ) → IsMember y (names_among operands) → Q y at left
  at_use n k at left operands all y one =
      each_member Said (uses_at n k at left operands) all (record { block = n; item = k; name = y; at = at; left = left })
      (mapped_member (λ x. record { block = n; item = k; name = x; at = at; left = left }) y (names_among operands) one)

  at_phis : (n k : ℕ) (phis : List Phi) → AllByRecursion Said (uses_in_phis n k phis) → (phi : Phi) → IsMember phi phis → (m : ℕ) (a : Operand) → IsMember (m, a) phi.args →
      (y : ℕ) → IsMember y (names_among (a ∷ [])) → Q y m []
  at_phis n k [] all phi one m a arg y name = absurd one
  at_phis n k (first ∷ phis) all phi one m a arg y name = ⊎_elim
      (λ here. at_args k first.args (left_of_both (uses_in_phi n k first) (uses_in_phis n (k + 1) phis) all) (subst (λ (p : Phi). IsMember (m, a) p.args) (sym here) arg))
      (λ later. at_phis n (k + 1) phis (right_of_both (uses_in_phi n k first) (uses_in_phis n (k + 1) phis) all) phi later m a arg y name)
      one
    where
      at_args : (k : ℕ) (args : List (ℕ × Operand)) → AllByRecursion Said (flat_map (λ (arg : ℕ × Operand). uses_at n k arg.0 [] (arg.1 ∷ [])) args) → IsMember (m, a) args → Q y m []
      at_args k [] all one = absurd one
      at_args k (arg ∷ args) all one =
          let here_all = left_of_both (uses_at n k arg.0 [] (arg.1 ∷ [])) (flat_map (λ (more : ℕ × Operand). uses_at n k more.0 [] (more.1 ∷ [])) args) all in
          let rest_all = right_of_both (uses_at n k arg.0 [] (arg.1 ∷ [])) (flat_map (λ (more : ℕ × Operand). uses_at n k more.0 [] (more.1 ∷ [])) args) all in
          ⊎_elim
          (λ here. subst (λ m. Q y m []) (ap (λ (p : ℕ × Operand). p.0) here) (at_use n k arg.0 [] (arg.1 ∷ []) here_all y
          (subst (λ a. IsMember y (names_among (a ∷ []))) (sym (ap (λ (p : ℕ × Operand). p.1) here)) name)))
          (λ later. at_args k args rest_all later)
          one

  at_stmts : (n k : ℕ) (front : List Stmt) (stmt : Stmt) (rest : List Stmt) → AllByRecursion Said (uses_in_stmts n k (front ++ stmt ∷ rest)) →
      (y : ℕ) → IsMember y (names_among (operands_of_stmt stmt)) → Q y n (map stmt_name (stmt ∷ rest))
  at_stmts n k [] stmt rest all y name =
      at_use n k n (map stmt_name (stmt ∷ rest)) (operands_of_stmt stmt) (left_of_both (uses_at n k n (map stmt_name (stmt ∷ rest)) (operands_of_stmt stmt)) (uses_in_stmts n (k + 1) rest) all) y name
  at_stmts n k (first ∷ front) stmt rest all y name =
      at_stmts n (k + 1) front stmt rest
      (right_of_both (uses_at n k n (map stmt_name (first ∷ (front ++ stmt ∷ rest))) (operands_of_stmt first)) (uses_in_stmts n (k + 1) (front ++ stmt ∷ rest)) all) y name

  at_block : (b : Block) → AllByRecursion Said (uses_in_block b) → (y n : ℕ) (left : List ℕ) → IsReadIn b y n left → Q y n left
  at_block b all y n left (by_phi phi a one arg name none) =
      let phis = uses_in_phis b.number 1 b.phis in
      let stmts = uses_in_stmts b.number (1 + length b.phis) b.stmts in
      let ends = uses_at b.number (1 + length b.phis + length b.stmts) b.number [] (operands_of_end b.end) in
      subst (Q y n) (sym none) (at_phis b.number 1 b.phis (left_of_both phis stmts (left_of_both (phis ++ stmts) ends all)) phi one n a arg y name)
  at_block b all y n left (by_stmt front stmt rest is name at what) =
      let phis = uses_in_phis b.number 1 b.phis in
      let stmts = uses_in_stmts b.number (1 + length b.phis) b.stmts in
      let ends = uses_at b.number (1 + length b.phis + length b.stmts) b.number [] (operands_of_end b.end) in
      let mine = subst (λ l. AllByRecursion Said (uses_in_stmts b.number (1 + length b.phis) l)) is (right_of_both phis stmts (left_of_both (phis ++ stmts) ends all)) in
      subst (Q y n) (sym what) (subst (λ m. Q y m (map stmt_name (stmt ∷ rest))) (sym at) (at_stmts b.number (1 + length b.phis) front stmt rest mine y name))
  at_block b all y n left (by_end name at what) =
      let phis = uses_in_phis b.number 1 b.phis in
      let stmts = uses_in_stmts b.number (1 + length b.phis) b.stmts in
      let ends = uses_at b.number (1 + length b.phis + length b.stmts) b.number [] (operands_of_end b.end) in
      subst (Q y n) (sym what) (subst (λ m. Q y m []) (sym at)
      (at_use b.number (1 + length b.phis + length b.stmts) b.number [] (operands_of_end b.end) (right_of_both (phis ++ stmts) ends all) y name))

  at_blocks : (bs : List Block) → AllByRecursion Said (flat_map uses_in_block bs) → (b : Block) → IsMember b bs → (y n : ℕ) (left : List ℕ) → IsReadIn b y n left → Q y n left
  at_blocks [] all b one y n left reads = absurd one
  at_blocks (c ∷ bs) all b one y n left reads = ⊎_elim
      (λ here. at_block b (subst (λ (d : Block). AllByRecursion Said (uses_in_block d)) here (left_of_both (uses_in_block c) (flat_map uses_in_block bs) all)) y n left reads)
      (λ later. at_blocks bs (right_of_both (uses_in_block c) (flat_map uses_in_block bs) all) b later y n left reads)
      one

  pub said_where_read : (f : Function) → AllByRecursion Said (uses_in f) → (y n : ℕ) (left : List ℕ) → IsRead f y n left → Q y n left
  said_where_read f all y n left (b, one, reads) = at_blocks f.blocks all b one y n left reads
