-- In a well-formed function a name's statement stands at one place.
use Rattle.std.proofs.Common.{◌≡◌, ℕ, Bool, true, false, cond, eqb, Some, List, [], ◌∷◌, ◌++◌, map}
use Rattle.std.proofs.Common.{sym, ap, subst, ◌∙◌}
use Rattle.std.specs.List.{list_any, flat_map}
use Rattle.std.proofs.lemmas.Bool.{and_parts, not-true, both_ways}
use Rattle.std.proofs.lemmas.Option.{same_Some, none-some}
use Rattle.gim_ast.specs.declared.function.Function.{Function}
use Rattle.gim_ast.specs.declared.function.Block.{Block}
use Rattle.gim_ast.specs.declared.function.Stmt.{Stmt}
use Rattle.gim_ast.specs.Functions.{first_where, phi_name, stmt_name, assigned_in, block_of}
use Rattle.gim_ast.specs.WellFormed.{IsWellFormed}
use Rattle.gim_meaning.specs.ReachedPoints.{Lies}
use Rattle.gim_meaning.proofs.RightSides.{Has, AreDistinct, in_back, has_stmt, back_distinct}
use Rattle.gim_meaning.proofs.RightSides.{not_behind, assigned_in_found, names_distinct}
use Rattle.gim_meaning.proofs.RightSides.{block_distinct}

-- blocks that are found and assign a name are one
pub one_block : (p q : Block → Bool) (y : ℕ) (blocks : List Block) (b c : Block) →
    first_where p blocks ≡ Some b → first_where q blocks ≡ Some c →
    AreDistinct (flat_map assigned_in blocks) → Has y (assigned_in b) → Has y (assigned_in c) →
    b ≡ c
one_block p q y [] b c b_is c_is distinct in_b in_c = absurd (none-some b b_is)
one_block p q y (d ∷ blocks) b c b_is c_is distinct in_b in_c =
    by (p d) (q d) b_is c_is (λ e k. one_block p q y blocks b c e k
    (back_distinct (assigned_in d) (flat_map assigned_in blocks) distinct) in_b in_c)
  where
    apart : Has y (assigned_in d) → Has y (flat_map assigned_in blocks) → b ≡ c
    apart here later = absurd (both_ways (list_any (eqb y) (flat_map assigned_in blocks))
        (not_behind y (assigned_in d) (flat_map assigned_in blocks) distinct here) later)

    by : (s t : Bool) → cond s (Some d) (first_where p blocks) ≡ Some b →
        cond t (Some d) (first_where q blocks) ≡ Some c →
        (first_where p blocks ≡ Some b → first_where q blocks ≡ Some c → b ≡ c) → b ≡ c
    by true true e k rest = sym (same_Some d b e) ∙ same_Some d c k
    by true false e k rest = apart (subst (λ z. Has y (assigned_in z)) (sym (same_Some d b e)) in_b)
        (assigned_in_found q y blocks c k in_c)
    by false true e k rest = apart (subst (λ z. Has y (assigned_in z)) (sym (same_Some d c k)) in_c)
        (assigned_in_found p y blocks b e in_b)
    by false false e k rest = rest e k

abbrev tail_of : List Stmt → List Stmt
tail_of [] = []
tail_of (s ∷ stmts) = stmts

abbrev pub head_or : Stmt → List Stmt → Stmt
head_or d [] = d
head_or d (s ∷ stmts) = s

-- a name stands once among distinct names
one_stmt : (front : List Stmt) (stmt : Stmt) (stmts others : List Stmt) (other : Stmt)
    (after : List Stmt) → stmt.name ≡ other.name →
    front ++ stmt ∷ stmts ≡ others ++ other ∷ after →
    AreDistinct (map stmt_name (front ++ stmt ∷ stmts)) → stmt ∷ stmts ≡ other ∷ after
one_stmt [] stmt stmts [] other after name same distinct = same
one_stmt [] stmt stmts (s ∷ others) other after name same distinct =
    absurd (both_ways (list_any (eqb stmt.name) (map stmt_name stmts))
    (not-true (list_any (eqb stmt.name) (map stmt_name stmts)) ((and_parts _ _ distinct).0))
    (subst (λ ss. Has stmt.name (map stmt_name ss)) (sym (ap tail_of same))
    (subst (λ y. Has y (map stmt_name (others ++ other ∷ after))) (sym name)
    (has_stmt others other after))))
one_stmt (s ∷ front) stmt stmts [] other after name same distinct =
    absurd (both_ways (list_any (eqb s.name) (map stmt_name (front ++ stmt ∷ stmts)))
    (not-true (list_any (eqb s.name) (map stmt_name (front ++ stmt ∷ stmts)))
    ((and_parts _ _ distinct).0))
    (subst (λ y. Has y (map stmt_name (front ++ stmt ∷ stmts)))
    (name ∙ sym (ap (λ (ss : List Stmt). (head_or stmt ss).name) same))
    (has_stmt front stmt stmts)))
one_stmt (s ∷ front) stmt stmts (t ∷ others) other after name same distinct =
    one_stmt front stmt stmts others other after name (ap tail_of same) ((and_parts _ _ distinct).1)

-- the block and the statements from the name's on are those told
pub record IsThatPlace (block : Block) (stmt : Stmt) (stmts : List Stmt) (other : Block)
    (first : Stmt) (rest : List Stmt) : Type 0 where
  pub block_is : other ≡ block
  pub stmts_are : first ∷ rest ≡ stmt ∷ stmts

pub one_place : (f : Function) → IsWellFormed f →
    (block : Block) (stmt : Stmt) (stmts : List Stmt) → Lies f block (stmt ∷ stmts) →
    (other : Block) (first : Stmt) (rest : List Stmt) → Lies f other (first ∷ rest) →
    first.name ≡ stmt.name → IsThatPlace block stmt stmts other first rest
unfolding block_of
one_place f well block stmt stmts there other first rest place name =
    let p = λ (b : Block). eqb b.number block.number in
    let q = λ (b : Block). eqb b.number other.number in
    let distinct = names_distinct f well in
    let in_block : Has stmt.name (map stmt_name block.stmts) =
    subst (λ ss. Has stmt.name (map stmt_name ss)) (sym there.is)
    (has_stmt there.front stmt stmts) in
    let in_other : Has stmt.name (map stmt_name other.stmts) =
    subst (λ ss. Has stmt.name (map stmt_name ss)) (sym place.is)
    (subst (λ y. Has y (map stmt_name (place.front ++ first ∷ rest))) name
    (has_stmt place.front first rest)) in
    let same = one_block q p stmt.name f.blocks other block place.found there.found distinct
    (in_back stmt.name (map phi_name other.phis) (map stmt_name other.stmts) in_other)
    (in_back stmt.name (map phi_name block.phis) (map stmt_name block.stmts) in_block) in
    let apart : AreDistinct (map stmt_name (place.front ++ first ∷ rest)) =
    subst (λ ss. AreDistinct (map stmt_name ss)) place.is
    (back_distinct (map phi_name other.phis) (map stmt_name other.stmts)
    (block_distinct q f.blocks other place.found distinct)) in
    record {
      block_is = same;
      stmts_are = one_stmt place.front first rest there.front stmt stmts name
          (sym place.is ∙ ap (λ (b : Block). b.stmts) same ∙ there.is) apart;
    }
