use Rattle.std.proofs.Common.{◌≡◌, ◌<◌, ◌≤◌, Some, ◌∷◌, [], ◌++◌, sym, subst, ap, arith, ⊎_elim}
use Rattle.std.proofs.lemmas.Bool.{both_ways, cases_lt}
use Rattle.gim_ast.specs.declared.function.Stmt.{Stmt}
use Rattle.value_numbers.specs.Candidates.{IsLeastAmong}
use Rattle.value_numbers.proofs.TakenNames.{not_less_stays, lesser_comes}
use Rattle.value_numbers.proofs.merges.lesser.Goals as goal

pub returns-then-not-is_less-clause-lesser : goal.returns-then-not-is_less-clause-lesser
returns-then-not-is_less-clause-lesser c = λ spot another spots here there least.
    let name : c.stmt_at.result.now.name ≡ another.stmt.name = ap (λ (s : Stmt). s.name) (c.stmt_at.ensures another there) in
    not_less_stays c.args.function.now spot spots another c.args.found
    (λ none. both_ways c.is_less.result c.if-not-is_less.true (c.is_less.ensures.none none))
    (λ y is. subst (λ n. y ≤ n) name (⊎_elim
    (λ less. absurd (both_ways c.is_less.result c.if-not-is_less.true ((c.is_less.ensures.some y is).1 less)))
    (λ at_most. at_most)
    (cases_lt c.stmt_at.result.now.name y)))
    least

pub returns-then-branch-clause-lesser : goal.returns-then-branch-clause-lesser
returns-then-branch-clause-lesser c = λ spot another spots here there least.
    let f = c.args.function.now in
    let name : c.stmt_at.result.now.name ≡ another.stmt.name = ap (λ (s : Stmt). s.name) (c.stmt_at.ensures another there) in
    subst (λ n. IsLeastAmong f spot (spots ++ another ∷ []) (Some n)) (sym name)
    (lesser_comes f spot spots another c.args.found
    (λ y is. subst (λ n. n ≤ y) name (let less : c.stmt_at.result.now.name < y = (c.is_less.ensures.some y is).0 c.if-not-is_less.false in omega (arith, less)))
    ((c.in_ok-may_take.ensures.may spot another here there).0 c.if-branch.true)
    least)
