-- What the readers of expressions answer, one level deeper and rank by rank.
use Rattle.std.proofs.Common.{◌≡◌, ℕ, zero, suc, ◌+◌, ◌-◌, ◌<◌, List, Ok, sym, ap, subst, arith}
use Rattle.grammar.specs.declared.stop.Stop.{Stop}
use Rattle.grammar.specs.Reading.{◌>>=◌}
use Rattle.grammar.specs.Gives.{StopsAs}
use Rattle.grammar.proofs.Loops.{stops_whole}
use Rattle.pm_ops.specs.declared.fault.PatternKind.{PatternKind}
use Rattle.pd_text.specs.declared.symbol.Symbol.{Symbol}
use Rattle.cond_subset.specs.Trees.{Expr}
use Rattle.cond_subset.specs.Readers.{Inner, link_at, links_at, within_at, readers}

-- the readers of some depth are made from those one less deep
made_from : (n m : ℕ) (r : ℕ) (input : List Symbol) → n ≡ suc m → readers n r input ≡ within_at (readers m) r input
made_from n m r input e = ap (λ k. readers k r input) e

pub one_deeper : (n : ℕ) (r : ℕ) (input : List Symbol) → 0 < n → readers n r input ≡ within_at (readers (n - 1)) r input
one_deeper n r input some = made_from n (n - 1) r input (omega arith)

-- where a rank stops, all further ranks do
still_stopped : (inner : Inner) (d k n : ℕ) (left : Expr) (input : List Symbol) (stop : Stop Symbol PatternKind) → n ≡ d + suc k
    → StopsAs stop (links_at inner (suc k) left input) → StopsAs stop (links_at inner n left input)
still_stopped inner zero k n left input stop e stopped =
    let same : suc k ≡ n = omega arith in subst (λ m. StopsAs stop (links_at inner m left input)) same stopped
still_stopped inner (suc d) k zero left input stop e stopped = absurd (omega arith)
still_stopped inner (suc d) k (suc m) left input stop e stopped =
    stops_whole stop (links_at inner m left input) (λ x. link_at inner m x.0 x.1) (still_stopped inner d k m left input stop (omega arith) stopped)

pub links_stop : (inner : Inner) (k r : ℕ) (first left : Expr) (input rest : List Symbol) (stop : Stop Symbol PatternKind) → k < r
    → links_at inner k first input ≡ Ok (left, rest) → StopsAs stop (link_at inner k left rest) → StopsAs stop (links_at inner r first input)
links_stop inner k r first left input rest stop below read stopped =
    let here : StopsAs stop (links_at inner (suc k) first input) =
    subst (λ a. StopsAs stop (a >>= λ x. link_at inner k x.0 x.1)) (sym read) stopped in
    still_stopped inner (r - suc k) k r first input stop (omega arith) here
