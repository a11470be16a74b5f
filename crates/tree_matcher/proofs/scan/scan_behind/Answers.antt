use Rattle.std.proofs.Common.{◌≡◌, ◌<◌, None, length, ◌∙◌, arith}
use Rattle.pattern_rows.specs.Found.{found}
use Rattle.tree_matcher.proofs.Rounds.{fit_round, answer_round, count_round}
use Rattle.tree_matcher.proofs.scan.scan_behind.Goals as goal

pub loop-i-preserved : goal.loop-i-preserved
loop-i-preserved g c =
    let h = g.S.Subject.holds c.args.subject.now in
    let o = g.S.Subject.operand_at c.args.subject.now in
    let rows = c.args.rows.now in
    let i = c.loop-i.i in
    let row = c.index-rows-i.result in
    let within : c.loop-i.i < length c.args.rows.now = omega arith in
    let none : found (g.S.Subject.holds c.args.subject.now) (g.S.Subject.operand_at c.args.subject.now) c.index-rows-i.result ≡ None = cc in
    record {
      fit = fit_round h o rows i row within c.index-rows-i.is c.loop-i.invariant.fit;
      answer = answer_round h o c.args.passed rows i row within c.index-rows-i.is none ∙ c.loop-i.invariant.answer;
      count = count_round h o rows i row c.loop-i.steps _ within c.index-rows-i.is none c.captures_of.ensures.count ∙ c.loop-i.invariant.count;
    }
