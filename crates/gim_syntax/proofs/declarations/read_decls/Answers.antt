-- What the search leaves of the contract of `read_decls`.
use Rattle.std.proofs.Common.{sym, ◌∙◌}
use Rattle.std.proofs.lemmas.Result.{err_from_is_err_and}
use Rattle.gim_syntax.specs.Readers.{begins_type, decl_at, decls_at}
use Rattle.grammar.proofs.ItemLoops.{stops}
use Rattle.gim_syntax.proofs.declarations.read_decls.Goals as goal

pub returns-in_err-rest-clause-reads : goal.returns-in_err-rest-clause-reads
returns-in_err-rest-clause-reads c =
    let p = err_from_is_err_and c.from_residual.result c.from_residual.ensures.1 in
    rw (p.1, p.2)
    (stops begins_type decl_at (decls_at c.args.tokens.now) c.loop-decls.decls c.loop-decls.rest.now c.loop-decls.invariant.0
    (sym c.begins_decl.ensures ∙ c.loop-decls-test.true) c.in_err-rest.field-0.0 c.in_err-rest.ensures.reads)
