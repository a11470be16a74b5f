-- What the loop of `meanings` keeps.
use Rattle.std.proofs.Common.{◌≡◌, map, take}
use Rattle.pd_text.specs.Symbols.{symbol_of}
use Rattle.pd_text.proofs.tokens.meanings.Given as goal

abbrev pub invariant-loop-token : goal.invariant-loop-token
invariant-loop-token l = l.found.items ≡ map (symbol_of l.source) (take l.token-index l.tokens)
