-- Why a source is refused.
use Rattle.std.specs.Prelude.{◌≡◌, ℕ, List}
use Rattle.gim_text.specs.declared.fault.GimpleFault.{GimpleFault}
use Rattle.gim_text.specs.declared.fault.GimpleKind.{GimpleKind}
use Rattle.gim_text.specs.declared.fault.GimpleKind.TheVariants.{Memory, Lex}
use Rattle.gim_text.specs.Faults.{memory_fault}
use Rattle.gim_lexer.specs.Cuts.{IsLexFault}

-- nothing begins at the place
abbrev pub lex_fault : ℕ → GimpleFault
lex_fault at = record { kind = Lex; at = at; len = 0 }

-- Memory ran out, or this is the first place where nothing begins. There is no other kind of fault
abbrev pub IsCauseOf : GimpleKind → List ℕ → GimpleFault → Type 0
IsCauseOf Memory source fault = fault ≡ memory_fault
IsCauseOf Lex source fault = (fault ≡ lex_fault fault.at) × IsLexFault source fault.at
IsCauseOf kind source fault = ⊥

abbrev pub IsCause : List ℕ → GimpleFault → Type 0
IsCause source fault = IsCauseOf fault.kind source fault
