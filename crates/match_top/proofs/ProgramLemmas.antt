-- What was answered and written, where nothing failed.
use Rattle.std.proofs.Common.{ℕ, List, Option, Some, None, IfSome}
use Rattle.pm_io.specs.Causes.{Rose}
use Rattle.pm_io.specs.InputState.{InputState}
use Rattle.match_top.specs.Answer.{Answer}
use Rattle.match_top.specs.Commands.{needs_of, work_of}
use Rattle.match_top.specs.Given.{Answered, AnswersHeld}
use Rattle.match_top.specs.Program.{ServesHeld}
use Rattle.match_top.specs.Writing.{Sunk, Writes, WroteAll}
use Rattle.match_top.specs.declared.commands.Command.{Command}
use Rattle.match_top.proofs.GivenLemmas.{by_held}
use Rattle.match_top.proofs.StatusLemmas.{wrote_all}

pub served_held : (command : Option Command) (before after : InputState) (answer : Answer) (out report : Sunk) (number : ℕ) → Answered (needs_of command) (work_of command) before after answer
    → Writes answer out report number → ¬ Rose before.faults after.faults → ¬ Rose out.old.faults out.new.faults → ¬ Rose report.old.faults report.new.faults
    → IfSome before.holds (λ held. ServesHeld command held out report number)
served_held command before after answer out report number answered writes quiet quiet_out quiet_report =
    by before.holds (by_held (needs_of command) (work_of command) before after answer quiet answered) where
      by : (told : Option (List ℕ → Option (List ℕ))) → IfSome told (λ held. AnswersHeld (needs_of command) (work_of command) held answer)
          → IfSome told (λ held. ServesHeld command held out report number)
      by None h = tt
      by (Some held) h = record { answer = answer; answers = h; wrote = wrote_all answer out report number writes quiet_out quiet_report }
