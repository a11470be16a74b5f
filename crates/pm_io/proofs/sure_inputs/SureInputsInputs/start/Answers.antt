use Rattle.std.proofs.Common.{◌≡◌, None, Some, position, ap, ◌∙◌, sym}
use Rattle.pm_io.specs.NamedFiles.{OpenFiles, file_named}
use Rattle.pm_io.proofs.Places.{is_named, file_named-position}
use Rattle.pm_io.proofs.sure_inputs.SureInputsInputs.start.Goals as goal

pub returns-in-Some-clause-told : goal.returns-in-Some-clause-told
returns-in-Some-clause-told c =
    let place : Some c.in-Some.file ≡ position (is_named c.args.name.now) c.self.inside.files.items = cc in
    ap (λ (inputs : OpenFiles). file_named inputs.files c.args.name.now) (sym c.self.view_is)
    ∙ file_named-position c.self.inside.files.items c.args.name.now (Some c.in-Some.file) place

pub returns-in-None-clause-told : goal.returns-in-None-clause-told
returns-in-None-clause-told c =
    let place : None ≡ position (is_named c.args.name.now) c.self.inside.files.items = cc in
    ap (λ (inputs : OpenFiles). file_named inputs.files c.args.name.now) (sym c.self.view_is)
    ∙ file_named-position c.self.inside.files.items c.args.name.now None place
