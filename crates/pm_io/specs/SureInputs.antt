-- What the fields of sure inputs mean.
use Rattle.std.specs.Prelude.{◌<◌, ◌≤◌, length, drop, option_map, IfSome}
use Rattle.pm_io.specs.NamedFiles.{files_of, bytes_at, OpenFiles}
use Rattle.pm_io.specs.declared.sure_inputs.SureInputs.TheInside.{Inside}

-- the files, and of the begun one the bytes after those that were given
abbrev pub open_files : Inside → OpenFiles
open_files inside = record {
  files = files_of inside.files.items;
  left = option_map (λ begun. drop begun.given (bytes_at inside.files.items begun.file)) inside.begun;
}

-- the begun file is one of the files, and no more bytes were given than it has
abbrev pub IsWithin : Inside → Type 0
IsWithin inside = IfSome inside.begun (λ begun. (begun.file < length inside.files.items) × (begun.given ≤ length (bytes_at inside.files.items begun.file)))
