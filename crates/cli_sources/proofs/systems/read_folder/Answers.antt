-- The text of the file systems is read, or they are those of the mount points; or the folder has neither.
use Rattle.std.proofs.Common.{◌≡◌, [], Bool, List, None, Result, Ok, Err, codes, inl, inr, refl, subst}
use Rattle.std.specs.String.{string_bytes}
use Rattle.desk_tables.specs.FileSystemsText.{read_filesystems}
use Rattle.desk_tables.specs.declared.filesystems.Mount.{Mount}
use Rattle.desk_findings.specs.declared.check_faults.Source.{Source}
use Rattle.cli_output.specs.declared.failure.Failure.{Failure}
use Rattle.cli_output.specs.declared.printed.Printed.{Printed}
use Rattle.cli_files.specs.Files.{HasText}
use Rattle.cli_files.specs.FolderSystems.{ReadsSystems, SystemsPaths}
use Rattle.cli_sources.specs.Systems.{AnswersText, ReadsFolder, files_of}
use Rattle.cli_sources.specs.declared.subject.SiteFolder.{SiteFolder}
use Rattle.cli_sources.proofs.systems.read_folder.Goals as goal

listed : (json : Bool) (folder : SiteFolder) (source : Source) → source.path.now ≡ string_bytes folder.paths.filesystems → source.origins.now ≡ [] → HasText (codes "--site") (string_bytes folder.paths.filesystems) None source.text.now
    → (made : Result (List Mount) Printed) → AnswersText json source (read_filesystems source.text.now) made → ReadsFolder json folder (Ok made)
listed json folder source at plain has (Ok table) answers = inl (record { source = source; at = at; plain = plain; has_text = has; answers = answers })
listed json folder source at plain has (Err printed) answers = record { source = source; at = at; plain = plain; has_text = has; answers = answers }

lacking : (json : Bool) (folder : SiteFolder) (failure : Failure) → ReadsSystems (codes "--site") (files_of folder) (Err failure) → ReadsFolder json folder (Err failure)
lacking json folder failure (inl listed) = inl listed
lacking json folder failure (inr (inl mounted)) = inr (inl mounted)
lacking json folder failure (inr (inr answers)) = inr (inr (inl answers))

pub returns-in_ok-read_listed-in-Ok-Listed-clause-systems : goal.returns-in_ok-read_listed-in-Ok-Listed-clause-systems
returns-in_ok-read_listed-in-Ok-Listed-clause-systems g c =
    listed c.args.json c.args.folder.now (record { path = c.as_str.result; text = c.as_str-in-Ok-Listed.result; origins = _ }) c.as_str.ensures.value refl
    (rw c.as_str-in-Ok-Listed.ensures.value
    (subst (λ (paths : SystemsPaths). HasText (codes "--site") paths.filesystems None (string_bytes c.in-Ok-Listed.text)) c.systems_files.ensures (rw c.in-Ok-Listed.field-0-is at c.in-Ok-Listed.ensures.systems)))
    c.in_ok-read_listed-in-Ok-Listed.field-0 c.in_ok-read_listed-in-Ok-Listed.ensures

pub returns-in-Err-clause-systems : goal.returns-in-Err-clause-systems
returns-in-Err-clause-systems g c =
    lacking c.args.json c.args.folder.now c.in-Err.failure (subst (λ (paths : SystemsPaths). ReadsSystems (codes "--site") paths (Err c.in-Err.failure)) c.systems_files.ensures c.in-Err.ensures.systems)
