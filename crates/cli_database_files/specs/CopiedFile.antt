-- What a file of a copy in memory shows. (this project's own)
use Rattle.std.specs.Prelude.{ℕ, List}
use Rattle.cli_database_files.specs.declared.copied_file.CopiedFile.{CopiedFile}

-- the bytes that it has
abbrev pub copied_bytes : CopiedFile → List ℕ
copied_bytes file = file.bytes.items
