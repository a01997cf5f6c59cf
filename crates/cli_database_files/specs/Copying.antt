-- What the copy of a database has of what was read of it. (this project's own)
use Rattle.std.specs.Prelude.{◌≡◌, ℕ, List, [], None, Option, Some}
use Rattle.sqlite_disk.specs.declared.Files.{Files}
use Rattle.cli_database_files.specs.CopiedFile.{copied_bytes}
use Rattle.cli_database_files.specs.Kept.{IsKept}
use Rattle.cli_database_files.specs.declared.copied_file.CopiedFile.{CopiedFile}
use Rattle.cli_database_files.specs.declared.copying.Copying.{Copying}

-- no reading gives more bytes than this
abbrev pub everything : ℕ
everything = 18446744073709551615

-- how many bytes the header of a log has
abbrev pub header_len : ℕ
header_len = 32

-- What reading a log from its front on, up to so many bytes, can give; nothing if there is no log. What a file can give is told by the file.
abbrev pub LogGives : {L : Type 0} → (L → ℕ → List ℕ → Type 0) → Option L → ℕ → List ℕ → Type 0
LogGives gives None most bytes = bytes ≡ []
LogGives gives (Some log) most bytes = gives log most bytes

-- The copy has the bytes of DB that were read, and of the log those that are kept of both readings, where its header was read once more.
pub record IsCopyOf {L : Type 0} (gives : L → ℕ → List ℕ → Type 0) (read : Copying L) (files : Files CopiedFile) : Type 0 where
  pub db : copied_bytes files.db ≡ read.db_bytes.items
  pub after : List ℕ
  pub of_after : LogGives gives read.log header_len after
  pub log : IsKept read.before.items read.first.items read.second.items after (copied_bytes files.log)

-- The copy has what DB gave, and of the log what is kept of two whole readings, where its header was this before them, and was read
-- once more after them.
pub record IsCopyFrom {D L : Type 0} (db_gives : D → ℕ → List ℕ → Type 0) (log_gives : L → ℕ → List ℕ → Type 0) (db : D) (log : Option L) (before : List ℕ) (files : Files CopiedFile) : Type 0 where
  pub of_db : db_gives db everything (copied_bytes files.db)
  pub first : List ℕ
  pub of_first : LogGives log_gives log everything first
  pub second : List ℕ
  pub of_second : LogGives log_gives log everything second
  pub after : List ℕ
  pub of_after : LogGives log_gives log header_len after
  pub is_kept : IsKept before first second after (copied_bytes files.log)
