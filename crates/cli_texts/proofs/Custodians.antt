-- The text of a folder's custodians, if they are there.
use Rattle.std.proofs.Common.{◌≡◌, ℕ, List, Option, None, Some, Result, Ok, Err, String, codes, subst}
use Rattle.std.specs.Option.{option_map}
use Rattle.std.specs.Result.{result_map_both}
use Rattle.std.specs.String.{string_bytes}
use Rattle.cli_output.specs.declared.failure.Failure.{Failure}
use Rattle.cli_files.specs.Files.{HasText, LacksText, ReadsIfThere}
use Rattle.cli_files.proofs.FilesInTurn.{lacks_unknown, text_unknown}
use Rattle.cli_texts.specs.CheckCommand.{ReadsCustodians}
use Rattle.cli_sources.specs.declared.subject.SiteFolder.{SiteFolder}

module _ {A : Type 0} where
  -- what is read of their path says what they are
  pub there_unknown : (folder : SiteFolder) (path : List ℕ) (same : path ≡ string_bytes folder.paths.custodians) (known : Option (List ℕ)) (result : Result (Option (String A)) Failure)
      → ReadsIfThere {A = A} (codes "--site") path known result → ReadsCustodians folder (result_map_both (option_map string_bytes) (λ failure. failure) result)
  there_unknown folder path same known (Ok (Some text)) has =
      text_unknown _ _ known (string_bytes text) (subst (λ (at : List ℕ). HasText (codes "--site") at known (string_bytes text)) same has)
  there_unknown folder path same known (Ok None) none = tt
  there_unknown folder path same known (Err failure) lacks =
      lacks_unknown _ _ known failure (subst (λ (at : List ℕ). LacksText (codes "--site") at known failure) same lacks)
