-- The lines of the files so far were added.
use Rattle.std.proofs.Common.{◌≡◌, ◌++◌, map, take}
use Rattle.std.specs.String.{string_bytes}
use Rattle.desk_core.specs.Listing.{file_of}
use Rattle.page_summary.specs.State.{state_text}
use Rattle.page_summary.proofs.state.push_state.Given as goal

abbrev pub invariant-loop-file : goal.invariant-loop-file
invariant-loop-file l = string_bytes l.text ≡ string_bytes l.initial.text ++ state_text (map file_of (take l.file-index l.files))
