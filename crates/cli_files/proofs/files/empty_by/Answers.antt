-- A file that is not there has the empty text: only standard input has another, and that is always there.
use Rattle.std.proofs.Common.{◌≡◌, ◌≢◌, ℕ, List, [], Option, Result, Ok, ap, codes, sym}
use Rattle.std.specs.Str.{chars, is_utf8}
use Rattle.cli_output.specs.declared.failure.TextFault.{TextFault}
use Rattle.cli_files.specs.Files.{HasText}
use Rattle.cli_files.proofs.files.empty_by.Goals as goal

nothing : (argument : List ℕ) (word : List ℕ) (known : Option (List ℕ)) (text : List ℕ) → word ≢ codes "-" → text ≡ [] → HasText argument word known text
unfolding is_utf8 chars
nothing argument word known text other is =
    let ok : List ℕ → Result (List ℕ) TextFault = λ bytes. Ok bytes in
    record { bytes = []; contents = λ same. absurd (other same); read = ap ok (sym is) }

pub returns-in-Ok-None-clause-text : goal.returns-in-Ok-None-clause-text
returns-in-Ok-None-clause-text g c = nothing _ _ _ _ (rw c.in-Ok-None.field-0-is at c.in-Ok-None.ensures.text) c.new.ensures.bytes
