-- What `mounts` has; or, if it is not there either, why `filesystems` has no text.
use Rattle.std.proofs.Common.{inl, inr}
use Rattle.cli_files.proofs.FilesInTurn.{lacks_text, lacks_unknown, text_unknown}
use Rattle.cli_files.proofs.folder_systems.mounted_by.Goals as goal

pub returns-in-Ok-clause-systems : goal.returns-in-Ok-clause-systems
returns-in-Ok-clause-systems g c =
    record {
      text = c.as_str.result.now;
      has_text = rw c.as_str.ensures.value (text_unknown _ _ _ _ (rw c.in-Ok-Some.field-0-is at c.in-Ok-Some.ensures.text));
      answers = c.in-Ok.ensures;
    }

pub returns-in-Ok-Some-clause-systems : goal.returns-in-Ok-Some-clause-systems
returns-in-Ok-Some-clause-systems g c =
    inr (inr (record {
      text = c.as_str.result.now;
      has_text = rw c.as_str.ensures.value (text_unknown _ _ _ _ (rw c.in-Ok-Some.field-0-is at c.in-Ok-Some.ensures.text));
      answers = c.in-Err-mounts_of.ensures;
    }))

pub returns-in-Ok-None-clause-systems : goal.returns-in-Ok-None-clause-systems
returns-in-Ok-None-clause-systems g c = inl (lacks_unknown _ _ _ _ (lacks_text _ _ _ _ c.in-Err-text_by.ensures.text))

pub returns-clause-systems : goal.returns-clause-systems
returns-clause-systems g c = inr (inl (lacks_unknown _ _ _ _ c.in-Err.ensures.text))
