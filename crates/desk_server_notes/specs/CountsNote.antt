-- How many lines there are where mountd(8) may decide otherwise, over all file systems. (this project's own)
use Rattle.std.specs.Prelude.{◌≡◌, ℕ, ◌==◌, ◌++◌, ◌&&◌, ◌||◌, List, [], codes, length, if◌then◌else◌}
use Rattle.std.specs.Fmt.{decimal}
use Rattle.std.specs.List.{AllZip, sum_by}
use Rattle.desk_tables.specs.declared.filesystems.Mount.{Mount}
use Rattle.desk_policy.specs.Policy.{Content}
use Rattle.desk_server_notes.specs.MountFindings.{AreRepeatedAt, AreWiderAt}

-- so many lines
abbrev pub lines_text : ℕ → List ℕ
lines_text count = if count == 1 then codes "1 line" else decimal count ++ codes " lines"

-- at how many lines mountd grants more, if there is one
abbrev pub wider_text : ℕ → List ℕ
wider_text wider = if wider == 0 then [] else codes "grants more than this desk at " ++ lines_text wider

-- how many lines it may leave out, if there is one
abbrev pub left_out_text : ℕ → List ℕ
left_out_text left_out = if left_out == 0 then [] else codes "may leave out " ++ lines_text left_out

-- what stands between the two, if both are there
abbrev pub between : ℕ → ℕ → List ℕ
between wider left_out = if wider == 0 || left_out == 0 then [] else codes ", and "

abbrev pub both_text : ℕ → ℕ → List ℕ
both_text wider left_out = wider_text wider ++ between wider left_out ++ left_out_text left_out

-- a line that says both, if there is anything to say
abbrev pub counts_text : ℕ → ℕ → List ℕ
counts_text wider left_out =
    if wider == 0 && left_out == 0 then [] else codes "exportdesk: mountd(8) " ++ both_text wider left_out ++ codes ": see exportdesk check\n"

-- so many are found in the file systems of these mount points together
pub record CountsFound {X : Type 0} (are_at : List (List ℕ) → List X → Type 0) (mounts : List Mount) (count : ℕ) : Type 0 where
  pub lists : List (List X)
  pub are : AllZip (λ mount found. are_at mount.path found) mounts lists
  pub count_is : count ≡ sum_by length lists

-- The lines are counted where mountd grants more than this desk, and those that it may leave out, since they have a client of an
-- earlier line.
pub record TellsCounts (content : Content) (note : List ℕ) : Type 0 where
  pub wider : ℕ
  pub left_out : ℕ
  pub wider_are : CountsFound (AreWiderAt content) content.table wider
  pub left_out_are : CountsFound (AreRepeatedAt content) content.table left_out
  pub text : note ≡ counts_text wider left_out
