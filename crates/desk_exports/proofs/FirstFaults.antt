-- The fault for which a text is refused, among all its faults.
use Rattle.std.proofs.Common.{◌≡◌, List, [], ◌∷◌, Some, Err, ap, map}
use Rattle.std.specs.Prelude.{◌↔◌}
use Rattle.std.specs.List.{slice_get}
use Rattle.std.specs.Result.{result_map_both}
use Rattle.desk_text.specs.Lines.{logical_lines}
use Rattle.desk_text.specs.Reading.{unless_fault}
use Rattle.desk_text.specs.declared.reading.LineFault.{LineFault}
use Rattle.desk_tables.specs.declared.filesystems.FsId.{FsId}
use Rattle.desk_exports.specs.Files.{line_says, text_faults}
use Rattle.desk_exports.specs.Laws.{FirstFaultIsTheHead}
use Rattle.desk_exports.specs.declared.entry.Entry.{Entry}
use Rattle.desk_exports.specs.declared.files.Scope.TheVariants.{File, Whole}
use Rattle.desk_exports.specs.declared.rules.Rule.{Rule}
use Rattle.desk_exports.proofs.FileLemmas.{found}

module _ {X Y : Type 0} (f : List X → List Y) (fault : LineFault Rule) where
  head_named : (fs : List (LineFault Rule)) (xs : List X) → (unless_fault fs xs ≡ Err fault) ↔ (slice_get fs 0 ≡ Some fault)
  head_named [] xs = (λ e. absurd (cc), λ e. absurd (cc))
  head_named (one ∷ more) xs = (λ e. let same : one ≡ fault = cc in ap (λ x. Some x) same, λ e. let same : one ≡ fault = cc in ap (λ x. Err x) same)

  head_mapped : (fs : List (LineFault Rule)) (xs : List X) → (result_map_both f (λ x. x) (unless_fault fs xs) ≡ Err fault) ↔ (slice_get fs 0 ≡ Some fault)
  head_mapped [] xs = (λ e. absurd (cc), λ e. absurd (cc))
  head_mapped (one ∷ more) xs = (λ e. let same : one ≡ fault = cc in ap (λ x. Some x) same, λ e. let same : one ≡ fault = cc in ap (λ x. Err x) same)

pub first_fault_is_the_head : FirstFaultIsTheHead
first_fault_is_the_head tables text fault = (
  head_named (λ (placed : List (FsId × Entry)). placed) fault (text_faults tables Whole text) (found (line_says tables Whole) (logical_lines text)),
  λ own_fs. head_mapped (map (λ (placed : FsId × Entry). placed.1)) fault (text_faults tables (File own_fs) text) (found (line_says tables (File own_fs)) (logical_lines text)),
)
