use Rattle.std.proofs.Common.{◌≡◌, ◌==◌, length, take}
use Rattle.std.specs.List.{list_any, slice_split}
use Rattle.desk_text.specs.Path.{is_dot_component}
use Rattle.desk_text.specs.PrivatePath.{is_empty}
use Rattle.desk_text.proofs.path.look_at_parts.Given as goal

abbrev pub invariant-loop-part : goal.invariant-loop-part
invariant-loop-part l = record {
  dots : l.has_dots ≡ list_any is_dot_component (take (length l.yielded) (slice_split (λ b. b == 47) l.text));
  empty : l.has_empty ≡ list_any is_empty (take (length l.yielded) (slice_split (λ b. b == 47) l.text));
}
