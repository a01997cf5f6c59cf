-- The networks are told behind the directories, and the lines left out behind these.
use Rattle.std.proofs.Common.{◌∙◌, ◌++◌, List, ap, string_bytes, ℕ}
use Rattle.std.proofs.lemmas.List.{append_assoc}
use Rattle.desk_policy.specs.Policy.{Content}
use Rattle.desk_expect.specs.HostBits.{host_bits_text}
use Rattle.desk_expect.specs.OutsideDirectories.{outside_in, outside_text}
use Rattle.cli_expectations.proofs.tested_policy.beside_note.Goals as goal

pub returns : goal.returns
returns c =
    let left_out = string_bytes c.in_ok-left_out.left_out in
    let outside = string_bytes c.in_ok-note.note in
    let host_bits = host_bits_text c.args.file.now c.args.text.now in
    record {
      left_out = left_out;
      tells = c.in_ok-left_out.ensures;
      says =
          c.in_ok-push_str-2.ensures.bytes
          ∙ ap (λ (t : List ℕ). t ++ c.as_str-2.result.now) (c.in_ok-push_str.ensures.bytes ∙ ap (λ (t : List ℕ). outside ++ t) (c.as_str.ensures.value ∙ c.in_ok-host_bits.ensures))
          ∙ ap (λ (t : List ℕ). (outside ++ host_bits) ++ t) c.as_str-2.ensures.value
          ∙ append_assoc outside host_bits left_out
          ∙ ap (λ (t : List ℕ). t ++ (host_bits ++ left_out))
          (c.in_ok-note.ensures ∙ ap (λ (content : Content). outside_text c.args.file.now (outside_in content.table c.args.expectations.now)) c.policy.ensures);
    }
