use Rattle.desk_policy.specs.Policy.{rows_of}
use Rattle.desk_index.proofs.SelectedLines.{selected_lines}
use Rattle.desk_index.proofs.laws.select_finds_the_selected_lines.Goals as goal

pub returns : goal.returns
returns c = λ probes fs address found blocks small some none.
    let content = probes.index.now in
    selected_lines content (record { 0 = fs }) address (c.lines_are_selected_by_keys.ensures (rows_of content fs) address small (blocks fs)) found some none
