-- The pieces are added one after the other.
use Rattle.std.proofs.Common.{◌≡◌, ◌++◌, ◌∷◌, ◌∙◌, ℕ, List, Some, [], ap, arith}
use Rattle.std.specs.String.{string_bytes}
use Rattle.std.proofs.lemmas.List.{append_assoc}
use Rattle.desk_check.specs.FindingPrints.{marked_line}
use Rattle.cli_expectations.specs.FaultPrints.{position_text, rule_text, said_text, slice_text}
use Rattle.cli_expectations.proofs.fault_prints.push_finding.Goals as goal

-- one piece more
more : (old text piece now next : List ℕ) → now ≡ old ++ text → next ≡ now ++ piece → next ≡ old ++ (text ++ piece)
more old text piece now next before added = added ∙ ap (λ (t : List ℕ). t ++ piece) before ∙ append_assoc old text piece

pub returns : goal.returns
returns c =
    let old = string_bytes c.args.text.now in
    let line = c.args.line.now in
    let placed = c.args.placed in
    let position = position_text c.args.path.now line placed.place in
    let rule = rule_text placed.fault.rule in
    let slice = slice_text line placed.place in
    let said = said_text placed.fault.rule in
    let marked = marked_line line (Some placed.place) in
    let positioned = string_bytes c.push_position.new.text in
    let ruled = string_bytes c.push_rule.new.text in
    let sliced = string_bytes c.push_slice.new.text in
    let told = string_bytes c.push_said.new.text in
    let ended : string_bytes c.push.new.self ≡ told ++ 10 ∷ [] = c.in_ok-push.ensures.bytes ∙ ap (λ (end : List ℕ). told ++ end) (c.in_ok-push.ensures.ascii (omega arith)) in
    let shown : string_bytes c.push_marked_line.new.text ≡ told ++ 10 ∷ marked =
    c.in_ok-push_marked_line.ensures ∙ ap (λ (t : List ℕ). t ++ marked) ended ∙ append_assoc told (10 ∷ []) marked in
    more old (((position ++ rule) ++ slice) ++ said) (10 ∷ marked) told (string_bytes c.push_marked_line.new.text)
    (more old ((position ++ rule) ++ slice) said sliced told
    (more old (position ++ rule) slice ruled sliced (more old position rule positioned ruled c.in_ok-push_position.ensures c.in_ok-push_rule.ensures) c.in_ok-push_slice.ensures) c.in_ok-push_said.ensures) shown
