use Rattle.std.proofs.Common.{◌++◌, ◌∙◌, ℕ, List, ap, arith, codes}
use Rattle.std.specs.String.{string_bytes}
use Rattle.std.proofs.lemmas.List.{append_assoc}
use Rattle.cli_expectations.specs.BreachesJson.{breach_value, object_text}
use Rattle.cli_expectations.specs.PrivateBreachesJson.{later_of}
use Rattle.cli_expectations.proofs.Gathered.{gathers}
use Rattle.cli_expectations.proofs.breaches_json.push_later.Goals as goal

pub loop-breach-preserved : goal.loop-breach-preserved
loop-breach-preserved c =
    let object : List ℕ = object_text c.args.policy.now c.args.file.now (breach_value c.breach-item.result) in
    let before : List ℕ = string_bytes c.loop-breach.text in
    gathers (later_of c.args.policy.now c.args.file.now) c.args.breaches.now c.loop-breach.breach-index c.breach-item.result c.loop-breach-test.true c.breach-item.is
    (string_bytes c.args.text.now) before (string_bytes c.push_object.new.text) c.loop-breach.invariant
    (c.in_ok-push_object.ensures
    ∙ ap (λ (t : List ℕ). t ++ object) (c.in_ok-push.ensures.bytes ∙ ap (λ (comma : List ℕ). before ++ comma) (c.in_ok-push.ensures.ascii (omega arith)))
    ∙ append_assoc before (codes ",") object)
