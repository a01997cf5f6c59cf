use Rattle.std.proofs.Common.{◌≡◌, ◌∙◌, arith, sym, true}
use Rattle.std.proofs.lemmas.Bool.{and_from, le-leb, or_left}
use Rattle.std.proofs.lemmas.Result.{IfOk-weaker}
use Rattle.desk_text.specs.Address.{number_of}
use Rattle.desk_expect.specs.Form.{is_everybody, named}
use Rattle.desk_expect.specs.Meaning.{are_for}
use Rattle.desk_expect.specs.PrivateReading.{HoldsWhom}
use Rattle.desk_expect.proofs.reading.whom_set.Goals as goal

pub returns : goal.returns
returns c =
    let netgroups = c.args.netgroups.now in
    let hosts = c.args.hosts.now in
    let whom = c.args.whom.now in
    let all : is_everybody whom ≡ true = sym c.is_everybody.ensures ∙ c.if-not-is_everybody.false in
    IfOk-weaker c.of.result _ (HoldsWhom netgroups hosts whom)
    (λ set each address fits. each address
    ∙ or_left _ _ (and_from _ _ (le-leb (number_of c.from_number.result) address (omega (arith, c.from_number.ensures))) (le-leb address (number_of c.from_number-2.result) (omega (arith, c.from_number-2.ensures))))
    ∙ sym (or_left (is_everybody whom) (are_for netgroups hosts (named whom) address) all))
    c.of.ensures
