use Rattle.std.proofs.Common.{sym, ◌∙◌}
use Rattle.desk_text.specs.Path.{are_printed_alike, same_path}
use Rattle.desk_policy.proofs.InOrder.{last_none, last_some}
use Rattle.desk_policy.proofs.listings.is_last.Goals as goal

pub returns-in-Some : goal.returns-in-Some
returns-in-Some c = record {
  printed = c.eq.ensures.printed ∙ sym (last_some (λ last. are_printed_alike last c.args.path.now) c.args.paths.now c.in-Some.last.now (sym c.in-Some.ensures.value));
  same = c.eq.ensures.same ∙ sym (last_some (λ last. same_path last c.args.path.now) c.args.paths.now c.in-Some.last.now (sym c.in-Some.ensures.value));
}

pub returns-in-None : goal.returns-in-None
returns-in-None c = record {
  printed = sym (last_none (λ last. are_printed_alike last c.args.path.now) c.args.paths.now (sym c.in-None.ensures.value));
  same = sym (last_none (λ last. same_path last c.args.path.now) c.args.paths.now (sym c.in-None.ensures.value));
}
