use Rattle.std.proofs.Common.{◌≡◌, ◌++◌, ◌∙◌, ap, map, rules}
use Rattle.std.specs.List.{flat_map}
use Rattle.std.proofs.lemmas.Fn.{always_returns_same}
use Rattle.desk_impact.specs.Writings.{writing_value, written_by_all, written_by_both}
use Rattle.desk_impact.specs.declared.writings.Writing.{Writing}
use Rattle.desk_impact.proofs.WrittenLines.{sorted_all}
use Rattle.desk_impact.proofs.writings.writings_of_both.Goals as goal

pub returns : goal.returns
returns c =
    let given = c.push_policy-2.new.writings.items in
    let sorted = c.sort_unstable_by_key.new.self.items in
    record {
      order = c.sort_unstable_by_key.ensures.sorted (λ (w : Writing). w.dir) (always_returns_same _ (λ a r. r ≡ a.0.now.dir) _ (λ a r f' k. search rules));
      all = sorted_all given sorted (written_by_both c.args.before.now c.args.after.now) c.sort_unstable_by_key.ensures.permutation
          (c.in_ok-push_policy-2.ensures ∙ ap (λ ws. ws ++ flat_map written_by_all c.args.after.now.rows) (c.in_ok-push_policy.ensures ∙ ap (λ ws. map writing_value ws ++ flat_map written_by_all c.args.before.now.rows) c.new-writings.ensures.items));
    }
