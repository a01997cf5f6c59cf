use Rattle.std.proofs.Common.{◌≡◌, ◌∙◌, ℕ, List, ap, find, subst}
use Rattle.desk_policy.specs.Policy.{Content, rows_of}
use Rattle.desk_policy.specs.Verdict.{lists_here}
use Rattle.desk_policy.specs.declared.row.Row.{Row}
use Rattle.desk_index.specs.PrivateKeyed.{AreKeyed}
use Rattle.desk_index.specs.PrivateNumbered.{rows_numbered}
use Rattle.desk_index.proofs.KeyedParts.{ascending_all}
use Rattle.desk_index.proofs.RowsByNumber.{numbered_chosen}
use Rattle.desk_index.proofs.index.Index.first_listing.Goals as goal

pub returns : goal.returns
returns c = λ chosen are all.
    let content = c.args.self.now in
    let fs = c.args.fs.0 in
    let ascending = ascending_all content c.self.inside.parts.items (subst (λ (k : Content). AreKeyed k c.self.inside.parts.items) c.self.view_is c.self.invariant) fs in
    let same : c.rows.result.now ≡ rows_of content fs = c.rows.ensures ∙ ap (λ (k : Content). rows_of k fs) c.self.view_is in
    c.first_listing.ensures
    ∙ ap (λ (rows : List Row). find (lists_here c.args.path.now) (rows_numbered rows c.args.lines.now)) same
    ∙ ap (λ (lines : List ℕ). find (lists_here c.args.path.now) (rows_numbered (rows_of content fs) lines)) are
    ∙ ap (find (lists_here c.args.path.now)) (numbered_chosen (rows_of content fs) ascending chosen all)
