use Rattle.std.proofs.Common.{◌<◌, ◌≤◌, [], ℕ, List, arith, length, refl, subst, sym}
use Rattle.std.proofs.lemmas.List.{get_or_past}
use Rattle.desk_policy.specs.Policy.{Content, rows_of}
use Rattle.desk_index.specs.Keys.{AreWeights, lines_under}
use Rattle.desk_index.specs.PrivateKeyed.{AreKeyed, KeepsRows}
use Rattle.desk_index.specs.declared.keyed.Keyed.{Keyed}
use Rattle.desk_index.proofs.Weights.{no_weights, used_weights}
use Rattle.desk_index.proofs.index.Index.weights.Goals as goal

pub returns-then-place-len : goal.returns-then-place-len
returns-then-place-len c =
    let fs = c.args.fs in
    let past : length c.self.inside.policy.rows ≤ fs.0 = (let e = c.len.ensures in omega (arith, c.if-place-len.true, c.self.invariant.each)) in
    subst (λ (content : Content). AreWeights (lines_under content) fs.0 []) c.self.view_is
    (no_weights c.self.inside.policy fs.0 [] (get_or_past c.self.inside.policy.rows fs.0 [] past) refl)

pub returns : goal.returns
returns c =
    let fs = c.args.fs in
    let content = c.args.self.now in
    let parts = c.self.inside.parts.items in
    let are = subst (λ (k : Content). AreKeyed k parts) c.self.view_is c.self.invariant in
    let within : fs.0 < length parts = (let e = c.len.ensures in omega (arith, c.if-place-len.false)) in
    let part = c.index.result.now in
    subst (λ (weights : List ℕ). AreWeights (lines_under content) fs.0 weights) (sym c.weights.ensures)
    (used_weights content fs.0 part (subst (λ (p : Keyed). KeepsRows p (rows_of content fs.0)) (sym c.index.ensures) (are.keeps fs.0 part within)))
