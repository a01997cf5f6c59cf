use Rattle.std.proofs.Common.{◌≡◌, ◌∷◌, ◌∙◌, ℕ, List, false, Some, None, ap, sym, length, take_all, arith}
use Rattle.std.specs.Prelude.{nat_lt, if◌then◌else◌}
use Rattle.std.proofs.lemmas.Bool.Decides.{nat_tests}
use Rattle.desk_tables.specs.Credentials.{at_most_16}
use Rattle.desk_tables.specs.Groups.{distinct, gids_of}
use Rattle.desk_tables.specs.PrivateIndex.{gids_under, listed}
use Rattle.desk_tables.specs.declared.groups.Group.{Group}
use Rattle.desk_tables.proofs.GidsOnce.{gid_added, gid_refused, gids_listed}
use Rattle.desk_tables.proofs.groups.Groups.gids_of.Goals as goal

pub returns-then-not-insert_distinct : goal.returns-then-not-insert_distinct
returns-then-not-insert_distinct c =
    let user = c.args.user.now in
    let ns : List ℕ = c.listed_gids-gid-items.result.now in
    let all : ns ≡ gids_under user.name c.self.inside.rows = c.listed_gids-gid-items.ensures ∙ ap (listed c.self.inside.by_member) c.as_str.ensures ∙ c.self.invariant.1 user.name in
    gid_refused user.gid ns c.loop-gid.gid-index c.loop-gid-test.true c.loop-gid.gids c.insert_distinct.new.self c.loop-gid.invariant.so_far c.if-not-insert_distinct.ensures.adds
    ∙ ap (λ (gids : List ℕ). at_most_16 (distinct (user.gid ∷ gids))) all
    ∙ ap at_most_16 (gids_listed c.self.inside.rows user)
    ∙ ap (λ (groups : List Group). at_most_16 (gids_of groups user)) c.self.view_is

pub loop-gid-preserved : goal.loop-gid-preserved
loop-gid-preserved c = record {
  so_far = gid_added c.args.user.now.gid c.listed_gids-gid-items.result.now c.loop-gid.gid-index c.loop-gid-test.true c.loop-gid.gids c.insert_distinct.new.self c.loop-gid.invariant.so_far c.if-not-insert_distinct.ensures.adds;
  few = c.insert_distinct.ensures.few c.loop-gid.invariant.few;
}

pub returns : goal.returns
returns c =
    let user = c.args.user.now in
    let ns : List ℕ = c.listed_gids-gid-items.result.now in
    let gids : List ℕ = c.loop-gid.gids in
    let all : ns ≡ gids_under user.name c.self.inside.rows = c.listed_gids-gid-items.ensures ∙ ap (listed c.self.inside.by_member) c.as_str.ensures ∙ c.self.invariant.1 user.name in
    let few : nat_lt 16 (length gids) ≡ false = grind (arith, nat_tests, c.loop-gid.invariant.few) in
    ap (λ b. if b then None else Some gids) (sym few)
    ∙ ap at_most_16 (c.loop-gid.invariant.so_far
    ∙ ap (λ ms. distinct (user.gid ∷ ms)) (take_all c.loop-gid.gid-index ns c.loop-gid-test.false)
    ∙ ap (λ ms. distinct (user.gid ∷ ms)) all
    ∙ gids_listed c.self.inside.rows user
    ∙ ap (λ (groups : List Group). gids_of groups user) c.self.view_is)
