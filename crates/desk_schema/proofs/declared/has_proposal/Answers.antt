use Rattle.std.proofs.Common.{sym, subst, refl, arith, codes, IsTrue}
use Rattle.std.proofs.lemmas.Bool.{both_ways}
use Rattle.desk_schema.specs.Tables.{Declares, proposal_table}
use Rattle.desk_schema.proofs.FirstTables.{one_tree}
use Rattle.desk_schema.proofs.declared.has_proposal.Goals.{then-tree-lt65536, else-tree-lt65536}
use Rattle.desk_schema.proofs.declared.has_proposal.Goals as goal

pub returns-else-has_proposal_at : goal.returns-else-has_proposal_at
returns-else-has_proposal_at c = (
  λ yes. absurd (both_ways c.if-tree-lt65536.value c.if-has_proposal_at.false yes),
  λ h.
      let it : Declares c.args.schema.now (codes "proposal") proposal_table c.in-Some.tree = one_tree c.args.schema.now (codes "proposal") proposal_table (λ n. refl) c.in-Some.tree h.0 c.in-Some.ensures h.1 in
      elim c.if-tree-lt65536.branch [
        | then-tree-lt65536 w ↦ subst IsTrue (sym w.value-is) (w.has_proposal_at.ensures.1 it.alone)
        | else-tree-lt65536 w ↦ absurd (omega (arith, it.low, w.if-tree-lt65536.false))
      ],
)
