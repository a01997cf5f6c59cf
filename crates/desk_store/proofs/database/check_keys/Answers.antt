use Rattle.std.proofs.Common.{[], IsPermutation, arith, codes, inr, refl, subst, sym}
use Rattle.std.proofs.lemmas.List.Sorted.{IsPermutation-sym}
use Rattle.sqlite.specs.Held.{state}
use Rattle.desk_store.specs.Tables.{rowids_of}
use Rattle.desk_store.proofs.KeysApart.{keys_before}
use Rattle.desk_store.proofs.RowsRead.{on_ok}
use Rattle.desk_store.specs.Error.{Query}
use Rattle.desk_store.specs.Tables.{AreKeys, select_proposal_keys}
use Rattle.desk_store.specs.declared.error.Task.TheVariants as tasks
use Rattle.desk_store.proofs.OpeningSaid.{told_query, twice_told}
use Rattle.desk_store.proofs.database.check_keys.Goals as goal

pub returns-in-Ok-clause-keyed : goal.returns-in-Ok-clause-keyed
returns-in-Ok-clause-keyed g c clean =
    let before = rowids_of (state g.S.Store c.args.conn.now).committed (codes "proposal") in
    on_ok c.accept_keys.result (keys_before before c.as_slice.result.now (subst (IsPermutation before) (sym c.as_slice.ensures.value) (c.in-Ok.ensures.rows clean))) c.accept_keys.ensures.keys

pub returns-in-Ok-clause-said : goal.returns-in-Ok-clause-said
returns-in-Ok-clause-said g c clean =
    let before = rowids_of (state g.S.Store c.args.conn.now).committed (codes "proposal") in
    let same : IsPermutation before c.as_slice.result.now = subst (IsPermutation before) (sym c.as_slice.ensures.value) (c.in-Ok.ensures.rows clean) in
    twice_told g.S.Store c.args.conn.now c.read_proposal_keys.new.conn tasks.ReadRevisions c.accept_keys.result (AreKeys c.as_slice.result.now) c.accept_keys.ensures.twice
    (λ none. inr (λ keyed. none (keys_before c.as_slice.result.now before (IsPermutation-sym before c.as_slice.result.now same) keyed)))

pub returns-in-Err-clause-said : goal.returns-in-Err-clause-said
returns-in-Err-clause-said g c clean =
    told_query g.S.Store c.args.conn.now c.read_proposal_keys.new.conn (Query select_proposal_keys []) (3, omega arith, refl) tasks.ReadRevisions c.in-Err.e c.not_stored.result c.not_stored.ensures.named (c.in-Err.ensures.said clean)
