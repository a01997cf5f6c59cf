-- What making a database comes to, from the look for room to the commit.
use Rattle.std.proofs.Common.{◌≡◌, ◌∙◌, ap, sym, subst, inl, inr, [], IsTrue, Ok, Err, Result, IsPermutation, arith, codes, map}
use Rattle.std.proofs.lemmas.List.Sorted.{IsPermutation-sym}
use Rattle.sqlite.specs.Effect.{Database}
use Rattle.sqlite.specs.State.{HasCleanDisk, State, Survives}
use Rattle.sqlite.specs.declared.error.Error.{Error}
use Rattle.sqlite.proofs.StateLemmas.{survives_then}
use Rattle.desk_policy.specs.Site.{SiteTexts}
use Rattle.desk_core.specs.Views.{Kept}
use Rattle.desk_core.specs.History.{newest_of, pending_in, standing_of}
use Rattle.desk_core.specs.Standing.{Standing, proposals_in}
use Rattle.desk_core.specs.State.{standing}
use Rattle.desk_store.specs.Create.{HasRoom, IsCreated, IsFirstState, IsMade, IsOfMaking, LooksForRoom, Makes, MakesFirst, MakesTables, StoresAll, first_history, first_revisions}
use Rattle.desk_store.specs.Desk.{IsDesk, IsSiteHistory}
use Rattle.desk_store.specs.History.{proposed_row}
use Rattle.desk_store.specs.Tables.{LeavesCommit, rows_of}
use Rattle.desk_store.specs.declared.error.CreateError.{CreateError}
use Rattle.desk_store.specs.declared.error.CreateError.TheVariants as refused
use Rattle.desk_store.proofs.Migrating.{keyed_if_empty}
use Rattle.desk_store.proofs.Revisions.{none_of_revised}
use Rattle.desk_store.proofs.RowsRead.{none_left}

module _ (old mid new : State) (texts : SiteTexts) (clean_if_open : IsTrue mid.is_open → HasCleanDisk mid) where
  room_of : {T : Type 0} (x : T) → LooksForRoom old mid (Ok x) → IsTrue mid.is_open → HasRoom mid.now.schema
  room_of x look live = let seen = look.found (clean_if_open live) in subst (λ (d : Database). HasRoom d.schema) (sym seen.settled) seen.room

  whole : {T U : Type 0} (x : T) (result : Result U Error) → LooksForRoom old mid (Ok x) → StoresAll mid new (first_history texts) result → IsSiteHistory (first_history texts) → Survives old new (MakesFirst old texts)
  whole x result look stored is_site =
      let after = stored.crash (room_of x look) in
      survives_then old mid new (λ _. ⊥) (λ trees. IsTrue mid.is_open × MakesTables (first_history texts) mid.now trees) (MakesFirst old texts) (λ clean trees none. absurd none)
      (λ clean trees may.
      let before : HasCleanDisk mid = omega (arith, after.clean) in
      let seen = look.found before in
      (seen.was_open, seen.none, is_site, subst (λ (d : Database). MakesTables (first_history texts) d trees) seen.settled may.1))
      look.leaves.crash after

  -- a state without a proposal stands as its first revisions do
  stands_so : {V : Type 0} (state : Kept V) → IsFirstState texts state.heads → state.proposals ≡ [] → standing state ≡ standing_of (first_history texts)
  stands_so state first none =
      let as_stored : Standing = record { newest = newest_of (first_history texts); proposals = proposals_in state.proposals } in
      let newest : standing state ≡ as_stored = ap (λ n. record { newest = n; proposals = proposals_in state.proposals }) first.newest in
      let proposals : state.proposals ≡ pending_in (first_history texts) = none ∙ sym (none_of_revised (first_revisions texts)) in
      newest ∙ ap (λ ps. record { newest = newest_of (first_history texts); proposals = proposals_in ps }) proposals

  pub made_state : {T U V : Type 0} (x : T) (y : U) (state : Kept V) → LooksForRoom old mid (Ok x) → StoresAll mid new (first_history texts) (Ok y) → IsFirstState texts state.heads → state.proposals ≡ [] → (IsTrue new.is_open → LeavesCommit new)
      → IsCreated old new texts (Ok state)
  made_state x y state look stored first none law = record {
    judged = (first.consistent, first.stored);
    heads = (first.heads_are, none);
    made = λ clean.
        let after = stored.crash (room_of x look) in
        let before : HasCleanDisk mid = omega (arith, after.clean) in
        let seen = look.found before in
        let made = subst (λ (d : Database). Makes (first_history texts) d new.committed) seen.settled (stored.stored clean (subst (λ (d : Database). HasRoom d.schema) (sym seen.settled) seen.room)) in
        let at = stored.settled clean in
        let durable = law at.0 in
        record {
          none = seen.none;
          made = made;
          rest = record { autocommit = stored.autocommit; settled = λ live. at.1; tables = λ live. made.holds.tables };
          stands = record { stored = first.stored; standing_is = stands_so state first none; tables = λ live. made.holds; leaves = λ trees may. (new.committed, made.sound, durable trees may, inl made.holds) };
          is_open = at.0;
          durable = durable;
        };
    refused = λ clean. tt;
    unchanged = λ clean live. tt;
    crash = whole x (Ok y) look stored first.stored;
    mode = stored.autocommit;
  }

  pub not_stored_state : {T U : Type 0} (V : Type 0) (x : T) (said : Error) (e : CreateError) → LooksForRoom old mid (Ok x) → StoresAll {T = U} mid new (first_history texts) (Err said) → IsSiteHistory (first_history texts) → IsOfMaking e → IsCreated {V = V} old new texts (Err e)
  not_stored_state V x said e look stored is_site says =
      let all = whole x (Err said) look stored is_site in
      let same = λ (clean : HasCleanDisk new) (live : IsTrue new.is_open).
      let after = stored.crash (room_of x look) in
      let before : HasCleanDisk mid = omega (arith, after.clean) in
      let kept : new.committed ≡ old.committed = (stored.unchanged clean live).1 ∙ (look.found before).committed in kept in
      elim says [
        | inl memory ↦ subst (λ (f : CreateError). IsCreated {V = V} old new texts (Err f)) (sym memory) (record { judged = tt; heads = tt; made = λ clean. tt; refused = λ clean. tt; unchanged = same; crash = all; mode = stored.autocommit })
        | inr store ↦ subst (λ (f : CreateError). IsCreated {V = V} old new texts (Err f)) (sym store.2) (record { judged = store.1; heads = tt; made = λ clean. tt; refused = λ clean. store.1; unchanged = same; crash = all; mode = stored.autocommit })
      ]

-- a database that was made has no proposal, so that a desk stands on it
pub desk_made : {V : Type 0} (old new : State) (texts : SiteTexts) (state : Kept V) → IsMade old new texts state → IsDesk new state
desk_made old new texts state made =
    let db = new.committed in
    let some : IsPermutation [] (rows_of db (codes "proposal")) =
    subst (λ proposals. IsPermutation (map proposed_row proposals) (rows_of db (codes "proposal"))) (none_of_revised (first_revisions texts)) made.made.holds.proposals in
    record {
      rest = made.rest;
      keyed = λ live. keyed_if_empty db (codes "proposal") (none_left (rows_of db (codes "proposal")) (IsPermutation-sym [] (rows_of db (codes "proposal")) some));
      history = first_history texts;
      pending = [];
      stands = made.stands;
    }
