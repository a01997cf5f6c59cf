use Rattle.std.proofs.Common.{◌∙◌, inr, refl, subst, sym}
use Rattle.std.proofs.lemmas.Bool.{false≢true}
use Rattle.sqlite.specs.Effect.{Database}
use Rattle.sqlite.specs.Held.{state}
use Rattle.desk_store.specs.Create.{HasLaterRoom}
use Rattle.desk_store.specs.Open.{Migrates}
use Rattle.desk_store.proofs.Migrating.{commits_not}
use Rattle.desk_store.proofs.OpeningSaid.{opening_error}
use Rattle.desk_store.proofs.database.migrate.Goals as goal

pub returns-then-has_later_room-clause-said : goal.returns-then-has_later_room-clause-said
returns-then-has_later_room-clause-said g c clean = opening_error g.S.Store c.args.conn.now c.commit_second.new.conn c.commit_second.result (c.commit_second.ensures.said clean)

pub returns-else-has_later_room-clause-migrated : goal.returns-else-has_later_room-clause-migrated
returns-else-has_later_room-clause-migrated g c = commits_not Migrates (state g.S.Store c.args.conn.now) _ c.requires.autocommit (λ clean live. (c.requires.rest clean).settled live)

pub returns-else-has_later_room-clause-said : goal.returns-else-has_later_room-clause-said
returns-else-has_later_room-clause-said g c clean =
    let settled = (c.requires.rest clean).settled (c.requires.live clean) in
    inr (inr (
      refl,
      λ room.
          let now = subst HasLaterRoom (sym c.schema.ensures.value) (subst (λ (db : Database). HasLaterRoom db.schema) (sym settled) room) in
          false≢true (sym c.if-has_later_room.false ∙ c.has_later_room.ensures.1 now),
    ))
