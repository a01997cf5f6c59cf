-- A desk that is left alone, and one after one run and then another. (this project's own)
use Rattle.std.specs.Prelude.{ℕ, List, [], ◌++◌, refl}
use Rattle.desk_http_messages.specs.Stream.{Message}
use Rattle.desk_store.specs.Desk.{History}
use Rattle.desk_http.specs.Answering.{Serves}

module _ {S : Type 0} (good : S → Type 0) (stands : S → History → History → Type 0) where
  -- it is one after a run over some messages
  abbrev pub Ran : S → S → Type 0
  Ran old new = (messages : List Message) × (texts : List (List ℕ)) × Serves good stands old messages texts new

  pub no_messages : (desk : S) → Ran desk desk
  no_messages desk = ([], [], record { printed = tt; disk = λ clean. clean; step = λ clean history pending at. ([], refl, at) })

  module _ (follow : (old mid new : S) (messages others : List Message) (texts more : List (List ℕ)) → Serves good stands old messages texts mid → Serves good stands mid others more new → Serves good stands old (messages ++ others) (texts ++ more) new) where
    pub ran_on : (old mid new : S) → Ran old mid → Ran mid new → Ran old new
    ran_on old mid new before next = (before.0 ++ next.0, before.1 ++ next.1, follow old mid new before.0 next.0 before.1 next.1 before.2 next.2)
