use Rattle.std.proofs.Common.{◌≡◌, ◌++◌, [], ◌∷◌, All, rules, subst, sym}
use Rattle.std.proofs.lemmas.List.Elements.{All-push}
use Rattle.desk_store.specs.Create.{IsUtf8Revision}
use Rattle.desk_store.proofs.first_revisions.add_first.Goals as goal

pub returns-clause-utf8 : goal.returns-clause-utf8
returns-clause-utf8 c = λ all.
    let more : c.push.new.self.items ≡ c.args.heads.now.items ++ c.in_ok-head.head ∷ [] = search rules in
    subst (All IsUtf8Revision) (sym more) (All-push IsUtf8Revision c.args.heads.now.items c.in_ok-head.head all c.in_ok-head.ensures.utf8)
