use Rattle.std.proofs.Common.{◌≡◌, IfSome, map, subst}
use Rattle.std.specs.List.{IsAllAdjacentAnswer}
use Rattle.sqlite.specs.Order.{column}
use Rattle.sqlite.specs.declared.types.Value.TheVariants.{Int}
use Rattle.desk_store.specs.Keys.{is_below}
use Rattle.desk_store.proofs.KeysApart.{told_keys}
use Rattle.desk_store.proofs.keys.are_keys.Goals as goal

pub returns-in-Some : goal.returns-in-Some
returns-in-Some c =
    let say = subst (λ found. IfSome found (λ keys. map (λ row. column row 0) c.args.rows.now ≡ map Int keys.items)) c.in-Some.is c.in_ok-keys.ensures.keys in
    let answer = subst (λ keys. IsAllAdjacentAnswer (λ key next below. below ≡ is_below key next) keys c.rise.result) c.as_slice.ensures.value c.rise.ensures in
    told_keys c.args.rows.now c.in-Some.keys.items say c.sort_unstable.new.self.items c.rise.result c.sort_unstable.ensures.permutation c.sort_unstable.ensures.sorted answer

pub returns-in-None : goal.returns-in-None
returns-in-None c = (λ yes. absurd (cc), λ are. absurd (c.in_ok-keys.ensures.none c.in-None.is are.whole))
