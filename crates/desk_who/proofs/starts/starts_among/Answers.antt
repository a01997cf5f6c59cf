use Rattle.std.proofs.Common.{◌≡◌, ◌+◌, ◌++◌, ◌∷◌, ◌∙◌, [], List, ap, map, subst, sym, take}
use Rattle.std.specs.List.{AllByRecursion, flat_map}
use Rattle.std.proofs.lemmas.List.{take_all, take_more}
use Rattle.desk_text.specs.Address.{number_of}
use Rattle.desk_policy.specs.declared.row.Row.{Row}
use Rattle.desk_policy.specs.Keys.{HasBlock}
use Rattle.desk_who.specs.PrivateStarts.{starts_of}
use Rattle.desk_who.proofs.Gathered.{writes}
use Rattle.desk_who.proofs.Steady.{are_starts}
use Rattle.desk_who.proofs.starts.starts_among.Goals as goal

all_push : {X : Type 0} (P : X → Type 0) (xs : List X) (x : X) → AllByRecursion P xs → P x → AllByRecursion P (xs ++ x ∷ [])
all_push P [] x all here = (here, tt)
all_push P (y ∷ xs) x all here = (all.0, all_push P xs x all.1 here)

pub loop-row-preserved : goal.loop-row-preserved
loop-row-preserved c =
    let rows = c.args.rows.now in
    let i = c.loop-row.row-index in
    let row = c.row-item.result in
    let next : take (i + 1) rows ≡ take i rows ++ row ∷ [] = take_more rows i row c.loop-row-test.true ∙ ap (λ (r : Row). take i rows ++ r ∷ []) (sym c.row-item.is) in (
      writes rows i row c.loop-row-test.true c.row-item.is starts_of [] (map number_of c.loop-row.starts.items) (map number_of c.push_row.new.starts.items)
          c.loop-row.invariant.0 c.in_ok-push_row.ensures.added,
      subst (AllByRecursion (λ (r : Row). HasBlock r.entry.clients)) (sym next) (all_push (λ (r : Row). HasBlock r.entry.clients) (take i rows) row c.loop-row.invariant.1 c.in_ok-push_row.ensures.block),
    )

pub returns : goal.returns
returns c =
    let rows = c.args.rows.now in
    let whole : take c.loop-row.row-index rows ≡ rows = take_all c.loop-row.row-index rows c.loop-row-test.false in
    are_starts c.covers_between_first_and_last.ensures c.sorted_sets_are_unique.ensures rows (map number_of c.loop-row.starts.items) c.from_vec.result
    (subst (AllByRecursion (λ (r : Row). HasBlock r.entry.clients)) whole c.loop-row.invariant.1) (c.loop-row.invariant.0 ∙ ap (flat_map starts_of) whole) c.from_vec.ensures
