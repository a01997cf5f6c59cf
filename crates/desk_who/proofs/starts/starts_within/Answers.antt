use Rattle.std.proofs.Common.{◌≡◌, ◌<◌, ◌+◌, ◌++◌, ◌∷◌, ◌∙◌, [], ℕ, Bor, List, ap, get_or, length, map, subst, sym, take}
use Rattle.std.specs.List.{AllByRecursion, flat_map}
use Rattle.std.proofs.lemmas.List.{append_assoc, map-append, take_all, take_more}
use Rattle.std.proofs.lemmas.List.{flat_map_more}
use Rattle.desk_text.specs.Address.{number_of}
use Rattle.desk_policy.specs.Keys.{HasBlock}
use Rattle.desk_policy.specs.declared.row.Row.{Row}
use Rattle.desk_who.specs.PrivateStarts.{starts_of, within}
use Rattle.desk_who.proofs.Within.{found_by, starts_are_within}
use Rattle.desk_who.proofs.starts.starts_within.Goals as goal

all_push : {X : Type 0} (P : X → Type 0) (xs : List X) (x : X) → AllByRecursion P xs → P x → AllByRecursion P (xs ++ x ∷ [])
all_push P [] x all here = (here, tt)
all_push P (y ∷ xs) x all here = (all.0, all_push P xs x all.1 here)

next_rows : (rows : List (Bor Row)) (i : ℕ) (row : Bor Row) → i < length rows → row ≡ get_or rows i row → map (λ (r : Bor Row). r.now) (take (i + 1) rows) ≡ map (λ (r : Bor Row). r.now) (take i rows) ++ row.now ∷ []
next_rows rows i row below is =
    ap (map (λ (r : Bor Row). r.now)) (take_more rows i row below ∙ ap (λ (r : Bor Row). take i rows ++ r ∷ []) (sym is)) ∙ map-append (λ (r : Bor Row). r.now) (take i rows) (row ∷ [])

pub loop-row-preserved : goal.loop-row-preserved
loop-row-preserved c =
    let rows = c.args.rows.now in
    let i = c.loop-row.row-index in
    let row = c.row-item.result in
    let starts = c.args.starts.now in
    let own = map (λ (r : Bor Row). r.now) (take i rows) in
    let next = next_rows rows i row c.loop-row-test.true c.row-item.is in
    record {
      found = c.in_ok-push_within.ensures ∙ ap (λ ns. map number_of c.push_row.new.starts.items ++ within ns row.now) c.as_slice.ensures.value
          ∙ ap (λ ns. ns ++ within starts row.now) c.in_ok-push_row.ensures.added ∙ append_assoc (map number_of c.loop-row.found.items) (starts_of row.now) (within starts row.now)
          ∙ ap (λ ns. ns ++ found_by starts row.now) c.loop-row.invariant.found ∙ flat_map_more (found_by starts) [] own row.now ∙ ap (flat_map (found_by starts)) (sym next);
      blocks = subst (AllByRecursion (λ (r : Row). HasBlock r.entry.clients)) (sym next) (all_push (λ (r : Row). HasBlock r.entry.clients) own row.now c.loop-row.invariant.blocks c.in_ok-push_row.ensures.block);
    }

pub returns : goal.returns
returns c =
    let rows = c.args.rows.now in
    let starts = c.args.starts.now in
    let whole : map (λ (r : Bor Row). r.now) (take c.loop-row.row-index rows) ≡ map (λ (r : Bor Row). r.now) rows = ap (map (λ (r : Bor Row). r.now)) (take_all c.loop-row.row-index rows c.loop-row-test.false) in
    starts_are_within c.covers_between_first_and_last.ensures c.sorted_sets_are_unique.ensures starts (map (λ (r : Bor Row). r.now) rows) (map number_of c.loop-row.found.items) c.from_vec.result c.requires
    (subst (AllByRecursion (λ (r : Row). HasBlock r.entry.clients)) whole c.loop-row.invariant.blocks) (c.loop-row.invariant.found ∙ ap (flat_map (found_by starts)) whole) c.from_vec.ensures
