use Rattle.std.proofs.Common.{◌≡◌, ◌==◌, ◌∙◌, ap, sym, subst, Err, List, map}
use Rattle.std.specs.Prelude.{Contains, IsPermutation}
use Rattle.std.proofs.lemmas.List.Sorted.{Contains-permutation, IsPermutation-sym, IsPermutation-trans}
use Rattle.desk_core.specs.Head.{Revision, StandOnce, newest_in}
use Rattle.desk_core.specs.History.{IsHistory}
use Rattle.desk_core.specs.declared.entry.Entry.TheVariants.{Revised}
use Rattle.desk_store.specs.NewestRevisions.{AreNewest, number_in}
use Rattle.desk_store.specs.declared.error.DeskError.TheVariants as error
use Rattle.desk_store.proofs.Members.{from_filter}
use Rattle.desk_store.proofs.NextNumbers.{newest_chosen}
use Rattle.desk_store.proofs.OneHead.{chosen_once}
use Rattle.desk_store.proofs.Revisions.{history_of, numbered_in}
use Rattle.desk_store.proofs.SortedNumbers.{sorted_numbers}
use Rattle.desk_store.proofs.newest_revisions.newest_heads.Goals as goal

pub returns-in-Ok-newest_numbers-clause-newest : goal.returns-in-Ok-newest_numbers-clause-newest
returns-in-Ok-newest_numbers-clause-newest c =
    let sorted : List Revision = c.in-Ok.revisions.items in
    let numbers = c.in-Ok-newest_numbers.numbers in
    let numbered : IsHistory (map Revised sorted) = subst (λ xs. IsHistory (map Revised xs)) c.as_slice.ensures.value c.in-Ok-newest_numbers.ensures.history in
    let newest : AreNewest numbers (map Revised sorted) = subst (λ xs. AreNewest numbers (map Revised xs)) c.as_slice.ensures.value c.in-Ok-newest_numbers.ensures.newest in
    (sorted, c.in-Ok.ensures.same, numbered, ap newest_in c.keep_newest.ensures ∙ newest_chosen numbers sorted (numbered_in sorted numbered) newest)

pub returns-in-Ok-newest_numbers-clause-among : goal.returns-in-Ok-newest_numbers-clause-among
returns-in-Ok-newest_numbers-clause-among c = λ head there.
    let sorted : List Revision = c.in-Ok.revisions.items in
    let numbers = c.in-Ok-newest_numbers.numbers in
    let from = from_filter (λ (r : Revision). number_in numbers r.file == r.rev) sorted head (subst (λ xs. Contains xs head) c.keep_newest.ensures there) in
    Contains-permutation sorted c.args.revisions.items head (IsPermutation-sym c.args.revisions.items sorted c.in-Ok.ensures.same) from.0

pub returns-in-Ok-newest_numbers-clause-once : goal.returns-in-Ok-newest_numbers-clause-once
returns-in-Ok-newest_numbers-clause-once c =
    let sorted : List Revision = c.in-Ok.revisions.items in
    let numbered : IsHistory (map Revised sorted) = subst (λ xs. IsHistory (map Revised xs)) c.as_slice.ensures.value c.in-Ok-newest_numbers.ensures.history in
    subst StandOnce (sym c.keep_newest.ensures) (chosen_once c.in-Ok-newest_numbers.numbers sorted (numbered_in sorted numbered))

pub returns-in-Err-clause-gap : goal.returns-in-Err-clause-gap
returns-in-Err-clause-gap c = λ schema history same whole.
    let sorted : List Revision = c.in-Ok.revisions.items in
    let told : c.in-Err.e ≡ error.Schema = cc in
    let moved : IsPermutation sorted history = IsPermutation-trans sorted c.args.revisions.items history (IsPermutation-sym c.args.revisions.items sorted c.in-Ok.ensures.same) same in
    c.in-Err.ensures.gap (ap Err told)
    (subst (λ xs. IsHistory (map Revised xs)) (sym c.as_slice.ensures.value) (history_of sorted (sorted_numbers sorted history c.in-Ok.ensures.order moved (numbered_in history whole))))
