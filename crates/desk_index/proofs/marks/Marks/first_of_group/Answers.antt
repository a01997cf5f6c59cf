use Rattle.std.proofs.Common.{◌≤◌, ◌∙◌, ℕ, List, Option, Some, [], ap, find, length, subst, sym}
use Rattle.std.specs.Prelude.{slice_get}
use Rattle.std.proofs.lemmas.Option.{slice_get-get_or}
use Rattle.desk_index.specs.PrivateMarks.{first_of, mark_of, passes_at}
use Rattle.desk_index.specs.PrivateSlot.{lines_of}
use Rattle.desk_index.specs.declared.marks.Spot.{Spot}
use Rattle.desk_index.proofs.Marked.{first_marked, is_there, none_marked}
use Rattle.desk_index.proofs.marks.Marks.first_of_group.Goals as goal

pub returns-in-Some-get : goal.returns-in-Some-get
returns-in-Some-get c =
    let rows = c.args.rows.now in
    let spots = c.args.self.now.spots.items in
    let group = c.args.group.now in
    let path = c.args.path.now in
    let pairs = c.requires.pairs in
    let under : ℕ → Option ℕ = λ mark. find (passes_at rows spots group path) (lines_of pairs mark) in
    let here = c.first_marked-here.ensures pairs c.requires.by_mark ∙ ap under (c.mark_of.ensures ∙ ap (mark_of group) (c.as_bytes.ensures.value ∙ c.text.ensures.printed)) in
    let all = c.first_marked-all.ensures pairs c.requires.by_mark ∙ ap under c.mark_of-2.ensures in
    let e = ap (λ o. first_of o (under (mark_of group []))) (sym here) ∙ ap (first_of c.first_marked-here.result) (sym all) ∙ sym c.in-Some.ensures in
    c.row_at.ensures
    ∙ first_marked pairs spots rows c.requires.marked group path c.in-Some.number e c.in-Some-get.spot.now
    (ap (λ xs. slice_get xs c.in-Some.number) (sym c.deref.ensures.value)
    ∙ slice_get-get_or c.deref.result.now c.in-Some.number c.in-Some-get.spot.now c.in-Some-get.ensures.lookup.3.0
    ∙ ap (λ (spot : Spot). Some spot) (sym (c.in-Some-get.ensures.lookup.3.1 c.in-Some-get.spot.now)))

pub returns-in-None-get : goal.returns-in-None-get
returns-in-None-get c =
    let rows = c.args.rows.now in
    let spots = c.args.self.now.spots.items in
    let group = c.args.group.now in
    let path = c.args.path.now in
    let pairs = c.requires.pairs in
    let under : ℕ → Option ℕ = λ mark. find (passes_at rows spots group path) (lines_of pairs mark) in
    let here = c.first_marked-here.ensures pairs c.requires.by_mark ∙ ap under (c.mark_of.ensures ∙ ap (mark_of group) (c.as_bytes.ensures.value ∙ c.text.ensures.printed)) in
    let all = c.first_marked-all.ensures pairs c.requires.by_mark ∙ ap under c.mark_of-2.ensures in
    let e = ap (λ o. first_of o (under (mark_of group []))) (sym here) ∙ ap (first_of c.first_marked-here.result) (sym all) ∙ sym c.in-Some.ensures in
    is_there pairs spots rows c.requires.marked group path c.in-Some.number e (subst (λ (xs : List Spot). length xs ≤ c.in-Some.number) c.deref.ensures.value c.in-None-get.ensures.lookup.3)

pub returns-in-None : goal.returns-in-None
returns-in-None c =
    let rows = c.args.rows.now in
    let spots = c.args.self.now.spots.items in
    let group = c.args.group.now in
    let path = c.args.path.now in
    let pairs = c.requires.pairs in
    let under : ℕ → Option ℕ = λ mark. find (passes_at rows spots group path) (lines_of pairs mark) in
    let here = c.first_marked-here.ensures pairs c.requires.by_mark ∙ ap under (c.mark_of.ensures ∙ ap (mark_of group) (c.as_bytes.ensures.value ∙ c.text.ensures.printed)) in
    let all = c.first_marked-all.ensures pairs c.requires.by_mark ∙ ap under c.mark_of-2.ensures in
    let e = ap (λ o. first_of o (under (mark_of group []))) (sym here) ∙ ap (first_of c.first_marked-here.result) (sym all) ∙ sym c.in-None.ensures in
    sym (none_marked pairs spots rows c.requires.marked group path e)
