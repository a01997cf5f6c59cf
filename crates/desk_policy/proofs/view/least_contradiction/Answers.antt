use Rattle.std.proofs.Common.{◌≡◌, ◌<◌, ◌≤◌, ◌∙◌, [], List, Option, Some, ap, arith, get_or, inl, inr, length, subst, sym}
use Rattle.std.specs.Option.{option_map}
use Rattle.std.proofs.lemmas.Bool.{cases_lt}
use Rattle.std.proofs.lemmas.List.{get_or_past}
use Rattle.desk_text.specs.Address.{number_of}
use Rattle.desk_tables.specs.declared.filesystems.Mount.{Mount}
use Rattle.desk_policy.specs.Contradiction.{AreConsistent, Contradicts, IsLeastIn}
use Rattle.desk_policy.specs.Policy.{rows_of}
use Rattle.desk_policy.specs.SiteFault.{contradiction_fault, exports_name}
use Rattle.desk_policy.specs.declared.row.Row.{Row}
use Rattle.desk_policy.proofs.SlotLemmas.{list_there, slot_there}
use Rattle.desk_policy.proofs.view.least_contradiction.Goals as goal

pub loop-place-preserved : goal.loop-place-preserved
loop-place-preserved c = λ fs below.
    let content = c.args.policy.now in
    let i = c.loop-place.place in
    let lent = c.rows_by_filesystem-rows.ensures in
    let table : length c.as_slice-mount-items.result.now ≡ length content.table = ap (λ (ms : List Mount). length ms) (c.as_slice-mount-items.ensures ∙ c.filesystems.ensures) in
    let within : i < length c.rows_by_filesystem-rows.result.now = (let t = c.loop-place-test.true in let e = lent.each in omega arith) in
    let here : rows_of content i ≡ c.as_slice.result.now = ap (λ (ls : List (List Row)). get_or ls i []) (sym lent.rows) ∙ list_there c.rows_by_filesystem-rows.result.now i c.index-rows-place.result within c.index-rows-place.is ∙ sym c.as_slice.ensures in
    let none : AreConsistent c.as_slice.result.now = rw c.in_default.is at c.in_ok-found.ensures in
    elim (cases_lt fs i) as (λ _. AreConsistent (rows_of content fs)) [
      | inl before ↦ c.loop-place.invariant fs before
      | inr ge ↦
          let is : fs ≡ i = omega arith in
          subst AreConsistent (sym (ap (λ n. rows_of content n) is ∙ here)) none
    ]

pub returns-in-Some : goal.returns-in-Some
returns-in-Some c =
    let content = c.args.policy.now in
    let i = c.loop-place.place in
    let found = c.in-Some.found in
    let mount = c.mount-item.result in
    let lent = c.rows_by_filesystem-rows.ensures in
    let same = c.as_slice-mount-items.ensures ∙ c.filesystems.ensures in
    let below : i < length content.table = subst (λ (ms : List Mount). i < length ms) same c.loop-place-test.true in
    let at : mount ≡ get_or content.table i mount = c.mount-item.is ∙ ap (λ (ms : List Mount). get_or ms i mount) same in
    let within : i < length c.rows_by_filesystem-rows.result.now = (let e = lent.each in omega arith) in
    let here : rows_of content i ≡ c.as_slice.result.now = ap (λ (ls : List (List Row)). get_or ls i []) (sym lent.rows) ∙ list_there c.rows_by_filesystem-rows.result.now i c.index-rows-place.result within c.index-rows-place.is ∙ sym c.as_slice.ensures in
    let least : IsLeastIn c.as_slice.result.now found.line found.other (number_of found.address) = rw c.in-Some.is at c.in_ok-found.ensures in
    record {
      fs = i;
      found = found;
      named = ap (λ (o : Option Mount). option_map (λ (m : Mount). contradiction_fault (exports_name m.path) found) o) (slot_there content.table i mount below at) ∙ ap (λ f. Some f) (sym c.in_ok-fault_of.ensures);
      here = subst (λ (rows : List Row). IsLeastIn rows found.line found.other (number_of found.address)) (sym here) least;
      before = c.loop-place.invariant;
    }

pub returns : goal.returns
returns c = λ fs later earlier address h.
    let content = c.args.policy.now in
    let lent = c.rows_by_filesystem-rows.ensures in
    elim (cases_lt fs c.loop-place.place) [
      | inl before ↦ c.loop-place.invariant fs before later earlier address h
      | inr past ↦
          let table : length c.as_slice-mount-items.result.now ≡ length content.table = ap (λ (ms : List Mount). length ms) (c.as_slice-mount-items.ensures ∙ c.filesystems.ensures) in
          let count : length content.rows ≡ length content.table = ap (λ (ls : List (List Row)). length ls) (sym lent.rows) ∙ lent.each in
          let over : length content.rows ≤ fs = (let t = c.loop-place-test.false in omega arith) in
          let h' = subst (λ (rows : List Row). Contradicts rows later earlier address) (get_or_past content.rows fs [] over) h in
          absurd (let l : h'.has_row.0 < 0 = h'.has_row.1 in omega arith)
    ]
