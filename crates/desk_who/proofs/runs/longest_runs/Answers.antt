use Rattle.std.proofs.Common.{true, ◌≡◌, ◌≢◌, ◌<◌, ◌++◌, ◌∷◌, ◌∙◌, [], ℕ, List, ap, arith, eqb, get_or, length, map, refl, subst, sym}
use Rattle.std.proofs.lemmas.Bool.{eq-eqb, or_left, or_right, true≢false}
use Rattle.std.proofs.lemmas.List.{get_or-map, length-map, map-append}
use Rattle.std.proofs.lemmas.List.Folds.{list_any-from_Any}
use Rattle.desk_text.specs.Address.{number_of}
use Rattle.desk_text.specs.AddrSet.{is_among}
use Rattle.desk_text.specs.declared.address.Addr.{Addr}
use Rattle.desk_who.specs.Runs.{AreStartsOf, Finds, is_asked, run_value}
use Rattle.desk_who.specs.declared.runs.Run.{Run}
use Rattle.desk_who.proofs.Going.{begins, cuts, ends, not_zero, stays}
use Rattle.desk_who.proofs.runs.longest_runs.Goals as goal
use Rattle.desk_who.proofs.runs.longest_runs.Goals.{then-not-is_alike+in_ok-push, else-not-is_alike}

pushed : {T A : Type 0} (meaning : T → A) (old new : List (Run T)) (run : Run T) → new ≡ old ++ run ∷ [] → map (run_value meaning) new ≡ map (run_value meaning) old ++ run_value meaning run ∷ []
pushed meaning old new run is = ap (map (run_value meaning)) is ∙ map-append (run_value meaning) old (run ∷ [])

-- the number of an item
item : (items : List Addr) (i number : ℕ) (other : Addr) → i < length items → number ≡ number_of (get_or items i other) → number ≡ get_or (map number_of items) i number
item items i number other below is = is ∙ sym (get_or-map number_of items i other number below)

-- the number of an item is asked for, and so is that of the first address of all
asked_item : (numbers : List ℕ) (i number : ℕ) → i < length numbers → number ≡ get_or numbers i number → is_asked numbers number ≡ true
asked_item numbers i number below is = or_right (eqb number 0) (is_among number numbers) (list_any-from_Any (λ other. eqb other number) numbers (i, number, below, sym is, eq-eqb number number refl))

asked_first : (numbers : List ℕ) (number : ℕ) → number ≡ 0 → is_asked numbers number ≡ true
asked_first numbers number is = or_left (eqb number 0) (is_among number numbers) (eq-eqb number 0 is)

finds_at : {T A : Type 0} (meaning : T → A) {found : Addr → T → Type 0} (value_at : ℕ → A) {starts other : List ℕ} → starts ≡ other → Finds meaning found starts value_at → Finds meaning found other value_at
finds_at meaning value_at same finds = λ address value asked gives. finds address value (ap (λ ns. is_asked ns (number_of address)) same ∙ asked) gives

pub loop-start-init : goal.loop-start-init
loop-start-init g c = λ value_at finds are.
    let meaning = g.T.Alike.meaning in
    begins value_at (map number_of c.as_slice-start-items.result.now) (map (run_value meaning) c.new-runs.result.items) (number_of c.from_number-first.result) (meaning c.find-value.result)
    are (ap (map (run_value meaning)) c.new-runs.ensures.items) c.from_number-first.ensures (finds c.from_number-first.result c.find-value.result (asked_first (map number_of c.as_slice-start-items.result.now) (number_of c.from_number-first.result) c.from_number-first.ensures) c.find-value.ensures)

pub overflow_sub-number : goal.overflow_sub-number
overflow_sub-number g c =
    let items = c.as_slice-start-items.result.now in
    let numbers = map number_of items in
    let few : length numbers ≡ length items = length-map items number_of in
    let below : c.loop-start.start-index < length items = c.loop-start-test.true in
    let apart = not_zero numbers c.loop-start.start-index c.number-number.result (omega arith) (item items c.loop-start.start-index c.number-number.result (record { number = 0 }) below c.number-number.ensures)
    (ap (is_among 0) c.as_slice-start-items.ensures.value ∙ c.requires.behind) in
    omega arith

pub loop-start-preserved : goal.loop-start-preserved
loop-start-preserved g c = λ value_at finds are.
    let meaning = g.T.Alike.meaning in
    let items = c.as_slice-start-items.result.now in
    let numbers = map number_of items in
    let i = c.loop-start.start-index in
    let number = c.number-number.result in
    let few : length numbers ≡ length items = length-map items number_of in
    let below : i < length items = c.loop-start-test.true in
    let within : i < length numbers = omega arith in
    let is = item items i number (record { number = 0 }) below c.number-number.ensures in
    let done = map (run_value meaning) c.loop-start.runs.items in
    let first = number_of c.loop-start.first in
    let value = meaning c.loop-start.value in
    let next = meaning c.find-next.result in
    let asked = ap (is_asked numbers) (sym c.number-number.ensures) ∙ asked_item numbers i number within is in
    let next_is : next ≡ value_at number = finds (get_or items i (record { number = 0 })) c.find-next.result asked c.find-next.ensures ∙ ap value_at (sym c.number-number.ensures) in
    let going = c.loop-start.invariant value_at finds are in
    elim c.if-not-is_alike.branch [
      | then-not-is_alike+in_ok-push w ↦
          let run : Run _ = record { first = c.loop-start.first; last = w.from_number-last.result; value = c.loop-start.value } in
          let apart : value ≢ next = λ same. true≢false (sym (c.is_alike.ensures.1 same) ∙ w.if-not-is_alike.true) in
          let positive = not_zero numbers i number within is are.behind in
          let e = w.from_number-last.ensures in
          rw (w.value-is, w.first-is, w.runs-is, ← c.number-number.ensures)
          (cuts value_at numbers i number within is c.number-number.type_inv done first value going
          (map (run_value meaning) w.push.new.self.items) (run_value meaning run) next (pushed meaning c.loop-start.runs.items w.push.new.self.items run w.in_ok-push.ensures.items)
          refl (omega arith) refl next_is apart)
      | else-not-is_alike w ↦
          rw (w.value-is, w.first-is, w.runs-is)
          (stays value_at numbers i number within is c.number-number.type_inv done first value going (sym next_is ∙ sym (c.is_alike.ensures.0 w.if-not-is_alike.false)))
    ]

pub returns : goal.returns
returns g c = λ value_at finds are.
    let meaning = g.T.Alike.meaning in
    let items = c.as_slice-start-items.result.now in
    let numbers = map number_of items in
    let few : length numbers ≡ length items = length-map items number_of in
    let over = c.loop-start-test.false in
    let run : Run _ = record { first = c.loop-start.first; last = c.from_number-last-2.result; value = c.loop-start.value } in
    let same = sym c.as_slice-start-items.ensures.value in
    let going = c.loop-start.invariant value_at (finds_at meaning value_at same finds) (subst (AreStartsOf value_at) same are) in
    ends value_at numbers c.loop-start.start-index (map (run_value meaning) c.loop-start.runs.items) (number_of c.loop-start.first) (meaning c.loop-start.value) (omega arith) going
    (map (run_value meaning) c.push-2.new.self.items) (run_value meaning run) (pushed meaning c.loop-start.runs.items c.push-2.new.self.items run c.in_ok-push-2.ensures.items)
    refl (let e = c.from_number-last-2.ensures in omega arith) refl
