-- What is odd is told at its word, if the text has its line.
use Rattle.std.proofs.Common.{◌≡◌, ◌≤◌, ◌∙◌, ℕ, List, None, Some, ap, length, subst, sym}
use Rattle.std.specs.List.{IsAmong}
use Rattle.std.specs.Prelude.{slice_get}
use Rattle.std.proofs.lemmas.Option.{slice_get-get_or, slice_get_past}
use Rattle.desk_text.specs.Lines.{LogicalLine, logical_lines}
use Rattle.desk_text.specs.declared.place.Place.{Place}
use Rattle.desk_findings.specs.CheckOdd.{IsSpot}
use Rattle.desk_findings.specs.PrivateCheckOdd.{AreWordsIn, AreWordsOn}
use Rattle.desk_findings.specs.declared.check_odd.Among.{Among}
use Rattle.desk_findings.specs.declared.check_odd.PlacedWords.{PlacedWords}
use Rattle.desk_findings.proofs.PlacedWords.{told_anyhow, told_at}
use Rattle.desk_findings.proofs.check_odd.spot_of.Goals as goal

on_line : (lines : List LogicalLine) (text : List ℕ) (line : LogicalLine) (kind : Among) (last : PlacedWords) → lines ≡ logical_lines text → IsAmong lines line → line.number ≡ last.line → last.among ≡ kind → AreWordsIn lines last → AreWordsOn text line kind last.places.items
on_line lines text line kind last is among number same placed =
    subst (λ (ws : Among). AreWordsOn text line ws last.places.items) same (placed text is line among number)

pub returns-in_default-clause-place : goal.returns-in_default-clause-place
returns-in_default-clause-place c text is =
    subst (IsSpot text) (sym c.spot_at.ensures)
    (λ line has same. let bad : None ≡ Some line = c.in_default.ensures.found line (subst (λ (ls : List LogicalLine). IsAmong ls line) (sym is) has) same in cc)

pub returns-in-Some-get-clause-place : goal.returns-in-Some-get-clause-place
returns-in-Some-get-clause-place c text is =
    let lines = c.args.lines.now in
    let line = c.in-Some.line.now in
    let last = c.place_words.new.last in
    let place = c.in-Some-get.place.now in
    let among = subst (λ ls. IsAmong ls line) is c.in-Some.ensures.member in
    let ensures = c.in_ok-place_words.ensures in
    let placed = on_line lines text line c.args.odd.among last is c.in-Some.ensures.member (sym ensures.line) ensures.among (ensures.places lines c.requires.numbered c.in-Some.ensures.member c.requires.last) in
    let found : slice_get last.places.items c.args.odd.index ≡ Some place =
    ap (λ (ps : List Place). slice_get ps c.args.odd.index) (sym c.deref.ensures.value) ∙ slice_get-get_or c.deref.result.now c.args.odd.index place c.in-Some-get.ensures.lookup.3.0 ∙ ap Some (sym (c.in-Some-get.ensures.lookup.3.1 place)) in
    subst (IsSpot text) (sym c.spot_at-in-Some-get.ensures)
    (told_at text c.args.odd.line c.args.odd.among c.args.odd.index line last.places.items place among c.in-Some.ensures.number placed found)

pub returns-in-None-clause-place : goal.returns-in-None-clause-place
returns-in-None-clause-place c text is =
    let lines = c.args.lines.now in
    let line = c.in-Some.line.now in
    let last = c.place_words.new.last in
    let among = subst (λ ls. IsAmong ls line) is c.in-Some.ensures.member in
    let ensures = c.in_ok-place_words.ensures in
    let placed = on_line lines text line c.args.odd.among last is c.in-Some.ensures.member (sym ensures.line) ensures.among (ensures.places lines c.requires.numbered c.in-Some.ensures.member c.requires.last) in
    let past : slice_get last.places.items c.args.odd.index ≡ None =
    slice_get_past last.places.items c.args.odd.index (subst (λ (ps : List Place). length ps ≤ c.args.odd.index) c.deref.ensures.value c.in-None.ensures.lookup.3) in
    subst (IsSpot text) (sym c.spot_at-in-None.ensures)
    (told_anyhow text c.args.odd.line c.args.odd.among c.args.odd.index line last.places.items c.of_first_line.result among c.in-Some.ensures.number placed past
    (record { own = c.of_first_line.ensures.own text among; lies = c.of_first_line.ensures.lies text among }))

pub returns-in-Some-get-clause-last : goal.returns-in-Some-get-clause-last
returns-in-Some-get-clause-last c = c.in_ok-place_words.ensures.places c.args.lines.now c.requires.numbered c.in-Some.ensures.member c.requires.last

pub returns-in-None-clause-last : goal.returns-in-None-clause-last
returns-in-None-clause-last c = c.in_ok-place_words.ensures.places c.args.lines.now c.requires.numbered c.in-Some.ensures.member c.requires.last
