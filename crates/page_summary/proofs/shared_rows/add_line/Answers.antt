use Rattle.std.proofs.Common.{◌≡◌, ◌<◌, ◌∙◌, ltb, ℕ, List, None, Some, length, subst, sym, ap, arith}
use Rattle.std.specs.BTreeMap.{get_by_text}
use Rattle.std.specs.List.{position_from}
use Rattle.std.specs.String.{string_bytes}
use Rattle.std.proofs.lemmas.Bool.{cond-true, lt-ltb}
use Rattle.std.proofs.lemmas.Result.{on_ok_weaker}
use Rattle.page_summary.specs.PrivateSharedRows.{ArePlaced, is_told, with_line, with_line_at}
use Rattle.page_summary.specs.declared.findings.FindingRow.{FindingRow}
use Rattle.page_summary.proofs.Sharing.{Grows, grown, grows, new_row}
use Rattle.page_summary.proofs.shared_rows.add_line.Goals as goal

-- the row at a text's place is the first that is told by it
at_place : (line : FindingRow) (rows : List (List FindingRow)) (place : ℕ) → Grows line 0 rows place → with_line_at place rows line ≡ with_line line rows
at_place line rows place own =
    let same : place ≡ own.at = (let e = own.is in omega arith) in
    let within : place < length rows = (let lt = own.within in omega arith) in
    cond-true (ltb place (length rows)) _ _ (lt-ltb _ _ within) ∙ ap (grown line rows) same ∙ sym own.grows

pub push_new-requires-clause-none : goal.push_new-requires-clause-none
push_new-requires-clause-none c =
    sym (c.requires.placed (string_bytes c.args.text)) ∙ ap (get_by_text c.args.places.now) (sym c.as_str.ensures.value) ∙ sym c.get.ensures.value ∙ sym c.copied.ensures ∙ c.in-None.is

pub returns-in-Some-clause-added : goal.returns-in-Some-clause-added
returns-in-Some-clause-added c =
    let rows = c.args.rows.now.items in
    let line = c.args.line.now in
    let place : position_from (is_told (string_bytes c.args.text)) 0 rows ≡ Some c.in-Some.place =
    sym (c.requires.placed (string_bytes c.args.text)) ∙ ap (get_by_text c.args.places.now) (sym c.as_str.ensures.value) ∙ sym c.get.ensures.value ∙ sym c.copied.ensures ∙ c.in-Some.is in
    let own = grows line 0 rows c.in-Some.place (subst (λ (text : List ℕ). position_from (is_told text) 0 rows ≡ Some c.in-Some.place) c.requires.text place) in
    on_ok_weaker c.push_at.result (λ e. e ∙ at_place line rows c.in-Some.place own) c.push_at.ensures

pub returns-in-Some-clause-placed : goal.returns-in-Some-clause-placed
returns-in-Some-clause-placed c =
    let rows = c.args.rows.now.items in
    let line = c.args.line.now in
    let place : position_from (is_told (string_bytes c.args.text)) 0 rows ≡ Some c.in-Some.place =
    sym (c.requires.placed (string_bytes c.args.text)) ∙ ap (get_by_text c.args.places.now) (sym c.as_str.ensures.value) ∙ sym c.get.ensures.value ∙ sym c.copied.ensures ∙ c.in-Some.is in
    let own = grows line 0 rows c.in-Some.place (subst (λ (text : List ℕ). position_from (is_told text) 0 rows ≡ Some c.in-Some.place) c.requires.text place) in
    on_ok_weaker c.push_at.result
    (λ e. subst (ArePlaced c.args.places.now) (sym (e ∙ at_place line rows c.in-Some.place own ∙ own.grows)) (λ text. c.requires.placed text ∙ sym (own.keeps text 0)))
    c.push_at.ensures

pub returns-in-None-clause-added : goal.returns-in-None-clause-added
returns-in-None-clause-added c =
    let rows = c.args.rows.now.items in
    let line = c.args.line.now in
    let none : position_from (is_told (string_bytes c.args.text)) 0 rows ≡ None =
    sym (c.requires.placed (string_bytes c.args.text)) ∙ ap (get_by_text c.args.places.now) (sym c.as_str.ensures.value) ∙ sym c.get.ensures.value ∙ sym c.copied.ensures ∙ c.in-None.is in
    on_ok_weaker c.push_new.result (λ e. e ∙ sym (new_row line 0 rows (subst (λ (text : List ℕ). position_from (is_told text) 0 rows ≡ None) c.requires.text none))) c.push_new.ensures.added
