-- There is something to say.
use Rattle.std.proofs.Common.{◌≡◌, ◌∙◌, ◌&&◌, ◌++◌, List, [], ap, codes, eqb, false, string_bytes, sym, ℕ}
use Rattle.std.proofs.lemmas.Bool.{cond-false}
use Rattle.desk_server_notes.specs.CountsNote.{both_text}
use Rattle.desk_server_notes.proofs.Counting.{not_none}
use Rattle.desk_server_notes.proofs.Pieces.{added, on_ok, three}
use Rattle.desk_server_notes.proofs.counts.push_counts.Goals as goal
use Rattle.desk_server_notes.proofs.counts.push_counts.Goals.{else-wider-eq0-via-then-wider-eq0+else-left_out-eq0, else-wider-eq0-via-else-wider-eq0}

pub returns : goal.returns
returns c =
    let wider = c.args.wider in
    let left_out = c.args.left_out in
    let words : List ℕ = codes "exportdesk: mountd(8) " in
    let both = both_text wider left_out in
    let end : List ℕ = codes ": see exportdesk check\n" in
    let old = string_bytes c.args.note.now in
    let behind = string_bytes c.push_both.new.note in
    let last = string_bytes c.push_str-2.new.self in
    let some : (eqb wider 0 && eqb left_out 0) ≡ false = not_none wider left_out (elim c.else-wider-eq0.branch [
      | else-wider-eq0-via-then-wider-eq0+else-left_out-eq0 w ↦ λ none nothing. w.if-left_out-eq0.false nothing
      | else-wider-eq0-via-else-wider-eq0 w ↦ λ none nothing. w.if-wider-eq0.false none
    ]) in
    on_ok c.push_str-2.result
    (λ e. three old (string_bytes c.push_str.new.self) behind last words both end c.in_ok-push_str.ensures.bytes c.in_ok-push_both.ensures e
    ∙ ap (λ (t : List ℕ). old ++ t) (sym (cond-false (eqb wider 0 && eqb left_out 0) [] (words ++ (both ++ end)) some)))
    (added c.push_str-2.result last (behind ++ end) behind c.push_str-2.ensures.bytes)
