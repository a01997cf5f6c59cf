use Rattle.std.proofs.Common.{◌≡◌, ◌∷◌, sym, ◌∙◌, subst}
use Rattle.desk_text.specs.Address.{number_of}
use Rattle.desk_policy.specs.Policy.{rows_of}
use Rattle.desk_policy.specs.Weights.{selected}
use Rattle.desk_index.specs.Keys.{AreUnderOneKey, numbers}
use Rattle.desk_policy.specs.Verdict.{lists_here}
use Rattle.desk_index.proofs.RowsByNumber.{selected_among}
use Rattle.desk_index.proofs.SelectedLines.{among_listed, among_unlisted, first_is, listed_is}
use Rattle.desk_index.proofs.index.Index.decide_in.Goals as goal

pub first_listing-requires : goal.first_listing-requires
first_listing-requires c = subst (AreUnderOneKey (rows_of c.args.self.now c.args.fs.0)) (sym c.lines.ensures) c.in-Some.ensures.lines

pub returns-in-Some-first_listing : goal.returns-in-Some-first_listing
returns-in-Some-first_listing c =
    let fs = c.args.fs in
    let address = number_of c.args.address in
    let rows = rows_of c.args.self.now fs.0 in
    let lines : c.lines.result.now ≡ numbers (selected rows address) = c.lines.ensures ∙ sym (listed_is (numbers (selected rows address)) c.in-Some.found.now (sym c.in-Some.ensures.selected)) in
    rw (c.deref.ensures, c.deref-in-Some-first_listing.ensures) (sym (among_listed fs (lists_here c.args.path.now) (selected rows address) c.in-Some-first_listing.row.now
    (sym (c.in-Some-first_listing.ensures (selected rows address) lines (selected_among rows address)))))

pub returns-in-Some-first : goal.returns-in-Some-first
returns-in-Some-first c =
    let fs = c.args.fs in
    let address = number_of c.args.address in
    let rows = rows_of c.args.self.now fs.0 in
    let own : numbers (selected rows address) ≡ c.in-Some.found.now = listed_is (numbers (selected rows address)) c.in-Some.found.now (sym c.in-Some.ensures.selected) in
    let first = first_is c.lines-2.result.now c.in-Some-first.line.now c.in-Some-first.ensures.value in
    let all : numbers (selected rows address) ≡ c.in-Some-first.line.now ∷ first.0 = own ∙ sym c.lines-2.ensures ∙ first.1 in
    sym (among_unlisted fs (lists_here c.args.path.now) (selected rows address) c.in-Some-first.line.now first.0
    (sym (c.in_default-first_listing.ensures (selected rows address) (c.lines.ensures ∙ sym own) (selected_among rows address))) all)
