use Rattle.std.proofs.Common.{◌≡◌, ◌∙◌, ℕ, List, Some, None, ap, sym}
use Rattle.std.specs.Prelude.{slice_get}
use Rattle.desk_policy.specs.Policy.{Content, rows_of}
use Rattle.desk_index.specs.Keys.{fs_of_key, line_key, lines_under, lines_with, listed}
use Rattle.desk_index.proofs.SelectedLines.{listed_is, none_listed}
use Rattle.desk_server.proofs.repeated_client.first_under.Goals as goal

pub returns-in-Some : goal.returns-in-Some
unfolding lines_under
returns-in-Some c =
    let lines = lines_with (rows_of c.args.index.now (fs_of_key c.args.key).0) (line_key c.args.key) in
    let there : Some c.in-Some.found.now ≡ listed lines = c.in-Some.ensures.row ∙ ap (λ (content : Content). lines_under content c.args.key) c.new-probes.ensures.index in
    c.copied.ensures ∙ c.first.ensures.value ∙ ap (λ (xs : List ℕ). slice_get xs 0) (c.lines.ensures ∙ sym (listed_is lines c.in-Some.found.now (sym there)))

pub returns-in-None : goal.returns-in-None
unfolding lines_under
returns-in-None c =
    let lines = lines_with (rows_of c.args.index.now (fs_of_key c.args.key).0) (line_key c.args.key) in
    let there : None ≡ listed lines = c.in-None.ensures.row ∙ ap (λ (content : Content). lines_under content c.args.key) c.new-probes.ensures.index in
    ap (λ (xs : List ℕ). slice_get xs 0) (sym (none_listed lines (sym there)))
