use Rattle.std.proofs.Common.{◌≡◌, ◌<◌, ◌^◌, ◌++◌, ◌∷◌, ◌∙◌, [], ℕ, List, ap, arith, get_or, refl, subst, sym, true}
use Rattle.std.specs.Prelude.{OnOk}
use Rattle.std.specs.List.{All, Contains}
use Rattle.std.proofs.lemmas.List.Elements.{All-contains_itself}
use Rattle.desk_text.specs.Address.{number_of}
use Rattle.desk_policy.specs.Policy.{Content, rows_of}
use Rattle.desk_policy.specs.Weights.{selected}
use Rattle.desk_policy.specs.declared.row.Row.{Row}
use Rattle.desk_index.specs.Keys.{numbers}
use Rattle.desk_idle.specs.PrivateMarks.{AreMarks, HaveLooked, Look, are_known}
use Rattle.desk_idle.proofs.Bringing.{selected_has}
use Rattle.desk_idle.proofs.Heaviest.{lines_there, none_there, own_blocks}
use Rattle.desk_idle.proofs.Skipping.{no_looks, skipped}
use Rattle.desk_idle.proofs.Together.{look_at_nothing}
use Rattle.desk_idle.proofs.marks.mark_at.Goals as goal

pub returns-in_default : goal.returns-in_default
returns-in_default c = λ before have.
    let rows = rows_of c.args.index.now c.args.fs.0 in
    let address = number_of c.args.selection.address in
    let small : address < 2 ^ 32 = (let e = c.number-number.ensures in omega (arith, c.number-number.type_inv)) in
    let blocks = own_blocks c.new-probes.result.index.now c.args.index.now c.args.fs.0 c.new-probes.ensures.index c.new-probes.ensures.networks in
    look_at_nothing rows before address c.args.marks.now c.args.lists.now small
    (subst (λ (looks : List Look). AreMarks looks c.args.marks.now) (no_looks rows before address (none_there rows blocks c.args.selection c.requires.selection c.in_default.is)) have.tell) have

-- the selected lines are lines of the file system
all_among : (rows items : List Row) (address : ℕ) → items ≡ rows → All (Contains items) (selected rows address)
all_among rows items address same k d inside =
    let row = get_or (selected rows address) k d in
    subst (λ (rs : List Row). Contains rs row) (sym same) (selected_has rows address row (All-contains_itself (selected rows address) k d inside))

pub returns-then-are_known : goal.returns-then-are_known
returns-then-are_known c = λ before have.
    let content = c.args.index.now in
    let fs = c.args.fs.0 in
    let rows = rows_of content fs in
    let address = number_of c.args.selection.address in
    let chosen = selected rows address in
    let small : address < 2 ^ 32 = (let e = c.number-number.ensures in omega (arith, c.number-number.type_inv)) in
    let same : c.rows-rows.result.now ≡ rows = c.rows-rows.ensures ∙ ap (λ (content : Content). rows_of content fs) c.policy.ensures in
    let blocks = own_blocks c.new-probes.result.index.now content fs c.new-probes.ensures.index c.new-probes.ensures.networks in
    let lines : c.in-Some.group.lines.now ≡ numbers chosen = lines_there rows blocks c.args.selection c.requires.selection c.in-Some.group c.in-Some.is in
    let known : are_known c.args.marks.now chosen ≡ true = sym (c.are_known.ensures chosen lines (all_among rows c.rows-rows.result.now address same)) ∙ c.if-are_known.true in
    look_at_nothing rows before address c.args.marks.now c.args.lists.now small
    (skipped c.lines_are_selected_by_keys.ensures rows c.requires.ascending blocks before have.below address small c.args.marks.now have.tell chosen refl known) have

pub mark_lines-requires-clause-lines : goal.mark_lines-requires-clause-lines
mark_lines-requires-clause-lines c =
    let fs = c.args.fs.0 in
    let rows = rows_of c.args.index.now fs in
    let address = number_of c.args.selection.address in
    let same : c.rows-rows.result.now ≡ rows = c.rows-rows.ensures ∙ ap (λ (content : Content). rows_of content fs) c.policy.ensures in
    let blocks = own_blocks c.new-probes.result.index.now c.args.index.now fs c.new-probes.ensures.index c.new-probes.ensures.networks in
    lines_there rows blocks c.args.selection c.requires.selection c.in-Some.group c.in-Some.is ∙ ap (λ (rs : List Row). numbers (selected rs address)) (sym same)

pub returns : goal.returns
returns c =
    let fs = c.args.fs.0 in
    let address = number_of c.args.selection.address in
    let same : c.rows-rows.result.now ≡ rows_of c.args.index.now fs = c.rows-rows.ensures ∙ ap (λ (content : Content). rows_of content fs) c.policy.ensures in
    subst (λ (rows : List Row). OnOk c.mark_lines.result ((before : List ℕ) → HaveLooked rows before c.args.marks.now c.args.lists.now → HaveLooked rows (before ++ address ∷ []) c.mark_lines.new.marks c.mark_lines.new.lists)) same
    c.mark_lines.ensures
