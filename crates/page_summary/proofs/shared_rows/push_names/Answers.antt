use Rattle.std.proofs.Common.{◌<◌, ◌++◌, ◌∙◌, List, [], ◌∷◌, ℕ, ap, append_assoc, arith, get_or, length, map, sym, take}
use Rattle.std.proofs.lemmas.List.{map_more, take_all}
use Rattle.page_html.specs.Items.{Code, Item}
use Rattle.page_html.specs.Parts.{item_of}
use Rattle.page_lists.proofs.Gathering.{one_more}
use Rattle.page_summary.proofs.shared_rows.push_names.Goals as goal

pub loop-index-preserved : goal.loop-index-preserved
loop-index-preserved c =
    let names = c.args.names.now in
    let i = c.loop-index.index in
    let start = map item_of c.args.parts.now.items in
    let within : i < length names = omega (arith, c.loop-index-test.true, c.len-index-end.ensures) in
    one_more item_of c.loop-index.parts.items c.push.new.self.items _ (Code (get_or names i [])) c.in_ok-push.ensures.items (ap Code c.get.ensures)
    ∙ ap (λ (items : List (Item (List ℕ))). items ++ Code (get_or names i []) ∷ []) c.loop-index.invariant
    ∙ append_assoc start (map Code (take i names)) (Code (get_or names i []) ∷ [])
    ∙ ap (λ (items : List (Item (List ℕ))). start ++ items) (sym (map_more Code names i [] within))

pub returns : goal.returns
returns c =
    let names = c.args.names.now in
    c.loop-index.invariant
    ∙ ap (λ (some : List (List ℕ)). map item_of c.args.parts.now.items ++ map Code some) (take_all c.loop-index.index names (omega (arith, c.loop-index-test.false, c.len-index-end.ensures)))
