use Rattle.std.proofs.Common.{◌≡◌, ◌<◌, ◌+◌, ◌++◌, ◌∷◌, ◌∙◌, [], ℕ, List, ap, arith, get_or, length, map, subst, sym, take}
use Rattle.std.specs.List.{All}
use Rattle.std.proofs.lemmas.List.{get_or-map, length-map, map-append, take_more}
use Rattle.std.proofs.lemmas.List.Elements.{All-push}
use Rattle.desk_text.specs.Address.{number_of}
use Rattle.desk_text.specs.declared.address.Addr.{Addr}
use Rattle.desk_policy.specs.Policy.{rows_of}
use Rattle.desk_idle.specs.Selections.{IsSelection, addresses_of}
use Rattle.desk_idle.specs.declared.selections.Selection.{Selection}
use Rattle.desk_idle.proofs.selections.selections_of.Goals as goal

pub loop-start-preserved : goal.loop-start-preserved
loop-start-preserved c =
    let rows = rows_of c.args.index.now c.args.fs.0 in
    let starts = c.as_slice-start-items.result.now in
    let numbers = map number_of starts in
    let i = c.loop-start.start-index in
    let none : Addr = record { number = 0 } in
    let before = c.loop-start.found.items in
    let one = c.selection_at-in-loop-start.result in
    let added : c.push-in-loop-start.new.self.items ≡ before ++ one ∷ [] = c.in_ok-push-2.ensures.items in
    let few : length numbers ≡ length starts = length-map starts number_of in
    let below : i < length starts = c.loop-start-test.true in
    let next : take (i + 1) numbers ≡ take i numbers ++ number_of (get_or starts i none) ∷ [] = take_more numbers i 0 (omega arith) ∙ ap (λ (n : ℕ). take i numbers ++ n ∷ []) (get_or-map number_of starts i none 0 below) in
    record {
      addresses = ap addresses_of added ∙ map-append (λ (s : Selection). number_of s.address) before (one ∷ []) ∙ ap (λ (ns : List ℕ). ns ++ number_of one.address ∷ []) c.loop-start.invariant.addresses
          ∙ ap (λ (address : Addr). 0 ∷ (take i numbers ++ number_of address ∷ [])) c.selection_at-in-loop-start.ensures.address ∙ ap (λ (ns : List ℕ). 0 ∷ ns) (sym next);
      each = subst (All (IsSelection rows)) (sym added) (All-push (IsSelection rows) before one c.loop-start.invariant.each c.selection_at-in-loop-start.ensures.selected);
    }
