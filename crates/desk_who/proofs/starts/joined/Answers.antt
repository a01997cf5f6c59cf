use Rattle.std.proofs.Common.{◌≡◌, ℕ, ◌++◌, ◌||◌, ◌∙◌, ap, map, sym}
use Rattle.std.proofs.lemmas.Bool.{or_parts}
use Rattle.std.proofs.lemmas.List.{map-append}
use Rattle.std.proofs.lemmas.List.Folds.{list_any-append}
use Rattle.desk_text.specs.Address.{number_of}
use Rattle.desk_text.specs.AddrSet.{is_among, sorted_set}
use Rattle.desk_text.specs.Laws.{IsSetOf}
use Rattle.desk_who.proofs.starts.joined.Goals as goal

pub returns : goal.returns
returns c =
    let starts = c.args.starts in
    let others = c.args.others.now in
    let all = c.from_vec.result in
    let is : all ≡ sorted_set (starts ++ others) =
    c.from_vec.ensures
    ∙ ap sorted_set
    (ap (map number_of) c.in_ok-extend_from_slice.ensures.items ∙ map-append number_of c.into_vec-all.result.items c.as_slice.result.now
    ∙ ap (λ ns. ns ++ map number_of c.as_slice.result.now) c.into_vec-all.ensures.value ∙ ap (λ ns. starts ++ ns) c.as_slice.ensures.value) in
    let made : IsSetOf (starts ++ others) all = (c.sorted_sets_are_unique.ensures (starts ++ others) all).1 is in
    let among : (n : ℕ) → is_among n all ≡ (is_among n starts || is_among n others) = λ n. made.each n ∙ list_any-append _ starts others in
    record {
      ascend = made.ascend;
      behind = λ own other. among 0 ∙ ap (λ b. b || is_among 0 others) own ∙ other;
      own = λ address none. (or_parts (is_among address starts) (is_among address others) (sym (among address) ∙ none)).0;
      other = λ address none. (or_parts (is_among address starts) (is_among address others) (sym (among address) ∙ none)).1;
    }
