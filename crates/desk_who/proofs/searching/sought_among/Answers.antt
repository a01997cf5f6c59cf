use Rattle.std.proofs.Common.{◌≡◌, ◌∙◌, ap, map, subst, sym, take}
use Rattle.std.proofs.lemmas.Bool.{false_from_ne_true, true≢false}
use Rattle.std.proofs.lemmas.List.{take_all}
use Rattle.desk_text.specs.Address.{number_of}
use Rattle.desk_text.specs.Laws.{IsSetOf}
use Rattle.desk_who.proofs.Sought.{AreLeft}
use Rattle.desk_who.proofs.searching.sought_among.Goals as goal

pub returns : goal.returns
returns g c =
    let found = g.S.Search.found c.args.search.now in
    let turns = g.S.Search.turns c.args.search.now in
    let starts = c.in_ok-starts.starts in
    let addresses = c.as_slice-addresses.result.now in
    let own = map number_of c.loop-address.sought.items in
    let sought = c.from_vec.result in
    let seen : map number_of (take c.loop-address.address-index addresses) ≡ starts =
    ap (map number_of) (take_all c.loop-address.address-index addresses c.loop-address-test.false) ∙ c.as_slice-addresses.ensures.value in
    let left : AreLeft found turns starts own = subst (λ numbers. AreLeft found turns numbers own) seen c.loop-address.invariant in
    let made : IsSetOf own sought = (c.sorted_sets_are_unique.ensures own sought).1 c.from_vec.ensures in
    record {
      starts = starts;
      are = c.in_ok-starts.ensures;
      behind = false_from_ne_true _ (λ there. true≢false (sym (left.inside 0 (sym (made.each 0) ∙ there)) ∙ c.in_ok-starts.ensures.behind));
      silent = λ address there away. left.silent address there (sym (made.each address) ∙ away);
    }
