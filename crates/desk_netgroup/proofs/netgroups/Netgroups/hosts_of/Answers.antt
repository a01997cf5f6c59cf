use Rattle.std.proofs.Common.{◌∙◌, [], List, ℕ, Option, Some, None, IsSome, map, ap, sym, subst, refl}
use Rattle.std.specs.Prelude.{not}
use Rattle.std.specs.Borrow.{Bor}
use Rattle.std.specs.Option.{option_copied}
use Rattle.std.proofs.lemmas.Bool.{true≢false}
use Rattle.desk_netgroup.specs.Netgroups.{AreDistinct, is_among}
use Rattle.desk_netgroup.specs.Walk.{hosts_in_order, new_texts}
use Rattle.desk_netgroup.proofs.OnceLemmas.{distinct, same_texts}
use Rattle.desk_netgroup.proofs.netgroups.Netgroups.hosts_of.Goals as goal

some_copied : {X : Type 0} (o : Option (Bor X)) → IsSome o → IsSome (option_copied o)
some_copied None e = absurd (true≢false (sym e))
some_copied (Some x) e = refl

abbrev texts : List (Bor (List ℕ)) → List (List ℕ)
texts xs = map (λ x. x.now) xs

pub returns-clause-defined : goal.returns-clause-defined
returns-clause-defined c = subst (λ o. IsSome o) c.group.ensures (some_copied c.group.result (c.is_none.ensures ∙ ap not c.if-is_none.false))

pub returns-clause-hosts : goal.returns-clause-hosts
returns-clause-hosts c = λ host.
    ap (is_among host) c.in_ok-distinct_copies.ensures ∙ same_texts (texts c.as_slice.result.now) host
    ∙ ap (λ (xs : List (Bor (List ℕ))). is_among host (texts xs)) c.as_slice.ensures.value ∙ c.in_ok-met.ensures.hosts host

pub returns-clause-order : goal.returns-clause-order
unfolding hosts_in_order
returns-clause-order c =
    c.in_ok-distinct_copies.ensures ∙ ap (new_texts []) (ap texts c.as_slice.ensures.value ∙ c.in_ok-met.ensures.order)

pub returns-clause-once : goal.returns-clause-once
returns-clause-once c = subst AreDistinct (sym c.in_ok-distinct_copies.ensures) (distinct (texts c.as_slice.result.now))
