use Rattle.std.proofs.Common.{◌≡◌, ◌<◌, ℕ, ◌+◌, List, [], ◌∷◌, ◌++◌, Option, get_or, length, take, sym, ◌∙◌, ap}
use Rattle.std.specs.List.{cons_option, filter_map}
use Rattle.std.proofs.lemmas.List.{take_all, take_more}
use Rattle.std.proofs.lemmas.List.Elements.{filter_map-append}
use Rattle.desk_policy.specs.Listings.{listing_of, shown_of_mount}
use Rattle.desk_policy.proofs.listings.listing_under.Goals as goal

-- one more value, if there is one
one_more : {X Y : Type 0} (f : X → Option Y) (xs : List X) (i : ℕ) (x : X) (done new : List Y) (found : Option Y) → i < length xs → x ≡ get_or xs i x → done ≡ filter_map f (take i xs) → found ≡ f x
    → new ≡ done ++ cons_option found [] → new ≡ filter_map f (take (i + 1) xs)
one_more f xs i x done new found below is so_far gives pushed =
    pushed ∙ ap (λ ys. ys ++ cons_option found []) so_far ∙ ap (λ o. filter_map f (take i xs) ++ cons_option o []) (gives ∙ ap f is)
    ∙ sym (filter_map-append f (take i xs) (get_or xs i x ∷ [])) ∙ ap (filter_map f) (sym (take_more xs i x below))

pub loop-mount-preserved : goal.loop-mount-preserved
loop-mount-preserved c =
    one_more (λ mount. shown_of_mount c.args.policy.now c.args.address.number mount.path) c.as_slice-mount-items.result.now c.loop-mount.mount-index c.mount-item.result
    c.loop-mount.listing.items c.push_if_shown.new.listing.items c.in_ok-shown.shown c.loop-mount-test.true c.mount-item.is c.loop-mount.invariant c.in_ok-shown.ensures c.in_ok-push_if_shown.ensures

pub returns : goal.returns
unfolding listing_of
returns c =
    c.loop-mount.invariant
    ∙ ap (filter_map (λ mount. shown_of_mount c.args.policy.now c.args.address.number mount.path))
    (take_all c.loop-mount.mount-index c.as_slice-mount-items.result.now c.loop-mount-test.false ∙ c.as_slice-mount-items.ensures ∙ c.filesystems.ensures)
