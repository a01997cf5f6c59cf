-- Revisions that are to be read by profile 2, for `readable`.
use Rattle.std.proofs.Common.{◌≡◌, ◌∙◌, ℕ, ◌+◌, ◌<◌, ◌++◌, Bool, true, false, List, [], ◌∷◌, Option, Some, Result, Ok, Err, ap, cond, get_or, length, map, refl, subst, sym, take}
use Rattle.std.specs.Option.{option_map}
use Rattle.std.specs.Str.{bytes_eq}
use Rattle.std.proofs.Math.Path.{fun_ext}
use Rattle.std.proofs.lemmas.List.{map-append, take_more}
use Rattle.desk_text.specs.declared.reading.ReadError.{ReadError}
use Rattle.desk_text.specs.declared.reading.ReadError.TheVariants.{Fault, Memory}
use Rattle.desk_policy.specs.Policy.{Content}
use Rattle.desk_policy.specs.View.{HasFault}
use Rattle.desk_policy.specs.declared.site_fault.SiteFault.{SiteFault}
use Rattle.desk_core.specs.Head.{Newest, newest_in}
use Rattle.desk_core.specs.Site.{IsConsistent, site_in}
use Rattle.desk_core.specs.State.{Starts}
use Rattle.desk_core.specs.Views.{Kept}
use Rattle.desk_core.specs.declared.head.Head.{Head}
use Rattle.desk_service.specs.ReadableByInit.{Reads, by_second, second}

step : (b : Bool) (head : Head) (rest copied : Option Head) → copied ≡ option_map second rest → cond b (Some (second head)) copied ≡ option_map second (cond b (Some head) rest)
step true head rest copied e = refl
step false head rest copied e = e

found : (file : List ℕ) (heads : List Head) → newest_in (map second heads) file ≡ option_map second (newest_in heads file)
unfolding newest_in
found file [] = refl
found file (head ∷ heads) = step (bytes_eq head.file file) head _ _ (found file heads)

-- the newest of the copies are the newest revisions, to be read so
pub newest_second : (heads : List Head) → newest_in (map second heads) ≡ by_second (newest_in heads)
newest_second heads = fun_ext (λ file. found file heads)

-- one copy more
pub mapped_more : {X Y : Type 0} (f : X → Y) (xs : List X) (i : ℕ) (x : X) → i < length xs → x ≡ get_or xs i x → (now next : List Y) → now ≡ map f (take i xs) → next ≡ now ++ f x ∷ [] → next ≡ map f (take (i + 1) xs)
mapped_more f xs i x below is now next before added =
    added ∙ ap (λ ys. ys ++ f x ∷ []) before
    ∙ sym (ap (map f) (take_more xs i x below ∙ ap (λ y. take i xs ++ y ∷ []) (sym is)) ∙ map-append f (take i xs) (x ∷ []))

-- the state that starts from heads reads the newest revisions that they give
pub starts : (heads : List Head) (newest : Newest) (result : Result (Kept Content) (ReadError SiteFault)) → newest_in heads ≡ newest → Starts (λ content. content) heads [] result → Reads newest result
starts heads newest (Ok state) is begun = subst (λ (n : Newest). IsConsistent (site_in n)) is begun.2.consistent
starts heads newest (Err (Fault fault)) is begun = subst (λ (n : Newest). HasFault (site_in n) fault) is begun
starts heads newest (Err Memory) is begun = tt
