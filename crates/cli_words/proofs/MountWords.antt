-- The words of mount points, for `values::read_mount_points`.
use Rattle.std.proofs.Common.{codes, ◌≡◌, ℕ, ◌+◌, ◌<◌, true, false, List, [], ◌∷◌, ◌++◌, map, length, get_or, take, Some, find, Ok, Err, Result, refl, sym, subst, ap, ◌∙◌}
use Rattle.std.proofs.lemmas.List.{map_more}
use Rattle.std.proofs.lemmas.List.Elements.{filter_map-append}
use Rattle.std.specs.Result.{result_ok}
use Rattle.desk_text.specs.Path.{read_path}
use Rattle.desk_text.specs.declared.path.PathFault.{PathFault}
use Rattle.cli_words.specs.Values.{AnswersArgument, IsBadMount, is_no_path, paths_of}
use Rattle.cli_output.specs.declared.bad_argument.ArgumentFault.TheVariants as fault
use Rattle.cli_output.specs.declared.failure.Failure.{Failure}
use Rattle.cli_output.specs.declared.failure.Failure.TheVariants as failure

-- a refused word that is the first that is not a path
pub bad_mount : (words : List (List ℕ)) (w : List ℕ) (r : Result (List (List ℕ)) PathFault) (other : Failure) → read_path w ≡ r → (is_no_path w ≡ true → find is_no_path words ≡ Some w) → AnswersArgument {T = List (List ℕ)} (λ path. path) fault.Path (codes "MOUNT") w r (Err other) → IsBadMount words other
bad_mount words w (Ok x) other is found answer = subst (IsBadMount words) (sym answer) tt
bad_mount words w (Err bad) (failure.Argument b) is found answer =
    (found (rw is refl) ∙ ap Some (sym answer.1), rw (answer.1, is) (answer.0, answer.2))
bad_mount words w (Err bad) failure.Memory is found answer = tt
bad_mount words w (Err bad) other is found answer = absurd answer

-- a word that is a path
pub good_mount : (w : List ℕ) (path : List (List ℕ)) → read_path w ≡ Ok path → is_no_path w ≡ false
good_mount w path is = rw is refl

-- one more path
pub paths_more : {X : Type 0} (f : X → List ℕ) (xs : List X) (i : ℕ) (x : X) (path : List (List ℕ)) (before : List (List (List ℕ))) (d : X) → i < length xs → x ≡ get_or xs i d → before ≡ paths_of (map f (take i xs)) → read_path (f x) ≡ Ok path → before ++ path ∷ [] ≡ paths_of (map f (take (i + 1) xs))
paths_more f xs i x path before d within is prior read =
    let one : paths_of (f (get_or xs i d) ∷ []) ≡ path ∷ [] = rw (ap (λ y. read_path (f y)) (sym is) ∙ read) refl in
    ap (λ ps. ps ++ path ∷ []) prior
    ∙ ap (λ ps. paths_of (map f (take i xs)) ++ ps) (sym one)
    ∙ sym (ap paths_of (map_more f xs i d within) ∙ filter_map-append (λ word. result_ok (read_path word)) (map f (take i xs)) (f (get_or xs i d) ∷ []))
