-- Each mount point has a directory that no line writes: one with a longer name than there are bytes in all others.
use Rattle.std.proofs.Common.{◌≡◌, ℕ, zero, suc, ◌+◌, ◌<◌, ◌≤◌, ◌&&◌, ◌||◌, not, true, false, eqb, List, [], ◌∷◌, ◌++◌, length, refl, sym, ap, ◌∙◌, arith, replicate}
use Rattle.std.specs.Prelude.{sum_by}
use Rattle.std.specs.List.{list_all}
use Rattle.std.proofs.lemmas.Bool.{and_from, false_from_ne_true, ne_eqb, or_parts}
use Rattle.std.proofs.lemmas.List.{length-replicate}
use Rattle.std.proofs.lemmas.List.Folds.{list_all-append, list_any-append}
use Rattle.std.proofs.lemmas.List.Sums.{sum_by-cons}
use Rattle.desk_text.specs.Path.{is_component, is_under, same_path}
use Rattle.desk_policy.specs.Verdict.{is_directory_among}
use Rattle.desk_impact.specs.Places.{MountsHaveOthers}
use Rattle.desk_impact.proofs.Reporting.{free_above}
use Rattle.desk_impact.proofs.Same.{Path, same_is}
use Rattle.desk_impact.proofs.Under.{child_under, is_above}

-- ---- how many bytes paths have
size : Path → ℕ
size path = sum_by length path

sizes : List Path → ℕ
sizes paths = sum_by size paths

longer : (mount : Path) (name : List ℕ) → length name ≤ size (mount ++ name ∷ [])
unfolding size
longer [] name = omega arith
longer (part ∷ mount) name = (let rest = longer mount name in omega (arith, sum_by-cons length part (mount ++ name ∷ [])))

not_taken : (child : Path) (taken : List Path) → sizes taken < size child → is_directory_among child taken ≡ false
unfolding size sizes
not_taken child [] less = refl
not_taken child (other ∷ taken) less =
    let apart : same_path other child ≡ false = false_from_ne_true (same_path other child) (λ same. let is = ap size (same_is other child same) in omega (arith, sum_by-cons size other taken)) in
    ap (λ b. b || is_directory_among child taken) apart ∙ not_taken child taken (omega (arith, sum_by-cons size other taken))

-- ---- a name of so many letters
no_slash : (count : ℕ) → list_all (λ b. not (eqb b 47)) (replicate count 120) ≡ true
no_slash zero = refl
no_slash (suc count) = no_slash count

is_name : (name : List ℕ) (count : ℕ) → name ≡ replicate (count + 1) 120 → is_component name ≡ true
is_name name count is =
    let some : eqb (length name) 0 ≡ false = ne_eqb (length name) 0 (λ none. let l = ap length is ∙ length-replicate (count + 1) 120 in omega arith) in
    and_from (not (eqb (length name) 0)) (list_all (λ b. not (eqb b 47)) name) (ap not some) (ap (list_all (λ b. not (eqb b 47))) is ∙ no_slash (count + 1))

pub mounts_have_others : MountsHaveOthers
mounts_have_others mounts dirs mount =
    let taken = mounts ++ dirs in
    let name : List ℕ = replicate (sizes taken + 1) 120 in
    let child : Path = mount ++ name ∷ [] in
    let long : length name ≡ sizes taken + 1 = length-replicate (sizes taken + 1) 120 in
    let free : is_directory_among child taken ≡ false = not_taken child taken (omega (arith, longer mount name)) in
    let p = or_parts (is_directory_among child mounts) (is_directory_among child dirs) (sym (list_any-append (λ dir. same_path dir child) mounts dirs) ∙ free) in
    record {
      path = child;
      spelled = λ own. list_all-append is_component mount (name ∷ []) ∙ and_from (list_all is_component mount) (list_all is_component (name ∷ [])) own (ap (λ b. b && true) (is_name name (sizes taken) refl));
      home = and_from (is_under child mount) (list_all (is_above child mount) mounts) (child_under mount name) (free_above mount name mounts p.0);
      apart = p.0;
      unwritten = p.1;
    }
