-- The file systems so far, each with what is found of it.
use Rattle.std.proofs.Common.{◌≡◌, ℕ, ◌+◌, ◌<◌, ◌++◌, ◌∙◌, List, [], ◌∷◌, ap, arith, get_or, inl, inr, length, map, subst, sym}
use Rattle.std.specs.Prelude.{filter}
use Rattle.std.specs.List.{range_with_len}
use Rattle.std.proofs.lemmas.Bool.{cases_lt}
use Rattle.std.proofs.lemmas.List.{append-nil, append_assoc, get_or-map, get_or_append_left, length-append, length-map}
use Rattle.std.proofs.lemmas.List.FromFn.{get_or-map-range_with_len, length-map-range_with_len}
use Rattle.std.proofs.Math.Seq.{get_or-append_seam}
use Rattle.desk_policy.specs.Policy.{Content}
use Rattle.desk_impact.specs.Sections.{PlaceBreaches, Section, section_value}
use Rattle.page_data.specs.Laws.{IsSoundSite}
use Rattle.page_data.specs.PrivateSystems.{IsOwnOf}
use Rattle.page_data.specs.Sections.{AreSections, is_section_in}
use Rattle.page_data.specs.Systems.{AreSystems, IsSystem, SystemValue}

-- of the file systems, those so far are done, and the others are left
pub record AreSoFar (content : Content) (done rest : List (List Section)) (number : ℕ) (systems : List SystemValue) : Type 0 where
  pub all : List PlaceBreaches
  pub are_all : AreSections content all
  pub lists : map (map section_value) (done ++ rest) ≡ map (λ fs. filter (is_section_in content.table fs) all) (range_with_len 0 (length content.table))
  pub so_far : number ≡ length done
  pub long : length systems ≡ number
  pub each : (fs : ℕ) (default : SystemValue) → fs < number → IsSystem content all fs (get_or systems fs default)

module _ (content : Content) where
  module _ (done left rest : List (List Section)) (section : List Section) (number : ℕ) (systems : List SystemValue) (are : AreSoFar content done left number systems) (is : left ≡ section ∷ rest) where
    long_lists : length (done ++ section ∷ rest) ≡ length content.table
    long_lists =
        sym (length-map (done ++ section ∷ rest) (map section_value)) ∙ ap (λ some. length (map (map section_value) (done ++ some))) (sym is) ∙ ap length are.lists
        ∙ length-map-range_with_len (λ fs. filter (is_section_in content.table fs) are.all) 0 (length content.table)

    pub listed : number < length content.table
    listed = (let more = length-append done (section ∷ rest) in let n = are.so_far in let long = long_lists in omega arith)

    own_list : map section_value section ≡ filter (is_section_in content.table number) are.all
    own_list =
        let more = length-append done (section ∷ rest) in
        let d : List Section = section in
        sym (ap (map section_value) (ap (λ n. get_or (done ++ section ∷ rest) n d) are.so_far ∙ get_or-append_seam done section rest d))
        ∙ sym (get_or-map (map section_value) (done ++ section ∷ rest) number d [] (let n = are.so_far in omega arith))
        ∙ ap (λ some. get_or (map (map section_value) (done ++ some)) number []) (sym is)
        ∙ ap (λ some. get_or some number []) are.lists
        ∙ get_or-map-range_with_len (λ fs. filter (is_section_in content.table fs) are.all) 0 (length content.table) number number [] listed (omega arith)

    pub own : IsSoundSite content → IsOwnOf content number are.all (map section_value section)
    own sound = record { ascending = sound.ascending; listed = listed; are_all = are.are_all; are = own_list }

    pub one_more : IsSoundSite content → (system : SystemValue) → ((all : List PlaceBreaches) → IsOwnOf content number all (map section_value section) → IsSystem content all number system)
        → AreSoFar content (done ++ section ∷ []) rest (number + 1) (systems ++ system ∷ [])
    one_more sound system found = record {
      all = are.all;
      are_all = are.are_all;
      lists = ap (map (map section_value)) (append_assoc done (section ∷ []) rest) ∙ ap (λ some. map (map section_value) (done ++ some)) (sym is) ∙ are.lists;
      so_far = (let more = length-append done (section ∷ []) in let n = are.so_far in omega arith);
      long = (let more = length-append systems (system ∷ []) in let n = are.long in omega arith);
      each = λ fs default within. elim (cases_lt fs number) as (λ _. IsSystem content are.all fs (get_or (systems ++ system ∷ []) fs default)) [
        | inl before ↦ subst (IsSystem content are.all fs) (sym (get_or_append_left systems (system ∷ []) default fs (let n = are.long in omega arith))) (are.each fs default before)
        | inr last ↦
            let same : fs ≡ length systems = (let n = are.long in omega arith) in
            let there : get_or (systems ++ system ∷ []) fs default ≡ system = ap (λ n. get_or (systems ++ system ∷ []) n default) same ∙ get_or-append_seam systems system [] default in
            subst (IsSystem content are.all fs) (sym there) (subst (λ n. IsSystem content are.all n system) (omega arith) (found are.all (own sound)))
      ];
    }

  pub are_systems : (done rest : List (List Section)) (number : ℕ) (systems : List SystemValue) → AreSoFar content done rest number systems → rest ≡ [] → AreSystems content systems
  are_systems done rest number systems are none =
      let long = sym (length-map done (map section_value)) ∙ ap (λ some. length (map (map section_value) some)) (sym (append-nil done) ∙ ap (λ some. done ++ some) (sym none)) ∙ ap length are.lists
      ∙ length-map-range_with_len (λ fs. filter (is_section_in content.table fs) are.all) 0 (length content.table) in
      record {
        all = are.all;
        are_all = are.are_all;
        count = (let n = are.so_far in let m = are.long in omega arith);
        each = λ fs default within. are.each fs default (let n = are.so_far in omega arith);
      }
