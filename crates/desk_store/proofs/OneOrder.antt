-- It does not matter in which order rows are: revisions that they say are numbered, and of numbered ones each file has the same.
use Rattle.std.proofs.Common.{◌≡◌, ◌∙◌, sym, ap, subst, refl, ℕ, ◌∷◌, Bool, true, false, cond, List, [], Option, Some, None, IsPermutation, length, map}
use Rattle.std.specs.Prelude.{Contains}
use Rattle.std.specs.List.{filter_map, range_with_len}
use Rattle.std.specs.Option.{option_map}
use Rattle.std.specs.Str.{bytes_eq}
use Rattle.std.proofs.Math.Path.{fun_ext}
use Rattle.std.proofs.lemmas.List.Sorted.{Contains-permutation, IsPermutation-sym}
use Rattle.std.proofs.lemmas.Slice.Eq.{bytes_eq-Decides}
use Rattle.sqlite_trees.proofs.ListLemmas.{pull_back}
use Rattle.desk_exports.specs.Profile.{profile_number}
use Rattle.desk_exports.specs.declared.profile.Profile.{Profile}
use Rattle.desk_exports.specs.declared.profile.Profile.TheVariants.{One, Two}
use Rattle.desk_core.specs.Head.{Revision}
use Rattle.desk_core.specs.declared.proposal.Proposal.{Proposal}
use Rattle.desk_store.specs.History.{approval_of, proposed_row, row_of}
use Rattle.desk_store.specs.Tables.{approval_row}
use Rattle.desk_store.proofs.Members.{from_filter, from_filter_map, from_map, in_filter, in_filter_map, in_map}
use Rattle.desk_store.proofs.Revisions.{IsNumbered, last, newest_by, one_number, own, same_numbered}
use Rattle.std.proofs.lemmas.List.{length-map}

-- ---- numbers are told by rows

own_step : (b c : Bool) (x y : Revision) (xs ys : List Revision) → b ≡ c → x.rev ≡ y.rev → map (λ (r : Revision). r.rev) xs ≡ map (λ (r : Revision). r.rev) ys
    → map (λ (r : Revision). r.rev) (cond b (x ∷ xs) xs) ≡ map (λ (r : Revision). r.rev) (cond c (y ∷ ys) ys)
own_step true true x y xs ys e rev rest = ap (λ n. n ∷ map (λ (r : Revision). r.rev) xs) rev ∙ ap (λ ns. y.rev ∷ ns) rest
own_step true false x y xs ys e rev rest = absurd (cc)
own_step false true x y xs ys e rev rest = absurd (cc)
own_step false false x y xs ys e rev rest = rest

own_numbers : (xs ys : List Revision) (file : List ℕ) → map row_of xs ≡ map row_of ys → map (λ (r : Revision). r.rev) (own file xs) ≡ map (λ (r : Revision). r.rev) (own file ys)
own_numbers [] [] file same = refl
own_numbers [] (y ∷ ys) file same = absurd (cc)
own_numbers (x ∷ xs) [] file same = absurd (cc)
own_numbers (x ∷ xs) (y ∷ ys) file same =
    let head : row_of x ≡ row_of y = cc in
    let rest : map row_of xs ≡ map row_of ys = cc in
    let name : x.file ≡ y.file = cc in
    let number : x.rev ≡ y.rev = cc in
    own_step (bytes_eq x.file file) (bytes_eq y.file file) x y (own file xs) (own file ys) (ap (λ f. bytes_eq f file) name) number (own_numbers xs ys file rest)

-- where the rows of one list are those of another, in any order, that other has an order in which they are numbered
pub numbered_so : (xs ys : List Revision) → IsPermutation (map row_of xs) (map row_of ys) → IsNumbered xs → (zs : List Revision) × IsPermutation ys zs × IsNumbered zs
numbered_so xs ys same numbered =
    let it = pull_back row_of (map row_of ys) (map row_of xs) (IsPermutation-sym (map row_of xs) (map row_of ys) same) ys refl in
    let zs : List Revision = it.0 in (
      zs,
      it.1,
      λ file.
          let numbers = own_numbers xs zs file it.2 in
          let long : length (own file xs) ≡ length (own file zs) = sym (length-map (own file xs) (λ (r : Revision). r.rev)) ∙ ap length numbers ∙ length-map (own file zs) (λ (r : Revision). r.rev) in
          sym numbers ∙ numbered file ∙ ap (range_with_len 1) long,
    )

-- ---- a revision is told by its row and that of its approval

pub same_profile : (a b : Profile) → profile_number a ≡ profile_number b → a ≡ b
same_profile One One e = refl
same_profile One Two e = absurd (cc)
same_profile Two One e = absurd (cc)
same_profile Two Two e = refl

pub same_revision : (a b : Revision) → row_of a ≡ row_of b → a.approver ≡ b.approver → a ≡ b
same_revision a b row approver =
    let make : List ℕ → ℕ → List ℕ → Option (List ℕ) → Profile → List ℕ → Revision =
    λ file rev author approver profile body. record { file = file; rev = rev; author = author; approver = approver; profile = profile; body = body } in
    let f : a.file ≡ b.file = cc in
    let r : a.rev ≡ b.rev = cc in
    let w : a.author ≡ b.author = cc in
    let n : profile_number a.profile ≡ profile_number b.profile = cc in
    let t : a.body ≡ b.body = cc in
    ap (λ x. make x a.rev a.author a.approver a.profile a.body) f ∙ ap (λ x. make b.file x a.author a.approver a.profile a.body) r ∙ ap (λ x. make b.file b.rev x a.approver a.profile a.body) w
    ∙ ap (λ x. make b.file b.rev b.author x a.profile a.body) approver ∙ ap (λ x. make b.file b.rev b.author b.approver x a.body) (same_profile a.profile b.profile n)
    ∙ ap (λ x. make b.file b.rev b.author b.approver b.profile x) t

pub approval_parts : (file : List ℕ) (rev : ℕ) (approver : Option (List ℕ)) (f : List ℕ) (n : ℕ) (a : List ℕ) → option_map (approval_row file rev) approver ≡ Some (approval_row f n a)
    → (file ≡ f) × (rev ≡ n) × (approver ≡ Some a)
approval_parts file rev None f n a e = absurd (cc)
approval_parts file rev (Some b) f n a e =
    let name : file ≡ f = cc in
    let number : rev ≡ n = cc in
    let by : b ≡ a = cc in
    (name, number, ap Some by)

kept_approver : (xs ys : List Revision) → IsNumbered ys → IsPermutation (filter_map approval_of xs) (filter_map approval_of ys) → (r s : Revision) → Contains xs r → Contains ys s → row_of s ≡ row_of r
    → (a : List ℕ) → r.approver ≡ Some a → s.approver ≡ Some a
kept_approver xs ys numbered same r s there other row a is =
    let row_there : Contains (filter_map approval_of xs) (approval_row r.file r.rev a) = in_filter_map approval_of xs r (approval_row r.file r.rev a) there (ap (option_map (approval_row r.file r.rev)) is) in
    let it = from_filter_map approval_of ys (approval_row r.file r.rev a) (Contains-permutation (filter_map approval_of xs) (filter_map approval_of ys) (approval_row r.file r.rev a) same row_there) in
    let t : Revision = it.0 in
    let parts = approval_parts t.file t.rev t.approver r.file r.rev a it.2 in
    let name : s.file ≡ r.file = cc in
    let number : s.rev ≡ r.rev = cc in
    let among : (x : Revision) → Contains ys x → x.file ≡ r.file → Contains (own r.file ys) x = λ x h e. in_filter (λ (y : Revision). bytes_eq y.file r.file) ys x h ((bytes_eq-Decides x.file r.file).1 e) in
    let one : t ≡ s = one_number (own r.file ys) t s (numbered r.file) (among t it.1 parts.0) (among s other name) (parts.1 ∙ sym number) in
    ap (λ (x : Revision). x.approver) (sym one) ∙ parts.2

-- ---- the revisions of a file

module _ (xs ys : List Revision) (numbered : IsNumbered xs) (other : IsNumbered ys) (rows : IsPermutation (map row_of xs) (map row_of ys))
    (approvals : IsPermutation (filter_map approval_of xs) (filter_map approval_of ys)) where
  same_approver : (r s : Revision) → Contains xs r → Contains ys s → row_of s ≡ row_of r → (a b : Option (List ℕ)) → r.approver ≡ a → s.approver ≡ b → s.approver ≡ r.approver
  same_approver r s there its row (Some a) b e f = kept_approver xs ys other approvals r s there its row a e ∙ sym e
  same_approver r s there its row None None e f = f ∙ sym e
  same_approver r s there its row None (Some b) e f =
      absurd (let back = kept_approver ys xs numbered (IsPermutation-sym (filter_map approval_of xs) (filter_map approval_of ys) approvals) s r its there (sym row) b f in cc)

  pub moved : (file : List ℕ) (r : Revision) → Contains (own file xs) r → Contains (own file ys) r
  moved file r h =
      let mine : Revision → Bool = λ (x : Revision). bytes_eq x.file file in
      let from = from_filter mine xs r h in
      let found = from_map row_of ys (row_of r) (Contains-permutation (map row_of xs) (map row_of ys) (row_of r) rows (in_map row_of xs r from.0)) in
      let s : Revision = found.0 in
      let same : s ≡ r = same_revision s r found.2 (same_approver r s from.0 found.1 found.2 r.approver s.approver refl refl) in
      in_filter mine ys r (subst (Contains ys) same found.1) from.1

pub same_own : (xs ys : List Revision) → IsNumbered xs → IsNumbered ys → IsPermutation (map row_of xs) (map row_of ys) → IsPermutation (filter_map approval_of xs) (filter_map approval_of ys)
    → (file : List ℕ) → own file xs ≡ own file ys
same_own xs ys numbered other rows approvals file =
    same_numbered (own file xs) (own file ys) (numbered file) (other file) (moved xs ys numbered other rows approvals file)
    (moved ys xs other numbered (IsPermutation-sym (map row_of xs) (map row_of ys) rows) (IsPermutation-sym (filter_map approval_of xs) (filter_map approval_of ys) approvals) file)

pub same_newest : (xs ys : List Revision) → IsNumbered xs → IsNumbered ys → IsPermutation (map row_of xs) (map row_of ys) → IsPermutation (filter_map approval_of xs) (filter_map approval_of ys)
    → newest_by xs ≡ newest_by ys
same_newest xs ys numbered other rows approvals = fun_ext (λ file. ap last (same_own xs ys numbered other rows approvals file))

-- ---- a proposal is told by its row

same_proposal : (a b : Proposal) → proposed_row a ≡ proposed_row b → a ≡ b
same_proposal a b row =
    let make : List ℕ → ℕ → List ℕ → List ℕ → Proposal = λ file base author body. record { file = file; base = base; author = author; body = body } in
    let f : a.file ≡ b.file = cc in
    let r : a.base ≡ b.base = cc in
    let w : a.author ≡ b.author = cc in
    let t : a.body ≡ b.body = cc in
    ap (λ x. make x a.base a.author a.body) f ∙ ap (λ x. make b.file x a.author a.body) r ∙ ap (λ x. make b.file b.base x a.body) w ∙ ap (λ x. make b.file b.base b.author x) t

same_proposals : (xs ys : List Proposal) → map proposed_row xs ≡ map proposed_row ys → xs ≡ ys
same_proposals [] [] e = refl
same_proposals [] (y ∷ ys) e = absurd (cc)
same_proposals (x ∷ xs) [] e = absurd (cc)
same_proposals (x ∷ xs) (y ∷ ys) e =
    let head : proposed_row x ≡ proposed_row y = cc in
    let rest : map proposed_row xs ≡ map proposed_row ys = cc in
    ap (λ p. p ∷ xs) (same_proposal x y head) ∙ ap (λ ps. y ∷ ps) (same_proposals xs ys rest)

-- rows that are the same, in any order, say the same proposals
pub proposals_say : (xs ys : List Proposal) → IsPermutation (map proposed_row xs) (map proposed_row ys) → IsPermutation xs ys
proposals_say xs ys same =
    let it = pull_back proposed_row (map proposed_row xs) (map proposed_row ys) same xs refl in
    subst (IsPermutation xs) (sym (same_proposals ys it.0 it.2)) it.1
