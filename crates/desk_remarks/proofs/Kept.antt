-- What is told but of lines that are warned of.
use Rattle.std.proofs.Common.{◌≡◌, ◌∙◌, ◌++◌, ℕ, Bool, List, [], ◌∷◌, ap, append_assoc, filter, map, not, refl, sym}
use Rattle.std.specs.BTreeSet.{BTreeSet}
use Rattle.std.specs.List.{flat_map}
use Rattle.std.proofs.lemmas.List.Elements.{filter-append, filter_agree}
use Rattle.desk_policy.specs.declared.row.Row.{Row}
use Rattle.desk_policy.specs.declared.warning.Warning.{Warning}
use Rattle.desk_remarks.specs.EntryRemarks.{entry_remarks}
use Rattle.desk_remarks.specs.PrivateUnwarnedLines.{HasLines, is_outside}
use Rattle.desk_remarks.specs.Remarks.{remarks_by_line}
use Rattle.desk_remarks.specs.UnwarnedLines.{is_unwarned}
use Rattle.desk_remarks.specs.declared.remark.LineRemark.{LineRemark}

-- what each gives is kept, or all of it
pub filter_each : {X Y : Type 0} (p : Y → Bool) (f : X → List Y) (xs : List X) → flat_map (λ x. filter p (f x)) xs ≡ filter p (flat_map f xs)
filter_each p f [] = refl
filter_each p f (x ∷ xs) = ap (λ l. filter p (f x) ++ l) (filter_each p f xs) ∙ sym (filter-append p (f x) (flat_map f xs))

pub filter_each_one : {X Y : Type 0} (p : Y → Bool) (f : X → Y) (xs : List X) → flat_map (λ x. filter p (f x ∷ [])) xs ≡ filter p (map f xs)
filter_each_one p f [] = refl
filter_each_one p f (x ∷ xs) = ap (λ l. filter p (f x ∷ []) ++ l) (filter_each_one p f xs) ∙ sym (filter-append p (f x ∷ []) (map f xs))

pub by_line_kept : (p : LineRemark → Bool) (opinions : Bool) (files : List (List Row))
    → flat_map (λ (rows : List Row). flat_map (λ (row : Row). filter p (entry_remarks opinions row.entry)) rows) files ≡ filter p (remarks_by_line opinions files)
by_line_kept p opinions [] = refl
by_line_kept p opinions (rows ∷ files) =
    ap (λ l. flat_map (λ (row : Row). filter p (entry_remarks opinions row.entry)) rows ++ l) (by_line_kept p opinions files)
    ∙ ap (λ l. l ++ filter p (remarks_by_line opinions files)) (filter_each p (λ (row : Row). entry_remarks opinions row.entry) rows)
    ∙ sym (filter-append p (flat_map (λ (row : Row). entry_remarks opinions row.entry) rows) (remarks_by_line opinions files))

-- a remark is about none of the gathered lines exactly if no word of its line is warned of
pub outside_is_unwarned : (warnings : List Warning) (warned : BTreeSet ℕ) → HasLines warnings warned → (remarks : List LineRemark) → filter (is_outside warned) remarks ≡ filter (is_unwarned warnings) remarks
outside_is_unwarned warnings warned has remarks = filter_agree (is_outside warned) (is_unwarned warnings) (λ remark. ap not (has remark.line)) remarks

-- what is kept of three lists in turn
pub three_kept : (p : LineRemark → Bool) (a b c old first second third : List LineRemark) → first ≡ old ++ filter p a → second ≡ first ++ filter p b → third ≡ second ++ filter p c → third ≡ old ++ filter p (a ++ (b ++ c))
three_kept p a b c old first second third one two three =
    three ∙ ap (λ l. l ++ filter p c) (two ∙ ap (λ l. l ++ filter p b) one) ∙ append_assoc (old ++ filter p a) (filter p b) (filter p c)
    ∙ append_assoc old (filter p a) (filter p b ++ filter p c)
    ∙ ap (λ l. old ++ l) (sym (filter-append p a (b ++ c) ∙ ap (λ l. filter p a ++ l) (filter-append p b c)))
