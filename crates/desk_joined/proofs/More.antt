-- One more text behind those that are joined.
use Rattle.std.proofs.Common.{◌≡◌, ℕ, List, [], ◌∷◌, ◌++◌, sym, ap, ◌∙◌}
use Rattle.std.specs.Prelude.{count_by}
use Rattle.std.specs.String.{string_bytes}
use Rattle.std.proofs.lemmas.List.{append-nil, append_assoc}
use Rattle.std.proofs.lemmas.List.Concat.{flat_map-append}
use Rattle.desk_origins.specs.Origins.{origin}
use Rattle.desk_origins.specs.declared.origins.Origin.{Origin}
use Rattle.desk_joined.specs.Joining.{Adds, IsJoined, NamedText, is_feed, joined, origins_behind, section}
use Rattle.desk_joined.specs.declared.joining.Joined.{Joined}

-- where one more text stands
origins_more : (before : List ℕ) (files : List NamedText) (file : NamedText)
    → origins_behind before (files ++ file ∷ []) ≡ origins_behind before files ++ origin file.path (count_by is_feed (before ++ joined files)) ∷ []
origins_more before [] file = ap (λ (text : List ℕ). origin file.path (count_by is_feed text) ∷ []) (sym (append-nil before))
origins_more before (first ∷ files) file =
    ap (λ (os : List Origin). origin first.path (count_by is_feed before) ∷ os) (origins_more (before ++ section first.text) files file)
    ∙ ap (λ (text : List ℕ). origin first.path (count_by is_feed before) ∷ (origins_behind (before ++ section first.text) files ++ origin file.path (count_by is_feed text) ∷ []))
    (append_assoc before (section first.text) (joined files))

pub joined_more : (files : List NamedText) (file : NamedText) (old new : Joined) → IsJoined files old → Adds file old new → IsJoined (files ++ file ∷ []) new
joined_more files file old new is adds = record {
  text =
      adds.text ∙ ap (λ text. text ++ section file.text) is.text
      ∙ sym (flat_map-append (λ (one : NamedText). section one.text) files (file ∷ []) ∙ ap (λ text. joined files ++ text) (append-nil (section file.text)));
  origins =
      adds.origins ∙ ap (λ (os : List Origin). os ++ origin file.path (count_by is_feed (string_bytes old.text)) ∷ []) is.origins
      ∙ ap (λ text. origins_behind [] files ++ origin file.path (count_by is_feed text) ∷ []) is.text
      ∙ sym (origins_more [] files file);
}
