-- Group numbers, each behind a colon.
use Rattle.std.proofs.Common.{◌≡◌, ◌<◌, ℕ, List, [], ◌∷◌, ◌++◌, ◌+◌, length, take, get_or, ap, sym, ◌∙◌}
use Rattle.std.specs.List.{flat_map}
use Rattle.std.specs.Fmt.{decimal}
use Rattle.std.proofs.lemmas.List.{append-nil, flat_map_more, take_more}
use Rattle.desk_tables.specs.Credentials.{gids_text}

abbrev pub behind_colon : ℕ → List ℕ
behind_colon gid = 58 ∷ decimal gid

pub one_more : (gids : List ℕ) (i : ℕ) → i < length gids → flat_map behind_colon (take i gids) ++ behind_colon (get_or gids i 0) ≡ flat_map behind_colon (take (i + 1) gids)
one_more gids i inside = flat_map_more behind_colon [] (take i gids) (get_or gids i 0) ∙ ap (flat_map behind_colon) (sym (take_more gids i 0 inside))

pub with_colons : (gid : ℕ) (gids : List ℕ) → decimal gid ++ flat_map behind_colon gids ≡ gids_text (gid ∷ gids)
with_colons gid [] = append-nil (decimal gid)
with_colons gid (next ∷ gids) = ap (λ t. decimal gid ++ 58 ∷ t) (with_colons next gids)
