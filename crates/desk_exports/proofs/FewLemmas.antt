-- Lemmas on lists of mostly one value.
use Rattle.std.proofs.Common.{◌≡◌, List, [], ◌∷◌, ◌++◌, Result}
use Rattle.std.specs.List.{filter_map}
use Rattle.std.specs.Result.{result_ok}
use Rattle.std.proofs.lemmas.List.Elements.{filter_map-append}

-- the value of one more result
pub oks_more : {T F : Type 0} (rs : List (Result T F)) (r : Result T F) → filter_map result_ok (rs ++ r ∷ []) ≡ filter_map result_ok rs ++ filter_map result_ok (r ∷ [])
oks_more rs r = filter_map-append result_ok rs (r ∷ [])
