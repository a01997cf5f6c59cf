-- What stands at a place of a list.
use Rattle.std.proofs.Common.{◌≡◌, ◌<◌, ◌∙◌, List, [], Some, ap, get_or, length, sym, ℕ}
use Rattle.std.specs.Prelude.{slice_get}
use Rattle.std.proofs.lemmas.List.{get_or_default}
use Rattle.std.proofs.lemmas.Option.{slice_get-get_or}
use Rattle.desk_policy.specs.declared.row.Row.{Row}

pub list_there : (lists : List (List Row)) (i : ℕ) (rows : List Row) → i < length lists → rows ≡ get_or lists i rows → get_or lists i [] ≡ rows
list_there lists i rows below is = get_or_default lists i [] rows below ∙ sym is

pub slot_there : {X : Type 0} (xs : List X) (i : ℕ) (x : X) → i < length xs → x ≡ get_or xs i x → slice_get xs i ≡ Some x
slot_there xs i x below is = slice_get-get_or xs i x below ∙ ap Some (sym is)
