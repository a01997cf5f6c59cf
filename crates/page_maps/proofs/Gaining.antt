-- A page that gains a text for the map of each network, with one more.
use Rattle.std.proofs.Common.{◌≡◌, ◌<◌, ◌+◌, ◌++◌, ◌∙◌, ℕ, List, [], ◌∷◌, ap, get_or, length, refl, subst, sym, take}
use Rattle.std.proofs.lemmas.List.{append-nil, flat_map_more, map-append, take_more}
use Rattle.std.proofs.lemmas.List.Elements.{All-append, All-cons, All-nil}
use Rattle.desk_text.specs.Network.{Block}
use Rattle.desk_who.specs.Runs.{Run}
use Rattle.page_data.specs.declared.class.Class.{Class}
use Rattle.page_maps.specs.DrawnMaps.{IsDrawnFrom}
use Rattle.page_maps.specs.PrivateFigures.{GainsEach}
use Rattle.page_maps.specs.declared.drawn_maps.DrawnMap.{DrawnMap}

module _ (text_of : DrawnMap → List ℕ) (runs : List (Run Class)) where
  pub gains_none : (page : List ℕ) → GainsEach text_of runs [] page page
  gains_none page = record { drawn = []; are = record { of = refl; each = All-nil (IsDrawnFrom runs) }; text = sym (append-nil page) }

  one_more : (networks : List Block) (network : Block) (one : DrawnMap) (page now next : List ℕ) → GainsEach text_of runs networks page now → one.network ≡ network → IsDrawnFrom runs one
      → next ≡ now ++ text_of one → GainsEach text_of runs (networks ++ network ∷ []) page next
  one_more networks network one page now next before is from added = record {
    drawn = before.drawn ++ one ∷ [];
    are = record {
      of = map-append (λ (drawn : DrawnMap). drawn.network) before.drawn (one ∷ []) ∙ ap (λ xs. xs ++ one.network ∷ []) before.are.of ∙ ap (λ n. networks ++ n ∷ []) is;
      each = All-append (IsDrawnFrom runs) before.drawn (one ∷ []) before.are.each (All-cons (IsDrawnFrom runs) one [] from (All-nil (IsDrawnFrom runs)));
    };
    text = added ∙ ap (λ t. t ++ text_of one) before.text ∙ flat_map_more text_of page before.drawn one;
  }

  pub gains_more : (networks : List Block) (i : ℕ) (d : Block) (one : DrawnMap) (page now next : List ℕ) → i < length networks → GainsEach text_of runs (take i networks) page now
      → one.network ≡ get_or networks i d → IsDrawnFrom runs one → next ≡ now ++ text_of one → GainsEach text_of runs (take (i + 1) networks) page next
  gains_more networks i d one page now next below before is from added =
      subst (λ (some : List Block). GainsEach text_of runs some page next) (sym (take_more networks i d below)) (one_more (take i networks) (get_or networks i d) one page now next before is from added)
