-- The proposals by which clients may do more, with what waits for one more file system.
use Rattle.std.proofs.Common.{◌≡◌, ℕ, ◌+◌, ◌++◌, ◌∙◌, List, [], ◌∷◌, ap, arith, length, refl}
use Rattle.std.specs.List.{flat_map}
use Rattle.std.proofs.lemmas.List.{flat_map_more}
use Rattle.desk_policy.specs.Policy.{Content}
use Rattle.page_summary.specs.Proposals.{ProposalValue}
use Rattle.page_site.specs.PrivateWidening.{GainsTold}
use Rattle.page_site.specs.SystemParts.{waiting_for}
use Rattle.page_site.specs.WaitingProposals.{Waiting}
use Rattle.page_site.specs.WideningProposals.{AreWidening, IsToldFor}
use Rattle.page_site.proofs.OfSite.{AreFirst, first_more, first_none}

module _ (content : Content) (waiting : List Waiting) where
  abbrev IsToldAt : ℕ → List ProposalValue → Type 0
  IsToldAt fs rows = IsToldFor content (waiting_for waiting fs) rows

  -- those of the first so many file systems
  pub record AreToldFirst (count : ℕ) (rows : List ProposalValue) : Type 0 where
    pub told : List (List ProposalValue)
    pub first : AreFirst IsToldAt [] count told
    pub rows_are : rows ≡ flat_map (λ row. row) told

  pub told_none : AreToldFirst 0 []
  told_none = record { told = []; first = first_none IsToldAt []; rows_are = refl }

  pub told_more : (count : ℕ) (old new : List ProposalValue) → AreToldFirst count old → GainsTold content (waiting_for waiting count) old new → AreToldFirst (count + 1) new
  told_more count old new so_far gains = record {
    told = so_far.told ++ gains.rows ∷ [];
    first = first_more IsToldAt [] count so_far.told (so_far.told ++ gains.rows ∷ []) gains.rows so_far.first refl gains.told;
    rows_are = gains.gained ∙ ap (λ rows. rows ++ gains.rows) so_far.rows_are ∙ flat_map_more (λ row. row) [] so_far.told gains.rows;
  }

  pub told_all : (count : ℕ) (rows : List ProposalValue) → AreToldFirst count rows → count ≡ length content.table → AreWidening content waiting rows
  told_all count rows so_far all = record {
    told = so_far.told;
    count = so_far.first.many ∙ all;
    each = λ fs within. so_far.first.each fs (omega (arith, all));
    rows_are = so_far.rows_are;
  }
