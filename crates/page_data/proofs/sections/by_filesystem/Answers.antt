use Rattle.std.proofs.Common.{◌≡◌, ◌++◌, ◌∙◌, List, [], ◌∷◌, ap, length, map, replicate, sym}
use Rattle.std.specs.List.{range_with_len}
use Rattle.std.proofs.lemmas.List.{append_assoc, map-append}
use Rattle.desk_impact.specs.Sections.{section_value}
use Rattle.page_data.proofs.Placed.{gains, none_placed, placed}
use Rattle.page_data.proofs.sections.by_filesystem.Goals as goal

pub loop-section-init : goal.loop-section-init
loop-section-init c = record {
  sections = c.into_iter-section-iterator.ensures.into_iter_gives.0;
  lists = c.in_ok-lists.ensures ∙ ap (λ n. replicate n []) c.len.ensures ∙ none_placed c.args.table.now 0 (length c.args.table.now);
}

-- the next section goes from what is left to what was read
one_more : {X : Type 0} (done left rest all : List X) (x : X) → left ≡ x ∷ rest → done ++ left ≡ all → (done ++ x ∷ []) ++ rest ≡ all
one_more done left rest all x e h = append_assoc done (x ∷ []) rest ∙ ap (λ xs. done ++ xs) (sym e) ∙ h

pub loop-section-preserved : goal.loop-section-preserved
loop-section-preserved c =
    let table = c.args.table.now in
    let n = length table in
    let done = map section_value c.loop-section.yielded in
    record {
      sections = one_more c.loop-section.yielded _ c.next.new.self.rest.items _ c.in-Some.section c.in-Some.ensures.steps.0 c.loop-section.invariant.sections;
      lists = c.in_ok-add_section.ensures ∙ gains table done (section_value c.in-Some.section) (map (map section_value) c.loop-section.lists.items) n c.loop-section.invariant.lists
          ∙ ap (λ some. map (placed table some) (range_with_len 0 n)) (sym (map-append section_value c.loop-section.yielded (c.in-Some.section ∷ [])));
    }
