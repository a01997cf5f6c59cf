-- Proposals with what would be in force: one more, and the same by the policy that is read from the texts.
use Rattle.std.proofs.Common.{◌≡◌, ◌++◌, ◌∙◌, ◌<◌, ℕ, List, [], ◌∷◌, Result, Ok, Err, ap, get_or, length, map, subst, sym}
use Rattle.std.specs.Prelude.{All, filter, slice_set}
use Rattle.std.proofs.lemmas.List.{map-append}
use Rattle.std.proofs.lemmas.List.Elements.{All-append, filter-append}
use Rattle.desk_policy.specs.Parsing.{read_site, read_site_tables}
use Rattle.desk_policy.specs.Policy.{Content, content_of_lines, rows_of, with_lines_of}
use Rattle.desk_policy.specs.Site.{SiteTexts}
use Rattle.desk_policy.specs.SiteFile.{exports_place}
use Rattle.desk_policy.specs.declared.site_fault.SiteFault.{SiteFault}
use Rattle.desk_core.specs.Head.{Newest, newest_in}
use Rattle.desk_core.specs.Site.{HasLinesOf, IsInForce, policy_of, policy_read, site_in}
use Rattle.desk_core.specs.declared.head.Head.{Head}
use Rattle.desk_core.specs.declared.proposal.Proposal.{Proposal}
use Rattle.page_data.specs.Opening.{AreOpenings}
use Rattle.page_site.specs.FoundInSite.{Source}
use Rattle.page_site.specs.Given.{HasReadableText}
use Rattle.page_site.specs.Page.{IsSource}
use Rattle.page_site.specs.WaitingProposals.{AreWaiting, IsOutcomeOf, IsWaiting, Waiting, is_for_listed}
use Rattle.page_site.specs.PrivateForeseenSites.{AreForeseen, GainsForeseen, IsRead}

-- one more is foreseen
pub one_more : (newest : Newest) (content : Content) (proposals : List Proposal) (proposal : Proposal) (old new : List Waiting)
    → AreForeseen newest content proposals old → GainsForeseen newest content proposal old new → AreForeseen newest content (proposals ++ proposal ∷ []) new
one_more newest content proposals proposal old new before gains = record {
  in_force = before.in_force;
  are = record {
    proposals_are =
        ap (map (λ (one : Waiting). one.proposal)) gains.gained ∙ map-append (λ (one : Waiting). one.proposal) old gains.more
        ∙ ap (λ ps. ps ++ map (λ (one : Waiting). one.proposal) gains.more) before.are.proposals_are
        ∙ ap (λ ps. filter (is_for_listed content.table) proposals ++ ps) gains.of_proposal
        ∙ sym (filter-append (is_for_listed content.table) proposals (proposal ∷ []));
    each = subst (All (IsWaiting newest content)) (sym gains.gained) (All-append (IsWaiting newest content) old gains.more before.are.each gains.each);
  };
  readable = subst (All HasReadableText) (sym gains.gained) (All-append HasReadableText old gains.more before.readable gains.readable);
}

-- the policy that is read from the texts of a site has the lines of the one in force
pub same_lines : (texts : SiteTexts) (old new : Content) → IsInForce texts old → read_site texts ≡ Ok new → HasLinesOf old new
same_lines texts old new force is =
    let made : policy_of texts ≡ new = ap policy_read is in
    record { table = sym (force.lines.table ∙ ap (λ (c : Content). c.table) made); rows = sym (force.lines.rows ∙ ap (λ (c : Content). c.rows) made); origins = sym (force.lines.origins ∙ ap (λ (c : Content). c.origins) made) }

-- only the file systems and the lines of the policy count for what would be in force
with_lines : (texts : SiteTexts) (old new : Content) (fs : ℕ) (lines : Content) → HasLinesOf old new → IsInForce texts (with_lines_of old fs lines)
    → IsInForce texts (with_lines_of new fs lines)
with_lines texts old new fs lines same is = record {
  consistent = is.consistent;
  lines = record { table = same.table ∙ is.lines.table; rows = ap (λ rows. slice_set rows fs (rows_of lines fs)) same.rows ∙ is.lines.rows; origins = is.lines.origins };
}

outcome : (newest : Newest) (old new : Content) (fs : ℕ) (proposal : Proposal) (told : Result Content SiteFault) → HasLinesOf old new → IsOutcomeOf newest old fs proposal told
    → IsOutcomeOf newest new fs proposal told
outcome newest old new fs proposal (Ok lines) same is = (
  record {
    file_system = subst (λ table. fs < length table) (sym same.table) is.0.file_system;
    alone = is.0.alone ∙ ap (λ table. content_of_lines table fs (rows_of lines fs)) (sym same.table);
  },
  with_lines _ old new fs lines same is.1,
)
outcome newest old new fs proposal (Err fault) same is = is

told_alike : (newest : Newest) (old new : Content) (waiting : Waiting) → HasLinesOf old new → IsWaiting newest old waiting → IsWaiting newest new waiting
told_alike newest old new waiting same is = record {
  place = ap (λ table. exports_place table waiting.proposal.file) same.table ∙ is.place;
  outcome = outcome newest old new waiting.fs waiting.proposal waiting.outcome same is.outcome;
}

-- what waits waits so by the policy that is read from the texts
pub waiting_alike : (newest : Newest) (old new : Content) (proposals : List Proposal) (waiting : List Waiting) → HasLinesOf old new → AreWaiting newest old proposals waiting
    → AreWaiting newest new proposals waiting
waiting_alike newest old new proposals waiting same is = record {
  proposals_are = is.proposals_are ∙ ap (λ table. filter (is_for_listed table) proposals) (sym same.table);
  each = λ k d below. told_alike newest old new (get_or waiting k d) same (is.each k d below);
}

-- what the page is made of is that of the state
pub source_of : (source : Source) (heads : List Head) (proposals : List Proposal) (old : Content) → source.heads ≡ heads → source.proposals ≡ proposals
    → IsRead (site_in (newest_in heads)) source.content → read_site_tables (site_in (newest_in heads)) ≡ Ok source.tables
    → AreForeseen (newest_in heads) old proposals source.waiting → AreOpenings source.content source.openings → IsSource source
source_of source heads proposals old heads_are proposals_are read tables foreseen openings = record {
  policy_is = subst (λ hs. read_site (site_in (newest_in hs)) ≡ Ok source.content) (sym heads_are) read.is;
  consistent = read.consistent;
  are_openings = openings;
  tables_are = subst (λ hs. read_site_tables (site_in (newest_in hs)) ≡ Ok source.tables) (sym heads_are) tables;
  are_waiting =
      subst (λ hs. AreWaiting (newest_in hs) source.content source.proposals source.waiting) (sym heads_are)
      (subst (λ ps. AreWaiting (newest_in heads) source.content ps source.waiting) (sym proposals_are)
      (waiting_alike (newest_in heads) old source.content proposals source.waiting (same_lines (site_in (newest_in heads)) old source.content foreseen.in_force read.is) foreseen.are));
}
