use Rattle.std.proofs.Common.{refl, subst, sym}
use Rattle.std.proofs.lemmas.Result.{on_ok_weaker}
use Rattle.desk_core.specs.Standing.{standing_in}
use Rattle.page_summary.specs.Header.{header}
use Rattle.page_summary.specs.declared.header.Header.{Header}
use Rattle.page_summary.specs.State.{IsStateDigest}
use Rattle.page_site.proofs.sections.push_header_of.Goals as goal

pub returns : goal.returns
returns c =
    let told : Header = record {
      database = c.args.database;
      revisions = c.revisions_and_files-revisions.result.0;
      files = c.revisions_and_files-revisions.result.1;
      state = c.as_str.result;
    } in
    on_ok_weaker c.push_header.result
    (λ ended. record {
      text = header told;
      is = record {
        value = told;
        is = record {
          database = refl;
          revisions = c.revisions_and_files-revisions.ensures.revisions;
          files = c.revisions_and_files-revisions.ensures.files;
          state = subst (IsStateDigest (standing_in c.args.heads.now c.args.proposals.now)) (sym c.as_str.ensures.value) c.in_ok-state.ensures;
        };
        text_is = refl;
      };
      added = ended;
    })
    c.push_header.ensures
