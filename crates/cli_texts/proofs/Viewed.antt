-- A view of a policy without its warnings is one of the text that it was read from, for `whole_tables`.
use Rattle.std.proofs.Common.{◌≡◌, ◌∙◌, [], List, Result, Ok, Err, ap, sym, subst}
use Rattle.desk_text.specs.declared.reading.ReadError.{ReadError}
use Rattle.desk_text.specs.declared.reading.ReadError.TheVariants.{Fault, Memory}
use Rattle.desk_tables.specs.declared.filesystems.Mount.{Mount}
use Rattle.desk_exports.specs.declared.profile.Profile.TheVariants.{Two}
use Rattle.desk_policy.specs.Contradiction.{HasNoContradiction}
use Rattle.desk_policy.specs.Parsing.{read_of, read_whole_with, without_warnings}
use Rattle.desk_policy.specs.Policy.{Content, with_warnings}
use Rattle.desk_policy.specs.View.{Builds, IsFaultOf, IsLeastContradiction, WarningsChangeNoAnswer}
use Rattle.desk_policy.specs.declared.parsing.SiteTables.{SiteTables}
use Rattle.desk_policy.specs.declared.site_fault.SiteFault.{SiteFault}
use Rattle.desk_findings.specs.CheckText.{tables_of}
use Rattle.desk_findings.specs.declared.check_text.WholeSources.{WholeSources}
use Rattle.cli_texts.specs.WholeTables.{GivesOrFault, Writes, policy_of, policy_with}

least_too : (law : WarningsChangeNoAnswer) (read : Result Content SiteFault) (policy : Content) (fault : SiteFault) → without_warnings read ≡ Ok policy → IsLeastContradiction policy fault → IsFaultOf read fault
least_too law (Ok content) policy fault is least =
    let same : policy ≡ with_warnings content [] = cc in
    ((law content []).least fault).0 (subst (λ (p : Content). IsLeastContradiction p fault) same least)
least_too law (Err first) policy fault is least = cc

pub viewed : {V : Type 0} (law : WarningsChangeNoAnswer) (in_force : V → Content) (read : Result Content SiteFault) (policy : Content) (result : Result V (ReadError SiteFault)) → without_warnings read ≡ Ok policy → Builds in_force policy result → GivesOrFault (λ (view : V). Writes read (in_force view)) read result
viewed law in_force read policy (Ok view) is builds =
    let ok : Content → Result Content SiteFault = λ content. Ok content in
    (is ∙ ap ok (sym builds.0), subst HasNoContradiction (sym builds.0) builds.1)
viewed law in_force read policy (Err (Fault fault)) is least = least_too law read policy fault is least
viewed law in_force read policy (Err Memory) is builds = tt

-- what is read of these texts, by their tables, which were read before, and the same file systems
pub read_known : (sources : WholeSources) (table own : List Mount) (tables : SiteTables) → tables_of sources.tables ≡ Ok tables → own ≡ table → policy_of sources table ≡ read_of sources.exports.origins.now (read_whole_with Two tables own sources.exports.text.now)
read_known sources table own tables known same =
    ap (λ (read : Result SiteTables SiteFault). read_of sources.exports.origins.now (policy_with read table sources.exports.text.now)) known
    ∙ ap (λ (mounts : List Mount). read_of sources.exports.origins.now (read_whole_with Two tables mounts sources.exports.text.now)) (sym same)
