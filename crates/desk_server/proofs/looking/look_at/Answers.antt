use Rattle.std.proofs.Common.{◌≡◌, ◌∙◌, ℕ, List, ap, refl, subst, sym}
use Rattle.std.specs.List.{All, Contains}
use Rattle.desk_text.specs.Address.{number_of}
use Rattle.desk_exports.specs.declared.entry.Entry.{Entry}
use Rattle.desk_policy.specs.Keys.{HasBlock}
use Rattle.desk_policy.specs.Policy.{Content, rows_of}
use Rattle.desk_policy.specs.Weights.{selected}
use Rattle.desk_policy.specs.declared.row.Row.{Row}
use Rattle.desk_index.specs.Keys.{HasNoHostBits, numbers}
use Rattle.desk_index.specs.Lighter.{IsHeaviestBelow}
use Rattle.desk_index.specs.declared.lighter.Weighed.{Weighed}
use Rattle.desk_index.proofs.RowsByNumber.{selected_among}
use Rattle.desk_idle.proofs.Heaviest.{are_numbers}
use Rattle.desk_server.specs.PrivateWiderGrants.{WidenBelow}
use Rattle.desk_server.proofs.Lighter.{all_listed, below_selected, none_left, none_names}
use Rattle.desk_server.proofs.looking.look_at.Goals as goal

all_among : (rows items : List Row) (address : ℕ) → items ≡ rows → All (Contains items) (selected rows address)
all_among rows items address same = subst (λ (rs : List Row). All (Contains rs) (selected rows address)) (sym same) (selected_among rows address)

-- what widens is lighter than the selected lines
below : (content own : Content) (fs address : ℕ) (group : Weighed) → content ≡ own → HasNoHostBits content → IsHeaviestBelow (rows_of own fs) address 35 group → WidenBelow (rows_of own fs) address group.weight
below content own fs address group same blocks is = below_selected (rows_of own fs) address (subst (λ (c : Content). All (λ (row : Row). HasBlock row.entry.clients) (rows_of c fs)) same (blocks fs)) group is

-- the group has the numbers of the selected lines
lines : (content own : Content) (fs address : ℕ) (group : Weighed) → content ≡ own → HasNoHostBits content → IsHeaviestBelow (rows_of own fs) address 35 group → group.lines.now ≡ numbers (selected (rows_of own fs) address)
lines content own fs address group same blocks is = are_numbers (rows_of own fs) address (subst (λ (c : Content). All (λ (row : Row). HasBlock row.entry.clients) (rows_of c fs)) same (blocks fs)) group is

pub returns-in_default : goal.returns-in_default
returns-in_default c =
    let rows = rows_of c.args.index.now c.args.fs.0 in
    let address = number_of c.args.address in
    none_left rows address c.args.group.weight (below c.new-probes.result.index.now c.args.index.now c.args.fs.0 address c.args.group c.new-probes.ensures.index c.new-probes.ensures.networks c.requires.group) c.in_default.ensures.heaviest

pub returns-then-lighter-eq0 : goal.returns-then-lighter-eq0
returns-then-lighter-eq0 c =
    let rows = rows_of c.args.index.now c.args.fs.0 in
    let address = number_of c.args.address in
    none_names rows address c.args.group.weight (below c.new-probes.result.index.now c.args.index.now c.args.fs.0 address c.args.group c.new-probes.ensures.index c.new-probes.ensures.networks c.requires.group)
    c.in-Some.lighter c.in-Some.ensures.heaviest c.if-lighter-eq0.true

pub widest-requires-clause-next : goal.widest-requires-clause-next
widest-requires-clause-next c =
    let address = number_of c.args.address in
    record {
      below = c.args.group.weight;
      all = below c.new-probes.result.index.now c.args.index.now c.args.fs.0 address c.args.group c.new-probes.ensures.index c.new-probes.ensures.networks c.requires.group;
      are = c.in-Some.ensures.heaviest;
    }

pub returns-then-have_alldirs : goal.returns-then-have_alldirs
returns-then-have_alldirs c =
    let fs = c.args.fs.0 in
    let rows = rows_of c.args.index.now fs in
    let address = number_of c.args.address in
    let chosen = selected rows address in
    let same : c.rows-rows.result.now ≡ rows = c.rows-rows.ensures ∙ ap (λ (content : Content). rows_of content fs) c.policy.ensures in
    let are = lines c.new-probes.result.index.now c.args.index.now fs address c.args.group c.new-probes.ensures.index c.new-probes.ensures.networks c.requires.group in
    all_listed rows address (sym (c.have_alldirs.ensures chosen are (all_among rows c.rows-rows.result.now address same)) ∙ c.if-have_alldirs.true)

pub widest-requires-clause-listed : goal.widest-requires-clause-listed
widest-requires-clause-listed c =
    let fs = c.args.fs.0 in
    let rows = rows_of c.args.index.now fs in
    let address = number_of c.args.address in
    let same : c.rows-rows.result.now ≡ rows = c.rows-rows.ensures ∙ ap (λ (content : Content). rows_of content fs) c.policy.ensures in
    let are = lines c.new-probes.result.index.now c.args.index.now fs address c.args.group c.new-probes.ensures.index c.new-probes.ensures.networks c.requires.group in
    c.in_ok-listed.ensures (selected rows address) are (all_among rows c.rows-rows.result.now address same)

pub returns-in-Some-widest : goal.returns-in-Some-widest
returns-in-Some-widest c =
    let fs = c.args.fs.0 in
    let rows = rows_of c.args.index.now fs in
    let address = number_of c.args.address in
    let same : c.rows-rows.result.now ≡ rows = c.rows-rows.ensures ∙ ap (λ (content : Content). rows_of content fs) c.policy.ensures in
    let are = lines c.new-probes.result.index.now c.args.index.now fs address c.args.group c.new-probes.ensures.index c.new-probes.ensures.networks c.requires.group in
    let listed = c.in_ok-listed.ensures (selected rows address) are (all_among rows c.rows-rows.result.now address same) in
    record {
      number = refl;
      place = refl;
      at = record {
        row = c.in-Some-widest.row.now;
        by = c.in-Some-widest.ensures;
        other = sym (ap (λ (entry : Entry). entry.line) c.deref.ensures);
        directory = c.first_new.ensures (selected rows address) listed;
      };
    }
