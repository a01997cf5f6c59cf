-- What is said in turn is kept in turn.
use Rattle.std.proofs.Common.{◌≡◌, ◌∙◌, ◌++◌, ◌&&◌, arith, filter}
use Rattle.std.proofs.lemmas.Result.{on_ok_weaker}
use Rattle.desk_remarks.specs.EntryRemarks.{is_every_address, is_root_for_many, is_writable_by_all, remark_if}
use Rattle.desk_remarks.specs.PrivateUnwarnedLines.{is_outside}
use Rattle.desk_remarks.specs.declared.remark.Remark.TheVariants.{EveryAddress, WritableByAll, RootForMany}
use Rattle.desk_remarks.proofs.Kept.{three_kept}
use Rattle.desk_remarks.proofs.entry_remarks.push_entry.Goals as goal
use Rattle.desk_remarks.proofs.entry_remarks.push_entry.Goals.{then-opinions, else-opinions, then-opinions-2, else-opinions-2}

pub returns : goal.returns
returns c =
    let entry = c.args.entry.now in
    let p = is_outside c.args.warned.now in
    let every : c.is_every_address.result ≡ is_every_address entry.clients = c.is_every_address.ensures in
    let writable : c.if-opinions.push_if ≡ (c.args.opinions && is_writable_by_all entry) =
    elim c.if-opinions.branch [ then-opinions w ↦ grind arith | else-opinions w ↦ grind arith ] in
    let root : c.if-opinions-2.push_if ≡ (c.args.opinions && is_root_for_many entry) =
    elim c.if-opinions-2.branch [ then-opinions-2 w ↦ grind arith | else-opinions-2 w ↦ grind arith ] in
    on_ok_weaker c.push_if-3.result
    (λ last.
    three_kept p (remark_if c.is_every_address.result entry.line EveryAddress) (remark_if c.if-opinions.push_if entry.line WritableByAll) (remark_if c.if-opinions-2.push_if entry.line RootForMany)
    c.args.found.now c.push_if.new.found c.push_if-2.new.found c.push_if-3.new.found c.in_ok-push_if.ensures c.in_ok-push_if-2.ensures last
    ∙ (λ i. c.args.found.now ++ filter p (remark_if (every i) entry.line EveryAddress ++ (remark_if (writable i) entry.line WritableByAll ++ remark_if (root i) entry.line RootForMany))))
    c.push_if-3.ensures
