-- One more file system.
use Rattle.std.proofs.Common.{◌∙◌, ◌++◌, ℕ, List, ap, subst, sym, take}
use Rattle.std.proofs.lemmas.List.{take_all}
use Rattle.desk_tables.specs.declared.filesystems.Mount.{Mount}
use Rattle.desk_server.specs.declared.repeated_client.RepeatedClient.{RepeatedClient}
use Rattle.desk_server_notes.specs.CountsNote.{CountsFound}
use Rattle.desk_server_notes.specs.MountFindings.{AreRepeatedAt}
use Rattle.desk_server_notes.proofs.Counting.{counts_more, counts_none}
use Rattle.desk_server_notes.proofs.counts.left_out_count.Goals as goal

pub loop-mount-init : goal.loop-mount-init
loop-mount-init c = counts_none (AreRepeatedAt c.args.index.now) c.new-all.result.items c.new-all.ensures.items

pub loop-mount-preserved : goal.loop-mount-preserved
loop-mount-preserved c =
    let all = c.loop-mount.all.items in
    let found = c.in_ok-found.found.items in
    counts_more (AreRepeatedAt c.args.index.now) c.args.mounts.now c.loop-mount.mount-index c.mount-item.result found all c.extend_from_slice.new.self.items c.loop-mount-test.true c.mount-item.is c.loop-mount.invariant
    c.in_ok-found.ensures (c.in_ok-extend_from_slice.ensures.items ∙ ap (λ (more : List RepeatedClient). all ++ more) c.as_slice.ensures.value)

pub returns : goal.returns
returns c =
    let are_at = AreRepeatedAt c.args.index.now in
    let mounts = c.args.mounts.now in
    subst (λ (ms : List Mount). CountsFound are_at ms c.len.result) (take_all c.loop-mount.mount-index mounts c.loop-mount-test.false)
    (subst (λ (n : ℕ). CountsFound are_at (take c.loop-mount.mount-index mounts) n) (sym (c.len.ensures ∙ c.loop-mount.all.ok.0)) c.loop-mount.invariant)
