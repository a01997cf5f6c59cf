use Rattle.std.proofs.Common.{◌≡◌, All, take}
use Rattle.desk_policy.specs.Site.{texts_of}
use Rattle.desk_store.specs.Create.{IsUtf8Revision, revisions_with}
use Rattle.desk_store.proofs.first_revisions.first_heads.Given as goal

abbrev pub invariant-loop-mount : goal.invariant-loop-mount
invariant-loop-mount l = (l.heads.items ≡ revisions_with (texts_of l.site) (take l.mount-index l.mounts)) × All IsUtf8Revision l.heads.items
