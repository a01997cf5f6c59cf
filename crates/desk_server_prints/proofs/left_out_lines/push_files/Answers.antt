-- One more file system.
use Rattle.std.proofs.Common.{◌≡◌, ◌<◌, ◌+◌, ◌++◌, ◌∷◌, ◌∙◌, [], ℕ, List, ap, get_or, length, string_bytes, subst, sym, take}
use Rattle.std.proofs.lemmas.List.{append_assoc, append-nil, take_more}
use Rattle.std.specs.List.{AllZip}
use Rattle.desk_tables.specs.FileSystems.{fs_of}
use Rattle.desk_tables.specs.declared.filesystems.Mount.{Mount}
use Rattle.desk_origins.specs.declared.origins.Origin.{Origin}
use Rattle.desk_policy.specs.Policy.{Content}
use Rattle.desk_server.specs.declared.repeated_client.RepeatedClient.{RepeatedClient}
use Rattle.desk_server_prints.specs.LeftOutNote.{AreRepeatedIn, first_note, first_notes}
use Rattle.desk_server_prints.specs.PrivateLeftOut.{AddsNote}
use Rattle.desk_server_prints.proofs.left_out_lines.push_files.Goals as goal

zip_push : {A B : Type 0} (R : A → B → Type 0) (xs : List A) (ys : List B) (x : A) (y : B) → AllZip R xs ys → R x y → AllZip R (xs ++ x ∷ []) (ys ++ y ∷ [])
zip_push R [] [] x y all one = (one, tt)
zip_push R [] (b ∷ ys) x y all one = absurd all
zip_push R (a ∷ xs) [] x y all one = absurd all
zip_push R (a ∷ xs) (b ∷ ys) x y all one = (all.0, zip_push R xs ys x y all.1 one)

notes_push : (origins : List Origin) (R : Mount → List RepeatedClient → Type 0) (mounts : List Mount) (lists : List (List RepeatedClient)) (mount : Mount) (found : List RepeatedClient) → AllZip R mounts lists
    → first_notes origins (mounts ++ mount ∷ []) (lists ++ found ∷ []) ≡ first_notes origins mounts lists ++ first_note origins mount.path found
notes_push origins R [] [] mount found all = append-nil (first_note origins mount.path found)
notes_push origins R [] (list ∷ lists) mount found all = absurd all
notes_push origins R (one ∷ mounts) [] mount found all = absurd all
notes_push origins R (one ∷ mounts) (list ∷ lists) mount found all =
    ap (λ t. first_note origins one.path list ++ t) (notes_push origins R mounts lists mount found all.1)
    ∙ sym (append_assoc (first_note origins one.path list) (first_notes origins mounts lists) (first_note origins mount.path found))

one_more : (content : Content) (mounts : List Mount) (i : ℕ) (mount : Mount) (found : List RepeatedClient) (old so_far new : List ℕ) → i < length mounts → mount ≡ get_or mounts i mount
    → AddsNote content (take i mounts) old so_far → AreRepeatedIn content (fs_of content.table mount.path) found → new ≡ so_far ++ first_note content.origins mount.path found → AddsNote content (take (i + 1) mounts) old new
one_more content mounts i mount found old so_far new below is adds are added =
    let R : Mount → List RepeatedClient → Type 0 = λ one list. AreRepeatedIn content (fs_of content.table one.path) list in
    let longer : take (i + 1) mounts ≡ take i mounts ++ mount ∷ [] = take_more mounts i mount below ∙ ap (λ (m : Mount). take i mounts ++ m ∷ []) (sym is) in
    record {
      lists = adds.lists ++ found ∷ [];
      are = subst (λ (ms : List Mount). AllZip R ms (adds.lists ++ found ∷ [])) (sym longer) (zip_push R (take i mounts) adds.lists mount found adds.are are);
      text =
          added ∙ ap (λ t. t ++ first_note content.origins mount.path found) adds.text ∙ append_assoc old (first_notes content.origins (take i mounts) adds.lists) (first_note content.origins mount.path found)
          ∙ ap (λ t. old ++ t) (sym (notes_push content.origins R (take i mounts) adds.lists mount found adds.are) ∙ ap (λ (ms : List Mount). first_notes content.origins ms (adds.lists ++ found ∷ [])) (sym longer));
    }

pub loop-mount-preserved : goal.loop-mount-preserved
loop-mount-preserved c =
    one_more c.args.index.now c.args.mounts.now c.loop-mount.mount-index c.mount-item.result c.in_ok-found.found.items (string_bytes c.args.note.now) (string_bytes c.loop-mount.note) (string_bytes c.push_first.new.note)
    c.loop-mount-test.true c.mount-item.is c.loop-mount.invariant c.in_ok-found.ensures
    (c.in_ok-push_first.ensures
    ∙ ap (λ (list : List RepeatedClient). string_bytes c.loop-mount.note ++ first_note c.origins.result.now c.mount-item.result.path list) c.as_slice.ensures.value
    ∙ ap (λ (origins : List Origin). string_bytes c.loop-mount.note ++ first_note origins c.mount-item.result.path c.in_ok-found.found.items) (c.origins.ensures ∙ ap (λ (p : Content). p.origins) c.policy.ensures))
