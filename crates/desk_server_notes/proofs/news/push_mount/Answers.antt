-- What was granted before is known.
use Rattle.std.proofs.Common.{◌∙◌, ◌++◌, ℕ, List, ap, string_bytes, subst, sym}
use Rattle.std.specs.List.{flat_map}
use Rattle.desk_server.specs.declared.wider_grant.WiderGrant.{WiderGrant}
use Rattle.desk_server_notes.specs.NewsNote.{Grants}
use Rattle.desk_server_notes.specs.PrivateNews.{AreApart, AreKnown, line_if_new}
use Rattle.desk_server_notes.proofs.Knowing.{apart_at, news_are}
use Rattle.desk_server_notes.proofs.Pieces.{on_ok}
use Rattle.desk_server_notes.proofs.news.push_mount.Goals as goal

pub known_of-requires : goal.known_of-requires
known_of-requires c = subst AreApart (sym c.as_slice.ensures.value) (apart_at c.args.before.now c.args.mount.now c.in_ok-earlier.earlier.items c.in_ok-earlier.ensures)

pub returns : goal.returns
returns c =
    let mount = c.args.mount.now in
    let known = c.in_ok-known.known in
    let found : Grants = record { before = c.in_ok-earlier.earlier.items; after = c.in_ok-later.later.items } in
    let are = subst (λ (before : List WiderGrant). AreKnown before known) c.as_slice.ensures.value c.in_ok-known.ensures in
    let old = string_bytes c.args.note.now in
    on_ok c.push_new.result
    (λ e. record {
      found = found;
      are = record { are_before = c.in_ok-earlier.ensures; are_after = c.in_ok-later.ensures };
      text = e ∙ ap (λ (t : List ℕ). old ++ t) (ap (λ (after : List WiderGrant). flat_map (line_if_new mount known) after) c.as_slice-2.ensures.value ∙ news_are mount found known are);
    })
    c.push_new.ensures
