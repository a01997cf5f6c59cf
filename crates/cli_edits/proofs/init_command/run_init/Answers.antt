-- The files are read in turn.
use Rattle.std.proofs.Common.{Err, List, Ok, codes, inl, inr, refl, subst, ℕ}
use Rattle.std.proofs.lemmas.Result.{err_from_is_err_and}
use Rattle.cli_files.specs.SiteFolder.{ReadsSite, path_in, site_list}
use Rattle.cli_edits.proofs.init_command.run_init.Goals as goal

pub returns-in_err-paths : goal.returns-in_err-paths
returns-in_err-paths g c =
    let p = err_from_is_err_and c.from_residual-in_err-paths.result c.from_residual-in_err-paths.ensures.1 in
    rw (p.1, p.2, c.in_ok-db.ensures, c.in_ok-dir.ensures) (inl refl)

pub returns-in_err-mounts : goal.returns-in_err-mounts
returns-in_err-mounts g c =
    let p = err_from_is_err_and c.from_residual-in_err-mounts.result c.from_residual-in_err-mounts.ensures.1 in
    rw (p.1, p.2, c.in_ok-db.ensures, c.in_ok-dir.ensures) (inl refl)

pub returns-in_err-texts : goal.returns-in_err-texts
returns-in_err-texts g c =
    let p = err_from_is_err_and c.from_residual-in_err-texts.result c.from_residual-in_err-texts.ensures.1 in
    let known = g.I.Read.remaining c.args.input.now in
    rw (p.1, p.2, c.in_ok-db.ensures, c.in_ok-dir.ensures)
    (inr (record {
      step = Err _;
      is = subst (λ (paths : List (List ℕ)). ReadsSite (codes "DIR") paths (path_in c.in_ok-dir.dir.now (codes "mounts")) known (Err c.in_err-texts.field-0.0)) c.in_ok-paths.ensures
          (subst (λ (mounts : List ℕ). ReadsSite (codes "DIR") (site_list c.in_ok-paths.paths) mounts known (Err c.in_err-texts.field-0.0)) c.in_ok-mounts.ensures
          (subst (λ (mounts : List ℕ). ReadsSite (codes "DIR") (site_list c.in_ok-paths.paths) mounts known (Err c.in_err-texts.field-0.0)) c.as_str.ensures.value c.in_err-texts.ensures.texts));
      next = refl;
    }))

pub returns : goal.returns
returns g c =
    let known = g.I.Read.remaining c.args.input.now in
    let texts = site_list c.in_ok-texts.texts in
    rw (c.in_ok-db.ensures, c.in_ok-dir.ensures)
    (inr (record {
      step = Ok texts;
      is = subst (λ (paths : List (List ℕ)). ReadsSite (codes "DIR") paths (path_in c.in_ok-dir.dir.now (codes "mounts")) known (Ok texts)) c.in_ok-paths.ensures
          (subst (λ (mounts : List ℕ). ReadsSite (codes "DIR") (site_list c.in_ok-paths.paths) mounts known (Ok texts)) c.in_ok-mounts.ensures
          (subst (λ (mounts : List ℕ). ReadsSite (codes "DIR") (site_list c.in_ok-paths.paths) mounts known (Ok texts)) c.as_str.ensures.value c.in_ok-texts.ensures.texts));
      next = c.split_texts.ensures;
    }))
