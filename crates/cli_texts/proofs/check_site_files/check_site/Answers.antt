-- The custodians are read first, then the file systems, and then the other files.
use Rattle.std.proofs.Common.{◌∙◌, Err, Ok, ap, codes, refl, subst}
use Rattle.std.proofs.lemmas.Result.{err_from_is_err_and}
use Rattle.std.specs.Option.{option_map}
use Rattle.std.specs.String.{string_bytes}
use Rattle.cli_files.specs.FolderSystems.{LeavesBehind, ReadsSystems, SystemsPaths}
use Rattle.cli_texts.proofs.check_site_files.check_site.Goals as goal

pub returns-in_err-kept : goal.returns-in_err-kept
returns-in_err-kept g c =
    let p = err_from_is_err_and c.from_residual.result c.from_residual.ensures.1 in
    rw (p.1, p.2) (record { step = Err c.in_err-kept.field-0.0; is = c.in_err-kept.ensures.text; next = refl })

pub returns-in_err-systems : goal.returns-in_err-systems
returns-in_err-systems g c =
    let p = err_from_is_err_and c.from_residual-in_err-systems.result c.from_residual-in_err-systems.ensures.1 in
    let known = g.I.Read.remaining c.args.input.now in
    let left = g.I.Read.remaining c.read_systems.new.input in
    rw (p.1, p.2) (record {
      step = Ok (option_map string_bytes c.in_ok-kept.kept);
      is = c.in_ok-kept.ensures.text;
      next = record {
        left = left;
        leaves = λ named. subst (λ (paths : SystemsPaths). LeavesBehind paths known left) c.systems_files.ensures
            (λ filesystems mounts. c.read_systems.ensures.left filesystems mounts ∙ ap g.I.Read.remaining (c.read_custodians.ensures.untouched named));
        after = record {
          step = Err c.in_err-systems.field-0.0;
          is = subst (λ (paths : SystemsPaths). ReadsSystems (codes "--site") paths (Err c.in_err-systems.field-0.0)) c.systems_files.ensures c.in_err-systems.ensures.systems;
          next = refl;
        };
      };
    })

pub returns : goal.returns
returns g c =
    let known = g.I.Read.remaining c.args.input.now in
    let left = g.I.Read.remaining c.read_systems.new.input in
    record {
      step = Ok (option_map string_bytes c.in_ok-kept.kept);
      is = c.in_ok-kept.ensures.text;
      next = record {
        left = left;
        leaves = λ named. subst (λ (paths : SystemsPaths). LeavesBehind paths known left) c.systems_files.ensures
            (λ filesystems mounts. c.read_systems.ensures.left filesystems mounts ∙ ap g.I.Read.remaining (c.read_custodians.ensures.untouched named));
        after = record {
          step = Ok c.in_ok-systems.systems;
          is = subst (λ (paths : SystemsPaths). ReadsSystems (codes "--site") paths (Ok c.in_ok-systems.systems)) c.systems_files.ensures c.in_ok-systems.ensures.systems;
          next = record { asked = _; opinions_are = refl; form_is = refl; ignored_are = refl; are = c.custodians_of.ensures.are; answers = c.check_folder.ensures };
        };
      };
    }
