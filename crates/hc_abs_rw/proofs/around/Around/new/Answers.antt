use Rattle.std.proofs.Common.{sym, ap, ◌∙◌, subst}
use Rattle.hc_abs_rw.proofs.MapBytes.{gives_bytes}
use Rattle.hc_abs_rw.proofs.Worlds.{listed_stand, world_paths}
use Rattle.hc_dfa.specs.Singles.{is_among}
use Rattle.hc_rw_eval.specs.Conditions.{dir_named, path_named}
use Rattle.hc_rw_sets.specs.Naming.{ArePaths, names}
use Rattle.hc_world.specs.declared.world.ListKind.TheVariants.{Dir, File}
use Rattle.hc_abs_rw.proofs.around.Around.new.Goals as goal

pub files_named-requires : goal.files_named-requires
files_named-requires c = subst ArePaths (sym (c.as_slice.ensures ∙ c.in_ok-paths.ensures.paths))
    (world_paths c.args.world.now.files c.paths.ensures.valid File)

pub dirs_named-requires : goal.dirs_named-requires
dirs_named-requires c = subst ArePaths (sym (c.as_slice-2.ensures ∙ c.in_ok-paths-2.ensures.paths))
    (world_paths c.args.world.now.files c.paths.ensures.valid Dir)

pub invariant_of-result : goal.invariant_of-result
invariant_of-result c =
    let world = c.args.world.now.files in
    record {
      gives_bytes = gives_bytes c.args.maps.now world c.paths.ensures.texts;
      files_are = λ text bytes. c.in_ok-files.ensures text bytes
          ∙ ap (λ paths. names (is_among paths) (path_named text))
          (c.as_slice.ensures ∙ c.in_ok-paths.ensures.paths) ∙ listed_stand world File (path_named text);
      dirs_are = λ text bytes. c.in_ok-dirs.ensures text bytes
          ∙ ap (λ paths. names (is_among paths) (dir_named text))
          (c.as_slice-2.ensures ∙ c.in_ok-paths-2.ensures.paths) ∙ listed_stand world Dir (dir_named text);
    }
