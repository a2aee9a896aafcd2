-- The line feed follows the path.
use Rattle.jp_model.specs.Meaning.Paths.{path_text}
use Rattle.jp_model.specs.Rows.{line_feed}
use Rattle.jp_syntax.specs.SingularPaths.{path_steps}
use Rattle.jp_devices.proofs.Chains.{ends_behind}
use Rattle.jp_cli.proofs.listing.write_path_line.Goals as goal

pub returns-clause-text : goal.returns-clause-text
returns-clause-text g c = ends_behind c.write_whole.result _ _ _ (path_text (path_steps c.args.path.now)) line_feed c.in_ok-write.ensures.text c.write_whole.ensures.text
