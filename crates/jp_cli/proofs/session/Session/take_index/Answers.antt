-- There is no such index.
use Rattle.std.proofs.Common.{sym, ap, ◌∙◌, option_map}
use Rattle.jp_syntax.specs.SingularPaths.{path_steps}
use Rattle.jp_query.specs.Status.{query_of}
use Rattle.jp_cli.specs.Runs.{setup_of}
use Rattle.jp_cli.proofs.Dropped.{missing}
use Rattle.jp_cli.proofs.session.Session.take_index.Goals as goal

pub returns-clause-replies : goal.returns-clause-replies
returns-clause-replies c =
    missing query_of (setup_of c.args.self.now) c.args.self.now.store c.args.text.now (path_steps c.in-Some.path) (sym c.in_ok-path.ensures ∙ ap (option_map path_steps) c.in-Some.is) (sym c.in-Err.ensures.there) c.drop_index.new.self c.in-Err.ensures.rest
