-- The lines closed so far are run, and the open one is held.
use Rattle.std.proofs.Common.{◌≡◌, ◌+◌, ◌*◌, ◌≤◌, ◌++◌, take, false}
use Rattle.jp_model.specs.Lines.{closed_lines, open_line}
use Rattle.jp_cli.specs.Runs.{Ran, most_lines, progress_of, setup_of}
use Rattle.jp_cli.specs.Commands.{asked_in}
use Rattle.jp_query.specs.Status.{query_of}
use Rattle.jp_cli.proofs.session.Session.answer_lines.Given as goal

abbrev pub invariant-loop-byte : goal.invariant-loop-byte
invariant-loop-byte g l = record {
  working : l.out.failed ≡ false;
  early : l.out.after ≡ l.fn.out.after;
  ran : Ran query_of asked_in g.W.Write.contents l.fn.out l.out (setup_of l.fn.self) (progress_of l.fn.self) (closed_lines (l.fn.held.items ++ take l.byte-index l.piece)) (progress_of l.self);
  few : l.self.opened ≤ l.fn.self.opened + l.byte-index * most_lines;
  setup : setup_of l.self ≡ setup_of l.fn.self;
  held : l.held.items ≡ open_line (l.fn.held.items ++ take l.byte-index l.piece);
}
