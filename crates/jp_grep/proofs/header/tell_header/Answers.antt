-- There was no memory for it, and nothing is told.
use Rattle.std.proofs.Common.{map}
use Rattle.jp_grep.specs.Tables.{header_text}
use Rattle.jp_grep.proofs.Parts.{in_one}
use Rattle.jp_grep.proofs.Putting.{nothing_put}
use Rattle.jp_grep.proofs.header.tell_header.Goals as goal

pub returns-in_default-make_header-clause-header : goal.returns-in_default-make_header-clause-header
returns-in_default-make_header-clause-header g c =
    let f = c.args.form.now in
    let parts = in_one (header_text f.shown f (map (λ name. name.now) c.args.names.now)) in
    (parts.0, parts.1, nothing_put g.S.Sink.stands g.S.Sink.stopped c.args.sink.now parts.0)
