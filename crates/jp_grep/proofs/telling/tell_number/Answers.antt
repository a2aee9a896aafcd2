-- The digits come, and then a line feed.
use Rattle.std.proofs.Common.{◌∙◌, ◌++◌, append_assoc, ap, subst}
use Rattle.std.specs.Prelude.{decimal}
use Rattle.jp_model.specs.Rows.{line_feed}
use Rattle.jp_grep.specs.Telling.{PutsText}
use Rattle.jp_grep.proofs.telling.tell_number.Goals as goal

pub returns : goal.returns
returns g c = (
  (λ start text put.
      subst (λ t. PutsText g.S.Sink.stands g.S.Sink.stopped start c.then_tell.new.sink c.then_tell.result t)
      (ap (λ digits. (text ++ digits) ++ line_feed) (c.as_bytes.ensures.value ∙ c.format.ensures.text) ∙ append_assoc text (decimal c.args.number) line_feed)
      (c.then_tell.ensures.0 start _ (c.then_tell-counted.ensures.0 start text put))),
  c.then_tell.ensures.1,
  (c.then_tell.ensures.2.0 ∙ c.then_tell-counted.ensures.2.0, c.then_tell.ensures.2.1 ∙ c.then_tell-counted.ensures.2.1),
)
