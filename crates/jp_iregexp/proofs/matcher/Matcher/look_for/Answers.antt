use Rattle.std.proofs.Common.{subst}
use Rattle.jp_iregexp.specs.Kept.{IsAdded}
use Rattle.jp_iregexp.specs.Places.{IsAfterEach}
use Rattle.jp_iregexp.specs.Right.{AreRight}
use Rattle.jp_iregexp.proofs.Alone.{rows_more}
use Rattle.jp_iregexp.proofs.Parts.{if_ok_map}
use Rattle.jp_iregexp.proofs.matcher.Matcher.look_for.Goals as goal

pub returns : goal.returns
returns c =
    let text = c.args.self.now.text.now in
    let old = c.args.tables.now in
    let right = c.requires.right in
    let after = c.in_ok-after.after in
    let rows = c.keep.new.self.rows.items in
    if_ok_map (λ _. IsAdded c.args.scalar after old.after.rows.items rows) (λ _. AreRight text c.args.self.now.root.now (record old { after = c.keep.new.self })) c.keep.result
    (λ _ added. record { bodies = right.bodies; closed = right.closed; after = rows_more text old.after.rows.items rows after c.args.scalar right.after added (subst (λ s. IsAfterEach text s after) c.from.ensures c.in_ok-after.ensures) }) c.keep.ensures
