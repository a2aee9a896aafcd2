use Rattle.jp_iregexp.specs.Kept.{IsAdded}
use Rattle.jp_iregexp.specs.Right.{AreRight}
use Rattle.jp_model.specs.Pattern.Language.{Language}
use Rattle.jp_model.specs.Pattern.Tree.{empty}
use Rattle.jp_iregexp.specs.Tables.{bodies_of}
use Rattle.std.proofs.Common.{get_or}
use Rattle.jp_iregexp.proofs.Parts.{if_ok_map}
use Rattle.jp_iregexp.proofs.Tails.{closed_same, more_closed}
use Rattle.jp_iregexp.proofs.matcher.Matcher.keep_closed.Goals as goal

pub returns : goal.returns
returns c =
    let text = c.args.self.now.text.now in
    let root = c.args.self.now.root.now in
    let old = c.args.tables.now in
    let right = c.requires.right in
    let number = c.args.number in
    let set = c.in_ok-set.set in
    let sets = c.keep.new.self.rows.items in
    let closed = closed_same (Language (get_or (bodies_of root) number empty)) text c.args.reached.now set c.in_ok-set.ensures c.requires.closed in
    if_ok_map (λ _. IsAdded number set old.closed.rows.items sets) (λ _. AreRight text root (record old { closed = c.keep.new.self })) c.keep.result
    (λ _ added. record { bodies = right.bodies; closed = more_closed text root old.closed.rows.items sets number set closed added right.closed; after = right.after }) c.keep.ensures
