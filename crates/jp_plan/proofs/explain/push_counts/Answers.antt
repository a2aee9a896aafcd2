-- The pieces of the line follow one another.
use Rattle.std.proofs.Common.{◌++◌, ℕ, List, codes, decimal, encode_utf8_all}
use Rattle.jp_model.specs.Rows.{line_feed}
use Rattle.jp_plan.proofs.Explained.{more, count_pieces}
use Rattle.jp_plan.proofs.Walks.{ends}
use Rattle.jp_plan.proofs.explain.push_counts.Goals as goal

pub returns : goal.returns
returns c =
    let old : List ℕ = c.args.out.now.items in
    let a : List ℕ = codes "open " in
    let b : List ℕ = a ++ encode_utf8_all (decimal c.args.opened) in
    let d : List ℕ = b ++ codes " of " in
    let opened = more old _ _ a _ c.in_ok-extend_from_slice.ensures.items c.in_ok-push_decimal.ensures in
    let words = more old _ _ b _ opened c.in_ok-extend_from_slice-2.ensures.items in
    let trees = more old _ _ d _ words c.in_ok-push_decimal-2.ensures in
    ends c.extend_from_slice-3.result old _ c.extend_from_slice-3.new.self.items _ (d ++ encode_utf8_all (decimal c.args.trees)) line_feed c.extend_from_slice-3.ensures.items trees (count_pieces c.args.opened c.args.trees)
