-- Each turn appends the bytes in front of a line break, and the last call those after the last one.
use Rattle.std.proofs.Common.{◌∙◌, ◌++◌, sym, ap, subst}
use Rattle.memchr.specs.Find.{IsFirstByte, is_byte2}
use Rattle.jp_grep.proofs.Appended.{ok_items_from}
use Rattle.jp_grep.proofs.Joining.{all_kept, appended_front}
use Rattle.jp_grep.proofs.spelling.append_joined.Goals as goal

pub loop-end-preserved : goal.loop-end-preserved
loop-end-preserved c =
    let rest = c.loop-end.rest.now in
    appended_front rest c.in-Some.end c.loop-end.text.items c.extend_from_slice.new.self.items _
    (subst (IsFirstByte (is_byte2 10 13) rest) c.in-Some.is c.memchr2.ensures) c.loop-end.invariant c.in_ok-extend_from_slice.ensures.items

pub returns : goal.returns
returns c =
    let rest = c.loop-end.rest.now in
    let none = subst (IsFirstByte (is_byte2 10 13) rest) c.in_default.is c.memchr2.ensures in
    ok_items_from c.extend_from_slice-2.result c.loop-end.text.items _ rest _ c.extend_from_slice-2.ensures.items (ap (λ l. c.loop-end.text.items ++ l) (sym (all_kept rest none)) ∙ c.loop-end.invariant)
