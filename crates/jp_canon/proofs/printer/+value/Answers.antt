-- Elements and members are printed one after the other.
use Rattle.std.proofs.Common.{◌≡◌, ◌++◌, ◌∙◌, ℕ, ◌≤◌, ◌<◌, false, List, length, get_or, sym, ap, arith, Option}
use Rattle.jp_canon.specs.Canonical.{canonical_text, element_texts}
use Rattle.jp_values.specs.declared.member.Member.{Member}
use Rattle.jp_canon.specs.Members.{IsWithin}
use Rattle.jp_canon.proofs.Joined.{joined_from, turn_joined}
use Rattle.jp_canon.proofs.Printed.{one_within, turn_printed, all_printed}
use Rattle.jp_model.specs.Json.Tree.{Children, value_of}
use Rattle.jp_nodes.specs.declared.cursor.Cursor.{Cursor}
use Rattle.jp_nodes.specs.Cursors.{node_of, children_from, children_after}
use Rattle.jp_nodes.specs.Spots.{children_in}
use Rattle.jp_nodes.specs.Words.{children_node_count}
use Rattle.jp_nodes.proofs.Places.{count-in, some_node}
use Rattle.jp_tape.proofs.Repeated.{text_is}
use Rattle.jp_canon.proofs.printer.+value.Goals as goal

-- the members of a node
abbrev inside : Cursor → Children
inside c = children_in (value_of (node_of c).tree)

pub append_array-loop-next-smaller : goal.append_array-loop-next-smaller
append_array-loop-next-smaller t c =
    let size = ap (λ (o : Option Cursor). children_node_count (children_from o)) c.in-Some.is in
    let next = ap children_node_count c.next_sibling-next.ensures.children in
    let some = some_node (node_of c.in-Some.element).tree in
    omega (arith, size, next, some)

pub append_array-loop-next-preserved : goal.append_array-loop-next-preserved
append_array-loop-next-preserved t c =
    let element = c.in-Some.element in
    let old = c.loop-next.text.items in
    let size = ap (λ (o : Option Cursor). children_node_count (children_from o)) c.in-Some.is in
    let next = ap children_node_count c.next_sibling-next.ensures.children in
    let fewer = c.loop-next.invariant.fewer in
    let here = ap (λ (o : Option Cursor). old ++ joined_from c.loop-next.is_first (element_texts (children_from o))) (sym c.in-Some.is) ∙ c.loop-next.invariant.text in
    record {
      text = ap (λ (k : Children). c.append_value.new.text.items ++ joined_from false (element_texts k)) c.next_sibling-next.ensures.children
          ∙ turn_joined c.loop-next.is_first (canonical_text (node_of element).tree) (element_texts (children_after element)) old _ _ _ c.in_ok-append_comma.ensures c.in_ok-append_value.ensures.text here;
      members = c.in_ok-append_value.ensures.members ∙ c.loop-next.invariant.members;
      fewer = omega (arith, size, next, fewer);
    }

pub append_member-append_string-requires : goal.append_member-append_string-requires
append_member-append_string-requires t c = text_is _ c.args.member.is_text

pub append_object-append_member-requires : goal.append_object-append_member-requires
append_object-append_member-requires t c =
    let listed = c.append_by_name.new.members in
    let member = c.index.result.now in
    let k : ℕ = c.loop-index.index in
    let low : length c.args.members.now.items ≤ k = omega (arith, c.len-from.ensures, c.args.members.now.ok.0, c.loop-index.auto.index) in
    let high : k < length listed.items = omega (arith, c.len-index-end.ensures, listed.ok.0, c.loop-index-test.true) in
    let is = c.index.ensures ∙ ap (λ (l : List Member). get_or l k member) c.loop-index.invariant.members in
    let within : IsWithin (inside c.args.object) member = one_within _ _ _ k member c.in_ok-append_by_name.ensures low high is in
    let count = count-in (node_of c.args.object).tree in
    omega (arith, within, count, c.decreases)

pub append_object-loop-index-preserved : goal.append_object-loop-index-preserved
append_object-loop-index-preserved t c =
    let listed = c.append_by_name.new.members in
    let member = c.index.result.now in
    let k : ℕ = c.loop-index.index in
    let high : k < length listed.items = omega (arith, c.len-index-end.ensures, listed.ok.0, c.loop-index-test.true) in
    let is = c.index.ensures ∙ ap (λ (l : List Member). get_or l k member) c.loop-index.invariant.members in
    record {
      text = turn_printed listed.items c.len-from.result k member c.loop-index.text.items _ _ _ c.loop-index.auto.index high is c.in_ok-append_comma.ensures c.in_ok-append_member.ensures.text c.loop-index.invariant.text;
      members = c.in_ok-append_member.ensures.members ∙ c.loop-index.invariant.members;
    }

pub append_object-returns-clause-text : goal.append_object-returns-clause-text
append_object-returns-clause-text t c =
    let listed = c.append_by_name.new.members in
    let from : c.len-from.result ≡ length c.args.members.now.items = omega (arith, c.len-from.ensures, c.args.members.now.ok.0) in
    let high : length listed.items ≤ c.loop-index.index = omega (arith, c.len-index-end.ensures, listed.ok.0, c.loop-index-test.false) in
    all_printed _ listed.items _ c.len-from.result c.loop-index.index _ c.loop-index.text.items _ 0x7B 0x7D c.in_ok-append_by_name.ensures from high c.loop-index.invariant.text c.in_ok-push-2.ensures.items
