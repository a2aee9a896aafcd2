use Rattle.std.proofs.Common.{◌≡◌, ℕ, ◌+◌, ◌-◌, ◌<◌, ◌∙◌, Some, length, subst, sym, arith}
use Rattle.jp_model.specs.Json.Tree.{value_of, count_children}
use Rattle.jp_model.specs.Meaning.Nodes.{step_to, children}
use Rattle.jp_nodes.specs.declared.cursor.Cursor.{Cursor}
use Rattle.jp_nodes.specs.declared.word.Word.{Word}
use Rattle.jp_nodes.specs.Forms.{joined}
use Rattle.jp_nodes.specs.Words.{label_word}
use Rattle.jp_nodes.specs.Spots.{children_in, last_step}
use Rattle.jp_nodes.specs.Cursors.{line_of, place_of, node_of, name_of, up_of, index_of, nodes_from}
use Rattle.jp_nodes.proofs.Places.{length-children}
use Rattle.jp_nodes.proofs.Cursors.{index_is, index_short, has_name, member_below, up_within, siblings, children_few, last_is}
use Rattle.jp_nodes.proofs.cursor.Cursor.index.Goals as goal

-- the members of a member's object are those before it and those from it on
member : (c p : Cursor) (word : Word) → joined word ≡ label_word (index_of c) (name_of c) → 0 < word.high → line_of p ≡ line_of c → place_of p ≡ up_of c → length (children (node_of p)) ≡ index_of c + length (nodes_from (Some c))
member c p word e few l at = siblings c p l at (member_below c (has_name c word e (index_short c) few))

counted : (c p : Cursor) (word : Word) (members : ℕ) → joined word ≡ label_word (index_of c) (name_of c) → 0 < word.high → line_of p ≡ line_of c → place_of p ≡ up_of c → members ≡ count_children (children_in (value_of (node_of p).tree)) →
    members ≡ index_of c + length (nodes_from (Some c))
counted c p word members e few l at m = m ∙ (sym (length-children (node_of p)) ∙ member c p word e few l at)

pub returns-then-word-eq0 : goal.returns-then-word-eq0
returns-then-word-eq0 c =
    let self = c.args.self in
    let e = index_is self c.label-word.result c.label-word.ensures.word c.if-word-eq0.true in
    record { value = e; step = λ h. subst (λ (n : ℕ). last_step (node_of self).location ≡ Some (step_to n (name_of self))) (sym e) (last_is self h) }

pub go_to-requires : goal.go_to-requires
go_to-requires c = let e = c.up.ensures in let w = up_within c.args.self in omega (arith, e, w)

pub count_from-requires : goal.count_from-requires
count_from-requires c =
    let few = c.if-word-eq0.false in
    let all = member c.args.self c.go_to.result c.label-word.result c.label-word.ensures.word (omega (arith, few)) c.go_to.ensures.line (c.go_to.ensures.place ∙ c.up.ensures) in
    let short = children_few c.go_to.result in
    omega (arith, all, short)

pub overflow_sub-result : goal.overflow_sub-result
overflow_sub-result c =
    let few = c.if-word-eq0.false in
    let all = counted c.args.self c.go_to.result c.label-word.result _ c.label-word.ensures.word (omega (arith, few)) c.go_to.ensures.line (c.go_to.ensures.place ∙ c.up.ensures) c.child_count-members.ensures.children in
    let from = c.count_from.ensures in
    omega (arith, all, from)

pub returns : goal.returns
returns c =
    let self = c.args.self in
    let few = c.if-word-eq0.false in
    let all = counted self c.go_to.result c.label-word.result _ c.label-word.ensures.word (omega (arith, few)) c.go_to.ensures.line (c.go_to.ensures.place ∙ c.up.ensures) c.child_count-members.ensures.children in
    let from = c.count_from.ensures in
    let e : c.child_count-members.result - c.count_from.result ≡ index_of self = omega (arith, all, from) in
    record { value = e; step = λ h. subst (λ (n : ℕ). last_step (node_of self).location ≡ Some (step_to n (name_of self))) (sym e) (last_is self h) }
