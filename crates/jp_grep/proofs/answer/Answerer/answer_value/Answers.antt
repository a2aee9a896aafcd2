-- The rows of one node come after those of the nodes before it.
use Rattle.std.proofs.Common.{◌≡◌, ◌∙◌, ◌++◌, ◌+◌, ◌≤◌, ◌<◌, [], ◌∷◌, List, ℕ, Bool, true, false, Option, None, Some, drop, filter, flat_map, get_or, length, length-append, map, take, take-append-drop, append_assoc, refl, sym, ap, subst, arith, cond}
use Rattle.std.specs.Prelude.{IfSome, MatchOption, is_some, ⊤}
use Rattle.std.proofs.lemmas.List.{map-append, take_more, take_all}
use Rattle.std.proofs.lemmas.List.Elements.{filter-append}
use Rattle.jp_model.specs.Meaning.Nodes.{Node}
use Rattle.jp_lines.specs.Views.{text_of_view, tree_of_view}
use Rattle.jp_nodes.specs.Cursors.{node_of}
use Rattle.jp_nodes.specs.declared.cursor.Cursor.{Cursor}
use Rattle.jp_sink.specs.Events.{Event}
use Rattle.jp_sink.specs.Telling.{Takes}
use Rattle.jp_grep.specs.LineAnswers.{Knows}
use Rattle.jp_grep.specs.Matching.{each_of, is_selected, nodes_asked}
use Rattle.jp_grep.specs.Rows.{asked_events}
use Rattle.jp_grep.proofs.Asking.{all_count, all_wanted, enough_count, enough_wanted, first_rows, next_wanted}
use Rattle.jp_grep.proofs.GivenUp.{no_answer}
use Rattle.jp_grep.proofs.Putting.{both_put, ends_put, none_put, put_next}
use Rattle.jp_grep.proofs.RowLists.{all_first, first_told, part_of_first}
use Rattle.jp_grep.proofs.Written.{around, by_ok, given_more}
use mir.Val.{bool_byte}
use Rattle.jp_grep.proofs.answer.Answerer.answer_value.Goals.{else-loop-node-test, then-loop-node-test+then-selected-most}
use Rattle.jp_grep.proofs.answer.Answerer.answer_value.Goals as goal

pub returns-in_default-clause-answers : goal.returns-in_default-clause-answers
returns-in_default-clause-answers g c =
    record {
      given_up = Some 0;
      rows = none_put g.S.Sink.stands g.S.Sink.stopped c.args.sink.now;
      verdict = record { selected = c.of_given_up.ensures.selected; refused = c.of_given_up.ensures.refused; given_up = c.of_given_up.ensures.given_up };
    }

pub returns-then-is_err-clause-answers : goal.returns-then-is_err-clause-answers
returns-then-is_err-clause-answers g c =
    record {
      given_up = Some 0;
      rows = none_put g.S.Sink.stands g.S.Sink.stopped c.args.sink.now;
      verdict = record { selected = c.of_given_up-then-is_err.ensures.selected; refused = c.of_given_up-then-is_err.ensures.refused; given_up = c.of_given_up-then-is_err.ensures.given_up };
    }

pub loop-node-init : goal.loop-node-init
loop-node-init g c =
    let line = text_of_view c.args.line in
    record {
      rows = none_put g.S.Sink.stands g.S.Sink.stopped c.args.sink.now;
      selected = refl;
      wanted = omega arith;
      working = c.requires.working;
      kept = (refl, refl);
      knows = by_ok c.begin.result (Knows c.args.self.question.now line c.begin.new.self) (sym c.is_err.ensures.value ∙ c.if-is_err.false) (c.begin.ensures line);
    }

-- the nodes before one, the node, and those after it
nodes_around : (nodes : List Cursor) (i : ℕ) (node : Cursor) (asked : List Node) → i < length nodes → node ≡ get_or nodes i node → map node_of nodes ≡ asked
    → asked ≡ (map node_of (take i nodes) ++ node_of node ∷ []) ++ map node_of (drop (i + 1) nodes)
nodes_around nodes i node asked within is all =
    sym all
    ∙ ap (map node_of) (around nodes i node within ∙ ap (λ (x : Cursor). (take i nodes ++ x ∷ []) ++ drop (i + 1) nodes) (sym is))
    ∙ map-append node_of (take i nodes ++ node ∷ []) (drop (i + 1) nodes)
    ∙ ap (λ l. l ++ map node_of (drop (i + 1) nodes)) (map-append node_of (take i nodes) (node ∷ []))

-- one node more is selected, or is not
one_more : (test : Node → Bool) (front : List Node) (node : Node) → length (filter test (front ++ node ∷ [])) ≡ length (filter test front) + bool_byte (test node)
one_more test front node =
    ap length (filter-append test front (node ∷ []))
    ∙ length-append (filter test front) (filter test (node ∷ []))
    ∙ ap (λ n. length (filter test front) + n) (of_one (test node))
  where
    of_one : (b : Bool) → length (cond b (node ∷ []) []) ≡ bool_byte b
    of_one true = refl
    of_one false = refl

at_most_one : (b : Bool) → bool_byte b ≤ 1
at_most_one true = omega arith
at_most_one false = omega arith

pub returns-in_err-is_selected-clause-answers : goal.returns-in_err-is_selected-clause-answers
returns-in_err-is_selected-clause-answers g c =
    let q = c.args.self.question.now in
    let f = c.args.self.form.now in
    let t = tree_of_view c.args.line in
    let nodes = c.in-Ok.nodes.now in
    let i = c.loop-node.node-index in
    let node = c.node-item.result in
    let r = c.from_residual.result in
    let failed = c.from_residual.ensures.0 in
    let put = c.in_err-is_selected.ensures.answers.rows in
    let rows = asked_events q f c.args.number c.args.text.now t in
    let asked = nodes_asked (each_of q) t in
    let done = flat_map rows (map node_of (take i nodes)) in
    let fewer : length (filter (is_selected q t) (map node_of (take i nodes))) < c.args.most = omega (arith, c.loop-node.invariant.selected, c.loop-node.invariant.wanted, c.if-selected-most.false) in
    let next = next_wanted q f c.args.number c.args.text.now t c.args.most (map node_of (take i nodes)) (node_of node) (map node_of (drop (i + 1) nodes)) fewer in
    let all = ap (first_rows q f c.args.number c.args.text.now t c.args.most) (nodes_around nodes i node asked c.loop-node-test.true c.node-item.is c.in-Ok.ensures.nodes) ∙ next.1 in
    let part = part_of_first g.S.Sink.stands g.S.Sink.stopped c.loop-node.sink c.answer_node.new.sink (rows (node_of node)) put.first put.others put.split put.puts in
    record {
      given_up = None;
      rows = ends_put g.S.Sink.stands g.S.Sink.stopped r c.args.sink.now c.answer_node.new.sink (first_rows q f c.args.number c.args.text.now t c.args.most asked) failed
          (put_next g.S.Sink.stands g.S.Sink.stopped c.args.sink.now c.loop-node.sink c.answer_node.new.sink done (rows (node_of node)) next.0 _ all
          c.loop-node.invariant.rows part);
      verdict = no_answer _ r failed;
    }

pub returns-in-None-clause-answers : goal.returns-in-None-clause-answers
returns-in-None-clause-answers g c =
    let q = c.args.self.question.now in
    let f = c.args.self.form.now in
    let t = tree_of_view c.args.line in
    let nodes = c.in-Ok.nodes.now in
    let i = c.loop-node.node-index in
    let node = c.node-item.result in
    let put = c.in_ok-is_selected.ensures.answers.rows in
    let rows = asked_events q f c.args.number c.args.text.now t in
    let asked = nodes_asked (each_of q) t in
    let done = flat_map rows (map node_of (take i nodes)) in
    let fewer : length (filter (is_selected q t) (map node_of (take i nodes))) < c.args.most = omega (arith, c.loop-node.invariant.selected, c.loop-node.invariant.wanted, c.if-selected-most.false) in
    let next = next_wanted q f c.args.number c.args.text.now t c.args.most (map node_of (take i nodes)) (node_of node) (map node_of (drop (i + 1) nodes)) fewer in
    let all = ap (first_rows q f c.args.number c.args.text.now t c.args.most) (nodes_around nodes i node asked c.loop-node-test.true c.node-item.is c.in-Ok.ensures.nodes) ∙ next.1 in
    let split = all
    ∙ ap (λ (l : List Event). (done ++ l) ++ next.0) put.split
    ∙ ap (λ (l : List Event). l ++ next.0) (sym (append_assoc done put.first put.others))
    ∙ append_assoc (done ++ put.first) put.others next.0 in
    record {
      given_up = Some (length (done ++ put.first));
      rows = subst (λ (l : List Event). Takes g.S.Sink.stands c.args.sink.now c.answer_node.new.sink l)
          (sym (first_told (first_rows q f c.args.number c.args.text.now t c.args.most asked) (done ++ put.first) (put.others ++ next.0) split))
          (both_put g.S.Sink.stands g.S.Sink.stopped c.args.sink.now c.loop-node.sink c.answer_node.new.sink _ _ c.loop-node.invariant.rows put.puts);
      verdict = record { selected = c.of_given_up-in-None.ensures.selected; refused = c.of_given_up-in-None.ensures.refused; given_up = c.of_given_up-in-None.ensures.given_up };
    }

pub loop-node-preserved : goal.loop-node-preserved
loop-node-preserved g c =
    let q = c.args.self.question.now in
    let f = c.args.self.form.now in
    let t = tree_of_view c.args.line in
    let nodes = c.in-Ok.nodes.now in
    let i = c.loop-node.node-index in
    let node = c.node-item.result in
    let said = c.in_ok-is_selected.ensures.answers in
    let rows = asked_events q f c.args.number c.args.text.now t in
    let done = flat_map rows (map node_of (take i nodes)) in
    let mine : said.rows.first ≡ rows (node_of node) = all_first (rows (node_of node)) said.rows.first said.rows.others said.rows.split (said.rows.all (ap is_some c.in-Some.is)) in
    let selected : c.in-Some.is_selected ≡ is_selected q t (node_of node) = subst (λ (o : Option Bool). MatchOption o ⊤ (λ (b : Bool). b ≡ is_selected q t (node_of node))) c.in-Some.is said.selected in
    let front : map node_of (take (i + 1) nodes) ≡ map node_of (take i nodes) ++ node_of node ∷ [] =
    ap (map node_of) (take_more nodes i node c.loop-node-test.true ∙ ap (λ (x : Cursor). take i nodes ++ x ∷ []) (sym c.node-item.is)) ∙ map-append node_of (take i nodes) (node ∷ []) in
    record {
      rows = subst (λ (l : List Event). Takes g.S.Sink.stands c.args.sink.now c.answer_node.new.sink l)
          (sym (given_more rows node_of nodes i node c.loop-node-test.true c.node-item.is))
          (both_put g.S.Sink.stands g.S.Sink.stopped c.args.sink.now c.loop-node.sink c.answer_node.new.sink _ _ c.loop-node.invariant.rows
          (subst (λ (l : List Event). Takes g.S.Sink.stands c.loop-node.sink c.answer_node.new.sink l) mine said.rows.puts));
      selected = ap (λ n. c.loop-node.selected + n) (c.from-selected.ensures ∙ ap bool_byte selected)
          ∙ ap (λ n. n + bool_byte (is_selected q t (node_of node))) c.loop-node.invariant.selected
          ∙ sym (ap (λ (ns : List Node). length (filter (is_selected q t) ns)) front ∙ one_more (is_selected q t) (map node_of (take i nodes)) (node_of node));
      wanted = omega (arith, c.loop-node.invariant.wanted, c.if-selected-most.false, c.from-selected.ensures, at_most_one c.in-Some.is_selected);
      working = c.in_ok-is_selected.ensures.tells.0;
      kept = (c.in_ok-is_selected.ensures.tells.2.0 ∙ c.loop-node.invariant.kept.0, c.in_ok-is_selected.ensures.tells.2.1 ∙ c.loop-node.invariant.kept.1);
      knows = subst (λ (o : Option Bool). IfSome o (λ (b : Bool). Knows q (text_of_view c.args.line) c.answer_node.new.room.answers)) c.in-Some.is c.in_ok-is_selected.ensures.knows;
    }

pub returns-clause-answers : goal.returns-clause-answers
returns-clause-answers g c =
    let q = c.args.self.question.now in
    let f = c.args.self.form.now in
    let t = tree_of_view c.args.line in
    let nodes = c.in-Ok.nodes.now in
    let i = c.loop-node.node-index in
    let most = c.args.most in
    let rows = asked_events q f c.args.number c.args.text.now t in
    let asked = nodes_asked (each_of q) t in
    let front = map node_of (take i nodes) in
    let apart : asked ≡ front ++ map node_of (drop i nodes) = sym c.in-Ok.ensures.nodes ∙ ap (map node_of) (sym (take-append-drop i nodes)) ∙ map-append node_of (take i nodes) (drop i nodes) in
    let both : (first_rows q f c.args.number c.args.text.now t most asked ≡ flat_map rows front) × (c.loop-node.selected ≡ length (take most (filter (is_selected q t) asked))) = elim c.loop-node-test.branch [
      | else-loop-node-test w ↦
          let whole : front ≡ asked = ap (map node_of) (take_all i nodes w.loop-node-test.false) ∙ c.in-Ok.ensures.nodes in
          let few : length (filter (is_selected q t) asked) ≤ most = subst (λ (ns : List Node). length (filter (is_selected q t) ns) ≤ most) whole (omega (arith, c.loop-node.invariant.selected, c.loop-node.invariant.wanted)) in (
            all_wanted q f c.args.number c.args.text.now t most asked few ∙ ap (flat_map rows) (sym whole),
            c.loop-node.invariant.selected ∙ ap (λ (ns : List Node). length (filter (is_selected q t) ns)) whole ∙ sym (all_count q f c.args.number c.args.text.now t most asked few),
          )
      | then-loop-node-test+then-selected-most w ↦
          let as_many : length (filter (is_selected q t) front) ≡ most = sym c.loop-node.invariant.selected ∙ w.if-selected-most.true in (
            ap (first_rows q f c.args.number c.args.text.now t most) apart ∙ enough_wanted q f c.args.number c.args.text.now t most front (map node_of (drop i nodes)) as_many,
            w.if-selected-most.true ∙ sym (ap (λ (ns : List Node). length (take most (filter (is_selected q t) ns))) apart ∙ enough_count q f c.args.number c.args.text.now t most front (map node_of (drop i nodes)) as_many),
          )
    ] in
    record {
      given_up = None;
      rows = subst (λ (l : List Event). Takes g.S.Sink.stands c.args.sink.now c.loop-node.sink l) (sym both.0) c.loop-node.invariant.rows;
      verdict = record { selected = c.of_value.ensures.selected ∙ both.1; refused = c.of_value.ensures.refused; given_up = c.of_value.ensures.given_up };
    }
