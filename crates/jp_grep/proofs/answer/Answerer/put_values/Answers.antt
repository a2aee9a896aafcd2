-- The rows so far are those of the first nodes. One that failed comes after them, and the others would have followed.
use Rattle.std.proofs.Common.{◌≡◌, ◌∙◌, ◌++◌, ◌∷◌, ◌<◌, ℕ, List, [], append-nil, ap, get_or, length, refl, sym, subst, map, take, take-append-drop, drop, true, ◌+◌}
use Rattle.std.proofs.lemmas.Bool.{false≢true}
use Rattle.std.proofs.lemmas.List.{map-append, take_all, take_more}
use Rattle.jp_model.specs.Meaning.Nodes.{Node}
use Rattle.jp_nodes.specs.Cursors.{line_of, node_of}
use Rattle.jp_nodes.specs.declared.cursor.Cursor.{Cursor}
use Rattle.jp_sink.specs.Events.{Event, row_event}
use Rattle.jp_sink.specs.Telling.{Takes}
use Rattle.jp_grep.specs.Rows.{path_front, row, value_event, value_row}
use Rattle.jp_grep.specs.Spelled.{spelled}
use Rattle.jp_grep.specs.Telling.{TakesPart}
use Rattle.jp_grep.proofs.GivenUp.{no_answer}
use Rattle.jp_grep.proofs.Putting.{both_put, ends_put, put_next}
use Rattle.jp_grep.proofs.Written.{around, by_ok}
use Rattle.jp_grep.proofs.answer.Answerer.put_values.Goals as goal

-- what is told of the nodes before one, of it, and of those after it
module _ (event : Node → Event) (nodes : List Cursor) (i : ℕ) (item : Cursor) (within : i < length nodes) (is : item ≡ get_or nodes i item) where
  more_told : map event (map node_of (take (i + 1) nodes)) ≡ map event (map node_of (take i nodes)) ++ event (node_of item) ∷ []
  more_told =
      ap (λ l. map event (map node_of l)) (take_more nodes i item within ∙ ap (λ (x : Cursor). take i nodes ++ x ∷ []) (sym is))
      ∙ ap (map event) (map-append node_of (take i nodes) (item ∷ []))
      ∙ map-append event (map node_of (take i nodes)) (node_of item ∷ [])

  told_around : map event (map node_of nodes) ≡ (map event (map node_of (take i nodes)) ++ event (node_of item) ∷ []) ++ map event (map node_of (drop (i + 1) nodes))
  told_around =
      ap (λ l. map event (map node_of l)) (around nodes i item within ∙ ap (λ (x : Cursor). (take i nodes ++ x ∷ []) ++ drop (i + 1) nodes) (sym is))
      ∙ ap (map event) (map-append node_of (take i nodes ++ item ∷ []) (drop (i + 1) nodes))
      ∙ map-append event (map node_of (take i nodes ++ item ∷ [])) (map node_of (drop (i + 1) nodes))
      ∙ ap (λ l. map event l ++ map event (map node_of (drop (i + 1) nodes))) (map-append node_of (take i nodes) (item ∷ []))
      ∙ ap (λ l. l ++ map event (map node_of (drop (i + 1) nodes))) (map-append event (map node_of (take i nodes)) (node_of item ∷ []))

pub returns-then-is_err-clause-rows : goal.returns-then-is_err-clause-rows
returns-then-is_err-clause-rows g c =
    let nodes = c.args.nodes.now in
    let i = c.loop-node.node-index in
    let event = value_event c.args.self.form.now c.args.paths c.args.number c.args.text.now in
    record {
      first = map event (map node_of (take i nodes));
      others = map event (map node_of (drop i nodes));
      split = ap (map event) (ap (map node_of) (sym (take-append-drop i nodes)) ∙ map-append node_of (take i nodes) (drop i nodes)) ∙ map-append event (map node_of (take i nodes)) (map node_of (drop i nodes));
      puts = c.loop-node.invariant.rows;
      all = λ e. absurd (false≢true e);
    }

pub returns-in_err-tell_row-clause-rows : goal.returns-in_err-tell_row-clause-rows
returns-in_err-tell_row-clause-rows g c =
    let form = c.args.self.form.now in
    let text = c.args.text.now in
    let nodes = c.args.nodes.now in
    let i = c.loop-node.node-index in
    let item = c.node-item.result in
    let event = value_event form c.args.paths c.args.number text in
    let same : line_of item ≡ text = ap line_of c.node-item.is ∙ c.requires.lines i item c.loop-node-test.true in
    let row_in : List ℕ → List ℕ = λ l. row form c.args.number (path_front c.args.paths form.coloured (node_of item) ++ spelled form.spelling form.units l (node_of item).tree) in
    let added = by_ok c.add_value.result _ (sym c.is_err.ensures.value ∙ c.if-is_err.false) c.add_value.ensures in
    let made : c.deref.result.now ≡ value_row form c.args.paths c.args.number text (node_of item) = c.deref.ensures.value ∙ added ∙ ap (λ l. l ++ row_in (line_of item)) c.clear.ensures.items ∙ ap row_in same in
    let all = map event (map node_of nodes) in
    record {
      first = all;
      others = [];
      split = sym (append-nil all);
      puts = ends_put g.S.Sink.stands g.S.Sink.stopped c.from_residual.result c.args.sink.now c.tell_row.new.sink all c.from_residual.ensures.0
          (put_next g.S.Sink.stands g.S.Sink.stopped c.args.sink.now c.loop-node.sink c.tell_row.new.sink _ (event (node_of item) ∷ []) _ _ (told_around event nodes i item c.loop-node-test.true c.node-item.is) c.loop-node.invariant.rows
          (subst (λ l. TakesPart g.S.Sink.stands g.S.Sink.stopped c.loop-node.sink c.tell_row.new.sink (row_event true l ∷ [])) made c.in_err-tell_row.ensures.events));
      all = no_answer _ c.from_residual.result c.from_residual.ensures.0;
    }

pub loop-node-preserved : goal.loop-node-preserved
loop-node-preserved g c =
    let form = c.args.self.form.now in
    let text = c.args.text.now in
    let nodes = c.args.nodes.now in
    let i = c.loop-node.node-index in
    let item = c.node-item.result in
    let event = value_event form c.args.paths c.args.number text in
    let same : line_of item ≡ text = ap line_of c.node-item.is ∙ c.requires.lines i item c.loop-node-test.true in
    let row_in : List ℕ → List ℕ = λ l. row form c.args.number (path_front c.args.paths form.coloured (node_of item) ++ spelled form.spelling form.units l (node_of item).tree) in
    let added = by_ok c.add_value.result _ (sym c.is_err.ensures.value ∙ c.if-is_err.false) c.add_value.ensures in
    let made : c.deref.result.now ≡ value_row form c.args.paths c.args.number text (node_of item) = c.deref.ensures.value ∙ added ∙ ap (λ l. l ++ row_in (line_of item)) c.clear.ensures.items ∙ ap row_in same in
    let mine = subst (λ l. Takes g.S.Sink.stands c.loop-node.sink c.tell_row.new.sink (row_event true l ∷ [])) made c.in_ok-tell_row.ensures.events in
    let tells = c.in_ok-tell_row.ensures.tells in
    record {
      rows = subst (λ l. Takes g.S.Sink.stands c.args.sink.now c.tell_row.new.sink l) (sym (more_told event nodes i item c.loop-node-test.true c.node-item.is))
          (both_put g.S.Sink.stands g.S.Sink.stopped c.args.sink.now c.loop-node.sink c.tell_row.new.sink _ _ c.loop-node.invariant.rows mine);
      working = tells.0;
      kept = (tells.2.0 ∙ c.loop-node.invariant.kept.0, tells.2.1 ∙ c.loop-node.invariant.kept.1);
    }

pub returns-clause-rows : goal.returns-clause-rows
returns-clause-rows g c =
    let nodes = c.args.nodes.now in
    let event = value_event c.args.self.form.now c.args.paths c.args.number c.args.text.now in
    record {
      first = map event (map node_of nodes);
      others = [];
      split = sym (append-nil (map event (map node_of nodes)));
      puts = subst (λ (ns : List Cursor). Takes g.S.Sink.stands c.args.sink.now c.loop-node.sink (map event (map node_of ns))) (take_all c.loop-node.node-index nodes c.loop-node-test.false) c.loop-node.invariant.rows;
      all = λ e. refl;
    }
