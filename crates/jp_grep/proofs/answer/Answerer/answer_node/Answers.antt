-- The node is told by its row or as it is, or there was no memory for it.
use Rattle.std.proofs.Common.{◌≡◌, ◌∙◌, [], List, ℕ, Bool, true, append-nil, ap, refl, sym, subst, if◌then◌else◌}
use Rattle.std.proofs.lemmas.Bool.{false≢true}
use Rattle.jp_model.specs.Json.Tree.{Tree}
use Rattle.jp_model.specs.Meaning.Nodes.{Node}
use Rattle.jp_nodes.specs.Cursors.{line_of, node_of}
use Rattle.jp_form.specs.declared.form.Form.{Form}
use Rattle.jp_form.specs.declared.form.Shown.{Shown}
use Rattle.jp_form.specs.declared.form.Shown.TheVariants as shown
use Rattle.jp_sink.specs.Events.{Event}
use Rattle.jp_sink.specs.Telling.{Takes}
use Rattle.jp_grep.specs.Asked.{asked_tree}
use Rattle.jp_grep.specs.Matching.{is_selected}
use Rattle.jp_grep.specs.Rows.{asked_events, node_events, row_at_once, selected_event}
use Rattle.jp_grep.specs.Telling.{TakesPart}
use Rattle.jp_grep.specs.declared.question.Question.{Question}
use Rattle.jp_grep.proofs.GivenUp.{no_answer}
use Rattle.jp_grep.proofs.Putting.{ends_put, none_put}
use Rattle.jp_grep.proofs.answer.Answerer.answer_node.Goals as goal

-- where no values are shown, one thing is told at most
at_once : (s : Shown) (q : Question) (f : Form) (n : ℕ) (line : List ℕ) (t : Tree) (node : Node) → ((paths : Bool) → s ≡ shown.Values paths → ⊥)
    → selected_event s n line node (row_at_once s q f n line t node) ≡ node_events s q f n line t node
at_once shown.Nothing q f n line t node other = refl
at_once (shown.Line faults) q f n line t node other = refl
at_once shown.Around q f n line t node other = refl
at_once shown.Nodes q f n line t node other = refl
at_once (shown.Values paths) q f n line t node other = absurd (other paths refl)
at_once (shown.Cells table) q f n line t node other = refl

pub returns-in_default-make_row-clause-answers : goal.returns-in_default-make_row-clause-answers
returns-in_default-make_row-clause-answers g c =
    record {
      rows = record {
        first = [];
        others = asked_events c.args.self.question.now c.args.self.form.now c.args.number c.args.text.now (asked_tree c.args.asked.now) (node_of c.args.asked.now.node);
        split = refl;
        puts = none_put g.S.Sink.stands g.S.Sink.stopped c.args.sink.now;
        all = λ e. absurd (false≢true e);
      };
      selected = tt;
    }

pub returns-then-not-selected-clause-answers : goal.returns-then-not-selected-clause-answers
returns-then-not-selected-clause-answers g c =
    let q = c.args.self.question.now in
    let f = c.args.self.form.now in
    let t = asked_tree c.args.asked.now in
    let node = node_of c.args.asked.now.node in
    let other = sym c.in-Ok.ensures.selected ∙ c.if-not-selected.true in
    record {
      rows = record {
        first = [];
        others = [];
        split = ap (λ (b : Bool). if b then node_events f.shown q f c.args.number c.args.text.now t node else []) other;
        puts = none_put g.S.Sink.stands g.S.Sink.stopped c.args.sink.now;
        all = λ e. refl;
      };
      selected = sym other;
    }

module _ (q : Question) (f : Form) (n : ℕ) (line : List ℕ) (t : Tree) (node : Node) (other : (paths : Bool) → f.shown ≡ shown.Values paths → ⊥) (chosen : is_selected q t node ≡ true) where
  -- what is told is what is to be told of the node
  pub told_event : (text row : List ℕ) → text ≡ line → row ≡ (if is_selected q t node then row_at_once f.shown q f n line t node else []) → selected_event f.shown n text node row ≡ asked_events q f n line t node
  told_event text row same made =
      ap (λ l. selected_event f.shown n l node row) same
      ∙ ap (selected_event f.shown n line node) (made ∙ ap (λ (b : Bool). if b then row_at_once f.shown q f n line t node else []) chosen)
      ∙ at_once f.shown q f n line t node other
      ∙ ap (λ (b : Bool). if b then node_events f.shown q f n line t node else []) (sym chosen)

pub returns-in_err-tell_selected-clause-answers : goal.returns-in_err-tell_selected-clause-answers
returns-in_err-tell_selected-clause-answers g c =
    let q = c.args.self.question.now in
    let f = c.args.self.form.now in
    let t = asked_tree c.args.asked.now in
    let node = node_of c.args.asked.now.node in
    let r = c.from_residual.result in
    let failed = c.from_residual.ensures.0 in
    let events = asked_events q f c.args.number c.args.text.now t node in
    let told = told_event q f c.args.number c.args.text.now t node (λ paths. λ is. c.in_default.not-Values paths is) (sym c.in-Ok.ensures.selected ∙ c.if-not-selected.false) (line_of c.args.asked.now.node) c.deref.result.now
    (c.requires.node ∙ c.requires.text) (c.deref.ensures.value ∙ c.in-Ok.ensures.row) in
    record {
      rows = record {
        first = events;
        others = [];
        split = sym (append-nil events);
        puts = ends_put g.S.Sink.stands g.S.Sink.stopped r c.args.sink.now c.tell_selected.new.sink events failed
            (subst (λ (l : List Event). TakesPart g.S.Sink.stands g.S.Sink.stopped c.args.sink.now c.tell_selected.new.sink l) told c.in_err-tell_selected.ensures.events);
        all = no_answer _ r failed;
      };
      selected = no_answer _ r failed;
    }

pub returns-clause-answers : goal.returns-clause-answers
returns-clause-answers g c =
    let q = c.args.self.question.now in
    let f = c.args.self.form.now in
    let t = asked_tree c.args.asked.now in
    let node = node_of c.args.asked.now.node in
    let events = asked_events q f c.args.number c.args.text.now t node in
    let chosen = sym c.in-Ok.ensures.selected ∙ c.if-not-selected.false in
    let told = told_event q f c.args.number c.args.text.now t node (λ paths. λ is. c.in_default.not-Values paths is) chosen (line_of c.args.asked.now.node) c.deref.result.now
    (c.requires.node ∙ c.requires.text) (c.deref.ensures.value ∙ c.in-Ok.ensures.row) in
    record {
      rows = record {
        first = events;
        others = [];
        split = sym (append-nil events);
        puts = subst (λ (l : List Event). Takes g.S.Sink.stands c.args.sink.now c.tell_selected.new.sink l) told c.in_ok-tell_selected.ensures.events;
        all = λ e. refl;
      };
      selected = sym chosen;
    }
