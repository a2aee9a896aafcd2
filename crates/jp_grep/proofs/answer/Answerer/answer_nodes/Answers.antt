-- The rows are those of all values, or of the first.
use Rattle.std.proofs.Common.{◌≡◌, ◌∙◌, [], Bool, Option, refl, sym, ap, subst, if◌then◌else◌}
use Rattle.std.specs.Prelude.{MatchOption, is_some, ⊤}
use Rattle.std.proofs.lemmas.Bool.{false≢true}
use Rattle.jp_nodes.specs.Cursors.{node_of}
use Rattle.jp_grep.specs.Asked.{asked_tree}
use Rattle.jp_grep.specs.Matching.{all_hold, conditions_of, let_match, queries_of, selects, wants_found}
use Rattle.jp_grep.specs.Rows.{asked_events, node_events}
use Rattle.jp_grep.proofs.GivenUp.{all_values, found_as, no_answer, unasked}
use Rattle.jp_grep.proofs.Putting.{ends_put, none_put}
use Rattle.jp_grep.proofs.answer.Answerer.answer_nodes.Goals as goal

pub returns-in-Ok-false-clause-answers : goal.returns-in-Ok-false-clause-answers
returns-in-Ok-false-clause-answers g c =
    let q = c.args.self.question.now in
    let f = c.args.self.form.now in
    let t = asked_tree c.args.asked.now in
    let node = node_of c.args.asked.now.node in
    let other = unasked q.wanted (all_hold (conditions_of q) node t) (let_match q.purpose (selects (queries_of q) node t)) (sym c.in-Ok-false.ensures.wanted ∙ c.in-Ok-false.field-0-test) in
    record {
      rows = record {
        first = [];
        others = [];
        split = ap (λ (b : Bool). if b then node_events f.shown q f c.args.number c.args.text.now t node else []) other;
        puts = none_put g.S.Sink.stands g.S.Sink.stopped c.args.sink.now;
        all = λ e. refl;
      };
      selected = sym other;
    }

pub returns-in-Err-clause-answers : goal.returns-in-Err-clause-answers
returns-in-Err-clause-answers g c =
    record {
      rows = record {
        first = [];
        others = asked_events c.args.self.question.now c.args.self.form.now c.args.number c.args.text.now (asked_tree c.args.asked.now) (node_of c.args.asked.now.node);
        split = refl;
        puts = none_put g.S.Sink.stands g.S.Sink.stopped c.args.sink.now;
        all = λ e. absurd (false≢true e);
      };
      selected = tt;
    }

pub returns-in_err-some-clause-answers : goal.returns-in_err-some-clause-answers
returns-in_err-some-clause-answers g c =
    let q = c.args.self.question.now in
    let f = c.args.self.form.now in
    let r = c.from_residual.result in
    let failed = c.from_residual.ensures.0 in
    let put = c.in_err-some.ensures.rows in
    let all = all_values q f c.args.paths c.args.number c.args.text.now (asked_tree c.args.asked.now) (node_of c.args.asked.now.node) c.requires.shown (sym c.in-Ok-true.ensures.wanted ∙ c.in-Ok-true.field-0-test) in
    record {
      rows = record {
        first = put.first;
        others = put.others;
        split = all ∙ put.split;
        puts = ends_put g.S.Sink.stands g.S.Sink.stopped r c.args.sink.now c.put_nodes.new.sink put.first failed put.puts;
        all = no_answer _ r failed;
      };
      selected = no_answer _ r failed;
    }

pub returns-in-Some-clause-answers : goal.returns-in-Some-clause-answers
returns-in-Some-clause-answers g c =
    let q = c.args.self.question.now in
    let f = c.args.self.form.now in
    let t = asked_tree c.args.asked.now in
    let node = node_of c.args.asked.now.node in
    let put = c.in_ok-some.ensures.rows in
    let asked = sym c.in-Ok-true.ensures.wanted ∙ c.in-Ok-true.field-0-test in
    let all = all_values q f c.args.paths c.args.number c.args.text.now t node c.requires.shown asked in
    let some : c.in-Some.some ≡ selects (queries_of q) node t = subst (λ (o : Option Bool). MatchOption o ⊤ (λ (b : Bool). b ≡ selects (queries_of q) node t)) c.in-Some.is c.in_ok-some.ensures.some in
    record {
      rows = record {
        first = put.first;
        others = put.others;
        split = all ∙ put.split;
        puts = put.puts;
        all = λ e. put.all (ap is_some c.in-Some.is);
      };
      selected = c.wants_found.ensures ∙ ap (λ (b : Bool). wants_found q.wanted (let_match q.purpose b)) some
          ∙ found_as q.wanted (all_hold (conditions_of q) node t) (let_match q.purpose (selects (queries_of q) node t)) asked;
    }

pub returns-in-None-clause-answers : goal.returns-in-None-clause-answers
returns-in-None-clause-answers g c =
    let put = c.in_ok-some.ensures.rows in
    record {
      rows = record {
        first = put.first;
        others = put.others;
        split = all_values c.args.self.question.now c.args.self.form.now c.args.paths c.args.number c.args.text.now (asked_tree c.args.asked.now) (node_of c.args.asked.now.node) c.requires.shown
            (sym c.in-Ok-true.ensures.wanted ∙ c.in-Ok-true.field-0-test) ∙ put.split;
        puts = put.puts;
        all = λ e. absurd (false≢true e);
      };
      selected = tt;
    }
