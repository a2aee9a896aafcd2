use Rattle.std.proofs.Common.{◌≡◌, ℕ, ◌<◌, length, get_or, IsTrue, true, arith, sym, ◌∙◌, ap}
use Rattle.std.proofs.lemmas.List.{get_or_read}
use Rattle.jp_model.specs.Pattern.Classes.{in_class}
use Rattle.jp_model.specs.Pattern.Language.{Language}
use Rattle.jp_model.specs.Pattern.Tree.{one_of}
use Rattle.jp_iregexp.specs.Nodes.{class_of}
use Rattle.jp_iregexp.proofs.Reaching.{below_none, below_insert, below_skip, below_all}
use Rattle.jp_iregexp.proofs.matcher.class_ends.Goals as goal
use Rattle.jp_iregexp.proofs.matcher.class_ends.Goals.{then-contains+then-contains-2+in_ok-insert, else-contains, else-contains-via-then-contains+else-contains-2, else-contains-via-else-contains}

pub loop-p-preserved : goal.loop-p-preserved
loop-p-preserved c =
    let text = c.args.text.now in
    let starts = c.args.starts.now in
    let P = λ (s : ℕ). IsTrue (in_class (class_of c.args.class.now) s) in
    let n = c.loop-p.p in
    let short = c.loop-p-test.true in
    let min = c.min-p-end.ensures in
    let inside : n < length text = omega (arith, short, min) in
    elim c.if-contains.branch [
      | then-contains+then-contains-2+in_ok-insert w ↦
          (let e = w.in_ok-insert.ensures in
          let read : w.index-text-p.result ≡ get_or text n 0 = get_or_read text n w.index-text-p.result inside w.index-text-p.is 0 in
          rw w.out-is (below_insert P text starts c.loop-p.out w.insert.new.self n c.loop-p.invariant inside (c.contains.ensures.0 w.if-contains.true) (sym (ap (in_class (class_of c.args.class.now)) read) ∙ sym w.contains-then-contains.ensures ∙ w.if-contains-2.true) e.same e.old e.new))
      | else-contains w ↦
          (rw w.out-is (below_skip P text starts c.loop-p.out n c.loop-p.invariant (λ h i.
          elim w.else-contains.branch [
            | else-contains-via-then-contains+else-contains-2 v ↦
                (let read : v.index-text-p.result ≡ get_or text n 0 = get_or_read text n v.index-text-p.result inside v.index-text-p.is 0 in
                let yes : v.contains-then-contains.result ≡ true = v.contains-then-contains.ensures ∙ ap (in_class (class_of c.args.class.now)) read ∙ i in let no = v.if-contains-2.false in cc)
            | else-contains-via-else-contains v ↦ (let yes = c.contains.ensures.1 h in let no = v.if-contains.false in cc)
          ])))
    ]

pub loop-p-init : goal.loop-p-init
loop-p-init c = below_none (Language (one_of (class_of c.args.class.now))) c.args.text.now c.args.starts.now c.empty-out.result c.low-low.result c.low-low.ensures c.empty-out.ensures

pub returns : goal.returns
returns c =
    let l = c.loop-p in
    let past = c.loop-p-test.false in
    let min = c.min-p-end.ensures in
    below_all (λ s. IsTrue (in_class (class_of c.args.class.now) s)) c.args.text.now c.args.starts.now l.out l.p (λ p h inside. let high = c.high-high.ensures.above p h in omega (arith, past, min, high, inside)) l.invariant
