use Rattle.std.proofs.Common.{◌≡◌, ℕ, List, ap, sym, ◌∙◌, drop}
use Rattle.std.proofs.lemmas.List.{take_rest}
use Rattle.jp_query.specs.Parsing.{is_member}
use Rattle.jp_query.specs.Reading.Scalars.{run}
use Rattle.jp_query.proofs.Runs.{named_cut}
use Rattle.jp_query.proofs.parser.scalars.first_and_run.Goals as goal

pub split_at-requires : goal.split_at-requires
split_at-requires c =
    let e : c.run.result.0.now ≡ (run (is_member c.args.others) (drop 1 c.args.text.now)).0 = ap (λ (r : List ℕ × List ℕ). r.0) c.run.ensures ∙ ap (λ (x : List ℕ). (run (is_member c.args.others) x).0) (take_rest c.args.text.now 1) in
    rw e (named_cut (is_member c.args.first) (is_member c.args.others) c.args.text.now (sym c.if-begins_with.ensures)).0

pub returns-then-begins_with : goal.returns-then-begins_with
returns-then-begins_with c =
    let e : c.run.result.0.now ≡ (run (is_member c.args.others) (drop 1 c.args.text.now)).0 = ap (λ (r : List ℕ × List ℕ). r.0) c.run.ensures ∙ ap (λ (x : List ℕ). (run (is_member c.args.others) x).0) (take_rest c.args.text.now 1) in
    rw (c.split_at.ensures.front, c.split_at.ensures.back, e) (sym (named_cut (is_member c.args.first) (is_member c.args.others) c.args.text.now (sym c.if-begins_with.ensures)).1)
