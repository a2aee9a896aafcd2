-- A part of the list is put after it.
use Rattle.std.proofs.Common.{◌≡◌, ◌∙◌, ℕ, [], ◌++◌, List, Vec, Global, Option, ap, append-nil, map, subst, sym, take}
use Rattle.std.proofs.lemmas.List.Elements.{All-take}
use Rattle.std.proofs.lemmas.List.{map-append}
use Rattle.jp_model.specs.Meaning.Nodes.{Node}
use Rattle.jp_nodes.specs.declared.cursor.Cursor.{Cursor}
use Rattle.jp_nodes.specs.Cursors.{line_of, node_of}
use Rattle.jp_eval.specs.Found.{Adds, between}
use Rattle.jp_eval.specs.Frames.{AreKept}
use Rattle.jp_eval.specs.declared.frame.Answer.{Answer}
use Rattle.jp_eval.specs.declared.frame.Frame.{Frame}
use Rattle.jp_eval.specs.declared.frame.Run.{Run}
use Rattle.jp_eval.proofs.Kept.{kept_grown, listed_is, on_ok_so}
use Rattle.jp_eval.proofs.Totals.{listed_so}
use Rattle.jp_eval.proofs.frame.Walk.add_known.Goals as goal

pub returns-in-Listed : goal.returns-in-Listed
returns-in-Listed c selected h =
    let run : Run = c.args.self.run.now in
    let line : List ℕ = line_of run.root.now in
    let old : Frame = c.args.frame.now in
    let new : Frame = c.copy.new.self in
    let part : List Cursor = between c.in-Listed.start c.in-Listed.end old.found.items in
    let is = listed_is line old.found.items c.args.self.most selected c.args.known c.in-Listed.start c.in-Listed.end c.in-Listed.is h in
    let some = c.copy.ensures.some in
    let adds : Adds line old.found.items new.found.items = record { others = take some.0 part; is = some.1; of_line = All-take (λ (x : Cursor). line_of x ≡ line) some.0 part is.1.of_line } in
    record {
      adds = adds;
      kept = subst (λ (v : Vec (Option Answer) Global). AreKept run new.found.items v.items) (sym c.copy.ensures.answers) (kept_grown run old.found.items new.found.items old.answers.items line adds c.requires.kept);
      told = on_ok_so c.copy.result
          (λ (e : new.found.items ≡ old.found.items ++ part). listed_so line c.args.self.most new old [] selected is.0 (append-nil (map node_of new.found.items) ∙ (ap (map node_of) e ∙ (map-append node_of old.found.items part ∙ ap (λ (l : List Node). map node_of old.found.items ++ l) is.1.nodes))) c.copy.ensures.sum)
          c.copy.ensures.ok;
    }
