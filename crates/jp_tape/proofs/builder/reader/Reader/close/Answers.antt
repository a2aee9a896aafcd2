use Rattle.std.proofs.Common.{ℕ, List, ◌∙◌, ◌-◌, ◌<◌, ◌≡◌, length, take, ap, sym, subst, arith, vec_capacity}
use Rattle.std.specs.Prelude.{Vec}
use Rattle.std.specs.Global.{Global}
use Rattle.std.proofs.lemmas.Bool.{eqb-true}
use Rattle.jp_tape.specs.declared.builder.reader.Reader.{Reader}
use Rattle.jp_tape.specs.Ahead.{IsClosed}
use Rattle.jp_tape.proofs.Ahead.{not_empty}
use Rattle.jp_tape.proofs.More.{drop_closed}
use Rattle.jp_tape.proofs.Reader.{inside, close_behind, close_early, neither_text}
use Rattle.jp_tape.proofs.builder.reader.Reader.close.Goals as goal
use Rattle.jp_tape.proofs.builder.reader.Reader.close.Goals.{else-outer-gt0-via-then-outer-gt0+else-is_empty, else-outer-gt0-via-else-outer-gt0}

inner : (r : Reader) (depth : ℕ) → depth ≡ r.stack.now.len → 0 < length r.stack.now.items → 0 < depth
inner r depth e some = let o = r.stack.now.ok.0 in omega (arith, e, o, some)

pub returns-then-not-is_byte-clause-refused : goal.returns-then-not-is_byte-clause-refused
returns-then-not-is_byte-clause-refused g c =
    let i = inside c.len-outer.ensures (inner c.args.self.now c.len-outer.result c.len-outer.ensures c.requires.inner) _ c.index.ensures c.requires.behind in
    neither_text c.requires.no_comma (c.is_byte.ensures.no c.if-not-is_byte.true) i

pub returns-then-is_empty-clause-refused : goal.returns-then-is_empty-clause-refused
returns-then-is_empty-clause-refused g c =
    let i = inside c.len-outer.ensures (inner c.args.self.now c.len-outer.result c.len-outer.ensures c.requires.inner) _ c.index.ensures c.requires.behind in
    let p = c.pass_closing-next.ensures in
    close_early (c.is_byte.ensures.yes c.if-not-is_byte.false) p.white p.stops c.len-outer.ensures c.if-outer-gt0.true p.next (eqb-true _ _ (sym c.if-is_empty.ensures)) i

pub returns-in-Ok-clause-behind : goal.returns-in-Ok-clause-behind
returns-in-Ok-clause-behind g c =
    let line = c.args.line.now in
    let i = inside c.len-outer.ensures (inner c.args.self.now c.len-outer.result c.len-outer.ensures c.requires.inner) _ c.index.ensures c.requires.behind in
    let p = c.pass_closing-next.ensures in
    close_behind (c.is_byte.ensures.yes c.if-not-is_byte.false) p.white p.stops c.in-Ok.ensures p.fewer c.len-outer.ensures
    (c.truncate.ensures.items ∙ ap (λ (s : Vec ℕ Global). take (c.len-outer.result - 1) s.items) p.same) (c.truncate.ensures.capacity ∙ ap (λ (s : Vec ℕ Global). vec_capacity s) p.same) p.limit p.next.ahead
    (subst (λ (xs : List ℕ). IsClosed line xs) (sym p.marks) (drop_closed line c.args.self.now.marks.now 1 (i.roomy.closed (omega arith))))
    (λ o. elim c.else-outer-gt0.branch [
      | else-outer-gt0-via-then-outer-gt0+else-is_empty w ↦ not_empty _ w.if-is_empty.ensures
      | else-outer-gt0-via-else-outer-gt0 w ↦ (let none = w.if-outer-gt0.false in omega (arith, none, o))
    ]) i
