use Rattle.std.proofs.Common.{ℕ, ◌∙◌, ◌<◌, ◌≡◌, length, refl, arith, Result, Ok, Err, IfOk, IfErr}
use Rattle.jp_tape.specs.declared.builder.reader.Reader.{Reader}
use Rattle.jp_tape.proofs.More.{more_on}
use Rattle.jp_tape.proofs.Reader.{stops_on, inside, comma_on, comma_next, no_comma_text}
use Rattle.jp_tape.proofs.builder.reader.Reader.comma.Goals as goal

inner : (r : Reader) (depth : ℕ) → depth ≡ r.stack.now.len → 0 < length r.stack.now.items → 0 < depth
inner r depth e some = let o = r.stack.now.ok.0 in omega (arith, e, o, some)

if_ok : {A E : Type 0} {P Q R S T U : A → Type 0} (r : Result A E) → IfOk r P → IfOk r Q → IfOk r R → IfOk r S → IfOk r T → ((x : A) → P x → Q x → R x → S x → T x → U x) → IfOk r U
if_ok (Ok x) p q r s t f = f x p q r s t
if_ok (Err e) p q r s t f = tt

if_ok_map : {A E : Type 0} (P Q : A → Type 0) (r : Result A E) → ((x : A) → P x → Q x) → IfOk r P → IfOk r Q
if_ok_map P Q (Ok x) f p = f x p
if_ok_map P Q (Err e) f p = tt

if_err_map : {A E : Type 0} (P Q : E → Type 0) (r : Result A E) → ((e : E) → P e → Q e) → IfErr r P → IfErr r Q
if_err_map P Q (Ok x) f p = tt
if_err_map P Q (Err e) f p = f e p

pub pass_on-from-requires : goal.pass_on-from-requires
pass_on-from-requires g c =
    let v = c.requires.behind in
    let h = c.requires.comma in
    let i = inside c.len.ensures (inner c.args.self.now c.len.result c.len.ensures c.requires.inner) _ c.index-closing.ensures v in
    record { more = more_on c.args.line.now c.args.self.now.marks.now c.args.at 0x2C (i.roomy.closed (omega arith)) v.ahead h.inside h.is refl refl }

pub child-requires-clause-inside : goal.child-requires-clause-inside
child-requires-clause-inside g c =
    let i = inside c.len.ensures (inner c.args.self.now c.len.result c.len.ensures c.requires.inner) _ c.index-closing.ensures c.requires.behind in
    (comma_on c.requires.comma c.requires.behind i c.pass_on-from.ensures.marks c.pass_on-from.ensures.value).inside

pub child-requires-clause-ahead : goal.child-requires-clause-ahead
child-requires-clause-ahead g c =
    let i = inside c.len.ensures (inner c.args.self.now c.len.result c.len.ensures c.requires.inner) _ c.index-closing.ensures c.requires.behind in
    (comma_on c.requires.comma c.requires.behind i c.pass_on-from.ensures.marks c.pass_on-from.ensures.value).next

pub child-requires-clause-stops : goal.child-requires-clause-stops
child-requires-clause-stops g c =
    let i = inside c.len.ensures (inner c.args.self.now c.len.result c.len.ensures c.requires.inner) _ c.index-closing.ensures c.requires.behind in
    (comma_on c.requires.comma c.requires.behind i c.pass_on-from.ensures.marks c.pass_on-from.ensures.value).stops

pub child-requires-clause-some : goal.child-requires-clause-some
child-requires-clause-some g c =
    let i = inside c.len.ensures (inner c.args.self.now c.len.result c.len.ensures c.requires.inner) _ c.index-closing.ensures c.requires.behind in
    (comma_on c.requires.comma c.requires.behind i c.pass_on-from.ensures.marks c.pass_on-from.ensures.value).some

pub returns-clause-next : goal.returns-clause-next
returns-clause-next g c =
    let i = inside c.len.ensures (inner c.args.self.now c.len.result c.len.ensures c.requires.inner) _ c.index-closing.ensures c.requires.behind in
    let w = comma_on c.requires.comma c.requires.behind i c.pass_on-from.ensures.marks c.pass_on-from.ensures.value in
    let child = c.child.ensures in
    if_ok c.child.result child.named child.order child.ahead child.some child.closed
    (λ value named order ahead some closed. comma_next c.requires.comma w.white w.stops named w.fewer (child.same ∙ c.pass_on-from.ensures.same) (child.limit ∙ c.pass_on-from.ensures.limit) order.1 ahead some closed i)

pub returns-clause-order : goal.returns-clause-order
returns-clause-order g c =
    let i = inside c.len.ensures (inner c.args.self.now c.len.result c.len.ensures c.requires.inner) _ c.index-closing.ensures c.requires.behind in
    let w = (comma_on c.requires.comma c.requires.behind i c.pass_on-from.ensures.marks c.pass_on-from.ensures.value).white.order in
    if_ok_map _ _ c.child.result (λ value order. let o = order.0 in omega (arith, w, o)) c.child.ensures.order

pub returns-clause-refused : goal.returns-clause-refused
returns-clause-refused g c =
    let i = inside c.len.ensures (inner c.args.self.now c.len.result c.len.ensures c.requires.inner) _ c.index-closing.ensures c.requires.behind in
    let w = comma_on c.requires.comma c.requires.behind i c.pass_on-from.ensures.marks c.pass_on-from.ensures.value in
    if_err_map _ _ c.child.result (λ fault stuck. stops_on c.args.line.now c.args.self.now.most_depth fault (λ l. no_comma_text c.requires.comma w.white w.stops l i) stuck) c.child.ensures.stuck
