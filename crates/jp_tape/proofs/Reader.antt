-- What is known after each token of a text.
use Rattle.std.proofs.Common.{◌≡◌, ℕ, ◌+◌, ◌-◌, ◌*◌, ◌≤◌, ◌<◌, ◌==◌, max, List, [], ◌∷◌, ◌++◌, length, take, drop, get_or, vec_capacity, sym, ◌∙◌, ap, ap₂, subst, refl, arith, Option, Some, None, length-append}
use Rattle.std.specs.Prelude.{Vec}
use Rattle.std.specs.Global.{Global}
use Rattle.std.proofs.Math.Seq.{take-append_seam}
use Rattle.jp_model.specs.declared.LineFault.TheVariants as line_faults
use Rattle.jp_model.specs.Json.Places.{White, Has}
use Rattle.jp_model.specs.Json.Tree.{Tree, node, container, Container, array, object, Name}
use Rattle.jp_model.specs.Json.Faults.{depth}
use Rattle.jp_model.specs.Json.Spelling.{SpellsLabel, opening, closing}
use Rattle.jp_model.specs.Json.Status.{IsNoText}
use Rattle.jp_tape.specs.declared.builder.BuildFault.{BuildFault}
use Rattle.jp_tape.specs.declared.builder.BuildFault.TheVariants as faults
use Rattle.jp_tape.specs.declared.builder.reader.Reader.{Reader}
use Rattle.jp_tape.specs.Places.{Stops}
use Rattle.jp_tape.specs.Ahead.{IsAhead, IsClosed, IsNext, first_or}
use Rattle.jp_tape.proofs.Ahead.{none_is_end, goes_on, bracket_structural}
use Rattle.jp_tape.proofs.More.{PassedOn, passes_on, begins_inside, opening_open}
use Rattle.jp_tape.specs.Reading.{NoLabel, OnFault}
use Rattle.jp_tape.specs.Refusals.{IsStopOf}
use Rattle.jp_nodes.specs.Kinds.{container_if}
use Rattle.jp_tape.specs.Machine.{Frame, entered, grown, State, Value_at, After_value, IsStuck, Leads, open_depth}
use Rattle.jp_tape.specs.Reader.{Told, Up_to, after_value, closings, Suits, SuitsIn, IsRoomy, IsNamed, IsTold, IsValueNext, IsValueBehind}
use Rattle.jp_tape.proofs.Steps.{enter_step, comma_step, comma_stuck, close_step, neither_stuck, leads_on}
use Rattle.jp_tape.proofs.Held.{last_of, grown_depth, closed_depth}

pub no_text : (line : List ℕ) (x : State) → Leads line x → IsStuck line x → IsNoText line
no_text line x l s t h = s t (l.forth t h)

-- a fault of the grammar stops the reader
pub stops_on : {P : Type 0} (line : List ℕ) (most : ℕ) (fault : BuildFault) → (P → IsNoText line) → OnFault fault P → IsStopOf line most fault
stops_on line most (faults.Line line_faults.Utf8) f h = h
stops_on line most (faults.Line line_faults.Grammar) f h = f h
stops_on line most (faults.Line line_faults.Truncated) f h = h
stops_on line most (faults.Line line_faults.Depth) f h = absurd h
stops_on line most (faults.Line line_faults.Surrogate) f h = h
stops_on line most (faults.Line line_faults.Number) f h = h
stops_on line most (faults.Line line_faults.Duplicate) f h = h
stops_on line most faults.Memory f h = h

-- a label suits its container
suits_label : (line : List ℕ) (kind : Container) (from value : ℕ) (own : Option Name) → SpellsLabel line kind from value own → Suits kind own
suits_label line array from value None l = tt
suits_label line array from value (Some n) l = absurd l
suits_label line object from value None l = absurd l
suits_label line object from value (Some n) l = tt

-- the stack has a bracket for each open container
pub closings_length : (frames : List Frame) → length (closings frames) ≡ length frames
closings_length [] = refl
closings_length (f ∷ frames) = let h = closings_length frames in let l = length-append (closings frames) (closing f.kind ∷ []) in omega (arith, h, l)

pub stack_length : (line : List ℕ) (frames : List Frame) (r : Reader) → IsRoomy line frames r → length r.stack.now.items ≡ length frames
stack_length line frames r k = ap (λ (xs : List ℕ). length xs) k.stack ∙ closings_length frames

-- where containers are open and no marks are ahead there is no text
pub ends_early : {line ms : List ℕ} {own : Option Name} {t : Tree} {i to : ℕ} (frames : List Frame) → Leads line (After_value frames own t i) → 0 < length frames → White line i to → Stops line to → IsNext line to ms → length ms ≡ 0 → IsNoText line
ends_early [] l some w s n e = absurd (omega (arith, some))
ends_early {line = line} {ms = ms} {own = own} {t = t} {i = i} {to = to} (f ∷ frames) l some w s n e =
    let end = none_is_end ms (length line) e in
    let first = n.first in
    no_text line (After_value (f ∷ frames) own t i) l
    (neither_stuck line f frames own t i to w s (λ h. (let o = h.inside in omega (arith, o, first, end))) (λ h. (let o = h.inside in omega (arith, o, first, end))))

-- the opening bracket of a container is passed
pub open_on : {stands : List ℕ → Told → Type 0} {line rest : List ℕ} {at inside : ℕ} {r : Reader} (kind : Container) → Has line at (opening kind) → IsValueNext stands line at r → rest ≡ drop 1 r.marks.now → ((end : ℕ) → inside ≡ first_or rest end) → PassedOn line r.marks.now rest at inside
open_on {line = line} {rest = rest} {at = at} {inside = inside} {r = r} kind h v d e =
    passes_on line r.marks.now rest at inside (opening kind) (v.begins.closed kind h.is) v.ahead.ahead h.inside h.is (bracket_structural kind (opening kind) refl) (opening_open kind) d (e (length line))

-- ---- a container is entered

pub first_next : {old mid new : List ℕ → Told → Type 0} {line : List ℕ} {at from value : ℕ} {before between after : Reader} (kind : Container) → Has line at (opening kind) → White line (at + 1) from → Stops line from → (Has line from (closing kind) → ⊥) →
    ((frames : List Frame) (own : Option Name) (room : ℕ) → SuitsIn frames own → 0 < room → old line (Up_to frames own room) → mid line (Up_to (entered kind at own ∷ frames) None (room - 1))) → IsNamed mid new line kind from value between after → length between.marks.now < length before.marks.now →
    after.stack.now.items ≡ before.stack.now.items ++ closing kind ∷ [] → vec_capacity after.stack.now ≡ vec_capacity before.stack.now → after.most_depth ≡ before.most_depth → length before.stack.now.items < before.most_depth → value < length line → IsNext line value after.marks.now → 0 < length after.marks.now → IsClosed line after.marks.now → IsValueNext old line at before → IsValueNext new line value after
first_next {line = line} {at = at} {from = from} {value = value} {before = before} {after = after} kind o w s c opened n fewer e p m few i a some closed v =
    let enough = v.enough in
    let on = n.fewer in
    let shallow = v.shallow in
    let opened_count = stack_length line v.frames before v.roomy in
    let capacity = v.roomy.capacity in
    let passed = v.roomy.passed in
    record {
      frames = entered kind at v.own ∷ v.frames;
      own = n.own;
      roomy = record { stack = e ∙ ap (λ (xs : List ℕ). xs ++ closing kind ∷ []) v.roomy.stack; capacity = omega (arith, capacity, p, m); passed = omega (arith, passed, fewer, on); closed = λ f. closed };
      shallow = omega (arith, shallow, opened_count, few, m);
      suits = suits_label line kind from value n.own n.label.spelled;
      room = v.room - 1;
      enough = omega (arith, enough, fewer, on, m, opened_count, few);
      told = n.told (entered kind at v.own ∷ v.frames) (v.room - 1) (omega (arith, enough, opened_count, few, fewer)) (opened v.frames v.own v.room v.suits (omega (arith, enough, opened_count, few)) v.told);
      leads = leads_on line (Value_at v.frames v.own at) (Value_at (entered kind at v.own ∷ v.frames) n.own value) v.leads (enter_step line kind at from v.frames v.own o w s c value n.own n.label);
      inside = i;
      ahead = a;
      begins = begins_inside line after.marks.now value a some closed;
    }

-- where a value has ended in a container, the line goes on
pub behind_inside : {stands : List ℕ → Told → Type 0} {line : List ℕ} {at : ℕ} {r : Reader} → 0 < length r.stack.now.items → IsValueBehind stands line at r → at < length line
behind_inside {line = line} {at = at} {r = r} some v = let n = stack_length line v.frames r v.roomy in goes_on line r.marks.now at v.ahead (v.more (omega (arith, n, some)))

-- where a value has ended in none, and the line ends, all of it was told
pub told_whole : {stands : List ℕ → Told → Type 0} {line : List ℕ} {at : ℕ} {r : Reader} → length r.stack.now.items ≡ 0 → at ≡ length line → IsValueBehind stands line at r → IsTold stands line r.most_depth
told_whole {stands = stands} {line = line} {at = at} {r = r} none end v = go v.frames (stack_length line v.frames r v.roomy) v.shallow v.told v.leads
  where
    go : (frames : List Frame) → length r.stack.now.items ≡ length frames → max (open_depth frames) (length frames + depth v.tree) ≤ r.most_depth → stands line (after_value frames v.own v.tree v.room) → Leads line (After_value frames v.own v.tree v.ended) → IsTold stands line r.most_depth
    go [] n s t l = (v.tree, l.back v.tree (subst (λ x. White line v.ended x) end v.white, refl), omega (arith, s), t)
    go (f ∷ frames) n s t l = absurd (omega (arith, n, none))

-- ---- after a child

-- what closes a container tells its kind
closing_kind : (k : Container) → container_if (closing k == 0x7D) ≡ k
closing_kind array = refl
closing_kind object = refl

-- it is one of an open container, which this closes
pub record Inside (stands : List ℕ → Told → Type 0) (line : List ℕ) (at : ℕ) (r : Reader) (bracket : ℕ) : Type 0 where
  pub f : Frame
  pub frames : List Frame
  pub own : Option Name
  pub tree : Tree
  pub closes : bracket ≡ closing f.kind
  pub roomy : IsRoomy line (f ∷ frames) r
  pub shallow : max (open_depth (f ∷ frames)) (length (f ∷ frames) + depth tree) ≤ r.most_depth
  pub room : ℕ
  pub enough : length r.marks.now + r.most_depth ≤ 2 * room + length (f ∷ frames)
  pub told : stands line (Up_to (grown f own tree ∷ frames) None room)
  pub ended : ℕ
  pub leads : Leads line (After_value (f ∷ frames) own tree ended)
  pub white : White line ended at
  pub stops : Stops line at

pub inside : {stands : List ℕ → Told → Type 0} {line : List ℕ} {at : ℕ} {r : Reader} {depth bracket : ℕ} → depth ≡ r.stack.now.len → 0 < depth → (d : ℕ) → bracket ≡ get_or r.stack.now.items (depth - 1) d → IsValueBehind stands line at r → Inside stands line at r bracket
inside {stands = stands} {line = line} {at = at} {r = r} {depth = n} {bracket = bracket} e some d b v = go v.frames v.roomy v.shallow v.enough v.told v.leads
  where
    go : (frames : List Frame) → IsRoomy line frames r → max (open_depth frames) (length frames + depth v.tree) ≤ r.most_depth → length r.marks.now + r.most_depth ≤ 2 * v.room + length frames →
        stands line (after_value frames v.own v.tree v.room) → Leads line (After_value frames v.own v.tree v.ended) → Inside stands line at r bracket
    go [] k s m t l = let z = ap (λ (xs : List ℕ). length xs) k.stack in let o = r.stack.now.ok.0 in absurd (omega (arith, z, e, o, some))
    go (f ∷ frames) k s m t l =
        let o = r.stack.now.ok.0 in
        let last : n - 1 ≡ length r.stack.now.items - 1 = omega (arith, e, o) in
        record {
          f = f;
          frames = frames;
          own = v.own;
          tree = v.tree;
          closes = b ∙ (ap (λ i. get_or r.stack.now.items i d) last ∙ (ap (λ (xs : List ℕ). get_or xs (length xs - 1) d) k.stack ∙ last_of (closings frames) (closing f.kind) d));
          roomy = k;
          shallow = s;
          room = v.room;
          enough = m;
          told = t;
          ended = v.ended;
          leads = l;
          white = v.white;
          stops = v.stops;
        }

-- the comma after a child is passed
pub comma_on : {stands : List ℕ → Told → Type 0} {line rest : List ℕ} {at from bracket : ℕ} {r : Reader} → Has line at 0x2C → IsValueBehind stands line at r → Inside stands line at r bracket → rest ≡ drop 1 r.marks.now → ((end : ℕ) → from ≡ first_or rest end) → PassedOn line r.marks.now rest at from
comma_on {line = line} {rest = rest} {at = at} {from = from} {r = r} h v i d e = passes_on line r.marks.now rest at from 0x2C (i.roomy.closed (omega arith)) v.ahead h.inside h.is refl refl d (e (length line))

pub comma_next : {old new : List ℕ → Told → Type 0} {line : List ℕ} {at from value bracket : ℕ} {before between after : Reader} → Has line at 0x2C → White line (at + 1) from → Stops line from →
    IsNamed old new line (container_if (bracket == 0x7D)) from value between after → length between.marks.now < length before.marks.now → after.stack.now ≡ before.stack.now → after.most_depth ≡ before.most_depth → value < length line → IsNext line value after.marks.now → 0 < length after.marks.now → IsClosed line after.marks.now → Inside old line at before bracket → IsValueNext new line value after
comma_next {old = old} {new = new} {line = line} {at = at} {from = from} {value = value} {bracket = bracket} {before = before} {between = between} {after = after} c v s n fewer e d l a some closed i =
    let kind : container_if (bracket == 0x7D) ≡ i.f.kind = ap (λ b. container_if (b == 0x7D)) i.closes ∙ closing_kind i.f.kind in
    let m : IsNamed old new line i.f.kind from value between after = subst (λ k. IsNamed old new line k from value between after) kind n in
    let frames = grown i.f i.own i.tree ∷ i.frames in
    let enough = i.enough in
    let on = m.fewer in
    let deep = i.shallow in
    let shallow = subst (λ n. n ≤ before.most_depth) (grown_depth i.f i.frames i.own i.tree) i.shallow in
    let capacity = i.roomy.capacity in
    let passed = i.roomy.passed in
    let room = ap (λ (x : Vec ℕ Global). vec_capacity x) e in
    record {
      frames = frames;
      own = m.own;
      roomy = record { stack = ap (λ (x : Vec ℕ Global). x.items) e ∙ i.roomy.stack; capacity = omega (arith, capacity, room, d); passed = omega (arith, passed, fewer, on); closed = λ f. closed };
      shallow = omega (arith, shallow, d);
      suits = suits_label line i.f.kind from value m.own m.label.spelled;
      room = i.room;
      enough = omega (arith, enough, fewer, on, d);
      told = m.told frames i.room (omega (arith, enough, deep, fewer)) i.told;
      leads = leads_on line (After_value (i.f ∷ i.frames) i.own i.tree i.ended) (Value_at frames m.own value) i.leads (comma_step line i.f i.frames i.own i.tree i.ended at from i.white c v s value m.own m.label);
      inside = l;
      ahead = a;
      begins = begins_inside line after.marks.now value a some closed;
    }

pub no_comma_text : {stands : List ℕ → Told → Type 0} {line : List ℕ} {at from bracket : ℕ} {r : Reader} → Has line at 0x2C → White line (at + 1) from → Stops line from →
    NoLabel line (container_if (bracket == 0x7D)) from → Inside stands line at r bracket → IsNoText line
no_comma_text {line = line} {at = at} {from = from} c v s n i =
    let kind = ap (λ b. container_if (b == 0x7D)) i.closes ∙ closing_kind i.f.kind in
    no_text line (After_value (i.f ∷ i.frames) i.own i.tree i.ended) i.leads (comma_stuck line i.f i.frames i.own i.tree i.ended at from i.white c v s (subst (λ k. NoLabel line k from) kind n))

pub close_behind : {old new : List ℕ → Told → Type 0} {line : List ℕ} {at next depth bracket : ℕ} {before after : Reader} → Has line at bracket → White line (at + 1) next → Stops line next →
    ((f : Frame) (frames : List Frame) (room : ℕ) → old line (Up_to (f ∷ frames) None room) → new line (after_value frames f.name (node (record { start = f.start; end = at + 1 }) (container f.kind f.done)) room)) → length after.marks.now < length before.marks.now →
    depth ≡ before.stack.now.len → after.stack.now.items ≡ take (depth - 1) before.stack.now.items → vec_capacity after.stack.now ≡ vec_capacity before.stack.now → after.most_depth ≡ before.most_depth → IsAhead line next after.marks.now → IsClosed line after.marks.now → (0 < depth - 1 → 0 < length after.marks.now) → Inside old line at before bracket → IsValueBehind new line next after
close_behind {line = line} {at = at} {next = next} {depth = n} {before = before} c w s closed fewer d e p m a ends more i =
    let enough = i.enough in
    let t : Tree = node (record { start = i.f.start; end = at + 1 }) (container i.f.kind (grown i.f i.own i.tree).done) in
    let count : n - 1 ≡ length (closings i.frames) =
    (let z = ap (λ (xs : List ℕ). length xs) i.roomy.stack in
    let l = length-append (closings i.frames) (closing i.f.kind ∷ []) in
    let o = before.stack.now.ok.0 in
    omega (arith, z, l, o, d)) in
    let shallow = subst (λ n. n ≤ before.most_depth) (closed_depth i.f i.frames i.own i.tree) i.shallow in
    let capacity = i.roomy.capacity in
    let passed = i.roomy.passed in
    record {
      frames = i.frames;
      own = i.f.name;
      tree = t;
      roomy = record {
        stack = e ∙ (ap₂ (λ (n : ℕ) (xs : List ℕ). take n xs) count i.roomy.stack ∙ take-append_seam (closings i.frames) (closing i.f.kind ∷ []));
        capacity = omega (arith, capacity, p, m);
        passed = omega (arith, passed, fewer);
        closed = λ f. ends;
      };
      shallow = omega (arith, shallow, m);
      room = i.room;
      enough = omega (arith, enough, fewer, m);
      told = closed (grown i.f i.own i.tree) i.frames i.room i.told;
      ended = at + 1;
      leads = leads_on line (After_value (i.f ∷ i.frames) i.own i.tree i.ended) (After_value i.frames i.f.name t (at + 1)) i.leads
          (close_step line i.f i.frames i.own i.tree i.ended at i.white (subst (λ b. Has line at b) i.closes c));
      white = w;
      stops = s;
      within = w.within;
      ahead = a;
      more = λ f. (let all = closings_length i.frames in more (omega (arith, f, all, count)));
    }

-- it is closed, and no mark follows for those around it
pub close_early : {stands : List ℕ → Told → Type 0} {line ms : List ℕ} {at next depth bracket : ℕ} {before : Reader} → Has line at bracket → White line (at + 1) next → Stops line next → depth ≡ before.stack.now.len → 0 < depth - 1 → IsNext line next ms → length ms ≡ 0 → Inside stands line at before bracket → IsNoText line
close_early {line = line} {at = at} {depth = n} {before = before} c w s d some next none i =
    let z = ap (λ (xs : List ℕ). length xs) i.roomy.stack in
    let all = closings_length (i.f ∷ i.frames) in
    let o = before.stack.now.ok.0 in
    ends_early i.frames (leads_on line (After_value (i.f ∷ i.frames) i.own i.tree i.ended) _ i.leads
    (close_step line i.f i.frames i.own i.tree i.ended at i.white (subst (λ b. Has line at b) i.closes c))) (omega (arith, z, all, o, d, some)) w s next none

pub neither_text : {stands : List ℕ → Told → Type 0} {line : List ℕ} {at bracket : ℕ} {r : Reader} → (Has line at 0x2C → ⊥) → (Has line at bracket → ⊥) → Inside stands line at r bracket → IsNoText line
neither_text {line = line} {at = at} c d i =
    no_text line (After_value (i.f ∷ i.frames) i.own i.tree i.ended) i.leads
    (neither_stuck line i.f i.frames i.own i.tree i.ended at i.white i.stops c (λ h. d (subst (λ b. Has line at b) (sym i.closes) h)))
