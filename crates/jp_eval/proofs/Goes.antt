-- How far a loop has come that adds nodes as long as more matter.
use Rattle.std.specs.Prelude.{OnOk}
use Rattle.std.proofs.Common.{◌≡◌, ℕ, List, [], ◌∷◌, ◌++◌, map, Bool, true, false, cond, filter, Result, Ok, Err, sym, ◌∙◌, ap, ap₂, refl, subst, append-nil, append_assoc}
use Rattle.jp_model.proofs.Seek.{no_nodes}
use Rattle.jp_model.specs.Json.Tree.{Tree}
use Rattle.jp_model.specs.Meaning.Nodes.{Node}
use Rattle.jp_model.specs.Meaning.Selecting.{nodes}
use Rattle.jp_model.specs.Query.Syntax.{Segments}
use Rattle.jp_nodes.specs.declared.cursor.Cursor.{Cursor}
use Rattle.std.specs.Prelude.{Option}
use Rattle.jp_nodes.specs.Cursors.{line_of, node_of}
use Rattle.jp_eval.specs.Found.{Adds}
use Rattle.jp_eval.specs.Frames.{IsKept, Pushes, Lends}
use Rattle.jp_eval.specs.Tallies.{Tally, Total, cut, is_listed, plus, tallied, tally, total_of}
use Rattle.jp_eval.specs.declared.frame.Frame.{Frame}
use Rattle.jp_eval.specs.declared.frame.Walk.{Walk}
use Rattle.jp_eval.specs.declared.sums.Sum.{Sum}
use Rattle.jp_eval.proofs.Nodelists.{nodes-append}
use Rattle.jp_eval.proofs.Kept.{adds_none, adds_more}
use Rattle.jp_eval.proofs.Totals.{cut_plus, plus-append}

-- from the old frame it came to this one, and with the other nodes it gives what the old one gives with all
pub record Goes (walk : Walk) (old now : Frame) (others total : List Node) : Type 0 where
  pub adds : Adds (line_of walk.run.now.root.now) old.found.items now.found.items
  pub kept : IsKept walk.run.now now
  pub told : tally (line_of walk.run.now.root.now) walk.most now others ≡ tally (line_of walk.run.now.root.now) walk.most old total

-- the same frame, with the same nodes to come
pub same_tally : (line : List ℕ) (most : ℕ) (a b : Frame) (xs ys : List Node) → a.found.items ≡ b.found.items → a.sum ≡ b.sum → xs ≡ ys → tally line most a xs ≡ tally line most b ys
same_tally line most a b xs ys f n e =
    ap₂ (λ (l : List Cursor) (s : Sum). tallied (is_listed most) most (map node_of l) (total_of line s) xs) f n ∙ ap (tally line most b) e

pub begins : (walk : Walk) (old now : Frame) (others total : List Node) → IsKept walk.run.now now → now.found.items ≡ old.found.items → now.sum ≡ old.sum → others ≡ total → Goes walk old now others total
begins walk old now others total h f n e = record {
  adds = adds_none (line_of walk.run.now.root.now) old.found.items now.found.items f;
  kept = h;
  told = same_tally (line_of walk.run.now.root.now) walk.most now old others total f n e;
}

pub others_are : {walk : Walk} {old now : Frame} {others total : List Node} (rest : List Node) → others ≡ rest → Goes walk old now others total → Goes walk old now rest total
others_are {walk} {old} {now} {others} {total} rest e g = subst (λ (x : List Node). Goes walk old now x total) e g

abbrev tally_is : List Node → Option Total → Tally
tally_is ns t = record { nodes = ns; total = t }

-- what was added, and then the others
behind : (b : Bool) (most : ℕ) (now new : List Node) (k n : Total) (part others : List Node) → tallied b most new n [] ≡ tallied b most now k part → tallied b most new n others ≡ tallied b most now k (part ++ others)
behind true most now new k n part others e =
    let ns : new ++ [] ≡ now ++ part = ap (λ (t : Tally). t.nodes) e in
    ap₂ tally_is (ap (λ (l : List Node). l ++ others) (sym (append-nil new) ∙ ns) ∙ append_assoc now part others) (ap (λ (t : Tally). t.total) e)
behind false most now new k n part others e =
    ap₂ tally_is (ap (λ (t : Tally). t.nodes) e) (cut_plus most n (plus k part) others (ap (λ (t : Tally). t.total) e) ∙ ap (cut most) (sym (plus-append k part others)))

-- the nodes of some were added, and those of the others are to come
pub goes_past : {E U : Type 0} {u : U} {walk : Walk} {old now : Frame} {total : List Node} (new : Frame) (ss : Segments) (t : Tree) (part others : List Node) → Goes walk old now (nodes ss (part ++ others) t) total
    → Pushes {E = E} {U = U} walk now new (Ok u) (nodes ss part t) → Goes walk old new (nodes ss others t) total
goes_past {E} {U} {u} {walk} {old} {now} {total} new ss t part others g p = record {
  adds = adds_more g.adds p.adds;
  kept = p.kept;
  told = behind (is_listed walk.most) walk.most (map node_of now.found.items) (map node_of new.found.items) (total_of (line_of walk.run.now.root.now) now.sum) (total_of (line_of walk.run.now.root.now) new.sum) (nodes ss part t) (nodes ss others t) p.told
      ∙ (ap (tally (line_of walk.run.now.root.now) walk.most now) (sym (nodes-append ss part others t)) ∙ g.told);
}

-- the frame was lent in between
pub goes_lent : {E A : Type 0} {a : A} {walk : Walk} {old now : Frame} {others total : List Node} (new : Frame) → Goes walk old now others total → Lends {E = E} {A = A} walk now new (Ok a) → Goes walk old new others total
goes_lent {E} {A} {a} {walk} {old} {now} {others} {total} new g l = record {
  adds = adds_more g.adds l.adds;
  kept = l.kept;
  told = same_tally (line_of walk.run.now.root.now) walk.most new now others others l.same l.sum refl ∙ g.told;
}

-- none is left to come, or no more are looked for
pub is_done : {E U : Type 0} {u : U} {walk : Walk} {old now : Frame} {others total : List Node} → Goes walk old now others total → others ≡ [] → Pushes {E = E} {U = U} walk old now (Ok u) total
is_done {E} {U} {u} {walk} {old} {now} {others} {total} g e = record { adds = g.adds; kept = g.kept; told = ap (tally (line_of walk.run.now.root.now) walk.most now) (sym e) ∙ g.told }

pub is_full : {E U : Type 0} {u : U} {walk : Walk} {old now : Frame} {others total : List Node} → Goes walk old now others total → ((line : List ℕ) (xs : List Node) → tally line walk.most now xs ≡ tally line walk.most now []) → Pushes {E = E} {U = U} walk old now (Ok u) total
is_full {E} {U} {u} {walk} {old} {now} {others} {total} g h = record { adds = g.adds; kept = g.kept; told = sym (h (line_of walk.run.now.root.now) others) ∙ g.told }

-- the frame was lent before
pub lent_first : {E F A U : Type 0} {a : A} {walk : Walk} {old mid new : Frame} {found : List Node} (r : Result U E) → Lends {E = F} {A = A} walk old mid (Ok a) → Pushes {E = E} {U = U} walk mid new r found → Pushes {E = E} {U = U} walk old new r found
lent_first {E} {F} {A} {U} {a} {walk} {old} {mid} {new} {found} r l p = record { adds = adds_more l.adds p.adds; kept = p.kept; told = by r p.told }
  where
    by : (r : Result U E) → OnOk r (tally (line_of walk.run.now.root.now) walk.most new [] ≡ tally (line_of walk.run.now.root.now) walk.most mid found) → OnOk r (tally (line_of walk.run.now.root.now) walk.most new [] ≡ tally (line_of walk.run.now.root.now) walk.most old found)
    by (Ok u) h = h ∙ same_tally (line_of walk.run.now.root.now) walk.most mid old found found l.same l.sum refl
    by (Err e) h = tt

-- some were added, and then others
pub both_pushed : {E U : Type 0} {u : U} {walk : Walk} {old mid new : Frame} {part others : List Node} (r : Result U E) → Pushes {E = E} {U = U} walk old mid (Ok u) part → Pushes {E = E} {U = U} walk mid new r others → Pushes {E = E} {U = U} walk old new r (part ++ others)
both_pushed {E} {U} {u} {walk} {old} {mid} {new} {part} {others} r a b = record { adds = adds_more a.adds b.adds; kept = b.kept; told = by r b.told }
  where
    by : (r : Result U E) → OnOk r (tally (line_of walk.run.now.root.now) walk.most new [] ≡ tally (line_of walk.run.now.root.now) walk.most mid others) → OnOk r (tally (line_of walk.run.now.root.now) walk.most new [] ≡ tally (line_of walk.run.now.root.now) walk.most old (part ++ others))
    by (Ok u) h =
        h ∙ behind (is_listed walk.most) walk.most (map node_of old.found.items) (map node_of mid.found.items) (total_of (line_of walk.run.now.root.now) old.sum) (total_of (line_of walk.run.now.root.now) mid.sum) part others a.told
    by (Err e) h = tt

-- no node adds nothing
pub nothing_added : {E U : Type 0} {u : U} (walk : Walk) (frame : Frame) (ss : Segments) (t : Tree) (found : List Node) → IsKept walk.run.now frame → found ≡ [] → Pushes {E = E} {U = U} walk frame frame (Ok u) (nodes ss found t)
nothing_added walk frame ss t found h e = is_done (begins walk frame frame [] (nodes ss found t) h refl refl (sym (ap (λ (l : List Node). nodes ss l t) e ∙ no_nodes ss t))) refl

pub filter_taken : (p : Node → Bool) (n : Node) (ns : List Node) → p n ≡ true → filter p (n ∷ ns) ≡ n ∷ filter p ns
filter_taken p n ns h = ap (λ b. cond b (n ∷ filter p ns) (filter p ns)) h

pub filter_passed : (p : Node → Bool) (n : Node) (ns : List Node) → p n ≡ false → filter p (n ∷ ns) ≡ filter p ns
filter_passed p n ns h = ap (λ b. cond b (n ∷ filter p ns) (filter p ns)) h

-- each is taken, or none
pub filter_all : (p : Node → Bool) (ns : List Node) → ((n : Node) → p n ≡ true) → filter p ns ≡ ns
filter_all p [] h = refl
filter_all p (n ∷ ns) h = filter_taken p n ns (h n) ∙ ap (λ (l : List Node). n ∷ l) (filter_all p ns h)

pub filter_none : (p : Node → Bool) (ns : List Node) → ((n : Node) → p n ≡ false) → filter p ns ≡ []
filter_none p [] h = refl
filter_none p (n ∷ ns) h = filter_passed p n ns (h n) ∙ filter_none p ns h
