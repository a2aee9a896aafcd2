-- One line more is told.
use Rattle.std.proofs.Common.{◌≡◌, ℕ, ◌+◌, ◌-◌, ◌≤◌, List, ◌∷◌, ◌++◌, length, drop, Bool, true, Some, slice_get, sym, ap, subst, ◌∙◌, arith}
use Rattle.jp_model.specs.Json.Status.{LineStatus}
use Rattle.jp_model.specs.Plans.{is_opened}
use Rattle.jp_model.specs.Rows.{Row, status_rows}
use Rattle.jp_model.specs.Script.Machine.{is_refused_status}
use Rattle.std.proofs.lemmas.Option.{same_Some}
use Rattle.jp_store.specs.Collections.{statuses_in, line_status}
use Rattle.jp_plan.specs.Passing.{IsLineOf}
use Rattle.jp_plan.specs.Planned.{Planned}
use Rattle.jp_plan.specs.Turns.{IsLeft, IsNext}
use Rattle.jp_plan.specs.declared.turn.Turn.{Turn}
use Rattle.jp_plan.specs.declared.turn.Turn.TheVariants as turns
use Rattle.jp_plan.proofs.Entries.{status_at, line_there}
use Rattle.jp_plan.proofs.Turns.{opens, refuses}

-- these lines are left of a plan, after these rows
abbrev pub Left : Planned → List ℕ → List ℕ → List Row → Type 0
Left p os rs done = IsLeft p.query p.over.state.paths (statuses_in p.over) os rs done

-- a line is there, and passes, and its rows are after the others
pub record Now (p : Planned) (test : LineStatus → Bool) (line : ℕ) (os rs : List ℕ) (done : List Row) : Type 0 where
  pub is_line : IsLineOf p.over line
  pub passes : test (line_status line p.over) ≡ true
  pub left : Left p os rs (done ++ status_rows p.query line (line_status line p.over))

now : (p : Planned) (test : LineStatus → Bool) (line : ℕ) (os rs : List ℕ) (done : List Row) → (s : LineStatus) → 1 ≤ line → slice_get (statuses_in p.over) (line - 1) ≡ Some s → test s ≡ true → Left p os rs (done ++ status_rows p.query line s) → Now p test line os rs done
now p test line os rs done s first is passes left =
    let is_line = line_there p.over line s first is in
    let same : s ≡ line_status line p.over = same_Some s (line_status line p.over) (sym is ∙ status_at p.over line is_line) in
    record {
      is_line = is_line;
      passes = ap test (sym same) ∙ passes;
      left = subst (λ s. Left p os rs (done ++ status_rows p.query line s)) same left;
    }

first_off : (xs : List ℕ) (line : ℕ) (rest : List ℕ) → xs ≡ line ∷ rest → rest ≡ drop 1 xs
first_off xs line rest e = ap (drop 1) (sym e)

pub one_off : (turn : Turn) (line : ℕ) (os rs : List ℕ) → IsNext turn os rs → turn ≡ turns.Open line → length os ≡ 1 + length (drop 1 os)
one_off turn line os rs next e =
    let n = subst (λ t. IsNext t os rs) e next in
    let f = ap length n.1 in
    let g = ap length (first_off os line n.0 n.1) in
    omega (arith, f, g)

pub open_now : (p : Planned) (turn : Turn) (line : ℕ) (os rs : List ℕ) (done : List Row) → IsNext turn os rs → turn ≡ turns.Open line → Left p os rs done → Now p (is_opened p.query p.over.state.paths) line (drop 1 os) rs done
open_now p turn line os rs done next e left =
    let n = subst (λ t. IsNext t os rs) e next in
    let behind = subst (λ (xs : List ℕ). Left p xs rs done) n.1 left in
    let told = opens p.query (statuses_in p.over) line n.0 rs done p.over.state.paths behind n.2 in
    let left : Left p n.0 rs (done ++ status_rows p.query line told.s) = record { before = line; to_open = told.mine; to_refuse = told.others; so_far = told.so_far } in
    subst (λ (xs : List ℕ). Now p (is_opened p.query p.over.state.paths) line xs rs done) (first_off os line n.0 n.1) (now p (is_opened p.query p.over.state.paths) line n.0 rs done told.s told.first told.is told.passes left)

pub refuse_now : (p : Planned) (turn : Turn) (line : ℕ) (os rs : List ℕ) (done : List Row) → IsNext turn os rs → turn ≡ turns.Refuse line → Left p os rs done → Now p is_refused_status line os (drop 1 rs) done
refuse_now p turn line os rs done next e left =
    let n = subst (λ t. IsNext t os rs) e next in
    let behind = subst (λ (xs : List ℕ). Left p os xs done) n.1 left in
    let told = refuses p.query (statuses_in p.over) line n.0 os done p.over.state.paths behind n.2 in
    let left : Left p os n.0 (done ++ status_rows p.query line told.s) = record { before = line; to_open = told.others; to_refuse = told.mine; so_far = told.so_far } in
    subst (λ (xs : List ℕ). Now p is_refused_status line os xs done) (first_off rs line n.0 n.1) (now p is_refused_status line os n.0 done told.s told.first told.is told.passes left)

-- the same, by other names
pub moved : (p : Planned) (os ps rs ts : List ℕ) (done more : List Row) → ps ≡ os → ts ≡ rs → more ≡ done → Left p os rs done → Left p ps ts more
moved p os ps rs ts done more e f g left =
    subst (λ (rows : List Row). Left p ps ts rows) (sym g) (subst (λ (xs : List ℕ). Left p ps xs done) (sym f) (subst (λ (xs : List ℕ). Left p xs rs done) (sym e) left))
