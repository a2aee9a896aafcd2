-- Each turn adds a name.
use Rattle.std.proofs.Common.{◌≡◌, ◌∙◌, ◌+◌, ◌<◌, ap, sym, subst, ◌++◌, ◌∷◌, [], List, ℕ, OnOk, map, codes, take, get_or, length, arith, Bor}
use Rattle.std.proofs.lemmas.List.{map-append, map_more, take_all}
use Rattle.jp_model.specs.Rows.{line_feed}
use Rattle.jp_table.specs.Cells.{Cell, bare_cell}
use Rattle.jp_table.specs.Held.{Holds, row_bytes}
use Rattle.jp_table.specs.Tables.{joined}
use Rattle.jp_tally.proofs.text.make_names.Goals as goal

pub loop-name-preserved : goal.loop-name-preserved
loop-name-preserved c =
    let names = c.args.names.now in let i = c.loop-name.name-index in
    let d : Bor (List ℕ) = record { ref_ptr = (0, 0); now = [] } in
    let now = λ (name : Bor (List ℕ)). name.now in
    let front = bare_cell (codes "count") ∷ map bare_cell (map now (take i names)) in
    let within : i < length names = omega arith in
    let all : map now (take (i + 1) names) ≡ map now (take i names) ++ (get_or names i d).now ∷ [] = map_more now names i d within in
    let cells : map bare_cell (map now (take (i + 1) names)) ≡ map bare_cell (map now (take i names)) ++ bare_cell c.as_bytes.result.now ∷ [] =
    ap (map bare_cell) all ∙ (map-append bare_cell (map now (take i names)) ((get_or names i d).now ∷ [])
    ∙ ap (λ b. map bare_cell (map now (take i names)) ++ bare_cell b ∷ []) (sym c.as_bytes.ensures.value)) in
    subst (λ (l : List Cell). Holds c.args.table c.add.new.self (bare_cell (codes "count") ∷ l)) (sym cells) (c.in_ok-add.ensures front c.loop-name.invariant)

pub returns : goal.returns
returns c =
    let names = c.args.names.now in let i = c.loop-name.name-index in
    let now = λ (name : Bor (List ℕ)). name.now in
    let front = λ (l : List (Bor (List ℕ))). bare_cell (codes "count") ∷ map bare_cell (map now l) in
    subst (λ (l : List (Bor (List ℕ))). OnOk c.end.result (row_bytes c.end.new.self ≡ joined c.args.table (front l) ++ line_feed)) (take_all i names (omega arith))
    (c.end.ensures c.args.table (front (take i names)) c.loop-name.invariant)
