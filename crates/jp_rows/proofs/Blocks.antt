-- The last bytes of a block.
use Rattle.std.proofs.Common.{◌≡◌, ℕ, ◌+◌, ◌-◌, ◌≤◌, List, take, drop, ◌∙◌, ap, arith}
use Rattle.std.proofs.lemmas.List.{drop-take, drop-drop}
use Rattle.jp_model.specs.Json.Places.{bytes_between}

-- of a block of a line
pub last_between : (line : List ℕ) (start stop : ℕ) → start ≤ stop → 16 ≤ stop → stop - start ≤ 16 → drop (16 - (stop - start)) (bytes_between line (stop - 16) stop) ≡ bytes_between line start stop
last_between line start stop order far short =
    let more : ℕ = 16 - (stop - start) in
    let size : ℕ = stop - start in
    let all : stop - (stop - 16) ≡ more + size = omega arith in
    let there : (stop - 16) + more ≡ start = omega arith in
    ap (λ n. drop more (take n (drop (stop - 16) line))) all ∙ (drop-take more size (drop (stop - 16) line) ∙ ap (λ l. take size l) (drop-drop more (stop - 16) line ∙ ap (λ n. drop n line) there))
