-- The script that commands make, as they are joined.
use Rattle.std.proofs.Common.{ap, append_assoc, refl, List, [], ◌∷◌, ◌++◌, ◌≡◌, ◌∙◌, map, flat_map, length, Option}
use Rattle.std.specs.List.{join_by}
use Rattle.std.specs.String.{string_bytes}
use denote.Ref.{Bor}
use Rattle.clap.specs.Words.{Text}
use Rattle.jp_cli.specs.Sources.{IsScriptOf, script_of}
use Rattle.jp_cli.specs.declared.sources.ScriptSource.TheVariants.{Commands}
use Rattle.std.specs.declared.string.String.{String}
use Rattle.std.specs.declared.alloc.Global.{Global}

others_end : (xs : List (Bor Text)) → flat_map (λ y. 0x0A ∷ y.now) xs ++ 0x0A ∷ [] ≡ 0x0A ∷ script_of (map (λ s. s.now) xs)
others_end [] = refl
others_end (x ∷ xs) = ap (λ t. 0x0A ∷ t) (append_assoc x.now (flat_map (λ y. 0x0A ∷ y.now) xs) (0x0A ∷ []) ∙ ap (λ t. x.now ++ t) (others_end xs))

-- commands that are joined by line feeds, with one after the last
pub joined : (x : Bor Text) (xs : List (Bor Text))
    → join_by (λ s. s.now) (0x0A ∷ []) (x ∷ xs) ++ 0x0A ∷ [] ≡ script_of (map (λ s. s.now) (x ∷ xs))
joined x xs = append_assoc x.now (flat_map (λ y. 0x0A ∷ y.now) xs) (0x0A ∷ []) ∙ ap (λ t. x.now ++ t) (others_end xs)

-- so the joined commands are the script, where there is one
pub script_joined : (file : Option Text) (xs : List (Bor Text)) (joint script : String Global) → (length xs ≡ 0 → ⊥)
    → string_bytes joint ≡ join_by (λ s. s.now) (0x0A ∷ []) xs → string_bytes script ≡ string_bytes joint ++ 0x0A ∷ []
    → IsScriptOf file (map (λ s. s.now) xs) (Commands script)
script_joined file [] joint script some first last = absurd (some refl)
script_joined file (x ∷ xs) joint script some first last = last ∙ ap (λ t. t ++ 0x0A ∷ []) first ∙ joined x xs
