-- The member of each name is found.
use Rattle.std.proofs.Common.{◌≡◌, ◌∙◌, List, [], All, IfSome, None, Option, ap, arith, get_or, length, map, sym, ℕ}
use Rattle.std.proofs.lemmas.List.{get_or-map, length-map}
use Rattle.std.proofs.lemmas.List.Elements.{All-get_or}
use Rattle.jp_children.specs.Found.{node_list}
use Rattle.jp_columns.specs.Columns.{names_of}
use Rattle.jp_model.specs.Meaning.Nodes.{Node}
use Rattle.jp_model.specs.Meaning.Slices.{named}
use Rattle.jp_nodes.specs.Cursors.{line_of, node_of}
use Rattle.jp_nodes.specs.declared.cursor.Cursor.{Cursor}
use Rattle.jp_grep.specs.Members.{AreMembers}
use Rattle.jp_grep.proofs.first_names.find_members.Goals as goal

are_members : (names : List (List ℕ)) (node : Node) (line : List ℕ) (found : List (Option Cursor)) → map node_list found ≡ map (λ name. named name node) names
    → All (λ some. IfSome some (λ c. line_of c ≡ line)) found → AreMembers names node line found
are_members names node line found same lines index within =
    let count : length found ≡ length names = sym (length-map found node_list) ∙ (ap length same ∙ length-map names (λ name. named name node)) in (
      sym (get_or-map node_list found index None [] within) ∙ (ap (λ l. get_or l index []) same ∙ get_or-map (λ name. named name node) names index [] [] (omega (arith, within, count))),
      All-get_or (λ some. IfSome some (λ c. line_of c ≡ line)) found index None within lines,
    )

pub returns : goal.returns
returns c = are_members (names_of c.args.names.now) (node_of c.args.node) (line_of c.args.node) c.find.new.found.items c.in_ok-find.ensures.nodes c.in_ok-find.ensures.lines
