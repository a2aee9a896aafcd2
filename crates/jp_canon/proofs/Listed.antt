-- Members listed one by one, in the order of the line.
use Rattle.std.proofs.Common.{◌≡◌, ℕ, ◌≤◌, List, [], ◌∷◌, ◌++◌, map, refl, sym, ◌∙◌, ap, ap₂, arith, append-nil, append_assoc, Option, Some, None}
use Rattle.std.specs.Prelude.{option_map, All}
use Rattle.std.proofs.lemmas.List.{map-append}
use Rattle.std.proofs.lemmas.List.Elements.{All-append, All-cons, All-nil}
use Rattle.jp_canon.specs.Canonical as canonical
use Rattle.jp_canon.specs.Canonical.{canonical_text, string_text, member_texts}
use Rattle.jp_values.specs.declared.member.Member.{Member}
use Rattle.jp_values.specs.ByName.{points}
use Rattle.jp_canon.specs.Members.{with_text, IsWithin, AppendsMembers}
use Rattle.jp_model.specs.Json.Tree.{Tree, Children, no_child, child, Name}
use Rattle.jp_nodes.specs.declared.cursor.Cursor.{Cursor}
use Rattle.jp_nodes.specs.Cursors.{node_of, name_of, children_from, children_after}
use Rattle.jp_nodes.specs.Words.{node_count, children_node_count}

-- the members in front of the rest were listed
pub record Listed (old now : List Member) (rest whole : Children) : Type 0 where
  pub part : List Member
  pub all : now ≡ old ++ part
  pub are : map with_text part ++ member_texts rest ≡ member_texts whole
  pub within : All (IsWithin whole) part
  pub fewer : children_node_count rest ≤ children_node_count whole

none_within : (whole : Children) → All (IsWithin whole) []
none_within whole = All-nil (IsWithin whole)

pub listed_none : (old : List Member) (rest whole : Children) → rest ≡ whole → Listed old old rest whole
listed_none old rest whole e = record {
  part = [];
  all = sym (append-nil old);
  are = ap member_texts e;
  within = none_within whole;
  fewer = omega (arith, ap children_node_count e);
}

first_text : (name : Option Name) (t : Tree) (more : Children) (m : Member) → Some (points m) ≡ option_map (λ (n : Name). n.points) name → (node_of m.node).tree ≡ t → member_texts (child name t more) ≡ with_text m ∷ member_texts more
first_text None t more m e f = absurd (cc)
first_text (Some n) t more m e f =
    let same : n.points ≡ points m = cc in
    ap₂ (λ (p : List ℕ) (u : Tree). record { name = p; text = string_text p ++ 0x3A ∷ canonical_text u } ∷ member_texts more) same (sym f)

no_text : (name : Option Name) (t : Tree) (more : Children) → None ≡ option_map (λ (n : Name). n.points) name → member_texts (child name t more) ≡ member_texts more
no_text None t more e = refl
no_text (Some n) t more e = absurd (cc)

pub listed_named : (old now : List Member) (c : Cursor) (m : Member) (whole : Children) → m.node ≡ c → Some (points m) ≡ option_map (λ (n : Name). n.points) (name_of c) →
    Listed old now (children_from (Some c)) whole → Listed old (now ++ m ∷ []) (children_after c) whole
listed_named old now c m whole n e g =
    let tree : (node_of m.node).tree ≡ (node_of c).tree = ap (λ (x : Cursor). (node_of x).tree) n in
    let count = ap node_count tree in
    let fewer = g.fewer in
    record {
      part = g.part ++ m ∷ [];
      all = ap (λ (ms : List Member). ms ++ m ∷ []) g.all ∙ append_assoc old g.part (m ∷ []);
      are = ap (λ (t : List canonical.Member). t ++ member_texts (children_after c)) (map-append with_text g.part (m ∷ []))
          ∙ (append_assoc (map with_text g.part) (with_text m ∷ []) (member_texts (children_after c))
          ∙ (ap (λ (t : List canonical.Member). map with_text g.part ++ t) (sym (first_text (name_of c) (node_of c).tree (children_after c) m e tree)) ∙ g.are));
      within = All-append (IsWithin whole) g.part (m ∷ []) g.within (All-cons (IsWithin whole) m [] (omega (arith, count, fewer)) (none_within whole));
      fewer = omega (arith, fewer);
    }

pub listed_nameless : (old now : List Member) (c : Cursor) (whole : Children) → None ≡ option_map (λ (n : Name). n.points) (name_of c) →
    Listed old now (children_from (Some c)) whole → Listed old now (children_after c) whole
listed_nameless old now c whole e g =
    let fewer = g.fewer in
    record {
      part = g.part;
      all = g.all;
      are = ap (λ (t : List canonical.Member). map with_text g.part ++ t) (sym (no_text (name_of c) (node_of c).tree (children_after c) e)) ∙ g.are;
      within = g.within;
      fewer = omega (arith, fewer);
    }

pub listed_all : (old now : List Member) (rest whole : Children) → rest ≡ no_child → Listed old now rest whole → AppendsMembers old now whole
listed_all old now rest whole e g = record {
  part = g.part;
  all = g.all;
  are = sym (append-nil (map with_text g.part)) ∙ (ap (λ (r : Children). map with_text g.part ++ member_texts r) (sym e) ∙ g.are);
  within = g.within;
}
