-- What the states answer is what the pattern's set says.
use Rattle.std.proofs.Common.{◌≡◌, ◌↔◌, Bool, ℕ, List, true, IsTrue}
use Rattle.jp_model.specs.Pattern.Tree.{Pattern}
use Rattle.jp_model.specs.Pattern.Language.{Language, Occurs}
use Rattle.jp_model.specs.Pattern.Membership.{is_in, occurs_in}
use Rattle.jp_model.proofs.Pattern.Decides.{decides}
use Rattle.jp_model.proofs.Pattern.Occurrences.{occurrence_decided}
use Rattle.jp_iregexp.proofs.Asked.{same_test}

pub answers_match : (Member : List ℕ → Type 0) (r : Pattern) (text : List ℕ) (answer : Bool) → ((x : List ℕ) → Member x ↔ Language r x) → IsTrue answer ↔ Member text → answer ≡ is_in r text
answers_match Member r text answer same h =
    let found : (answer ≡ true) ↔ Language r text = (λ t. (same text).0 (h.0 t), λ m. h.1 ((same text).1 m)) in
    same_test answer (is_in r text) (Language r text) found (decides r text)

other_member : (First Second : List ℕ → Type 0) (text : List ℕ) → ((x : List ℕ) → First x → Second x) → Occurs First text → Occurs Second text
other_member First Second text f o = record { before = o.before; inside = o.inside; after = o.after; is = o.is; member = f o.inside o.member }

pub answers_search : (Member : List ℕ → Type 0) (r : Pattern) (text : List ℕ) (answer : Bool) → ((x : List ℕ) → Member x ↔ Language r x) → IsTrue answer ↔ Occurs Member text → answer ≡ occurs_in r text
answers_search Member r text answer same h =
    let found : (answer ≡ true) ↔ Occurs (Language r) text = (λ t. other_member Member (Language r) text (λ x. (same x).0) (h.0 t), λ m. h.1 (other_member (Language r) Member text (λ x. (same x).1) m)) in
    same_test answer (occurs_in r text) (Occurs (Language r) text) found (occurrence_decided r text)
