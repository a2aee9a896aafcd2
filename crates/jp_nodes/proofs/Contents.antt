-- What names, strings and numbers say, by their bytes.
use Rattle.std.proofs.Common.{◌≡◌, ℕ, ◌+◌, ◌-◌, ◌<◌, ◌≤◌, true, false, List, length, drop, length-drop, sym, ◌∙◌, ap, ap₂, subst, refl, arith, ℤ, Option, Some, None, Result, Ok, Err}
use Rattle.std.specs.Prelude.{IfSome, option_map}
use Rattle.std.specs.Result.{MatchResult, result_ok}
use Rattle.std.proofs.lemmas.List.{length-take}
use Rattle.jp_model.specs.declared.Span.{Span}
use Rattle.jp_model.specs.Json.Tree.{Value, null, boolean, number, string, container, array, object, Tree, node, Name, span, value_of}
use Rattle.jp_model.specs.Json.Places.{bytes_between}
use Rattle.jp_model.specs.Json.Numbers.{SpellsNumber, numeral_of, is_long_exponent, mantissa, scale}
use Rattle.jp_model.specs.Json.Strings.{SpellsBody, has_lone_surrogate}
use Rattle.jp_model.specs.Json.Spelling.{Spells, SpellsValue}
use Rattle.jp_model.specs.Json.Faults.{has_surrogate, has_long_exponent}
use Rattle.jp_model.specs.Rows.{source as source_of}
use Rattle.jp_model.proofs.Reader.Numbers.{parts_read}
use Rattle.jp_model.proofs.Reader.Lexical.{clash}
use Rattle.jp_decimal.specs.declared.decimal.Decimal.{Decimal}
use Rattle.jp_decimal.specs.Decimals.{number_of}
use Rattle.jp_decimal.specs.Values.{Number}
use Rattle.jp_decimal.specs.Reading.{ReadsAs, RefusesNumber}
use Rattle.jp_decimal.specs.declared.fault.NumberFault.{NumberFault}
use Rattle.jp_decimal.specs.declared.fault.NumberFault.TheVariants.{Shape, Exponent}
use Rattle.jp_strings.specs.Points.{IsText, points_of}
use Rattle.jp_strings.proofs.Slices.{text_of_slice, points_of_slice}
use Rattle.jp_nodes.specs.declared.Kind.{Kind}
use Rattle.jp_nodes.specs.declared.Kind.TheVariants as kinds
use Rattle.jp_nodes.specs.Kinds.{kind_of}
use Rattle.jp_nodes.specs.Contents.{text_in, number_in}

-- ---- by the kind

pub text_kind : (v : Value) → kind_of v ≡ kinds.Text → (points : List ℕ) × (v ≡ string points)
text_kind null h = absurd (cc)
text_kind (boolean true) h = absurd (cc)
text_kind (boolean false) h = absurd (cc)
text_kind (number m e) h = absurd (cc)
text_kind (string points) h = (points, refl)
text_kind (container array children) h = absurd (cc)
text_kind (container object children) h = absurd (cc)

pub number_kind : (v : Value) → kind_of v ≡ kinds.Number → (m e : ℤ) × (v ≡ number m e)
number_kind null h = absurd (cc)
number_kind (boolean true) h = absurd (cc)
number_kind (boolean false) h = absurd (cc)
number_kind (number m e) h = (m, e, refl)
number_kind (string points) h = absurd (cc)
number_kind (container array children) h = absurd (cc)
number_kind (container object children) h = absurd (cc)

-- ---- a body of the line by itself

pub record BodyIs (body points : List ℕ) : Type 0 where
  pub points_are : points_of body ≡ points
  pub text : IsText body

pub body_is : (line points : List ℕ) (from to : ℕ) → to ≤ length line → SpellsBody line from to points → has_lone_surrogate points ≡ false → BodyIs (bytes_between line from to) points
body_is line points from to w s h = record { points_are = points_of_slice line points from to w s; text = text_of_slice line points from to w s h }

pub record NameIs (body : List ℕ) (name : Option Name) : Type 0 where
  pub points_are : Some (points_of body) ≡ option_map (λ (n : Name). n.points) name
  pub text : IsText body

-- the body of a name
pub name_body : (line : List ℕ) (name : Option Name) (s : Span) → Some s ≡ option_map (λ (n : Name). n.body) name → IfSome name (λ n. SpellsBody line n.body.start n.body.end n.points) → IfSome name (λ n. has_lone_surrogate n.points ≡ false) → s.end < length line → (own : List ℕ) → own ≡ line →
    NameIs (bytes_between own s.start s.end) name
name_body line None s e spells whole w own l = absurd (cc)
name_body line (Some n) s e spells whole w own l =
    let same : n.body ≡ s = cc in
    let end = ap (λ (x : Span). x.end) same in
    let found = body_is line n.points n.body.start n.body.end (omega (arith, w, end)) spells whole in
    subst (λ (x : List ℕ). NameIs (bytes_between x s.start s.end) (Some n)) (sym l)
    (subst (λ (x : Span). NameIs (bytes_between line x.start x.end) (Some n)) same (record { points_are = ap (λ (ps : List ℕ). Some ps) found.points_are; text = found.text }))

-- the body of a string stands between its quotes
pub string_body : (line : List ℕ) (t : Tree) (points : List ℕ) → value_of t ≡ string points → (span t).end ≤ length line → Spells line t → has_surrogate t ≡ false →
    BodyIs (bytes_between line ((span t).start + 1) ((span t).end - 1)) points
string_body line (node s v) points e w h whole = by v e h whole
  where
    by : (v : Value) → v ≡ string points → SpellsValue line s v → has_surrogate (node s v) ≡ false → BodyIs (bytes_between line (s.start + 1) (s.end - 1)) points
    by null e h whole = absurd (cc)
    by (boolean b) e h whole = absurd (cc)
    by (number m f) e h whole = absurd (cc)
    by (container kind children) e h whole = absurd (cc)
    by (string own) e h whole =
        let same : own ≡ points = cc in
        let end = h.end in
        let last : h.last ≡ s.end - 1 = omega (arith, end) in
        subst (λ (ps : List ℕ). BodyIs (bytes_between line (s.start + 1) (s.end - 1)) ps) same
        (subst (λ n. BodyIs (bytes_between line (s.start + 1) n) own) last (body_is line own (s.start + 1) h.last (omega (arith, w, end)) h.body whole))

-- what stands within the span of a node that is a string
pub text_body : (line : List ℕ) (t : Tree) (k : Kind) (s : Span) (whole_line : List ℕ) → k ≡ kind_of (value_of t) → k ≡ kinds.Text → s ≡ span t → whole_line ≡ line → (span t).end ≤ length line → Spells line t → has_surrogate t ≡ false →
    (Some (points_of (bytes_between whole_line (s.start + 1) (s.end - 1))) ≡ text_in (value_of t)) × IsText (bytes_between whole_line (s.start + 1) (s.end - 1))
text_body line t k s whole_line e is at l w spells whole =
    let v = text_kind (value_of t) (sym e ∙ is) in
    let found = string_body line t v.0 v.1 w spells whole in
    let same : bytes_between whole_line (s.start + 1) (s.end - 1) ≡ bytes_between line ((span t).start + 1) ((span t).end - 1) = ap₂ (λ (x : List ℕ) (y : Span). bytes_between x (y.start + 1) (y.end - 1)) l at in (
      ap (λ (b : List ℕ). Some (points_of b)) same ∙ (ap (λ (ps : List ℕ). Some ps) found.points_are ∙ ap text_in (sym v.1)),
      subst (λ (b : List ℕ). IsText b) (sym same) found.text,
    )

-- ---- the bytes of a number

-- the bytes are read, and as this
pub record NumberIs (bytes : List ℕ) (x : Number) : Type 0 where
  pub value : (y : Number) → ReadsAs bytes y → y ≡ x
  pub read : (fault : NumberFault) → RefusesNumber bytes fault → ⊥

number_spelled : (line : List ℕ) (from to : ℕ) (m e : ℤ) → SpellsNumber line from to m e → is_long_exponent (numeral_of (bytes_between line from to)) ≡ false → NumberIs (bytes_between line from to) (record { mantissa = m; scale = e })
number_spelled line from to m e s short =
    record { value = value; read = read }
  where
    value : (y : Number) → ReadsAs (bytes_between line from to) y → y ≡ record { mantissa = m; scale = e }
    value y r =
        let same : r.numeral ≡ s.numeral = sym r.spells.only ∙ (ap numeral_of s.bytes.are ∙ parts_read s.numeral s.correct) in
        ap₂ (λ (a b : ℤ). record { mantissa = a; scale = b }) (sym r.is_mantissa ∙ (ap mantissa same ∙ s.is_mantissa)) (sym r.is_scale ∙ (ap scale same ∙ s.is_scale))

    read : (fault : NumberFault) → RefusesNumber (bytes_between line from to) fault → ⊥
    read Shape r = r s.numeral s.correct (sym s.bytes.are)
    read Exponent r = clash _ r.long (sym (ap is_long_exponent r.spells.only) ∙ short)

pub number_bytes : (line : List ℕ) (t : Tree) (m e : ℤ) → value_of t ≡ number m e → Spells line t → has_long_exponent line t ≡ false → NumberIs (bytes_between line (span t).start (span t).end) (record { mantissa = m; scale = e })
number_bytes line (node s v) m e h spells short = by v h spells short
  where
    by : (v : Value) → v ≡ number m e → SpellsValue line s v → has_long_exponent line (node s v) ≡ false → NumberIs (bytes_between line s.start s.end) (record { mantissa = m; scale = e })
    by null h spells short = absurd (cc)
    by (boolean b) h spells short = absurd (cc)
    by (string points) h spells short = absurd (cc)
    by (container kind children) h spells short = absurd (cc)
    by (number n f) h spells short =
        let same : (let x : Number = record { mantissa = n; scale = f } in x) ≡ record { mantissa = m; scale = e } = cc in
        subst (λ (x : Number). NumberIs (bytes_between line s.start s.end) x) same (number_spelled line s.start s.end n f spells short)

pub number_read : (bytes : List ℕ) (x : Number) (r : Result Decimal NumberFault) → NumberIs bytes x → MatchResult r (λ y. ReadsAs bytes (number_of y)) (RefusesNumber bytes) → option_map number_of (result_ok r) ≡ Some x
number_read bytes x (Ok y) n m = ap (λ (z : Number). Some z) (n.value (number_of y) m)
number_read bytes x (Err f) n m = absurd (n.read f m)

-- what a number's source is read as
pub source_read : (line source : List ℕ) (t : Tree) (k : Kind) (r : Result Decimal NumberFault) → k ≡ kind_of (value_of t) → k ≡ kinds.Number → source ≡ source_of line t → Spells line t → has_long_exponent line t ≡ false → MatchResult r (λ y. ReadsAs source (number_of y)) (RefusesNumber source) →
    option_map number_of (result_ok r) ≡ number_in (value_of t)
source_read line source t k r e is s spells short m =
    let v = number_kind (value_of t) (sym e ∙ is) in
    let bytes = number_bytes line t v.0 v.1 v.2 spells short in
    number_read source _ r (subst (λ (b : List ℕ). NumberIs b (record { mantissa = v.0; scale = v.1 })) (sym s) bytes) m ∙ ap number_in (sym v.2)

-- ---- sizes

pub part_short : (line : List ℕ) (from to : ℕ) → length (bytes_between line from to) ≤ length line
part_short line from to =
    let a = length-take (to - from) (drop from line) in
    let d = length-drop from line in
    omega (arith, a, d)

pub source_short : (line : List ℕ) (t : Tree) → length (source_of line t) ≤ length line
source_short line t = part_short line (span t).start (span t).end

-- ---- back from what is said

pub text_is : (v : Value) (points : List ℕ) → text_in v ≡ Some points → v ≡ string points
text_is null points h = absurd (cc)
text_is (boolean b) points h = absurd (cc)
text_is (number m e) points h = absurd (cc)
text_is (string own) points h = let same : own ≡ points = cc in ap (λ (ps : List ℕ). string ps) same
text_is (container kind children) points h = absurd (cc)

pub number_is : (v : Value) (x : Number) → number_in v ≡ Some x → v ≡ number x.mantissa x.scale
number_is null x h = absurd (cc)
number_is (boolean b) x h = absurd (cc)
number_is (number m e) x h =
    let same : (let y : Number = record { mantissa = m; scale = e } in y) ≡ x = cc in
    ap (λ (y : Number). number y.mantissa y.scale) same
number_is (string own) x h = absurd (cc)
number_is (container kind children) x h = absurd (cc)
