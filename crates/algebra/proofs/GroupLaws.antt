-- What an algebra describes by things it describes by the groups of their numbers, where each group is that of one thing.
use Rattle.std.proofs.Common.{◌≡◌, ℕ, [], ◌∷◌, length, get_or, ℤ, pos, ◌<ℤ◌, Some, sym, refl, ◌∙◌, arith}
use Rattle.algebra.specs.Meaning.{Meaning}
use Rattle.algebra.specs.Things.{Relation, Describes}
use Rattle.algebra.specs.Instants.{instants, InstantsStand}
use Rattle.algebra.specs.Spans.{spans, Span, SpansStand}
use Rattle.algebra.specs.Timed.{Group, IsThing, GroupsStand, Measured, Reads}
use Rattle.algebra.specs.Timed.{instant_numbers, InstantGroup, InstantGroupsStand, span_numbers, SpanGroup, SpanGroupsStand}
use Rattle.algebra.specs.InstantLaws.{instants_describe}
use Rattle.algebra.specs.SpanLaws.{spans_describe}

module _ (m : Meaning) (Thing : Type 0) (Stand : ℕ → Relation Thing) (d : Describes m Thing Stand) (numbers : Thing → Group)
    (one : (x y : Thing) → numbers x ≡ numbers y → x ≡ y) where
  -- the readings that stand between two groups stand between the same things
  agree : (a : ℕ) (g h : Group) (x y : Thing) → g ≡ numbers x → h ≡ numbers y → GroupsStand numbers Stand a g h → Stand a x y
  agree a g h x y p q (u, v, e, f, s) =
      rw (one x u (sym p ∙ e), one y v (sym q ∙ f)) s

  measured : (size : ℕ) → ((x : Thing) → length (numbers x) ≡ size) →
      Measured m size (IsThing numbers) (GroupsStand numbers Stand)
  measured size long = record {
    sized = λ g (x, e). rw e (long x);
    reading = λ a g h (x, y, e, f, s). d.reading a x y s;
    between = λ g h (x, e) (y, f). let (a, s) = d.between x y in (a, (x, y, e, f, s));
    only = λ a b g h (x, y, e, f, s) t. d.only a b x y s (agree b g h x y e f t);
    converse = λ a g h (x, y, e, f, s). (y, x, f, e, d.converse a x y s);
    composition = λ a b c g h k (x, y, e, f, s) t u.
        let (y', z, p, q, t') = t in
        let s' = agree b h k y z f q t in
        (d.composition a b c (d.reading a x y s) (d.reading b y z s')).1 (x, y, z, s, s', agree c g k x z e q u);
  }

pub instants_measured : Measured instants 1 InstantGroup InstantGroupsStand
instants_measured = measured instants ℤ InstantsStand instants_describe instant_numbers (λ x y e. cc) 1 (λ x. refl)

pub spans_measured : Measured spans 2 SpanGroup SpanGroupsStand
spans_measured =
    measured spans Span SpansStand spans_describe span_numbers (λ x y e. (spans_describe.identity x y).0 (cc, cc)) 2
    (λ x. refl)

-- ---- by the numbers

pub instant_group : (g : Group) → length g ≡ 1 → g ≡ instant_numbers (get_or g 0 (pos 0))
instant_group [] e = absurd (omega arith)
instant_group (p ∷ []) e = refl
instant_group (p ∷ q ∷ g) e = absurd (omega arith)

two_numbers : (g : Group) → length g ≡ 2 → g ≡ get_or g 0 (pos 0) ∷ get_or g 1 (pos 0) ∷ []
two_numbers [] e = absurd (omega arith)
two_numbers (p ∷ []) e = absurd (omega arith)
two_numbers (p ∷ q ∷ []) e = refl
two_numbers (p ∷ q ∷ r ∷ g) e = absurd (omega arith)

pub span_group : (g : Group) → length g ≡ 2 → get_or g 0 (pos 0) <ℤ get_or g 1 (pos 0) → SpanGroup g
span_group g e l = (record { start = get_or g 0 (pos 0); end = get_or g 1 (pos 0); ordered = l }, two_numbers g e)

pub span_rises : (g : Group) → SpanGroup g → get_or g 0 (pos 0) <ℤ get_or g 1 (pos 0)
span_rises g (x, e) = rw e x.ordered

-- a reading that stands between two groups is what is read from one to the other
reads : (m : Meaning) (size : ℕ) (Thing : Group → Type 0) (Stand : ℕ → Relation Group) → Measured m size Thing Stand →
    (g h : Group) (a : ℕ) → Thing g → Thing h → Stand a g h → Reads m Thing Stand g h (Some a)
reads m size Thing Stand d g h a t u s = (
  t,
  u,
  record {
    reading = d.reading a g h s;
    stands = s;
    only = λ b t. d.only b a g h t s;
    converse = d.converse a g h s;
  },
)

pub instant_reads : (g h : Group) (a : ℕ) → InstantGroup g → InstantGroup h →
    InstantsStand a (get_or g 0 (pos 0)) (get_or h 0 (pos 0)) → Reads instants InstantGroup InstantGroupsStand g h (Some a)
instant_reads g h a (p, e) (q, f) s =
    reads instants 1 InstantGroup InstantGroupsStand instants_measured g h a (p, e) (q, f) (p, q, e, f, rw (e, f) at s)

pub span_reads : (g h : Group) (a : ℕ) → SpanGroup g → SpanGroup h →
    ((x y : Span) → x.start ≡ get_or g 0 (pos 0) → x.end ≡ get_or g 1 (pos 0) →
    y.start ≡ get_or h 0 (pos 0) → y.end ≡ get_or h 1 (pos 0) → SpansStand a x y) →
    Reads spans SpanGroup SpanGroupsStand g h (Some a)
span_reads g h a (x, e) (y, f) s =
    reads spans 2 SpanGroup SpanGroupsStand spans_measured g h a (x, e) (y, f)
    (x, y, e, f, s x y (rw e) (rw e) (rw f) (rw f))
