-- Spans describe pairs of whole numbers, the start smaller than the end.
use Rattle.std.specs.Prelude.{◌≡◌, ℕ, zero, suc, ◌+◌, ◌^◌, ◌<◌, Bool, true, false, ◌&&◌, T, List, [], ◌∷◌, length, ℤ, pos, ◌<ℤ◌, ◌==◌, int_lt, nat_lt, slice_index_or, refl}
use Rattle.std.proofs.Common.{sym, ap, ◌∙◌, subst, inl, inr, arith, lit<}
use Rattle.std.proofs.lemmas.Int.{ints}
use Rattle.std.proofs.lemmas.Bool.{and_parts, and_from, eqb-true, eq-eqb, ltb-true}
use Rattle.algebra.specs.Masks.{has}
use Rattle.algebra.specs.Meaning.{Lawful, Reading}
use Rattle.algebra.specs.Things.{Relation, nth, Describes, DescribesSets}
use Rattle.algebra.specs.Tables.{composed}
use Rattle.algebra.specs.Instants.{InstantsStand, instant_compositions}
use Rattle.algebra.specs.Spans.{Span, SpansStand, span_relations, spans, span_compositions}
use Rattle.algebra.specs.Bits.{has_below}
use Rattle.algebra.specs.Tests.{all, all_at, Each, each_at, if_so, so}
use Rattle.algebra.specs.InstantLaws.{trichotomy, pick, stand_pick, pick_stand, composes, count}
use Rattle.algebra.specs.ThingLaws.{thing_laws, describes_sets}

-- ---- a reading is how the ends of the two spans stand: start to start, start to end, end to start, end to end

abbrev ss : ℕ → ℕ
ss r = slice_index_or (0 ∷ 1 ∷ 2 ∷ 1 ∷ 2 ∷ 1 ∷ 2 ∷ 0 ∷ 0 ∷ 2 ∷ 1 ∷ 2 ∷ 1 ∷ []) r 3

abbrev se : ℕ → ℕ
se r = slice_index_or (1 ∷ 1 ∷ 2 ∷ 1 ∷ 0 ∷ 1 ∷ 1 ∷ 1 ∷ 1 ∷ 1 ∷ 1 ∷ 1 ∷ 1 ∷ []) r 3

abbrev es : ℕ → ℕ
es r = slice_index_or (2 ∷ 1 ∷ 2 ∷ 0 ∷ 2 ∷ 2 ∷ 2 ∷ 2 ∷ 2 ∷ 2 ∷ 2 ∷ 2 ∷ 2 ∷ []) r 3

abbrev ee : ℕ → ℕ
ee r = slice_index_or (0 ∷ 1 ∷ 2 ∷ 1 ∷ 2 ∷ 1 ∷ 2 ∷ 1 ∷ 2 ∷ 1 ∷ 2 ∷ 0 ∷ 0 ∷ []) r 3

abbrev ByEnds : ℕ → Span → Span → Type 0
ByEnds r x y =
    InstantsStand (ss r) x.start y.start × InstantsStand (se r) x.start y.end
    × InstantsStand (es r) x.end y.start × InstantsStand (ee r) x.end y.end

abbrev SaidByEnds : ℕ → Type 0
SaidByEnds n = (x y : Span) → (SpansStand n x y → ByEnds n x y) × (ByEnds n x y → SpansStand n x y)

said_by_ends : Each SaidByEnds 13
said_by_ends = (
  omega (arith, ints),
  (
    omega (arith, ints),
    (
      omega (arith, ints),
      (
        omega (arith, ints),
        (
          omega (arith, ints),
          (
            omega (arith, ints),
            (
              omega (arith, ints),
              (
                omega (arith, ints),
                (
                  omega (arith, ints),
                  (
                    omega (arith, ints),
                    (omega (arith, ints), (omega (arith, ints), (omega (arith, ints), tt))),
                  ),
                ),
              ),
            ),
          ),
        ),
      ),
    ),
  ),
)

to_ends : (r : ℕ) (x y : Span) → r < 13 → SpansStand r x y → ByEnds r x y
to_ends r x y h s = (each_at SaidByEnds 13 said_by_ends r h x y).0 s

from_ends : (r : ℕ) (x y : Span) → r < 13 → ByEnds r x y → SpansStand r x y
from_ends r x y h s = (each_at SaidByEnds 13 said_by_ends r h x y).1 s

nth_below : (rs : List (Relation Span)) (k : ℕ) (x y : Span) → nth rs k x y → k < length rs
nth_below [] k x y h = absurd h
nth_below (r ∷ rs) zero x y h = omega arith
nth_below (r ∷ rs) (suc k) x y h = let i = nth_below rs k x y h in omega arith

stand_below : (a : ℕ) (x y : Span) → SpansStand a x y → a < 13
stand_below a x y h = nth_below span_relations a x y h

-- ---- exactly one reading stands

between : (x y : Span) → (a : ℕ) × SpansStand a x y
between x y = elim (trichotomy x.end y.start) [
  | inl e ↦ (3, e)
  | inr o ↦ elim o [
    | inl l ↦ (1, l)
    | inr g ↦ elim (trichotomy y.end x.start) [
      | inl e ↦ (4, e)
      | inr o ↦ elim o [ inl l ↦ (2, l) | inr l ↦ sharing g l ]
    ]
  ]
]
  where
    -- the two share more than an end
    sharing : y.start <ℤ x.end → x.start <ℤ y.end → (a : ℕ) × SpansStand a x y
    sharing g l = elim (trichotomy x.start y.start) [
      | inl s ↦ elim (trichotomy x.end y.end) [
        | inl e ↦ (0, (s, e))
        | inr o ↦ elim o [ inl e ↦ (7, (s, e)) | inr e ↦ (8, (sym s, e)) ]
      ]
      | inr o ↦ elim o [
        | inl s ↦ elim (trichotomy x.end y.end) [
          | inl e ↦ (12, (s, sym e))
          | inr o ↦ elim o [ inl e ↦ (5, (s, g, e)) | inr e ↦ (10, (s, e)) ]
        ]
        | inr s ↦ elim (trichotomy x.end y.end) [
          | inl e ↦ (11, (s, e))
          | inr o ↦ elim o [ inl e ↦ (9, (s, e)) | inr e ↦ (6, (s, l, e)) ]
        ]
      ]
    ]

same_ends : ℕ → ℕ → Bool
same_ends a b = (ss a == ss b && se a == se b) && (es a == es b && ee a == ee b)

told_apart : all 13 (λ a. all 13 (λ b. if_so (same_ends a b) (a == b))) ≡ true
unfolding all same_ends
told_apart = refl

one_end : (a b : ℕ) (p q : ℤ) → InstantsStand a p q → InstantsStand b p q → (a == b) ≡ true
one_end a b p q s t = eq-eqb a b (sym (stand_pick a p q s) ∙ stand_pick b p q t)

only : (a b : ℕ) (x y : Span) → SpansStand a x y → SpansStand b x y → a ≡ b
unfolding same_ends
only a b x y s t =
    let ha = stand_below a x y s in
    let hb = stand_below b x y t in
    let p = to_ends a x y ha s in
    let q = to_ends b x y hb t in
    eqb-true a b (so (same_ends a b) (a == b) (all_at 13 _ (all_at 13 _ told_apart a ha) b hb)
    (and_from _ _
    (and_from _ _ (one_end (ss a) (ss b) _ _ p.0 q.0) (one_end (se a) (se b) _ _ p.1 q.1))
    (and_from _ _ (one_end (es a) (es b) _ _ p.2 q.2) (one_end (ee a) (ee b) _ _ p.3 q.3))))

-- ---- spans with the same ends are one

true_once : (b : Bool) (p q : T b) → p ≡ q
true_once true p q = refl
true_once false p q = absurd p

less_once : (a b : ℤ) (p q : a <ℤ b) → p ≡ q
less_once a b p q = ap (λ t. record { lt = t }) (true_once (int_lt a b) p.lt q.lt)

same_span : (x y : Span) → x.start ≡ y.start → x.end ≡ y.end → x ≡ y
same_span x y p q = subst (λ e. (o : x.start <ℤ e) → ◌≡◌ {A = Span} (record { start = x.start; end = e; ordered = o }) y) (sym q) start_moved x.ordered
  where
    start_moved : (o : x.start <ℤ y.end) → ◌≡◌ {A = Span} (record { start = x.start; end = y.end; ordered = o }) y
    start_moved =
        subst (λ s. (o : s <ℤ y.end) → ◌≡◌ {A = Span} (record { start = s; end = y.end; ordered = o }) y) (sym p)
        (λ o. ap (λ w. record { start = y.start; end = y.end; ordered = w }) (less_once y.start y.end o y.ordered))

-- ---- readings between three spans compose: each three ends, one of each span, do

tri : ℕ → ℕ → ℕ → Bool
tri a b c = has (composed instant_compositions a b) c

agree : ℕ → ℕ → ℕ → Bool
agree a b c =
    ((tri (ss a) (ss b) (ss c) && tri (se a) (es b) (ss c)) && (tri (ss a) (se b) (se c) && tri (se a) (ee b) (se c)))
    && ((tri (es a) (ss b) (es c) && tri (ee a) (es b) (es c)) && (tri (es a) (se b) (ee c) && tri (ee a) (ee b) (ee c)))

three_ends : (a b c : ℕ) (p q r : ℤ) → InstantsStand a p q → InstantsStand b q r → InstantsStand c p r → tri a b c ≡ true
unfolding tri
three_ends a b c p q r h i j = composes a b c p q r h i j

ends_agree : (a b c : ℕ) (x y z : Span) → ByEnds a x y → ByEnds b y z → ByEnds c x z → agree a b c ≡ true
unfolding agree
ends_agree a b c x y z h i j =
    and_from _ _
    (and_from _ _
    (and_from _ _ (three_ends _ _ _ x.start y.start z.start h.0 i.0 j.0)
    (three_ends _ _ _ x.start y.end z.start h.1 i.2 j.0))
    (and_from _ _ (three_ends _ _ _ x.start y.start z.end h.0 i.1 j.1)
    (three_ends _ _ _ x.start y.end z.end h.1 i.3 j.1)))
    (and_from _ _
    (and_from _ _ (three_ends _ _ _ x.end y.start z.start h.2 i.0 j.2)
    (three_ends _ _ _ x.end y.end z.start h.3 i.2 j.2))
    (and_from _ _ (three_ends _ _ _ x.end y.start z.end h.2 i.1 j.3)
    (three_ends _ _ _ x.end y.end z.end h.3 i.3 j.3)))

-- the table has each three readings that agree
all_agreed : all 13 (λ a. all 13 (λ b. all 13 (λ c. if_so (agree a b c) (has (composed span_compositions a b) c)))) ≡ true
unfolding all has agree tri
all_agreed = refl

-- ---- where readings compose, three spans stand so: each end is put as high as there are others below it

xs : ℕ → ℕ → ℕ → ℤ
xs a b c = pos (count (ss a == 2) + count (se a == 2) + count (ss c == 2) + count (se c == 2))

xe : ℕ → ℕ → ℕ → ℤ
xe a b c = pos (1 + count (es a == 2) + count (ee a == 2) + count (es c == 2) + count (ee c == 2))

ys : ℕ → ℕ → ℕ → ℤ
ys a b c = pos (count (ss a == 1) + count (es a == 1) + count (ss b == 2) + count (se b == 2))

ye : ℕ → ℕ → ℕ → ℤ
ye a b c = pos (1 + count (se a == 1) + count (ee a == 1) + count (es b == 2) + count (ee b == 2))

zs : ℕ → ℕ → ℕ → ℤ
zs a b c = pos (count (ss c == 1) + count (es c == 1) + count (ss b == 1) + count (es b == 1))

ze : ℕ → ℕ → ℕ → ℤ
ze a b c = pos (1 + count (se c == 1) + count (ee c == 1) + count (se b == 1) + count (ee b == 1))

ends_shown : ℕ → ℤ → ℤ → ℤ → ℤ → Bool
ends_shown r s e s' e' =
    (pick s s' == ss r && pick s e' == se r) && (pick e s' == es r && pick e e' == ee r)

shown : ℕ → ℕ → ℕ → Bool
shown a b c =
    (int_lt (xs a b c) (xe a b c) && (int_lt (ys a b c) (ye a b c) && int_lt (zs a b c) (ze a b c)))
    && (ends_shown a (xs a b c) (xe a b c) (ys a b c) (ye a b c)
    && (ends_shown b (ys a b c) (ye a b c) (zs a b c) (ze a b c) && ends_shown c (xs a b c) (xe a b c) (zs a b c) (ze a b c)))

all_shown : all 13 (λ a. all 13 (λ b. all 13 (λ c. if_so (has (composed span_compositions a b) c) (shown a b c)))) ≡ true
unfolding all has shown ends_shown count xs xe ys ye zs ze
all_shown = refl

shown_ends : (r : ℕ) (x y : Span) → ends_shown r x.start x.end y.start y.end ≡ true → ByEnds r x y
unfolding ends_shown
shown_ends r x y t =
    let u = and_parts (pick x.start y.start == ss r && pick x.start y.end == se r) _ t in
    let v = and_parts (pick x.start y.start == ss r) _ u.0 in
    let w = and_parts (pick x.end y.start == es r) _ u.1 in (
      pick_stand (ss r) _ _ (eqb-true _ _ v.0),
      pick_stand (se r) _ _ (eqb-true _ _ v.1),
      pick_stand (es r) _ _ (eqb-true _ _ w.0),
      pick_stand (ee r) _ _ (eqb-true _ _ w.1),
    )

less : (p q : ℤ) → int_lt p q ≡ true → p <ℤ q
less p q h = grind (arith, ints)

witness : (a b c : ℕ) → a < 13 → b < 13 → c < 13 → has (composed span_compositions a b) c ≡ true →
    (x y z : Span) × SpansStand a x y × SpansStand b y z × SpansStand c x z
unfolding shown
witness a b c ha hb hc h =
    let t = so _ (shown a b c) (all_at 13 _ (all_at 13 _ (all_at 13 _ all_shown a ha) b hb) c hc) h in
    let u = and_parts (int_lt (xs a b c) (xe a b c) && (int_lt (ys a b c) (ye a b c) && int_lt (zs a b c) (ze a b c))) _ t in
    let v = and_parts (int_lt (xs a b c) (xe a b c)) _ u.0 in
    let v' = and_parts (int_lt (ys a b c) (ye a b c)) _ v.1 in
    let w = and_parts (ends_shown a (xs a b c) (xe a b c) (ys a b c) (ye a b c)) _ u.1 in
    let w' = and_parts (ends_shown b (ys a b c) (ye a b c) (zs a b c) (ze a b c)) _ w.1 in
    let x : Span = record { start = xs a b c; end = xe a b c; ordered = less _ _ v.0 } in
    let y : Span = record { start = ys a b c; end = ye a b c; ordered = less _ _ v'.0 } in
    let z : Span = record { start = zs a b c; end = ze a b c; ordered = less _ _ v'.1 } in (
      x,
      y,
      z,
      from_ends a x y ha (shown_ends a x y w.0),
      from_ends b y z hb (shown_ends b y z w'.0),
      from_ends c x z hc (shown_ends c x z w'.1),
    )

-- ---- the theorem

below_reading : (a : ℕ) → a < 13 → Reading spans a
unfolding all has
below_reading a h = all_at 13 (has 0x1FFF) refl a h

reading_below : (a : ℕ) → Reading spans a → a < 13
reading_below a h = has_below 0x1FFF 13 a (lit< tt) h

within : all 13 (λ a. all 13 (λ b. nat_lt (composed span_compositions a b) (2 ^ 13))) ≡ true
unfolding all
within = refl

composition_below : (a b c : ℕ) → a < 13 → b < 13 → has (composed span_compositions a b) c ≡ true → c < 13
composition_below a b c ha hb h = has_below _ 13 c (ltb-true _ _ (all_at 13 _ (all_at 13 _ within a ha) b hb)) h

identities : all 13 (λ a. has (composed span_compositions a 0) a) ≡ true
unfolding all has
identities = refl

abbrev Turns : ℕ → Type 0
Turns a = (x y : Span) → SpansStand a x y → SpansStand (spans.converse a) y x

turns : Each Turns 13
turns = (
  λ x y h. h,
  (
    λ x y h. h,
    (
      λ x y h. h,
      (
        λ x y h. h,
        (
          λ x y h. h,
          (
            λ x y h. h,
            (
              λ x y h. h,
              (
                λ x y h. h,
                (
                  λ x y h. h,
                  (λ x y h. h, (λ x y h. h, (λ x y h. h, (λ x y h. (sym h.0, sym h.1), tt)))),
                ),
              ),
            ),
          ),
        ),
      ),
    ),
  ),
)

pub spans_describe : Describes spans Span SpansStand
spans_describe = record {
  reading = λ a x y s. below_reading a (stand_below a x y s);
  somewhere = λ a h.
      let l = reading_below a h in
      let w = witness a 0 a l (lit< tt) l (all_at 13 _ identities a l) in
      (w.0, w.1, w.3);
  between = between;
  only = only;
  identity = λ x y. (λ h. same_span x y h.0 h.1, λ e. (ap (λ s. s.start) e, ap (λ s. s.end) e));
  converse = λ a x y s. each_at Turns 13 turns a (stand_below a x y s) x y s;
  composition = λ a b c ha hb. (
    λ h.
        witness a b c (reading_below a ha) (reading_below b hb)
        (composition_below a b c (reading_below a ha) (reading_below b hb) h) h,
    λ w.
        let la = reading_below a ha in
        let lb = reading_below b hb in
        let lc = stand_below c w.0 w.2 w.5 in
        so (agree a b c) _ (all_at 13 _ (all_at 13 _ (all_at 13 _ all_agreed a la) b lb) c lc)
        (ends_agree a b c w.0 w.1 w.2 (to_ends a _ _ la w.3) (to_ends b _ _ lb w.4) (to_ends c _ _ lc w.5)),
  );
}

pub span_laws : Lawful spans
unfolding has
span_laws = thing_laws spans Span SpansStand spans_describe (lit< tt) refl

pub spans_describe_sets : DescribesSets spans Span SpansStand
unfolding has
spans_describe_sets = describes_sets spans Span SpansStand spans_describe (lit< tt) refl
