-- Instants describe whole numbers.
use Rattle.std.specs.Prelude.{◌≡◌, ℕ, zero, suc, ◌+◌, ◌^◌, ◌<◌, Bool, true, cond, ◌&&◌, ◌⊎◌, ℤ, pos, ◌<ℤ◌, ◌==◌, int_lt, nat_lt, refl}
use Rattle.std.proofs.Common.{sym, ◌∙◌, inl, inr, arith, lit<}
use Rattle.std.proofs.lemmas.Int.{ints}
use Rattle.std.proofs.lemmas.Bool.{and_parts, eqb-true, ltb-true}
use Rattle.algebra.specs.Masks.{has}
use Rattle.algebra.specs.Meaning.{Lawful, Reading}
use Rattle.algebra.specs.Things.{Describes, DescribesSets}
use Rattle.algebra.specs.Tables.{composed}
use Rattle.algebra.specs.Instants.{InstantsStand, instants, instant_compositions}
use Rattle.algebra.specs.Bits.{has_below}
use Rattle.algebra.specs.Tests.{all, all_at, each_at, if_so, so}
use Rattle.algebra.specs.ThingLaws.{thing_laws, describes_sets}

pub trichotomy : (p q : ℤ) → (p ≡ q) ⊎ ((p <ℤ q) ⊎ (q <ℤ p))
trichotomy p q = grind (arith, ints)

-- the reading in which p and q stand
abbrev pub pick : ℤ → ℤ → ℕ
pick p q = cond (int_lt p q) 1 (cond (int_lt q p) 2 0)

pub stand_pick : (a : ℕ) (p q : ℤ) → InstantsStand a p q → pick p q ≡ a
stand_pick zero p q h = grind (arith, ints)
stand_pick (suc zero) p q h = grind (arith, ints)
stand_pick (suc (suc zero)) p q h = grind (arith, ints)
stand_pick (suc (suc (suc a))) p q h = absurd h

pub pick_stand : (a : ℕ) (p q : ℤ) → pick p q ≡ a → InstantsStand a p q
pick_stand zero p q h = grind (arith, ints)
pick_stand (suc zero) p q h = grind (arith, ints)
pick_stand (suc (suc zero)) p q h = grind (arith, ints)
pick_stand (suc (suc (suc a))) p q h = grind (arith, ints)

-- ---- readings between three numbers compose

equal_first : (p q r : ℤ) → p ≡ q → has (composed instant_compositions 0 (pick q r)) (pick p r) ≡ true
unfolding has
equal_first p q r h = grind (arith, ints)

less_first : (p q r : ℤ) → p <ℤ q → has (composed instant_compositions 1 (pick q r)) (pick p r) ≡ true
unfolding has
less_first p q r h = grind (arith, ints)

more_first : (p q r : ℤ) → q <ℤ p → has (composed instant_compositions 2 (pick q r)) (pick p r) ≡ true
unfolding has
more_first p q r h = grind (arith, ints)

triangle : (p q r : ℤ) → has (composed instant_compositions (pick p q) (pick q r)) (pick p r) ≡ true
triangle p q r = elim (trichotomy p q) [
  | inl e ↦ rw (stand_pick 0 p q e) (equal_first p q r e)
  | inr o ↦ elim o [
    | inl l ↦ rw (stand_pick 1 p q l) (less_first p q r l)
    | inr g ↦ rw (stand_pick 2 p q g) (more_first p q r g)
  ]
]

pub composes : (a b c : ℕ) (p q r : ℤ) → InstantsStand a p q → InstantsStand b q r → InstantsStand c p r →
    has (composed instant_compositions a b) c ≡ true
composes a b c p q r h i j =
    rw (← stand_pick a p q h, ← stand_pick b q r i, ← stand_pick c p r j) (triangle p q r)

-- ---- where readings compose, three numbers stand so: each is put as high as there are others below it

unfoldable pub count : Bool → ℕ
count b = cond b 1 0

first : ℕ → ℕ → ℕ → ℤ
first a b c = pos (count (a == 2) + count (c == 2))

second : ℕ → ℕ → ℕ → ℤ
second a b c = pos (count (a == 1) + count (b == 2))

third : ℕ → ℕ → ℕ → ℤ
third a b c = pos (count (b == 1) + count (c == 1))

shown : ℕ → ℕ → ℕ → Bool
shown a b c =
    (pick (first a b c) (second a b c) == a)
    && (pick (second a b c) (third a b c) == b && pick (first a b c) (third a b c) == c)

all_shown : all 3 (λ a. all 3 (λ b. all 3 (λ c. if_so (has (composed instant_compositions a b) c) (shown a b c)))) ≡ true
unfolding all has shown first second third count
all_shown = refl

witness : (a b c : ℕ) → a < 3 → b < 3 → c < 3 → has (composed instant_compositions a b) c ≡ true →
    (p q r : ℤ) × InstantsStand a p q × InstantsStand b q r × InstantsStand c p r
unfolding shown
witness a b c ha hb hc h =
    let t = so _ (shown a b c) (all_at 3 _ (all_at 3 _ (all_at 3 _ all_shown a ha) b hb) c hc) h in
    let x = and_parts (pick (first a b c) (second a b c) == a) _ t in
    let y = and_parts (pick (second a b c) (third a b c) == b) _ x.1 in (
      first a b c,
      second a b c,
      third a b c,
      pick_stand a _ _ (eqb-true _ a x.0),
      pick_stand b _ _ (eqb-true _ b y.0),
      pick_stand c _ _ (eqb-true _ c y.1),
    )

-- ---- the theorem

stand_below : (a : ℕ) (p q : ℤ) → InstantsStand a p q → a < 3
stand_below zero p q h = lit< tt
stand_below (suc zero) p q h = lit< tt
stand_below (suc (suc zero)) p q h = lit< tt
stand_below (suc (suc (suc a))) p q h = absurd h

below_reading : (a : ℕ) → a < 3 → Reading instants a
unfolding all has
below_reading a h = all_at 3 (has 7) refl a h

reading_below : (a : ℕ) → Reading instants a → a < 3
reading_below a h = has_below 7 3 a (lit< tt) h

within : all 3 (λ a. all 3 (λ b. nat_lt (composed instant_compositions a b) (2 ^ 3))) ≡ true
unfolding all
within = refl

composition_below : (a b c : ℕ) → a < 3 → b < 3 → has (composed instant_compositions a b) c ≡ true → c < 3
composition_below a b c ha hb h = has_below _ 3 c (ltb-true _ _ (all_at 3 _ (all_at 3 _ within a ha) b hb)) h

pub instants_describe : Describes instants ℤ InstantsStand
instants_describe = record {
  reading = λ a x y s. below_reading a (stand_below a x y s);
  somewhere = λ a h.
      each_at (λ k. (x y : ℤ) × InstantsStand k x y) 3
      ((pos 1, pos 0, omega (arith, ints)), ((pos 0, pos 1, omega (arith, ints)), ((pos 0, pos 0, refl), tt))) a (reading_below a h);
  between = λ x y. (pick x y, pick_stand (pick x y) x y refl);
  only = λ a b x y s t. sym (stand_pick a x y s) ∙ stand_pick b x y t;
  identity = λ x y. (λ h. h, λ h. h);
  converse = turns;
  composition = λ a b c ha hb. (
    λ h. witness a b c (reading_below a ha) (reading_below b hb) (composition_below a b c (reading_below a ha) (reading_below b hb) h) h,
    λ w. composes a b c w.0 w.1 w.2 w.3 w.4 w.5,
  );
}
  where
    turns : (a : ℕ) (x y : ℤ) → InstantsStand a x y → InstantsStand (instants.converse a) y x
    turns zero x y h = sym h
    turns (suc zero) x y h = h
    turns (suc (suc zero)) x y h = h
    turns (suc (suc (suc a))) x y h = absurd h

pub instant_laws : Lawful instants
unfolding has
instant_laws = thing_laws instants ℤ InstantsStand instants_describe (lit< tt) refl

pub instants_describe_sets : DescribesSets instants ℤ InstantsStand
unfolding has
instants_describe_sets = describes_sets instants ℤ InstantsStand instants_describe (lit< tt) refl
