-- The converse of a set and the composition of two, by membership.
use Rattle.std.specs.Prelude.{◌≡◌, ℕ, ◌^◌, ◌<◌, true, ◌&&◌, bit_and}
use Rattle.std.proofs.Common.{sym, ◌∙◌, subst}
use Rattle.std.proofs.Math.Path.{ap}
use Rattle.std.proofs.lemmas.Bool.{and_parts, and_from, eq-eqb, eqb-true}
use Rattle.algebra.specs.Masks.{has, union}
use Rattle.algebra.specs.Meaning.{Meaning, Lawful, Reading, converses, compositions, converse_of, composition_of}
use Rattle.algebra.specs.Statements.{ConverseByMembership, CompositionByMembership}
use Rattle.algebra.specs.Bits.{iff, has_one, has_below, has_cut, cut_has}
use Rattle.algebra.specs.Unions.{union_from, from_union}

-- c is in the composition of s and t: some reading a of s and some reading b of t compose to it
pub record Composed (m : Meaning) (s t c : ℕ) : Type 0 where
  pub a : ℕ
  pub b : ℕ
  pub a_reading : Reading m a
  pub b_reading : Reading m b
  pub a_in : has s a ≡ true
  pub b_in : has t b ≡ true
  pub gives : has (m.composition a b) c ≡ true

module _ (m : Meaning) (l : Lawful m) where
  reading_below : (a : ℕ) → Reading m a → a < 32
  reading_below a h = has_below m.universe 32 a l.fits h

  converse_to : (s c : ℕ) → has (converse_of m s) c ≡ true → (has m.universe c && has s (m.converse c)) ≡ true
  unfolding converses
  converse_to s c h =
      let r = union_from (bit_and s m.universe) (λ a. 2 ^ m.converse a) 32 c h in
      let p = has_cut s m.universe r.at r.in_set in
      let e : m.converse r.at ≡ c = eqb-true _ _ (sym (has_one (m.converse r.at) c) ∙ r.gives) in
      let f : m.converse c ≡ r.at = ap m.converse (sym e) ∙ l.converse_twice r.at p.1 in
      and_from (has m.universe c) (has s (m.converse c))
      (subst (Reading m) e (l.converse_in r.at p.1)) (ap (has s) f ∙ p.0)

  converse_from : (s c : ℕ) → (has m.universe c && has s (m.converse c)) ≡ true → has (converse_of m s) c ≡ true
  unfolding converses
  converse_from s c h =
      let p = and_parts (has m.universe c) (has s (m.converse c)) h in
      let i = l.converse_in c p.0 in
      from_union (bit_and s m.universe) (λ a. 2 ^ m.converse a) 32 c (m.converse c) (reading_below (m.converse c) i)
      (cut_has s m.universe (m.converse c) p.1 i)
      (has_one (m.converse (m.converse c)) c ∙ eq-eqb (m.converse (m.converse c)) c (l.converse_twice c p.0))

  -- c is in the converse of s exactly when c is a reading whose converse is in s
  pub converse_has : (s c : ℕ) → has (converse_of m s) c ≡ (has m.universe c && has s (m.converse c))
  converse_has s c = iff _ _ (converse_to s c) (converse_from s c)

  pub composition_to : (s t c : ℕ) → has (composition_of m s t) c ≡ true → Composed m s t c
  unfolding compositions
  composition_to s t c h =
      let r = union_from (bit_and s m.universe) (λ a. union (bit_and t m.universe) (m.composition a) 32) 32 c h in
      let q = union_from (bit_and t m.universe) (m.composition r.at) 32 c r.gives in
      let x = has_cut s m.universe r.at r.in_set in
      let y = has_cut t m.universe q.at q.in_set in
      record { a = r.at; b = q.at; a_reading = x.1; b_reading = y.1; a_in = x.0; b_in = y.0; gives = q.gives }

  pub composition_from : (s t c : ℕ) → Composed m s t c → has (composition_of m s t) c ≡ true
  unfolding compositions
  composition_from s t c j =
      from_union (bit_and s m.universe) (λ a. union (bit_and t m.universe) (m.composition a) 32) 32 c j.a
      (reading_below j.a j.a_reading) (cut_has s m.universe j.a j.a_in j.a_reading)
      (from_union (bit_and t m.universe) (m.composition j.a) 32 c j.b
      (reading_below j.b j.b_reading) (cut_has t m.universe j.b j.b_in j.b_reading) j.gives)

pub converse_by_membership : ConverseByMembership
converse_by_membership m l s c = (there, back)
  where
    there : has (converse_of m s) c ≡ true → (a : ℕ) × Reading m a × (has s a ≡ true) × (m.converse a ≡ c)
    there h =
        let p = and_parts (has m.universe c) (has s (m.converse c)) (sym (converse_has m l s c) ∙ h) in
        (m.converse c, l.converse_in c p.0, p.1, l.converse_twice c p.0)

    back : (a : ℕ) × Reading m a × (has s a ≡ true) × (m.converse a ≡ c) → has (converse_of m s) c ≡ true
    back w =
        converse_has m l s c
        ∙ and_from (has m.universe c) (has s (m.converse c)) (subst (Reading m) w.3 (l.converse_in w.0 w.1))
        (ap (has s) (ap m.converse (sym w.3) ∙ l.converse_twice w.0 w.1) ∙ w.2)

pub composition_by_membership : CompositionByMembership
composition_by_membership m l s t c = (
  λ h.
      let j = composition_to m l s t c h in
      (j.a, j.b, j.a_reading, j.b_reading, j.a_in, j.b_in, j.gives),
  λ w.
      composition_from m l s t c
      (record { a = w.0; b = w.1; a_reading = w.2; b_reading = w.3; a_in = w.4; b_in = w.5; gives = w.6 }),
)
