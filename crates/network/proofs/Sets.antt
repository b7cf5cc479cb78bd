-- Readings in sets: sets of one reading, empty sets, and the converses and compositions of sets.
use Rattle.std.proofs.Common.{◌≡◌, ℕ, ◌^◌, ◌<◌, Bool, true, false, eqb, sym, refl, ap, ◌∙◌}
use lib.Bits.{bit_and}
use Rattle.std.proofs.lemmas.Bool.{and_parts, and_from, eq-eqb, eqb-true, false≢true}
use Rattle.algebra.specs.Masks.{has}
use Rattle.algebra.specs.Meaning.{Meaning, Lawful, Reading, converse_of, composition_of}
use Rattle.algebra.specs.Bits.{iff, same, has_zero, has_one, has_cut}
use Rattle.algebra.specs.Tests.{each_at}
use Rattle.algebra.specs.Sets.{converse_has, composition_to, composition_from}
use Rattle.network.specs.Ties.{In}

pub equal : (s t : ℕ) → ((r : ℕ) → In r s → In r t) → ((r : ℕ) → In r t → In r s) → s ≡ t
equal s t there back = same s t (λ r. iff _ _ (there r) (back r))

pub none : (r s : ℕ) → s ≡ 0 → ¬ In r s
none r s e h = false≢true (sym (has_zero r) ∙ ap (λ x. has x r) (sym e) ∙ h)

pub empty : (s : ℕ) → ((r : ℕ) → ¬ In r s) → s ≡ 0
empty s f = equal s 0 (λ r h. absurd (f r h)) (λ r h. absurd (none r 0 refl h))

pub one_in : (r : ℕ) → In r (2 ^ r)
one_in r = has_one r r ∙ eq-eqb r r refl

pub one_is : (r k : ℕ) → In k (2 ^ r) → k ≡ r
one_is r k h = sym (eqb-true r k (sym (has_one r k) ∙ h))

-- what holds at 0, 1 and 2 holds below 3
pub three : (P : ℕ → Type 0) → P 0 → P 1 → P 2 → (k : ℕ) → k < 3 → P k
three P p q s = each_at P 3 (s, (q, (p, tt)))

-- whether every reading of s is in t
unfoldable pub within : ℕ → ℕ → Bool
within s t = eqb (bit_and s t) s

pub within_in : (s t r : ℕ) → within s t ≡ true → In r s → In r t
unfolding within
within_in s t r e h = (has_cut s t r (rw (eqb-true (bit_and s t) s e) h)).1

-- a test that holds if a thing does and if it does not
pub either_way : {A : Type 0} (b : Bool) → (A → b ≡ true) → (¬ A → b ≡ true) → b ≡ true
either_way true f g = refl
either_way false f g = g (λ a. false≢true (f a))

module _ (m : Meaning) (l : Lawful m) where
  pub converse_to : (s r : ℕ) → In r (converse_of m s) → Reading m r × In (m.converse r) s
  converse_to s r h = and_parts (has m.universe r) _ (sym (converse_has m l s r) ∙ h)

  pub converse_from : (s r : ℕ) → Reading m r → In (m.converse r) s → In r (converse_of m s)
  converse_from s r u h = converse_has m l s r ∙ and_from (has m.universe r) _ u h

  pub converse_turn : (s r : ℕ) → Reading m r → In r s → In (m.converse r) (converse_of m s)
  converse_turn s r u h = converse_from s (m.converse r) (l.converse_in r u) (rw (l.converse_twice r u) h)

  pub composition_more : (s t s' t' r : ℕ) → ((a : ℕ) → In a s → In a s') → ((b : ℕ) → In b t → In b t') →
      In r (composition_of m s t) → In r (composition_of m s' t')
  composition_more s t s' t' r f g h =
      let c = composition_to m l s t r h in
      composition_from m l s' t' r (record {
        a = c.a;
        b = c.b;
        a_reading = c.a_reading;
        b_reading = c.b_reading;
        a_in = f c.a c.a_in;
        b_in = g c.b c.b_in;
        gives = c.gives;
      })
