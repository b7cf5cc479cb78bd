-- The three laws by one computed test over the whole of a table.
use Rattle.std.specs.Prelude.{◌≡◌, ℕ, ◌^◌, ◌<◌, Bool, true, ◌&&◌, ◌==◌, bit_and, nat_le, nat_lt}
use Rattle.std.proofs.Common.{ap, ◌∙◌, arith, pow_mono}
use Rattle.std.specs.Bool.{beq}
use Rattle.std.proofs.lemmas.Bool.{and_parts, eqb-true, ltb-true, leb-true}
use Rattle.algebra.specs.Masks.{has}
use Rattle.algebra.specs.Meaning.{Meaning, Lawful, Reading}
use Rattle.algebra.specs.Bits.{has_below, has_cut}
use Rattle.algebra.specs.Tests.{all, all_at, if_so, so, alike}

-- at the readings a, b and c; at a and b; at a
test_three : Meaning → ℕ → ℕ → ℕ → Bool
test_three m a b c =
    let x = has (m.composition a b) c in
    beq x (has (m.composition (m.converse a) c) b) && beq x (has (m.composition c (m.converse b)) a)

test_two : Meaning → ℕ → ℕ → ℕ → Bool
test_two m n a b =
    (bit_and (m.composition a b) m.universe == m.composition a b)
    && all n (λ c. if_so (has m.universe c) (test_three m a b c))

test_one : Meaning → ℕ → ℕ → Bool
test_one m n a =
    (has m.universe (m.converse a) && m.converse (m.converse a) == a)
    && (m.composition 0 a == 2 ^ a && m.composition a 0 == 2 ^ a)
    && all n (λ b. if_so (has m.universe b) (test_two m n a b))

-- all readings are below n, and the laws pass at each of them
unfoldable pub passes : Meaning → ℕ → Bool
unfolding test_one test_two test_three all has
passes m n =
    (nat_lt m.universe (2 ^ n) && nat_le n 32) && (has m.universe 0 && m.converse 0 == 0)
    && all n (λ a. if_so (has m.universe a) (test_one m n a))

module _ (m : Meaning) (n : ℕ) (t : passes m n ≡ true) where
  heads :
      (nat_lt m.universe (2 ^ n) ≡ true) × (nat_le n 32 ≡ true) × (has m.universe 0 ≡ true) × ((m.converse 0 == 0) ≡ true)
      × (all n (λ a. if_so (has m.universe a) (test_one m n a)) ≡ true)
  unfolding passes
  heads =
      let x = and_parts _ (all n (λ a. if_so (has m.universe a) (test_one m n a))) t in
      let y = and_parts (nat_lt m.universe (2 ^ n) && nat_le n 32) (has m.universe 0 && m.converse 0 == 0) x.0 in
      let u = and_parts (nat_lt m.universe (2 ^ n)) (nat_le n 32) y.0 in
      let v = and_parts (has m.universe 0) (m.converse 0 == 0) y.1 in
      (u.0, u.1, v.0, v.1, x.1)

  below : (a : ℕ) → Reading m a → a < n
  below a h = has_below m.universe n a (ltb-true _ _ heads.0) h

  one_parts : (a : ℕ) → Reading m a →
      (has m.universe (m.converse a) ≡ true) × ((m.converse (m.converse a) == a) ≡ true)
      × ((m.composition 0 a == 2 ^ a) ≡ true) × ((m.composition a 0 == 2 ^ a) ≡ true)
      × (all n (λ b. if_so (has m.universe b) (test_two m n a b)) ≡ true)
  unfolding test_one
  one_parts a h =
      let one = so (has m.universe a) (test_one m n a) (all_at n _ heads.4 a (below a h)) h in
      let x = and_parts _ (all n (λ b. if_so (has m.universe b) (test_two m n a b))) one in
      let y =
      and_parts (has m.universe (m.converse a) && m.converse (m.converse a) == a)
      (m.composition 0 a == 2 ^ a && m.composition a 0 == 2 ^ a) x.0 in
      let u = and_parts (has m.universe (m.converse a)) (m.converse (m.converse a) == a) y.0 in
      let v = and_parts (m.composition 0 a == 2 ^ a) (m.composition a 0 == 2 ^ a) y.1 in
      (u.0, u.1, v.0, v.1, x.1)

  two_parts : (a b : ℕ) → Reading m a → Reading m b →
      ((bit_and (m.composition a b) m.universe == m.composition a b) ≡ true)
      × (all n (λ c. if_so (has m.universe c) (test_three m a b c)) ≡ true)
  unfolding test_two
  two_parts a b ha hb =
      and_parts (bit_and (m.composition a b) m.universe == m.composition a b) _
      (so (has m.universe b) (test_two m n a b) (all_at n _ (one_parts a ha).4 b (below b hb)) hb)

  three_parts : (a b c : ℕ) → Reading m a → Reading m b → Reading m c →
      (beq (has (m.composition a b) c) (has (m.composition (m.converse a) c) b) ≡ true)
      × (beq (has (m.composition a b) c) (has (m.composition c (m.converse b)) a) ≡ true)
  unfolding test_three
  three_parts a b c ha hb hc =
      and_parts (beq (has (m.composition a b) c) (has (m.composition (m.converse a) c) b)) _
      (so (has m.universe c) (test_three m a b c) (all_at n _ (two_parts a b ha hb).1 c (below c hc)) hc)

  within : (a b c : ℕ) → Reading m a → Reading m b → has (m.composition a b) c ≡ true → Reading m c
  within a b c ha hb h =
      let e = eqb-true (bit_and (m.composition a b) m.universe) (m.composition a b) (two_parts a b ha hb).0 in
      (has_cut (m.composition a b) m.universe c (ap (λ x. has x c) e ∙ h)).1

  pub table_laws : Lawful m
  table_laws = record {
    fits = let l = ltb-true _ _ heads.0 in let k = pow_mono (leb-true _ _ heads.1) in omega arith;
    identity_in = heads.2;
    identity_converse = eqb-true _ _ heads.3;
    converse_in = λ a h. (one_parts a h).0;
    converse_twice = λ a h. eqb-true _ _ (one_parts a h).1;
    composition_in = within;
    identity_left = λ b h. eqb-true _ _ (one_parts b h).2;
    identity_right = λ b h. eqb-true _ _ (one_parts b h).3;
    peirce_left = λ a b c ha hb hc. alike _ _ (three_parts a b c ha hb hc).0;
    peirce_right = λ a b c ha hb hc. alike _ _ (three_parts a b c ha hb hc).1;
  }
