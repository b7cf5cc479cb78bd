-- A house rule keeps the laws if the algebra below does; what its calls compute; and two rules as one.
use Rattle.std.specs.Prelude.{◌≡◌, ℕ, ◌^◌, ◌<◌, Bool, true, false, cond, ◌&&◌, ◌||◌, ◌==◌, bit_and, bit_or, refl}
use Rattle.std.proofs.Common.{sym, ap, ◌∙◌, subst, inl, inr, lt_of_le_of_lt}
use Rattle.std.proofs.lemmas.Nat.{and_le_r, and_comm}
use Rattle.std.proofs.lemmas.Bool.{and_parts, and_from, or_cases, or_left, or_right, eqb-true, eq-eqb, false≢true}
use Rattle.algebra.specs.Masks.{has, union}
use Rattle.algebra.specs.Meaning.{Meaning, Lawful, Reading, converse_of, composition_of}
use Rattle.algebra.specs.House.{those, kept, housed}
use Rattle.algebra.specs.Statements.{HouseOverHouse}
use Rattle.algebra.specs.Bits.{iff, has_or, has_zero, has_one, has_below, has_cut, cut_has, same}
use Rattle.algebra.specs.Unions.{union_from, from_union}
use Rattle.algebra.specs.Sets.{converse_has, composition_to, composition_from}

when_one : (b : Bool) (k c : ℕ) → has (cond b (2 ^ k) 0) c ≡ true → (b ≡ true) × (k ≡ c)
when_one true k c h = (refl, eqb-true k c (sym (has_one k c) ∙ h))
when_one false k c h = absurd (false≢true (sym (has_zero c) ∙ h))

has_those : (u : ℕ) (p : ℕ → Bool) (c : ℕ) → u < 2 ^ 32 → has (those u p) c ≡ (has u c && p c)
unfolding those
has_those u p c f = iff _ _ to from
  where
    to : has (union u (λ k. cond (p k) (2 ^ k) 0) 32) c ≡ true → (has u c && p c) ≡ true
    to h =
        let r = union_from u (λ k. cond (p k) (2 ^ k) 0) 32 c h in
        let w = when_one (p r.at) r.at c r.gives in
        and_from (has u c) (p c) (subst (λ x. has u x ≡ true) w.1 r.in_set) (subst (λ x. p x ≡ true) w.1 w.0)

    from : (has u c && p c) ≡ true → has (union u (λ k. cond (p k) (2 ^ k) 0) 32) c ≡ true
    from h =
        let x = and_parts (has u c) (p c) h in
        from_union u (λ k. cond (p k) (2 ^ k) 0) 32 c c (has_below u 32 c f x.0) x.0
        (rw x.1 (has_one c c ∙ eq-eqb c c refl))

and_assoc : (a b c : ℕ) → bit_and (bit_and a b) c ≡ bit_and a (bit_and b c)
and_assoc a b c = same _ _ (λ k. iff _ _
    (λ t.
    let p = has_cut (bit_and a b) c k t in
    let q = has_cut a b k p.0 in
    cut_has a (bit_and b c) k q.0 (cut_has b c k q.1 p.1))
    (λ t.
    let p = has_cut a (bit_and b c) k t in
    let q = has_cut b c k p.1 in
    cut_has (bit_and a b) c k (cut_has a b k p.0 q.0) q.1))

-- the test that a reading passes to be kept
abbrev stays : Meaning → ℕ → ℕ → Bool
stays m mask a = a == 0 || (has mask a && has mask (m.converse a))

module _ (m : Meaning) (l : Lawful m) (mask : ℕ) where
  kept_has : (a : ℕ) → has (kept m mask) a ≡ (has m.universe a && stays m mask a)
  unfolding kept
  kept_has a = has_those m.universe (stays m mask) a l.fits

  pub down : (a : ℕ) → has (kept m mask) a ≡ true → (Reading m a) × (stays m mask a ≡ true)
  down a h = and_parts (has m.universe a) (stays m mask a) (sym (kept_has a) ∙ h)

  pub up : (a : ℕ) → Reading m a → stays m mask a ≡ true → has (kept m mask) a ≡ true
  up a h t = kept_has a ∙ and_from (has m.universe a) (stays m mask a) h t

  turns : (a : ℕ) → has (kept m mask) a ≡ true → has (kept m mask) (m.converse a) ≡ true
  turns a h =
      let d = down a h in
      up (m.converse a) (l.converse_in a d.0)
      (elim (or_cases (a == 0) (has mask a && has mask (m.converse a)) d.1) [
        | inl z ↦
            or_left (m.converse a == 0) _
            (eq-eqb (m.converse a) 0 (ap m.converse (eqb-true a 0 z) ∙ l.identity_converse))
        | inr b ↦
            let p = and_parts (has mask a) (has mask (m.converse a)) b in
            or_right (m.converse a == 0) _
            (and_from (has mask (m.converse a)) _ p.1 (ap (has mask) (l.converse_twice a d.0) ∙ p.0))
      ])

  one_cut : (b : ℕ) → has (kept m mask) b ≡ true → bit_and (2 ^ b) (kept m mask) ≡ 2 ^ b
  one_cut b h =
      same _ _ (λ c. iff _ _ (λ t. (has_cut (2 ^ b) (kept m mask) c t).0)
      (λ t. cut_has (2 ^ b) (kept m mask) c t (subst (λ x. has (kept m mask) x ≡ true) (eqb-true b c (sym (has_one b c) ∙ t)) h)))

  inside : kept m mask ≡ bit_and (kept m mask) m.universe
  inside =
      same _ _ (λ c. iff _ _ (λ t. cut_has (kept m mask) m.universe c t (down c t).0)
      (λ t. (has_cut (kept m mask) m.universe c t).0))

  -- where c is kept, the cut changes nothing
  cut_at : (x c : ℕ) → has (kept m mask) c ≡ true → has (bit_and x (kept m mask)) c ≡ has x c
  cut_at x c h = iff _ _ (λ t. (has_cut x (kept m mask) c t).0) (λ t. cut_has x (kept m mask) c t h)

  pub house_laws : Lawful (housed m mask)
  house_laws = record {
    fits = subst (λ x. x < 2 ^ 32) (sym inside) (lt_of_le_of_lt (and_le_r (kept m mask) m.universe) l.fits);
    identity_in = up 0 l.identity_in refl;
    identity_converse = l.identity_converse;
    converse_in = turns;
    converse_twice = λ a h. l.converse_twice a (down a h).0;
    composition_in = λ a b c ha hb h. (has_cut (m.composition a b) (kept m mask) c h).1;
    identity_left = λ b h. ap (λ x. bit_and x (kept m mask)) (l.identity_left b (down b h).0) ∙ one_cut b h;
    identity_right = λ b h. ap (λ x. bit_and x (kept m mask)) (l.identity_right b (down b h).0) ∙ one_cut b h;
    peirce_left = λ a b c ha hb hc.
        cut_at (m.composition a b) c hc ∙ l.peirce_left a b c (down a ha).0 (down b hb).0 (down c hc).0
        ∙ sym (cut_at (m.composition (m.converse a) c) b hb);
    peirce_right = λ a b c ha hb hc.
        cut_at (m.composition a b) c hc ∙ l.peirce_right a b c (down a ha).0 (down b hb).0 (down c hc).0
        ∙ sym (cut_at (m.composition c (m.converse b)) a ha);
  }

  -- ---- what the calls compute

  pub universe_is : bit_or 1 (bit_and mask (converse_of m mask)) ≡ kept m mask
  universe_is = same _ _ (λ c. iff _ _ (there c) (back c))
    where
      there : (c : ℕ) → has (bit_or 1 (bit_and mask (converse_of m mask))) c ≡ true → has (kept m mask) c ≡ true
      there c h =
          elim (or_cases (has 1 c) _ (sym (has_or 1 (bit_and mask (converse_of m mask)) c) ∙ h)) [
            | inl o ↦ subst (λ x. has (kept m mask) x ≡ true) (eqb-true 0 c (sym (has_one 0 c) ∙ o)) (up 0 l.identity_in refl)
            | inr b ↦
                let p = has_cut mask (converse_of m mask) c b in
                let q = and_parts (has m.universe c) (has mask (m.converse c)) (sym (converse_has m l mask c) ∙ p.1) in
                up c q.0 (or_right (c == 0) _ (and_from (has mask c) _ p.0 q.1))
          ]

      back : (c : ℕ) → has (kept m mask) c ≡ true → has (bit_or 1 (bit_and mask (converse_of m mask))) c ≡ true
      back c h =
          let d = down c h in
          has_or 1 (bit_and mask (converse_of m mask)) c
          ∙ elim (or_cases (c == 0) (has mask c && has mask (m.converse c)) d.1) [
            | inl z ↦ or_left (has 1 c) _ (has_one 0 c ∙ eq-eqb 0 c (sym (eqb-true c 0 z)))
            | inr b ↦
                let p = and_parts (has mask c) (has mask (m.converse c)) b in
                or_right (has 1 c) _
                (cut_has mask (converse_of m mask) c p.0
                (converse_has m l mask c ∙ and_from (has m.universe c) _ d.0 p.1))
          ]

  pub converse_is : (s : ℕ) → bit_and (converse_of m (bit_and s (kept m mask))) (kept m mask) ≡ converse_of (housed m mask) s
  converse_is s = same _ _ (λ c. iff _ _ (there c) (back c))
    where
      there : (c : ℕ) → has (bit_and (converse_of m (bit_and s (kept m mask))) (kept m mask)) c ≡ true → has (converse_of (housed m mask) s) c ≡ true
      there c h =
          let p = has_cut (converse_of m (bit_and s (kept m mask))) (kept m mask) c h in
          let q = and_parts (has m.universe c) _ (sym (converse_has m l (bit_and s (kept m mask)) c) ∙ p.0) in
          converse_has (housed m mask) house_laws s c
          ∙ and_from (has (kept m mask) c) _ p.1 (has_cut s (kept m mask) (m.converse c) q.1).0

      back : (c : ℕ) → has (converse_of (housed m mask) s) c ≡ true →
          has (bit_and (converse_of m (bit_and s (kept m mask))) (kept m mask)) c ≡ true
      back c h =
          let p = and_parts (has (kept m mask) c) (has s (m.converse c)) (sym (converse_has (housed m mask) house_laws s c) ∙ h) in
          cut_has (converse_of m (bit_and s (kept m mask))) (kept m mask) c
          (converse_has m l (bit_and s (kept m mask)) c
          ∙ and_from (has m.universe c) _ (down c p.0).0 (cut_has s (kept m mask) (m.converse c) p.1 (turns c p.0)))
          p.0

  pub composition_is : (s t : ℕ) →
      bit_and (composition_of m (bit_and s (kept m mask)) (bit_and t (kept m mask))) (kept m mask)
      ≡ composition_of (housed m mask) s t
  composition_is s t = same _ _ (λ c. iff _ _ (there c) (back c))
    where
      there : (c : ℕ) →
          has (bit_and (composition_of m (bit_and s (kept m mask)) (bit_and t (kept m mask))) (kept m mask)) c ≡ true →
          has (composition_of (housed m mask) s t) c ≡ true
      there c h =
          let p = has_cut (composition_of m (bit_and s (kept m mask)) (bit_and t (kept m mask))) (kept m mask) c h in
          let j = composition_to m l (bit_and s (kept m mask)) (bit_and t (kept m mask)) c p.0 in
          let x = has_cut s (kept m mask) j.a j.a_in in
          let y = has_cut t (kept m mask) j.b j.b_in in
          composition_from (housed m mask) house_laws s t c (record {
            a = j.a;
            b = j.b;
            a_reading = x.1;
            b_reading = y.1;
            a_in = x.0;
            b_in = y.0;
            gives = cut_has (m.composition j.a j.b) (kept m mask) c j.gives p.1;
          })

      back : (c : ℕ) → has (composition_of (housed m mask) s t) c ≡ true →
          has (bit_and (composition_of m (bit_and s (kept m mask)) (bit_and t (kept m mask))) (kept m mask)) c ≡ true
      back c h =
          let j = composition_to (housed m mask) house_laws s t c h in
          let g = has_cut (m.composition j.a j.b) (kept m mask) c j.gives in
          cut_has (composition_of m (bit_and s (kept m mask)) (bit_and t (kept m mask))) (kept m mask) c
          (composition_from m l (bit_and s (kept m mask)) (bit_and t (kept m mask)) c (record {
            a = j.a;
            b = j.b;
            a_reading = (down j.a j.a_reading).0;
            b_reading = (down j.b j.b_reading).0;
            a_in = cut_has s (kept m mask) j.a j.a_in j.a_reading;
            b_in = cut_has t (kept m mask) j.b j.b_in j.b_reading;
            gives = g.0;
          }))
          g.1

  pub refine_is : (x s t : ℕ) →
      bit_and (bit_and x (kept m mask)) (composition_of m (bit_and s (kept m mask)) (bit_and t (kept m mask)))
      ≡ bit_and x (composition_of (housed m mask) s t)
  refine_is x s t =
      and_assoc x (kept m mask) _ ∙ ap (bit_and x) (and_comm (kept m mask) _ ∙ composition_is s t)

-- ---- two rules are one

module _ (m : Meaning) (l : Lawful m) (outer inner : ℕ) where
  kept_kept : kept (housed m inner) outer ≡ kept m (bit_and inner outer)
  kept_kept = same _ _ (λ c. iff _ _ (there c) (back c))
    where
      there : (c : ℕ) → has (kept (housed m inner) outer) c ≡ true → has (kept m (bit_and inner outer)) c ≡ true
      there c h =
          let p = down (housed m inner) (house_laws m l inner) outer c h in
          let q = down m l inner c p.0 in
          up m l (bit_and inner outer) c q.0
          (elim (or_cases (c == 0) _ p.1) [
            | inl z ↦ or_left (c == 0) _ z
            | inr o ↦ elim (or_cases (c == 0) _ q.1) [
              | inl z ↦ or_left (c == 0) _ z
              | inr i ↦
                  let x = and_parts (has outer c) (has outer (m.converse c)) o in
                  let y = and_parts (has inner c) (has inner (m.converse c)) i in
                  or_right (c == 0) _ (and_from _ _ (cut_has inner outer c y.0 x.0) (cut_has inner outer (m.converse c) y.1 x.1))
            ]
          ])

      back : (c : ℕ) → has (kept m (bit_and inner outer)) c ≡ true → has (kept (housed m inner) outer) c ≡ true
      back c h =
          let p = down m l (bit_and inner outer) c h in
          elim (or_cases (c == 0) _ p.1) [
            | inl z ↦
                up (housed m inner) (house_laws m l inner) outer c (up m l inner c p.0 (or_left (c == 0) _ z)) (or_left (c == 0) _ z)
            | inr b ↦
                let x = and_parts (has (bit_and inner outer) c) (has (bit_and inner outer) (m.converse c)) b in
                let y = has_cut inner outer c x.0 in
                let z = has_cut inner outer (m.converse c) x.1 in
                up (housed m inner) (house_laws m l inner) outer c
                (up m l inner c p.0 (or_right (c == 0) _ (and_from _ _ y.0 z.0))) (or_right (c == 0) _ (and_from _ _ y.1 z.1))
          ]

  -- what is kept of both rules is kept of the inner one
  cut_cut : (x : ℕ) → bit_and (bit_and x (kept m inner)) (kept (housed m inner) outer) ≡ bit_and x (kept m (bit_and inner outer))
  cut_cut x =
      ap (bit_and (bit_and x (kept m inner))) kept_kept
      ∙ same _ _ (λ c. iff _ _
      (λ t.
      let p = has_cut (bit_and x (kept m inner)) (kept m (bit_and inner outer)) c t in
      cut_has x (kept m (bit_and inner outer)) c (has_cut x (kept m inner) c p.0).0 p.1)
      (λ t.
      let p = has_cut x (kept m (bit_and inner outer)) c t in
      let q = down (housed m inner) (house_laws m l inner) outer c (ap (λ k. has k c) kept_kept ∙ p.1) in
      cut_has (bit_and x (kept m inner)) (kept m (bit_and inner outer)) c (cut_has x (kept m inner) c p.0 q.0) p.1))

pub house_over_house : HouseOverHouse
house_over_house m l outer inner = λ i. record {
  universe = kept_kept m l outer inner i;
  converse = m.converse;
  composition = λ a b. cut_cut m l outer inner (m.composition a b) i;
  stamp = record { code = m.stamp.code; house = and_assoc m.stamp.house inner outer i };
}
