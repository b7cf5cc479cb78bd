-- An algebra that describes things keeps the laws, whatever the things are; and it describes them by sets too.
use Rattle.std.specs.Prelude.{◌≡◌, ℕ, ◌^◌, ◌<◌, true, ◌↔◌, refl}
use Rattle.std.proofs.Common.{sym, ◌∙◌, subst}
use Rattle.std.proofs.lemmas.Bool.{eq-eqb, eqb-true}
use Rattle.algebra.specs.Masks.{has}
use Rattle.algebra.specs.Meaning.{Meaning, Lawful, Reading, converse_of, composition_of}
use Rattle.algebra.specs.Things.{Relation, Describes, DescribesSets, In}
use Rattle.algebra.specs.Bits.{iff, has_one, same}
use Rattle.algebra.specs.Sets.{composition_to, composition_from, converse_by_membership}

module _ (m : Meaning) (Thing : Type 0) (Stand : ℕ → Relation Thing) (d : Describes m Thing Stand) where
  twice : (a : ℕ) → Reading m a → m.converse (m.converse a) ≡ a
  twice a h =
      let w = d.somewhere a h in
      let x = w.0 in
      let y = w.1 in
      d.only (m.converse (m.converse a)) a x y (d.converse (m.converse a) y x (d.converse a x y w.2)) w.2

  back : (a : ℕ) (x y : Thing) → Reading m a → Stand (m.converse a) y x → Stand a x y
  back a x y h s = subst (λ r. Stand r x y) (twice a h) (d.converse (m.converse a) y x s)

  turned_in : (a : ℕ) → Reading m a → Reading m (m.converse a)
  turned_in a h =
      let w = d.somewhere a h in
      d.reading (m.converse a) w.1 w.0 (d.converse a w.0 w.1 w.2)

  -- three things that stand in a, b and c
  abbrev Three : ℕ → ℕ → ℕ → Type 0
  Three a b c = (x y z : Thing) × Stand a x y × Stand b y z × Stand c x z

  -- reading 0 leaves b alone, on either side
  left_one : (b c : ℕ) → Three 0 b c → b ≡ c
  left_one b c w =
      let x = w.0 in
      let y = w.1 in
      let z = w.2 in
      d.only b c x z (subst (λ t. Stand b t z) (sym ((d.identity x y).0 w.3)) w.4) w.5

  right_one : (b c : ℕ) → Three b 0 c → b ≡ c
  right_one b c w =
      let x = w.0 in
      let y = w.1 in
      let z = w.2 in
      d.only b c x z (subst (λ t. Stand b x t) ((d.identity y z).0 w.4) w.3) w.5

  left_three : (b : ℕ) → Reading m b → Three 0 b b
  left_three b h = let w = d.somewhere b h in (w.0, w.0, w.1, (d.identity w.0 w.0).1 refl, w.2, w.2)

  right_three : (b : ℕ) → Reading m b → Three b 0 b
  right_three b h = let w = d.somewhere b h in (w.0, w.1, w.1, w.2, (d.identity w.1 w.1).1 refl, w.2)

  -- a composition with just the one reading b is that reading's mask
  alone : (p b : ℕ) → ((c : ℕ) → has p c ≡ true → b ≡ c) → has p b ≡ true → p ≡ 2 ^ b
  alone p b only_b there =
      same _ _ (λ c. iff _ _ (λ t. has_one b c ∙ eq-eqb b c (only_b c t))
      (λ t. subst (λ k. has p k ≡ true) (eqb-true b c (sym (has_one b c) ∙ t)) there))

  module _ (fits : m.universe < 2 ^ 32) (zero_in : Reading m 0) where
    zero_turned : m.converse 0 ≡ 0
    zero_turned =
        let w = d.somewhere 0 zero_in in
        let x = w.0 in
        let s = (d.identity x x).1 refl in
        d.only (m.converse 0) 0 x x (d.converse 0 x x s) s

    -- the three sides of a triangle, read from another corner
    around_left : (a b c : ℕ) → Reading m a → Three a b c → Three (m.converse a) c b
    around_left a b c h w = (w.1, w.0, w.2, d.converse a w.0 w.1 w.3, w.5, w.4)

    around_left_back : (a b c : ℕ) → Reading m a → Three (m.converse a) c b → Three a b c
    around_left_back a b c h w = (w.1, w.0, w.2, back a w.1 w.0 h w.3, w.5, w.4)

    around_right : (a b c : ℕ) → Reading m b → Three a b c → Three c (m.converse b) a
    around_right a b c h w = (w.0, w.2, w.1, w.5, d.converse b w.1 w.2 w.4, w.3)

    around_right_back : (a b c : ℕ) → Reading m b → Three c (m.converse b) a → Three a b c
    around_right_back a b c h w = (w.0, w.2, w.1, w.5, back b w.2 w.1 h w.4, w.3)

    pub thing_laws : Lawful m
    thing_laws = record {
      fits = fits;
      identity_in = zero_in;
      identity_converse = zero_turned;
      converse_in = turned_in;
      converse_twice = twice;
      composition_in = λ a b c ha hb h. let w = (d.composition a b c ha hb).0 h in d.reading c w.0 w.2 w.5;
      identity_left = λ b h.
          alone (m.composition 0 b) b (λ c t. left_one b c ((d.composition 0 b c zero_in h).0 t))
          ((d.composition 0 b b zero_in h).1 (left_three b h));
      identity_right = λ b h.
          alone (m.composition b 0) b (λ c t. right_one b c ((d.composition b 0 c h zero_in).0 t))
          ((d.composition b 0 b h zero_in).1 (right_three b h));
      peirce_left = λ a b c ha hb hc.
          iff _ _ (λ t. (d.composition (m.converse a) c b (turned_in a ha) hc).1 (around_left a b c ha ((d.composition a b c ha hb).0 t)))
          (λ t. (d.composition a b c ha hb).1 (around_left_back a b c ha ((d.composition (m.converse a) c b (turned_in a ha) hc).0 t)));
      peirce_right = λ a b c ha hb hc.
          iff _ _ (λ t. (d.composition c (m.converse b) a hc (turned_in b hb)).1 (around_right a b c hb ((d.composition a b c ha hb).0 t)))
          (λ t. (d.composition a b c ha hb).1 (around_right_back a b c hb ((d.composition c (m.converse b) a hc (turned_in b hb)).0 t)));
    }

    -- ---- sets

    converse_sets : (s c : ℕ) → (has (converse_of m s) c ≡ true) ↔ ((x y : Thing) × In Stand s x y × Stand c y x)
    converse_sets s c = (there, whence)
      where
        there : has (converse_of m s) c ≡ true → (x y : Thing) × In Stand s x y × Stand c y x
        there h =
            let r = (converse_by_membership m thing_laws s c).0 h in
            let w = d.somewhere r.0 r.1 in
            (w.0, w.1, (r.0, r.2, w.2), subst (λ k. Stand k w.1 w.0) r.3 (d.converse r.0 w.0 w.1 w.2))

        whence : (x y : Thing) × In Stand s x y × Stand c y x → has (converse_of m s) c ≡ true
        whence w =
            let x = w.0 in
            let y = w.1 in
            let a = w.2.0 in
            let e = d.only (m.converse a) c y x (d.converse a x y w.2.2) w.3 in
            (converse_by_membership m thing_laws s c).1 (a, d.reading a x y w.2.2, w.2.1, e)

    composition_sets : (s t c : ℕ) →
        (has (composition_of m s t) c ≡ true) ↔ ((x y z : Thing) × In Stand s x y × In Stand t y z × Stand c x z)
    composition_sets s t c = (there, whence)
      where
        there : has (composition_of m s t) c ≡ true → (x y z : Thing) × In Stand s x y × In Stand t y z × Stand c x z
        there h =
            let j = composition_to m thing_laws s t c h in
            let w = (d.composition j.a j.b c j.a_reading j.b_reading).0 j.gives in
            (w.0, w.1, w.2, (j.a, j.a_in, w.3), (j.b, j.b_in, w.4), w.5)

        whence : (x y z : Thing) × In Stand s x y × In Stand t y z × Stand c x z → has (composition_of m s t) c ≡ true
        whence w =
            let a = w.3.0 in
            let b = w.4.0 in
            let ha = d.reading a w.0 w.1 w.3.2 in
            let hb = d.reading b w.1 w.2 w.4.2 in
            composition_from m thing_laws s t c
            (record {
              a = a;
              b = b;
              a_reading = ha;
              b_reading = hb;
              a_in = w.3.1;
              b_in = w.4.1;
              gives = (d.composition a b c ha hb).1 (w.0, w.1, w.2, w.3.2, w.4.2, w.5);
            })

    pub describes_sets : DescribesSets m Thing Stand
    describes_sets = record { converse = converse_sets; composition = composition_sets }
