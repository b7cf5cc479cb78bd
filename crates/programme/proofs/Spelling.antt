-- Names: they are equal if their parts are, and known by their bytes.
use Rattle.std.proofs.Common.{◌≡◌, ℕ, ◌-◌, ◌<◌, ◌≤◌, Bool, ◌&&◌, eqb, Decides, List, length, get_or, take, replicate, sym, refl, ap, ◌∙◌, subst, arith, length-take}
use Rattle.std.proofs.lemmas.List.{take_at, get_or-take}
use Rattle.std.proofs.lemmas.List.Elements.{contains_decides, at_from_Contains, Contains-get_or}
use Rattle.std.proofs.lemmas.Bool.Decides.{Decides-and, Decides-eqb, Decides-like}
use Rattle.std.proofs.lemmas.Slice.Eq.{bytes_eq-Decides}
use Rattle.std.specs.Cmp.Lexicographic.{pointwise}
use Rattle.std.specs.List.{IsAnyAnswer, HoldsAt, Contains}
use Rattle.programme.specs.Spelled.{name_of, nobody}
use Rattle.programme.specs.declared.naming.Name.{Name}

made : List ℕ → ℕ → Name
made bytes len = record { bytes = bytes; len = len }

pub name_ext : (a b : Name) → a.bytes ≡ b.bytes → a.len ≡ b.len → a ≡ b
unfolding made
name_ext a b e f = ap (λ (bytes : List ℕ). made bytes a.len) e ∙ ap (made b.bytes) f

-- what `==` says of two names
same_names : (a b : Name) → Decides (pointwise eqb a.bytes b.bytes && eqb a.len b.len) (a ≡ b)
same_names a b =
    Decides-like _ (λ p. name_ext a b p.0 p.1) (λ e. (ap (λ (n : Name). n.bytes) e, ap (λ (n : Name). n.len) e))
    (Decides-and _ _ (bytes_eq-Decides a.bytes b.bytes) (Decides-eqb a.len b.len))

-- .. and `contains` of the first n of some
pub known_among : (names : List Name) (n : ℕ) (name : Name) (r : Bool) → n ≤ length names →
    IsAnyAnswer (λ y b. (pointwise eqb y.bytes name.bytes && eqb y.len name.len) ≡ b) (take n names) r →
    Decides r ((k : ℕ) × (k < n) × (get_or names k nobody ≡ name))
known_among names n name r h a =
    Decides-like r to from (contains_decides _ same_names (take n names) name r a)
  where
    to : (k : ℕ) × (k < length (take n names)) × HoldsAt (λ y. y ≡ name) (take n names) k →
        (k : ℕ) × (k < n) × (get_or names k nobody ≡ name)
    to (k, l, e) =
        let b : k < n = omega (arith, length-take n names) in
        (k, b, sym (get_or-take n names k nobody b) ∙ e nobody)

    from : (k : ℕ) × (k < n) × (get_or names k nobody ≡ name) →
        (k : ℕ) × (k < length (take n names)) × HoldsAt (λ y. y ≡ name) (take n names) k
    from (k, l, e) =
        let b : k < length (take n names) = omega (arith, length-take n names) in
        at_from_Contains (take n names) name
        (subst (λ y. Contains (take n names) y) (get_or-take n names k nobody l ∙ e) (Contains-get_or (take n names) k nobody b))

-- the bytes that a name has
abbrev pub spelt : Name → List ℕ
spelt name = take name.len name.bytes

pub spelt_of : (text : List ℕ) → spelt (name_of text) ≡ text
spelt_of text = take_at text (replicate (12 - length text) 0) (length text) refl

pub name_same : (a b : List ℕ) → name_of a ≡ name_of b → a ≡ b
name_same a b e = sym (spelt_of a) ∙ ap spelt e ∙ spelt_of b
