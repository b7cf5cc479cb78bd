-- Links: they join different entries, more ties have more of them, and whether two entries are linked is decided.
use Rattle.std.proofs.Common.{◌≡◌, ℕ, zero, suc, ◌+◌, ◌<◌, ◌≤◌, max, ◌⊎◌, List, [], ◌∷◌, sym, refl, ◌∙◌, subst, inl, inr, arith}
use mathlib.Core.List.Memᴰ
use native.Mathlib.Decide.{ℕ_discrete, dec_lt}
use Rattle.network.specs.Ties.{Tie, Among, Apart, Proper, Joins, Tied}
use Rattle.network.specs.Links.{Linked, tied, turned, filled}
use Rattle.network.specs.Statements.{OneGiven, Least}
use Rattle.network.proofs.Sets.{equal}

pub apart : {n : ℕ} {ties : List Tie} {i j : ℕ} → Proper n ties → Linked ties i j → Apart n i j
apart p (tied {t = t} a) = p t a
apart p (turned l) =
    let d = apart p l in
    record { first_in = d.second_in; second_in = d.first_in; differ = λ e. d.differ (sym e) }
apart p (filled d x y l k) = record { first_in = (apart p l).first_in; second_in = (apart p k).first_in; differ = d }

-- the links of some ties are links of others that link the pairs of each
pub linked_too : {less more : List Tie} {i j : ℕ} → ((t : Tie) → Among t less → Linked more t.first t.second) →
    Linked less i j → Linked more i j
linked_too f (tied {t = t} a) = f t a
linked_too f (turned l) = turned (linked_too f l)
linked_too f (filled d x y l k) = filled d x y (linked_too f l) (linked_too f k)

pub no_links : {i j : ℕ} → Linked [] i j → ⊥
no_links (tied a) = Memᴰ.not-nil a
no_links (turned l) = no_links l
no_links (filled d x y l k) = no_links l

pub least : Least
least ties L f g h i j (tied {t = t} a) = f t a
least ties L f g h i j (turned l) = g _ _ (least ties L f g h _ _ l)
least ties L f g h i j (filled d x y l k) = h _ _ _ d x y (least ties L f g h _ _ l) (least ties L f g h _ _ k)

-- ---- tied pairs

some_tie? : (P : Tie → Type 0) → ((t : Tie) → Dec (P t)) → (ties : List Tie) → Dec ((t : Tie) × Among t ties × P t)
some_tie? P d [] = no (λ w. Memᴰ.not-nil w.1)
some_tie? P d (u ∷ ties) = go (d u) (some_tie? P d ties)
  where
    go : Dec (P u) → Dec ((t : Tie) × Among t ties × P t) → Dec ((t : Tie) × Among t (u ∷ ties) × P t)
    go (yes x) w = yes (u, Memᴰ.head refl, x)
    go (no x) (yes w) = yes (w.0, Memᴰ.tail w.1, w.2)
    go (no x) (no w) = no (λ v. out v.0 v.1 v.2)
      where
        out : (t : Tie) → Among t (u ∷ ties) → ¬ P t
        out t (Memᴰ.head e) y = x (subst P e y)
        out t (Memᴰ.tail a) y = w (t, a, y)

pub both? : {A B : Type 0} → Dec A → Dec B → Dec (A × B)
both? (yes a) (yes b) = yes (a, b)
both? (yes a) (no b) = no (λ h. b h.1)
both? (no a) b = no (λ h. a h.0)

either? : {A B : Type 0} → Dec A → Dec B → Dec (A ⊎ B)
either? (yes a) b = yes (inl a)
either? (no a) (yes b) = yes (inr b)
either? (no a) (no b) = no (λ h. elim h [ inl x ↦ a x | inr y ↦ b y ])

joins? : (i j : ℕ) (t : Tie) → Dec (Joins t i j)
joins? i j t = both? (ℕ_discrete t.first i) (ℕ_discrete t.second j)

pub tied? : (ties : List Tie) (i j : ℕ) → Dec (Tied ties i j)
tied? ties i j = some_tie? (λ t. Joins t i j ⊎ Joins t j i) (λ t. either? (joins? i j t) (joins? j i t)) ties

pub one_given : OneGiven
one_given m ties i j g h p q =
    elim (tied? ties i j) [
      | yes t ↦ equal g h (λ r x. (q.some t r).1 ((p.some t r).0 x)) (λ r x. (p.some t r).1 ((q.some t r).0 x))
      | no t ↦ p.none t ∙ sym (q.none t)
    ]

-- ---- linked pairs

pub some? : (n : ℕ) (P : ℕ → Type 0) → ((k : ℕ) → k < n → Dec (P k)) → Dec ((k : ℕ) × (k < n) × P k)
some? zero P d = no (λ h. omega (arith, h.1))
some? (suc n) P d = go (d n (omega arith)) (some? n P (λ k h. d k (omega arith)))
  where
    go : Dec (P n) → Dec ((k : ℕ) × (k < n) × P k) → Dec ((k : ℕ) × (k < suc n) × P k)
    go (yes x) e = yes (n, omega arith, x)
    go (no x) (yes e) = yes (e.0, omega (arith, e.1), e.2)
    go (no x) (no e) =
        no (λ (k, h, y). elim (ℕ_discrete k n) [ yes q ↦ x (subst P q y) | no q ↦ e (k, omega arith, y) ])

pub joined : {ties : List Tie} {i j : ℕ} → Tied ties i j → Linked ties i j
joined (t, a, inl e) = rw (← e.0, ← e.1) (tied a)
joined (t, a, inr e) = rw (← e.0, ← e.1) (turned (tied a))

-- k is greater than i and j and linked with both
abbrev Over : List Tie → ℕ → ℕ → ℕ → Type 0
Over ties i j k = (i < k) × (j < k) × (Linked ties i k × Linked ties j k)

cases : {ties : List Tie} {i j : ℕ} → Linked ties i j → Tied ties i j ⊎ ((k : ℕ) × Over ties i j k)
cases (tied {t = t} a) = inl (t, a, inl (refl, refl))
cases (turned l) =
    elim (cases l) [
      | inl (t, a, e) ↦ inl (t, a, elim e [ inl x ↦ inr x | inr x ↦ inl x ])
      | inr (k, (x, y, (p, q))) ↦ inr (k, (y, x, (q, p)))
    ]
cases (filled {k = k} d x y l m) = inr (k, (x, y, (l, m)))

over? : (ties : List Tie) (i j k : ℕ) → (i < k → j < k → Dec (Linked ties i k × Linked ties j k)) → Dec (Over ties i j k)
over? ties i j k f =
    elim (dec_lt i k) [
      | no x ↦ no (λ o. x o.0)
      | yes x ↦ elim (dec_lt j k) [
        | no y ↦ no (λ o. y o.1)
        | yes y ↦ elim (f x y) [ no z ↦ no (λ o. z o.2) | yes z ↦ yes (x, y, z) ]
      ]
    ]

module _ (n : ℕ) (ties : List Tie) (p : Proper n ties) where
  -- d bounds how far the greater of i and j is below n
  link : (d i j : ℕ) → n ≤ d + max i j → Dec (Linked ties i j)
  link zero i j h = no (λ l. let a = apart p l in omega (arith, a.first_in, a.second_in))
  link (suc d) i j h =
      go (tied? ties i j) (ℕ_discrete i j)
      (some? n (Over ties i j) (λ k q. over? ties i j k (λ x y. both? (link d i k (omega arith)) (link d j k (omega arith)))))
    where
      go : Dec (Tied ties i j) → Dec (i ≡ j) → Dec ((k : ℕ) × (k < n) × Over ties i j k) → Dec (Linked ties i j)
      go (yes t) e o = yes (joined t)
      go (no t) (yes e) o = no (λ l. (apart p l).differ e)
      go (no t) (no e) (yes (k, h, (x, y, (l, m)))) = yes (filled e x y l m)
      go (no t) (no e) (no o) =
          no (λ l. elim (cases l) [ inl x ↦ t x | inr (k, w) ↦ o (k, (apart p w.2.0).second_in, w) ])

  pub linked? : (i j : ℕ) → Dec (Linked ties i j)
  linked? i j = link n i j (omega arith)
