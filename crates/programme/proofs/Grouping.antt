-- Numbers in groups: where each group stands, and what a test of every group tells.
use Rattle.std.proofs.Common.{◌≡◌, ℕ, ◌+◌, ◌*◌, ◌/◌, ◌<◌, ◌≤◌, Bool, true, false, length, Some, None, Decides, IsTrue, ℤ, MatchBool, Option, List, [], ◌∷◌, slice_index_or, inl, inr, refl, ap, ◌∙◌, le_refl, add-mul, one-mul, arith}
use Rattle.std.proofs.lemmas.Nat.{mul-le, div-add-mod'}
use Rattle.std.proofs.lemmas.Bool.{cases_lt}
use native.Mathlib.Nat.{mod-lt}
use Rattle.std.specs.Option.{option_map}
use Rattle.std.specs.Iterator.Runs.{SomeRun, EveryRun, AllItemsGive, AnyItemGives, CallKeepsClosure, IsChunksExactRun}
use Rattle.std.specs.Slice.Iter.{chunks_exact_rest, chunks_exact_size, chunks_exact_steps}
use Rattle.algebra.specs.Timed.{Group}
use Rattle.programme.specs.Fitted.{group_at}
use denote.Param.Members.{Mut, Called}
use denote.Ref.{Bor}

module _ (len size n : ℕ) where
  -- each group ends within the numbers
  pub group_within : (i : ℕ) → i < n → len ≡ n * size → i * size + size ≤ len
  group_within i h e =
      let rows : (i + 1) * size ≤ n * size = mul-le (i + 1) size n size (omega arith) (le_refl size) in
      omega (arith, rows, add-mul i 1 size, one-mul size)

  -- a group that does so is one of them
  pub group_before : (i : ℕ) → 0 < size → i * size + size ≤ len → len ≡ n * size → i < n
  group_before i some h e =
      elim (cases_lt i n) [ inl l ↦ l | inr g ↦ absurd (omega (arith, mul-le n size i size g (le_refl size))) ]

-- where a run has an item
item_of : {A : Type 0} (o : Option A) (xs : List A) (k : ℕ) → k < length xs →
    ((d : A) → option_map (λ y. y) o ≡ Some (slice_index_or xs k d)) → (x : A) × (o ≡ Some x)
item_of o [] k h f = absurd (omega arith)
item_of (Some x) (y ∷ ys) k h f = (x, refl)
item_of None (y ∷ ys) k h f = let e = f y in cc

-- a whole group comes before as many as there are
before_last : (len size i : ℕ) → 0 < size → i * size + size ≤ len → i < len / size
before_last len size i some h =
    elim (cases_lt i (len / size)) [
      | inl l ↦ l
      | inr g ↦
          let rows = mul-le (len / size) size i size g (le_refl size) in
          absurd (omega (arith, rows, div-add-mod' len size, mod-lt len some))
    ]

module _ {F : Type 0} (g : Mut F (Bor Group × Unit {0}) Bool) (f : F) (s : _) (size : ℕ) (numbers : Group) (r : Bool)
    (P : Group → Type 0) where
  -- the tests of the whole groups in turn tell whether each is as P says
  pub groups_tested : 0 < size → chunks_exact_size s ≡ size → chunks_exact_rest s ≡ numbers →
      EveryRun (chunks_exact_steps {A = ℤ}) (λ p. 0 < chunks_exact_size p.from →
      IsChunksExactRun p (chunks_exact_size p.from) (chunks_exact_rest p.from)) →
      SomeRun (chunks_exact_steps {A = ℤ}) s (λ p.
      MatchBool r (IsTrue p.whole × AllItemsGive p g f true) (AnyItemGives p g f false)) →
      CallKeepsClosure g f → ((x : Bor Group) (b : Bool) → Called g f (x, tt) b f → Decides b (P x.now)) →
      (r ≡ true → (i : ℕ) → i * size + size ≤ length numbers → P (group_at size numbers i))
      × (r ≡ false → ((i : ℕ) × (i * size + size ≤ length numbers) × ¬ P (group_at size numbers i)))
  groups_tested some e k runs (p, from, tests) keep told = (
    λ t i h.
        let (whole, passed) = rw t at tests in
        let (x, at) = item i (rw (run.1 whole) (before_last _ _ i some h)) in
        rw (rw at at (run.2 i)).2.0 at (told x true (rw at at (passed keep i))).0 refl,
    λ t.
        let (i, l, failed) = rw t at tests keep in
        let (x, at) = item i l in
        let here = rw at at (run.2 i) in
        (i, here.1, λ y. let e = (told x false (rw at at failed)).1 (rw here.2.0 y) in cc),
  )
    where
      run : IsChunksExactRun p size numbers
      run =
          let sized = ap chunks_exact_size from ∙ e in
          rw (sized, ap chunks_exact_rest from ∙ k) at (runs p p.seen (rw sized some))

      item : (i : ℕ) → i < p.len → (x : Bor Group) × (p.at i ≡ Some x)
      item i l = item_of (p.at i) p.items i (omega (arith, p.long)) (λ d. p.reads i d l)
