-- Returning: the file of a ledger that a sheet shows leads back to that ledger.
use Rattle.std.proofs.Common.{◌≡◌, ℕ, ◌^◌, ◌<◌, ◌≢◌, List, [], ◌∷◌, ◌++◌, map, length, Ok, sym, refl, ◌∙◌, inl, inr, append_assoc, append-nil, arith}
use mathlib.Core.List.Memᴰ
use mathlib.Core.List.{Memᴰ}
use lib.Bits.{bit_and}
use Rattle.std.proofs.lemmas.Nat.{and_le_r}
use Rattle.std.proofs.lemmas.Bool.{cases_lt, false≢true}
use Rattle.algebra.specs.Meaning.{Meaning, Lawful}
use Rattle.algebra.specs.Bits.{has_cut, cut_has}
use Rattle.network.specs.Ties.{In, Tie, Among, Apart, Allowed}
use Rattle.network.specs.Candidates.{Clash}
use Rattle.network.specs.Closing.{adding}
use Rattle.network.proofs.Sets.{equal}
use Rattle.network.proofs.Links.{apart, joined, one_given}
use Rattle.network.proofs.Nets.{clash_shows}
use Rattle.network.proofs.Following.{weaker}
use Rattle.programme.specs.Networks.{net_of}
use Rattle.programme.specs.Ledgers.{Ledger, enter, TieFault, Answered}
use Rattle.programme.specs.Grown.{InTurn, ended, next, Orderly}
use Rattle.programme.specs.Shown.{Shows}
use Rattle.programme.specs.declared.refusals.Refusal.{Refusal}
use Rattle.programme.specs.declared.refusals.Refusal.TheVariants.{Misnamed}
use Rattle.programme.specs.declared.sheets.Sheet.{Sheet}
use Rattle.programme.proofs.Growing.{both_in_turn}
use Rattle.programme.proofs.Refusing.{no_tie_fault}
use Rattle.qcue.specs.Held.{as_tie, Loadable}
use Rattle.qcue.specs.Written.{TiedPair, TiedPairs, file_bytes, SameLedger}
use Rattle.qcue.proofs.Pairs.{pairs_few}
use Rattle.qcue.proofs.Encoding.{file_holds}
use Rattle.qcue.proofs.Easing.{easier_follows, easier_same, rows_easier, ties_easier}

-- ---- what is asked in turn

-- a name that is taken is short
names_short : (m : Meaning) (L K : Ledger) (names : List (List ℕ)) → InTurn m L (map enter names) K →
    (name : List ℕ) → Memᴰ name names → length name < 65532
names_short m L K [] p name h = absurd (Memᴰ.not-nil h)
names_short m L K (x ∷ names) (next a p) name (Memᴰ.head e) =
    rw e (elim (cases_lt 12 (length x)) [ inl h ↦ absurd (a.1 Misnamed (inr h)) | inr h ↦ omega arith ])
names_short m L K (x ∷ names) (next a p) name (Memᴰ.tail h) = names_short m _ K names p name h

-- ---- rows in turn

module _ (m : Meaning) (l : Lawful m) (s : Sheet) (L : Ledger) (w : Shows m s L) (o : Orderly m L) where
  module _ (t : Tie) (p : TiedPair m L t) where
    allowed : (r : ℕ) → In r t.mask → Allowed m L.ties t.first t.second r
    allowed r = (p.given.some p.tied r).0

    mask_some : t.mask ≢ 0
    mask_some e =
        w.given_some _ _ p.tied (one_given m L.ties t.first t.second _ _ (w.given _ _) p.given ∙ e)

    mask_part : t.mask ≢ m.universe
    mask_part e =
        let (u, a, j) = p.tied in
        let told = o.telling u a in
        told.part (equal u.mask m.universe told.within (λ r h. elim j [
          | inl k ↦ (allowed r (rw e h)).forth u a k
          | inr k ↦ rw (l.converse_twice r h) at ((allowed (m.converse r) (rw e (l.converse_in r h))).back u a k)
        ]))

    mask_low : t.mask < 2 ^ 32
    mask_low = omega (arith, same, and_le_r t.mask m.universe, l.fits)
      where
        same : bit_and t.mask m.universe ≡ t.mask
        same =
            equal _ _ (λ r h. (has_cut t.mask m.universe r h).0)
            (λ r h. cut_has t.mask m.universe r h (allowed r h).reading)

  -- the ledger with other ties
  abbrev with_ties : List Tie → Ledger
  with_ties ties = record { names = L.names; ties = ties }

  row_taken : (past : List Tie) (t : Tie) → ((u : Tie) → Among u (adding past t) → TiedPair m L u) →
      Answered m (with_ties past) (as_tie t) (Ok 0)
  row_taken past t each = (refl, λ refusal. fine refusal tt)
    where
      p : TiedPair m L t
      p = each t (Memᴰ.append_right past (Memᴰ.head refl))

      d : Apart (length L.names) t.first t.second
      d = apart w.proper (joined p.tied)

      clear : ¬ Clash m (adding past t)
      clear =
          weaker m (adding past t) L.ties (net_of s.network)
          (easier_follows m (adding past t) L.ties (rows_easier m l L (adding past t) each)) w.network.settled
          (λ c. w.clear ((clash_shows m L.ties (net_of s.network) w.network.settled).0 c))

      fine : (refusal : Refusal) → Unit {0} → ¬ TieFault m (with_ties past) t.first t.second t.mask refusal
      fine =
          no_tie_fault m (with_ties past) t.first t.second t.mask (λ _. Unit {0})
          (λ _ x. elim x [ inl h ↦ omega (arith, d.first_in) | inr h ↦ omega (arith, d.second_in) ])
          (λ _. d.differ) (λ _. mask_some t p) (λ _ (r, h, o). false≢true (sym o ∙ (allowed t p r h).reading))
          (λ _. mask_part t p) (λ _. clear)

  module _ (rows : List Tie) (each : (t : Tie) → Among t rows → TiedPair m L t) where
    rows_taken : (past rest : List Tie) → past ++ rest ≡ rows → InTurn m (with_ties past) (map as_tie rest) (with_ties rows)
    rows_taken past [] e = rw (← e, append-nil) ended
    rows_taken past (t ∷ rest) e =
        let f : adding past t ++ rest ≡ rows = append_assoc past (t ∷ []) rest ∙ e in
        next (row_taken past t (λ u a. each u (rw f at (Memᴰ.append_left rest a)))) (rows_taken (adding past t) rest f)

pub loads_back : (m : Meaning) (s : Sheet) (L : Ledger) (rows : List Tie) →
    Lawful m → m.stamp.house < 2 ^ 32 → Shows m s L → Orderly m L → TiedPairs m L rows →
    (K : Ledger) × Loadable m (file_bytes m.stamp L.names rows) K × SameLedger m L K
loads_back m s L rows l house w o p =
    let few = pairs_few m L rows _ w.proper (omega (arith, w.counted, w.room)) p in (
      record { names = L.names; ties = rows },
      record {
        names = L.names;
        ties = rows;
        holds =
            file_holds m.stamp L.names rows house (omega arith) (names_short m _ _ L.names o.entered)
            (λ t a. mask_low m l s L w o t (p.each t a));
        taken = both_in_turn o.entered (rows_taken m l s L w o rows p.each [] rows refl);
      },
      easier_same m L.names L.ties rows (ties_easier m l L rows _ w.proper p) (rows_easier m l L rows p.each),
    )
