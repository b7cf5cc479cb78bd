-- Numbers that fit arrange the entries, by the readings between their groups.
use Rattle.std.proofs.Common.{◌≡◌, ℕ, ◌<◌, length, Some, None, Ok, Err, Option, Result, sym}
use native.Mathlib.Decide.{dec_lt}
use Rattle.algebra.specs.Meaning.{Meaning, Lawful}
use Rattle.algebra.specs.Things.{Relation}
use Rattle.algebra.specs.Instants.{instants}
use Rattle.algebra.specs.Spans.{spans}
use Rattle.algebra.specs.Timed.{Group, Measured, InstantGroup, InstantGroupsStand, SpanGroup, SpanGroupsStand}
use Rattle.algebra.specs.InstantLaws.{instant_laws}
use Rattle.algebra.specs.SpanLaws.{span_laws}
use Rattle.algebra.proofs.GroupLaws.{instants_measured, spans_measured}
use Rattle.network.specs.Ties.{Apart, Proper}
use Rattle.network.specs.Candidates.{Clash}
use Rattle.network.specs.Arrangements.{Arrangement, Meets}
use Rattle.network.proofs.Sets.{none}
use Rattle.network.proofs.Nets.{sound}
use Rattle.programme.specs.Ledgers.{Ledger}
use Rattle.programme.specs.Shown.{Shows}
use Rattle.programme.specs.Fitted.{group_at, Fits, Fitted, Arranged, WhenFitting, Fitting, InstantsArrange, SpansArrange}
use Rattle.programme.specs.declared.fitting.Misfit.{Misfit}
use Rattle.programme.specs.declared.sheets.Sheet.{Sheet}
use Rattle.programme.proofs.Meeting.{one_fitting}

-- what there is for each two numbers below n is chosen for all
module _ (n : ℕ) (P : ℕ → ℕ → ℕ → Type 0) (f : (i j : ℕ) → i < n → j < n → (a : ℕ) × P i j a) where
  pick : (i j : ℕ) → Dec (i < n) → Dec (j < n) → ℕ
  pick i j (yes h) (yes k) = (f i j h k).0
  pick i j (yes h) (no k) = 0
  pick i j (no h) k = 0

  picked : (i j : ℕ) (x : Dec (i < n)) (y : Dec (j < n)) → i < n → j < n → P i j (pick i j x y)
  unfolding pick
  picked i j (yes h) (yes k) p q = (f i j h k).1
  picked i j (yes h) (no k) p q = absurd (k q)
  picked i j (no h) k p q = absurd (h p)

module _ (m : Meaning) (l : Lawful m) (size : ℕ) (Thing : Group → Type 0) (Stand : ℕ → Relation Group)
    (d : Measured m size Thing Stand) (L : Ledger) (numbers : Group) (p : Proper (length L.names) L.ties)
    (fits : Fits size Thing Stand L numbers) where
  abbrev n : ℕ
  n = length L.names

  abbrev group : ℕ → Group
  group = group_at size numbers

  between : (i j : ℕ) → i < n → j < n → (a : ℕ) × Stand a (group i) (group j)
  between i j h k = d.between (group i) (group j) (fits.grouped.things i h) (fits.grouped.things j k)

  readings : ℕ → ℕ → ℕ
  readings i j = pick n (λ i j a. Stand a (group i) (group j)) between i j (dec_lt i n) (dec_lt j n)

  stand : (i j : ℕ) → Apart n i j → Stand (readings i j) (group i) (group j)
  unfolding readings
  stand i j a =
      picked n (λ i j a. Stand a (group i) (group j)) between i j (dec_lt i n) (dec_lt j n) a.first_in a.second_in

  turned : {i j : ℕ} → Apart n i j → Apart n j i
  turned a = record { first_in = a.second_in; second_in = a.first_in; differ = λ e. a.differ (sym e) }

  arrangement : Arrangement m n readings
  arrangement = record {
    reading = λ i j a. d.reading (readings i j) (group i) (group j) (stand i j a);
    both_ways = λ i j a.
        d.only (readings j i) (m.converse (readings i j)) (group j) (group i) (stand j i (turned a))
        (d.converse (readings i j) (group i) (group j) (stand i j a));
    closed = λ i k j x y z.
        d.composition (readings i k) (readings k j) (readings i j) (group i) (group k) (group j)
        (stand i k x) (stand k j y) (stand i j z);
  }

  meets : Meets L.ties readings
  meets t a =
      let (q, h, u) = fits.met t a in
      rw (d.only (readings t.first t.second) q (group t.first) (group t.second) (stand _ _ (p t a)) u) h

  clear : ¬ Clash m L.ties
  clear (S, s, (i, j, x, e)) =
      none (readings i j) (S i j) e (sound m n L.ties S readings l p s arrangement meets i j x)

  pub arranged : Arranged m size Stand L numbers
  arranged = record { readings = readings; stand = stand; arrangement = arrangement; meets = meets; clear = clear }

pub instants_arrange : InstantsArrange
instants_arrange L numbers p f =
    arranged instants instant_laws 1 InstantGroup InstantGroupsStand instants_measured L numbers p f

pub spans_arrange : SpansArrange
spans_arrange L numbers p f = arranged spans span_laws 2 SpanGroup SpanGroupsStand spans_measured L numbers p f

-- ---- the answer, where the numbers of a thing are counted by k

module _ (m : Meaning) (l : Lawful m) (size k : ℕ) (Thing : Group → Type 0) (Stand : ℕ → Relation Group)
    (d : Measured m size Thing Stand) (e : k ≡ size) (s : Sheet) (numbers : Group) where
  when_fitting : (r : Result (Option (ℕ × ℕ)) Misfit) (L : Ledger) → Shows m s L → Fitted size Thing Stand L numbers r →
      WhenFitting r (Arranged m size Stand L numbers)
  when_fitting (Ok None) L w f = arranged m l size Thing Stand d L numbers w.proper f
  when_fitting (Ok (Some pair)) L w f = tt
  when_fitting (Err misfit) L w f = tt

  pub answer : (r : Result (Option (ℕ × ℕ)) Misfit) →
      (Measured m k Thing Stand → (L : Ledger) → Shows m s L → Fitted k Thing Stand L numbers r) →
      Fitting m size Thing Stand s numbers r
  answer r f = record {
    told = told;
    only = λ L w other q. one_fitting size Thing Stand L numbers other r q (told L w);
    arranged = λ L w. when_fitting r L w (told L w);
  }
    where
      told : (L : Ledger) → Shows m s L → Fitted size Thing Stand L numbers r
      told L w = rw (← e) (f (rw e d) L w)
