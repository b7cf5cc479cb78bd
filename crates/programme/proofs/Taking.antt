-- Taking a tie: the sheet with one tie more.
use Rattle.std.proofs.Common.{◌≡◌, ℕ, ◌<◌, ◌≢◌, List, length, get_or, Ok, Err, refl, ap, ◌∙◌, arith}
use Rattle.algebra.specs.Meaning.{Meaning, Lawful}
use Rattle.network.specs.Ties.{In, Tie, Apart, Proper, Tied, Allowed, Given}
use Rattle.network.specs.Candidates.{Net, ClosedCandidate, Settled, Emptied}
use Rattle.network.specs.Closing.{adding}
use Rattle.network.proofs.Sets.{empty, none}
use Rattle.network.proofs.Links.{apart, joined}
use Rattle.network.proofs.Nets.{clash_shows}
use Rattle.programme.specs.Networks.{tie_of, net_of, Reflects, Empties}
use Rattle.programme.specs.Spelled.{nobody}
use Rattle.programme.specs.Ledgers.{Ledger, tie, taken, Below, Answered}
use Rattle.programme.specs.Shown.{Shows}
use Rattle.programme.specs.Written.{SameEntries, GivenCuts}
use Rattle.programme.specs.Timely.{TimelyTie}
use Rattle.programme.specs.declared.linkage.Network.{Network}
use Rattle.programme.specs.declared.naming.Name.{Name}
use Rattle.programme.specs.declared.refusals.Refusal.TheVariants.{Clash}
use Rattle.programme.specs.declared.sheets.Sheet.{Sheet}
use Rattle.programme.proofs.Giving.{each_tie, given_more}
use Rattle.programme.proofs.Refusing.{tie_fine}
use Rattle.programme.proofs.Timing.{empty_or_timed}

-- what a closed candidate has between two entries is allowed by the ties
pub closed_allowed : (m : Meaning) (ties : List Tie) (D : Net) (i j r : ℕ) → ClosedCandidate m ties D → Tied ties i j →
    In r (D i j) → Allowed m ties i j r
closed_allowed m ties D i j r c x h =
    let turned = c.candidate.both_ways i j r (joined x) h in
    record {
      reading = c.candidate.within i j r (joined x) h;
      forth = λ t a e. c.under t a r (rw (e.0, e.1) h);
      back = λ t a e. c.under t a (m.converse r) (rw (e.0, e.1) turned);
    }

-- so where no link is empty no given set of a tied pair is
given_full : (m : Meaning) (ties : List Tie) (S : Net) (i j g : ℕ) → Settled m ties S → ¬ Emptied ties S → Tied ties i j →
    Given m ties i j g → g ≢ 0
given_full m ties S i j g s clear x w e =
    clear (i, j, joined x, empty (S i j) (λ r h. none r g e ((w.some x r).1 (closed_allowed m ties S i j r s.fit x h))))

module _ (m : Meaning) (l : Lawful m) (s t : Sheet) (w : Network) (i j mask : ℕ) (hi : i < s.count) (hj : j < s.count)
    (differ : i ≢ j) (cuts : GivenCuts m s i j mask t)
    (settles : (ties : List Tie) → Proper 48 ties → Reflects m t.network ties → Reflects m w (adding ties (tie_of i j mask)))
    (L : Ledger) (shows : Shows m s L) where
  abbrev ties : List Tie
  ties = adding L.ties (tie_of i j mask)

  proper : Proper (length L.names) ties
  proper =
      each_tie L.ties (tie_of i j mask) (λ t. Apart (length L.names) t.first t.second)
      (record { first_in = omega (arith, shows.counted); second_in = omega (arith, shows.counted); differ = differ })
      shows.proper

  wider : {a b : ℕ} → Apart (length L.names) a b → Apart 48 a b
  wider a = record {
    first_in = omega (arith, a.first_in, shows.counted, shows.room);
    second_in = omega (arith, a.second_in, shows.counted, shows.room);
    differ = a.differ;
  }

  reflects : Reflects m w ties
  reflects = settles L.ties (λ t a. wider (shows.proper t a)) (rw cuts.network shows.network)

  module _ (full : ¬ Empties w) where
    clear : ¬ Emptied ties (net_of w)
    clear (a, b, x, e) = let p = wider (apart proper x) in full (a, p.first_in, (b, p.second_in, (reflects.linked a b).1 x, e))

    -- u is t with the network w
    pub taken_shows : (u : Sheet) → SameEntries t u → u.given ≡ t.given → u.network ≡ w → Shows m u (taken L (tie i j mask))
    taken_shows u same e f =
        let given = given_more m l L.ties i j mask differ s t shows.given shows.given_some cuts in
        record {
          counted = same.count ∙ cuts.entries.count ∙ shows.counted;
          room = u.small;
          named = λ k h.
              ap (λ (names : List Name). get_or names k nobody) (same.names ∙ cuts.entries.names)
              ∙ shows.named k (omega (arith, same.count, cuts.entries.count));
          proper = proper;
          given = λ a b. rw e (given a b);
          given_some = λ a b x. rw e (given_full m ties (net_of w) a b _ reflects.settled clear x (given a b));
          network = rw f reflects;
          clear = rw f clear;
        }

    pub taken_answered : Below m L (tie i j mask) 10 → Answered m L (tie i j mask) (Ok 0)
    taken_answered below =
        tie_fine m L i j mask below (λ c. clear ((clash_shows m ties (net_of w) reflects.settled).0 c))

    pub taken_timely : TimelyTie m L i j mask (Ok 0)
    taken_timely a below plain = (
      λ e. let z : ◌≡◌ {A = ℕ} 0 1 = cc in absurd (omega arith),
      λ f. absurd (clear ((empty_or_timed m (length L.names) ties (net_of w) l a proper plain reflects.settled).1 f)),
    )

  module _ (found : Empties w) where
    emptied : Emptied ties (net_of w)
    emptied = let (a, _, (b, _, on, e)) = found in (a, b, (reflects.linked a b).0 on, e)

    pub clash_answered : Below m L (tie i j mask) 10 → Answered m L (tie i j mask) (Err Clash)
    clash_answered below = ((net_of w, reflects.settled, emptied), below)

    pub clash_timely : TimelyTie m L i j mask (Err Clash)
    clash_timely a below plain = (
      λ _. (empty_or_timed m (length L.names) ties (net_of w) l a proper plain reflects.settled).0 emptied,
      λ _. refl,
    )
