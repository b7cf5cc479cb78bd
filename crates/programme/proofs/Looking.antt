-- Looking at a sheet: what is seen between two entries.
use Rattle.std.proofs.Common.{◌≡◌, ℕ, Bool, true, ◌≢◌, length, Some, sym, refl, ◌∙◌}
use Rattle.algebra.specs.Meaning.{Meaning, Lawful}
use Rattle.network.specs.Links.{Linked}
use Rattle.network.proofs.Links.{apart}
use Rattle.network.proofs.Nets.{sound, unique}
use Rattle.programme.specs.Networks.{bit_at, cell, net_of}
use Rattle.programme.specs.Ledgers.{Ledger}
use Rattle.programme.specs.Shown.{Shows}
use Rattle.programme.specs.Questions.{SettledSet, Seen}
use Rattle.programme.specs.declared.sheets.Sheet.{Sheet}

module _ (m : Meaning) (s : Sheet) (L : Ledger) (w : Shows m s L) (i j : ℕ) where
  pub seen_same : i ≡ j → Seen m L i j (Some 1)
  seen_same e = record {
    same = λ _. refl;
    linked = λ x. absurd ((apart w.proper x).differ e);
    unlinked = λ d. absurd (d e);
  }

  pub settled_set : Lawful m → Linked L.ties i j → SettledSet m L i j (cell s.network.sets i j)
  settled_set l x =
      let settled = w.network.settled in
      let net = net_of s.network in
      record {
        one = (net, settled);
        every = λ S t. unique m L.ties net S settled t i j x;
        arranged = λ ρ a meets. sound m (length L.names) L.ties net ρ l w.proper settled a meets i j x;
      }

  pub seen_link : (on : Bool) (set : ℕ) → Lawful m → i ≢ j → on ≡ bit_at s.network.links i j → on ≡ true →
      set ≡ cell s.network.sets i j → Seen m L i j (Some set)
  seen_link on set l d is t e = record {
    same = λ q. absurd (d q);
    linked = λ x. (set, refl, rw e (settled_set l x));
    unlinked = λ _ n. absurd (n ((w.network.linked i j).0 (sym is ∙ t)));
  }
