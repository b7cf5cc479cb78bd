-- Tied pairs: a ledger has one rising list of them, and it is short.
use Rattle.std.proofs.Common.{◌≡◌, ℕ, ◌<◌, ◌≤◌, List, length, arith}
use Rattle.algebra.specs.Meaning.{Meaning}
use Rattle.network.specs.Ties.{Tie, Proper, Joins, Tied, Given}
use Rattle.network.proofs.Links.{apart, joined, one_given}
use Rattle.programme.specs.Networks.{tie_of}
use Rattle.programme.specs.Ledgers.{Ledger}
use Rattle.programme.proofs.Pairs.{rows_one, rows_few}
use Rattle.qcue.specs.Written.{TiedPair, TiedPairs, OneList}

-- a pair's row is determined by its numbers
one_row : (m : Meaning) (L : Ledger) (i j g : ℕ) (u : Tie) → Given m L.ties i j g → TiedPair m L u → Joins u i j → tie_of i j g ≡ u
one_row m L i j g u h p (d, e) =
    let k : Given m L.ties i j u.mask = rw (← d, ← e) p.given in
    rw (← d, ← e, one_given m L.ties i j g u.mask h k)

pub one_list : OneList
one_list m L =
    rows_one (λ t. t.first) (λ t. t.second) (TiedPair m L) (Tied L.ties) (λ t p. p.smaller) (λ t p. p.tied)
    (λ t u p. one_row m L t.first t.second t.mask u p.given)

-- tied entries are there
pub tied_within : (n : ℕ) (ties : List Tie) → Proper n ties → (i j : ℕ) → Tied ties i j → (i < n) × (j < n)
tied_within n ties p i j x = let d = apart p (joined x) in (d.first_in, d.second_in)

pub pairs_few : (m : Meaning) (L : Ledger) (rows : List Tie) (n : ℕ) → Proper n L.ties → n ≤ 48 → TiedPairs m L rows →
    length rows ≤ 2304
pairs_few m L rows n p h pairs =
    rows_few (λ t. t.first) (λ t. t.second) rows pairs.rising
    (λ t a. let d = tied_within n L.ties p _ _ (pairs.each t a).tied in (omega arith, omega arith))
