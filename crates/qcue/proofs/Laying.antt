-- A file laid out part by part: entries, tied pairs, and the whole.
use Rattle.std.proofs.Common.{◌≡◌, ℕ, ◌+◌, ◌-◌, ◌*◌, ◌/◌, ◌<◌, ◌≤◌, ◌≢◌, List, [], ◌∷◌, ◌++◌, length, get_or, take, Ok, Err, Result, sym, refl, ap, ◌∙◌, inl, inr, append_assoc, append-nil, arith, length-append}
use Rattle.std.proofs.lemmas.List.{flat_map_more, take_more, take_all}
use Rattle.std.specs.List.{flat_map}
use Rattle.std.specs.Result.{result_unwrap_or}
use Rattle.algebra.specs.Meaning.{Meaning}
use Rattle.algebra.specs.declared.interface.Stamp.{Stamp}
use Rattle.network.specs.Ties.{Tie, Tied}
use Rattle.network.proofs.Links.{tied?}
use Rattle.programme.specs.Networks.{tie_of}
use Rattle.programme.specs.Ledgers.{Ledger}
use Rattle.programme.specs.Questions.{Told, ToldAs}
use Rattle.programme.specs.Shown.{Shows}
use Rattle.programme.specs.declared.refusals.Refusal.{Refusal}
use Rattle.programme.specs.declared.sheets.Sheet.{Sheet}
use Rattle.programme.proofs.Pairs.{rows_none, rows_more, rows_past, rows_row}
use Rattle.qcue.specs.Records.{le16}
use Rattle.qcue.specs.Written.{head_bytes, entry_bytes, tie_bytes, end_bytes}
use Rattle.qcue.specs.Laid.{Put, PutEntry, PutEntries, Upto, Next, PutPair, PutRow, PutTies, PutFile}
use Rattle.qcue.proofs.Pairs.{tied_within}
use Rattle.qcue.proofs.Puts.{put_none, put_more}

-- the parts of a row of records are put one behind the other
joined_both : {X : Type 0} (f : X → List ℕ) (xs ys : List X) → flat_map f (xs ++ ys) ≡ flat_map f xs ++ flat_map f ys
joined_both f [] ys = refl
joined_both f (x ∷ xs) ys = ap (λ (z : List ℕ). f x ++ z) (joined_both f xs ys) ∙ sym (append_assoc (f x) (flat_map f xs) (flat_map f ys))

-- a tie has ten bytes
ten_each : (rows : List Tie) → length (flat_map tie_bytes rows) ≡ 10 * length rows
ten_each [] = refl
ten_each (t ∷ rows) = let h = ten_each rows in omega (arith, length-append (tie_bytes t) (flat_map tie_bytes rows))

module _ (m : Meaning) (s : Sheet) where
  -- ---- entries

  pub entry_missing : (k : ℕ) (old : List ℕ) (at : ℕ) → ((L : Ledger) → Shows m s L → length L.names ≤ k) →
      PutEntry m s k old at old at
  entry_missing k old at none = record {
    part = [];
    put = put_none old at;
    named = λ L w h. absurd (omega (arith, none L w));
  }

  pub entry_put : (k : ℕ) (prefix name old mid new : List ℕ) (at e end : ℕ) →
      ((L : Ledger) → Shows m s L → name ≡ get_or L.names k []) → prefix ≡ le16 (4 + length name) ++ le16 2 →
      Put prefix old at mid e → Put name mid e new end → PutEntry m s k old at new end
  entry_put k prefix name old mid new at e end is begun p q = record {
    part = entry_bytes name;
    put = put_more _ _ _ _ _ _ _ _ (rw begun at p) q;
    named = λ L w h. ap entry_bytes (is L w);
  }

  -- the first k entries are put there
  pub record EntriesTo (k : ℕ) (old : List ℕ) (at : ℕ) (new : List ℕ) (end : ℕ) : Type 0 where
    pub part : List ℕ
    pub put : Put part old at new end
    pub named : (L : Ledger) → Shows m s L → part ≡ flat_map entry_bytes (take k L.names)

  pub entries_none : (old : List ℕ) (at : ℕ) → EntriesTo 0 old at old at
  entries_none old at = record { part = []; put = put_none old at; named = λ L w. refl }

  -- ---- tied pairs

  told_there : (i j : ℕ) (r : Result ℕ Refusal) (L : Ledger) → ToldAs m L i j r → i < length L.names → j < length L.names →
      Told m L i j (result_unwrap_or r 0)
  told_there i j (Ok set) L told hi hj = told.1
  told_there i j (Err refusal) L told hi hj = absurd (elim told.1 [ inl h ↦ omega arith | inr h ↦ omega arith ])

  module _ (i j mask : ℕ) (r : Result ℕ Refusal) (lt : i < j) (told : (L : Ledger) → Shows m s L → ToldAs m L i j r)
      (is : mask ≡ result_unwrap_or r 0) where
    there : (L : Ledger) → Shows m s L → j < length L.names → Told m L i j mask
    there L w h = rw is (told_there i j r L (told L w) (omega arith) h)

    pub pair_none : (old : List ℕ) (at : ℕ) → mask ≡ 0 → PutPair m s i j old at old at
    pair_none old at e = record {
      rows = [];
      put = put_none old at;
      next = λ L w h before u. rw append-nil (rows_past _ _ _ _ u (λ x. (there L w h).some x e));
    }

    pub pair_some : (old new : List ℕ) (at end : ℕ) → mask ≢ 0 → Put (tie_bytes (tie_of i j mask)) old at new end →
        PutPair m s i j old at new end
    pair_some old new at end some p = record {
      rows = tie_of i j mask ∷ [];
      put = rw append-nil p;
      next = λ L w h before u.
          let g = (there L w h).given in
          let tied : Tied L.ties i j = elim (tied? L.ties i j) [ yes x ↦ x | no x ↦ absurd (some (g.none x)) ] in
          rows_more _ _ _ _ u (tie_of i j mask) (refl, refl) (record { smaller = lt; tied = tied; given = g });
    }

  -- the tied pairs of i with later entries below j are put there
  pub record RowTo (i j : ℕ) (old : List ℕ) (at : ℕ) (new : List ℕ) (end : ℕ) : Type 0 where
    pub rows : List Tie
    pub put : Put (flat_map tie_bytes rows) old at new end
    pub next : (L : Ledger) → Shows m s L → Next m L i (i + 1) i j rows

  pub row_none : (i : ℕ) (old : List ℕ) (at : ℕ) → RowTo i (i + 1) old at old at
  row_none i old at = record { rows = []; put = put_none old at; next = λ L w before u. rw append-nil u }

  -- the tied pairs of the first i entries are put there
  pub record TiesTo (i : ℕ) (old : List ℕ) (at : ℕ) (new : List ℕ) (end : ℕ) : Type 0 where
    pub rows : List Tie
    pub put : Put (flat_map tie_bytes rows) old at new end
    pub upto : (L : Ledger) → Shows m s L → Upto m L i (i + 1) rows

  pub ties_none : (old : List ℕ) (at : ℕ) → TiesTo 0 old at old at
  ties_none old at = record { rows = []; put = put_none old at; upto = λ L w. rows_none _ _ _ _ 1 (omega arith) }

  -- ---- one more, and all, where there are n entries

  module _ (n : ℕ) (counted : (L : Ledger) → Shows m s L → n ≡ length L.names) where
    pub entries_more : (k : ℕ) (old mid new : List ℕ) (at e end : ℕ) → k < n → EntriesTo k old at mid e →
        PutEntry m s k mid e new end → EntriesTo (k + 1) old at new end
    entries_more k old mid new at e end h p q = record {
      part = p.part ++ q.part;
      put = put_more _ _ _ _ _ _ _ _ p.put q.put;
      named = λ L w.
          let lt : k < length L.names = omega (arith, counted L w) in
          rw (p.named L w, q.named L w lt, take_more L.names k [] lt)
          (flat_map_more entry_bytes [] (take k L.names) (get_or L.names k []));
    }

    pub entries_all : (k : ℕ) (old new : List ℕ) (at end : ℕ) → n ≤ k → EntriesTo k old at new end → PutEntries m s old at new end
    entries_all k old new at end h p = record {
      part = p.part;
      put = p.put;
      named = λ L w.
          let le : length L.names ≤ k = omega (arith, counted L w) in
          p.named L w ∙ ap (flat_map entry_bytes) (take_all k L.names le);
    }

    pub row_more : (i j : ℕ) (old mid new : List ℕ) (at e end : ℕ) → j < n → RowTo i j old at mid e →
        PutPair m s i j mid e new end → RowTo i (j + 1) old at new end
    row_more i j old mid new at e end h p q = record {
      rows = p.rows ++ q.rows;
      put = rw (joined_both tie_bytes p.rows q.rows) (put_more _ _ _ _ _ _ _ _ p.put q.put);
      next = λ L w before u.
          rw (← append_assoc before p.rows q.rows)
          (q.next L w (omega (arith, counted L w)) (before ++ p.rows) (p.next L w before u));
    }

    pub row_all : (i j : ℕ) (old new : List ℕ) (at end : ℕ) → n ≤ j → RowTo i j old at new end → PutRow m s i old at new end
    row_all i j old new at end h p = record {
      rows = p.rows;
      put = p.put;
      next = λ L w _ before u. rows_row _ _ _ _ (p.next L w before u) (length L.names) (tied_within _ _ w.proper) (omega (arith, counted L w));
    }

    pub ties_more : (i : ℕ) (old mid new : List ℕ) (at e end : ℕ) → i < n → TiesTo i old at mid e →
        PutRow m s i mid e new end → TiesTo (i + 1) old at new end
    ties_more i old mid new at e end h p q = record {
      rows = p.rows ++ q.rows;
      put = rw (joined_both tie_bytes p.rows q.rows) (put_more _ _ _ _ _ _ _ _ p.put q.put);
      upto = λ L w.
          let two : i + 1 + 1 ≡ i + 2 = omega arith in
          rw two (q.next L w (omega (arith, counted L w)) p.rows (p.upto L w));
    }

    -- ---- the whole file

    pub file_laid : (stamp : Stamp) (ties : ℕ) (head end old b c d new : List ℕ) (e f g z : ℕ) → stamp ≡ m.stamp →
        head ≡ head_bytes stamp → end ≡ end_bytes n ties → ties ≡ (g - f) / 10 → Put head old 0 b e → PutEntries m s b e c f →
        PutTies m s c f d g → Put end d g new z → PutFile m s old new z
    file_laid stamp ties head end old b c d new e f g z is_stamp is_head is_end is_ties p q r t = record {
      bytes = head ++ (q.part ++ (flat_map tie_bytes r.rows ++ end));
      put =
          put_more _ _ _ _ _ _ _ _ p (put_more _ _ _ _ _ _ _ _ q.put (put_more _ _ _ _ _ _ _ _ r.put t));
      file = λ L w. (
        r.rows,
        r.pairs L w,
        rw (is_head, is_stamp, q.named L w, is_end, counted L w, few) refl,
      );
    }
      where
        few : ties ≡ length r.rows
        few = omega (arith, is_ties, r.put.ends, ten_each r.rows)
