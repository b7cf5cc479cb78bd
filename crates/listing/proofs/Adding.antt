-- A listing, line by line: entries, links, and the whole.
use Rattle.std.proofs.Common.{◌≡◌, ℕ, suc, ◌+◌, ◌<◌, ◌≤◌, Bool, true, false, cond, not, eqb, List, [], ◌∷◌, ◌++◌, length, get_or, take, Some, None, Ok, Err, codes, decimal, Option, Result, sym, refl, ap, ◌∙◌, inl, inr, append_assoc, append-nil, add-zero, zero-add, arith}
use Rattle.std.proofs.lemmas.List.{take_more, take_all, length-take-le}
use Rattle.std.proofs.lemmas.Bool.{cases_lt}
use Rattle.std.specs.Int.{from_bool}
use Rattle.std.specs.List.{flat_map}
use Rattle.std.specs.Result.{result_unwrap_or}
use Rattle.algebra.specs.Letters.{Ascii}
use Rattle.algebra.specs.Meaning.{Meaning}
use Rattle.algebra.specs.declared.interface.Stamp.{Stamp}
use Rattle.network.specs.Links.{Linked}
use Rattle.network.proofs.Links.{linked?, apart, one_given}
use Rattle.programme.specs.Ledgers.{Ledger, blank}
use Rattle.programme.specs.Grown.{naming, Orderly}
use Rattle.programme.specs.Questions.{Told, ToldAs, Seen, Looked}
use Rattle.programme.specs.Shown.{Shows}
use Rattle.programme.specs.declared.refusals.Refusal.{Refusal}
use Rattle.programme.specs.declared.refusals.Refusal.TheVariants.{Unprintable}
use Rattle.programme.specs.declared.sheets.Sheet.{Sheet}
use Rattle.programme.proofs.Growing.{each_entered}
use Rattle.programme.proofs.Pairs.{rows_one, rows_none, rows_more, rows_past, rows_row, rows_all}
use Rattle.listing.specs.declared.texts.Link.{Link}
use Rattle.listing.specs.Listed.{sheet_line_of, entry_line_of, entry_lines_of, link_line_of, IsLink, tied, ListingOf, OneListing}
use Rattle.listing.specs.Added.{EntryAdded, EntriesAdded, LinksTo, NextLinks, RowsAdded, PairAdded, RowAdded, LinksAdded}

-- ---- lines one behind the other

joined_both : {X : Type 0} (f : X → List ℕ) (xs ys : List X) → flat_map f (xs ++ ys) ≡ flat_map f xs ++ flat_map f ys
joined_both f [] ys = refl
joined_both f (x ∷ xs) ys = ap (λ (z : List ℕ). f x ++ z) (joined_both f xs ys) ∙ sym (append_assoc (f x) (flat_map f xs) (flat_map f ys))

tied_both : (xs ys : List Link) → tied (xs ++ ys) ≡ tied xs + tied ys
tied_both [] ys = omega arith
tied_both (x ∷ xs) ys = one (eqb x.given 0) _ _ (tied ys) (tied_both xs ys)
  where
    one : (b : Bool) (n k l : ℕ) → n ≡ k + l → cond b n (suc n) ≡ cond b k (suc k) + l
    one true n k l e = e
    one false n k l e = omega arith

none_added : (code : ℕ) (old : List ℕ) → RowsAdded code [] old old 0
none_added code old = record { lines = sym (append-nil old); counted = refl }

both_added : (code : ℕ) (xs ys : List Link) (old mid new : List ℕ) (n k : ℕ) → RowsAdded code xs old mid n →
    RowsAdded code ys mid new k → RowsAdded code (xs ++ ys) old new (n + k)
both_added code xs ys old mid new n k p q = record {
  lines =
      q.lines ∙ rw p.lines (append_assoc old (flat_map (link_line_of code) xs) (flat_map (link_line_of code) ys))
      ∙ ap (λ (z : List ℕ). old ++ z) (sym (joined_both (link_line_of code) xs ys));
  counted = omega (arith, p.counted, q.counted, tied_both xs ys);
}

pub one_at_most : (tied : Bool) → from_bool tied ≤ 1
one_at_most true = omega arith
one_at_most false = omega arith

-- ---- entries

entries_push : (k : ℕ) (names : List (List ℕ)) (name : List ℕ) →
    entry_lines_of k (names ++ (name ∷ [])) ≡ entry_lines_of k names ++ entry_line_of (k + length names) name
entries_push k [] name = append-nil (entry_line_of k name) ∙ ap (λ n. entry_line_of n name) (sym (add-zero k))
entries_push k (x ∷ names) name =
    let later : k + 1 + length names ≡ k + suc (length names) = omega arith in
    ap (λ (z : List ℕ). entry_line_of k x ++ z)
    (entries_push (k + 1) names name ∙ ap (λ n. entry_lines_of (k + 1) names ++ entry_line_of n name) later)
    ∙ sym (append_assoc (entry_line_of k x) (entry_lines_of (k + 1) names) (entry_line_of (k + suc (length names)) name))

-- a name that was taken is ASCII
ascii : (m : Meaning) (L : Ledger) (k : ℕ) → Orderly m L → k < length L.names → Ascii (get_or L.names k [])
ascii m L k o h i lt =
    let (J, n, a) = each_entered m blank (naming L.names) L.names o.entered k h in
    elim (cases_lt 0x7E (get_or (get_or L.names k []) i 0)) [
      | inl high ↦ absurd (a.1 Unprintable (i, lt, inr high))
      | inr low ↦ omega arith
    ]

module _ (m : Meaning) (s : Sheet) where
  pub entry_missing : (k : ℕ) (old : List ℕ) → ((L : Ledger) → Shows m s L → length L.names ≤ k) → EntryAdded m s k old old
  entry_missing k old none L w o h = absurd (omega (arith, none L w))

  pub entry_added : (k : ℕ) (name old a b new : List ℕ) → ((L : Ledger) → Shows m s L → name ≡ get_or L.names k []) →
      a ≡ old ++ (decimal k ++ codes " ") → (Ascii name → b ≡ a ++ name) → new ≡ b ++ codes "\n" → EntryAdded m s k old new
  entry_added k name old a b new is e f g L w o h =
      let name_is = is L w in
      let low : Ascii name = rw name_is (ascii m L k o h) in
      g ∙ ap (λ (z : List ℕ). z ++ codes "\n") (f low ∙ ap (λ (z : List ℕ). z ++ name) e)
      ∙ append_assoc (old ++ (decimal k ++ codes " ")) name (codes "\n")
      ∙ append_assoc old (decimal k ++ codes " ") (name ++ codes "\n")
      ∙ ap (λ (z : List ℕ). old ++ z)
      (append_assoc (decimal k) (codes " ") (name ++ codes "\n") ∙ ap (λ (z : List ℕ). entry_line_of k z) name_is)

  -- the lines of the first k entries
  abbrev pub EntriesTo : ℕ → List ℕ → List ℕ → Type 0
  EntriesTo k old new = (L : Ledger) → Shows m s L → Orderly m L → new ≡ old ++ entry_lines_of 0 (take k L.names)

  pub entries_none : (old : List ℕ) → EntriesTo 0 old old
  entries_none old L w o = sym (append-nil old)

  -- ---- links

  seen_there : (i j : ℕ) (r : Result (Option ℕ) Refusal) (L : Ledger) → Looked m L i j r → i < length L.names →
      j < length L.names → Seen m L i j (result_unwrap_or r None)
  seen_there i j (Ok seen) L looked hi hj = looked.1
  seen_there i j (Err refusal) L looked hi hj = absurd (elim looked.1 [ inl h ↦ omega arith | inr h ↦ omega arith ])

  told_there : (i j : ℕ) (r : Result ℕ Refusal) (L : Ledger) → ToldAs m L i j r → i < length L.names → j < length L.names →
      Told m L i j (result_unwrap_or r 0)
  told_there i j (Ok set) L told hi hj = told.1
  told_there i j (Err refusal) L told hi hj = absurd (elim told.1 [ inl h ↦ omega arith | inr h ↦ omega arith ])

  module _ (i j : ℕ) (seen : Option ℕ) (r : Result (Option ℕ) Refusal) (lt : i < j)
      (looked : (L : Ledger) → Shows m s L → Looked m L i j r) (is : seen ≡ result_unwrap_or r None) where
    there : (L : Ledger) → Shows m s L → j < length L.names → Seen m L i j seen
    there L w h = rw is (seen_there i j r L (looked L w) (omega arith) h)

    pub pair_none : (old : List ℕ) → seen ≡ None → PairAdded m s i j old old 0
    pair_none old e = record {
      rows = [];
      added = none_added m.stamp.code old;
      next = λ L w h before u.
          rw append-nil (rows_past _ _ _ _ u (λ x.
          let (set, some, _) = (there L w h).linked x in
          let z : ◌≡◌ {A = ℕ} 0 1 = cc in omega arith));
    }

    pub pair_some : (set given : ℕ) (t : Result ℕ Refusal) (line old new : List ℕ) → seen ≡ Some set →
        ((L : Ledger) → Shows m s L → ToldAs m L i j t) → given ≡ result_unwrap_or t 0 →
        line ≡ link_line_of m.stamp.code (record { first = i; second = j; given = given; settled = set }) → new ≡ old ++ line →
        PairAdded m s i j old new (from_bool (not (eqb given 0)))
    pair_some set given t line old new some told given_is line_is e = record {
      rows = row ∷ [];
      added = record { lines = rw (append-nil, ← line_is) e; counted = turned (eqb given 0) };
      next = λ L w h before u. rows_more _ _ _ _ u row (refl, refl) (is_link L w h);
    }
      where
        turned : (none : Bool) → from_bool (not none) ≡ cond none 0 (suc 0)
        turned true = refl
        turned false = refl

        row : Link
        row = record { first = i; second = j; given = given; settled = set }

        linked : (L : Ledger) → Shows m s L → j < length L.names → Linked L.ties i j
        linked L w h = elim (linked? (length L.names) L.ties w.proper i j) [
          | yes x ↦ x
          | no x ↦
              let none : seen ≡ None = (there L w h).unlinked (λ e. omega arith) x in
              let z : ◌≡◌ {A = ℕ} 0 1 = cc in absurd (omega arith)
        ]

        is_link : (L : Ledger) → Shows m s L → j < length L.names → IsLink m L row
        is_link L w h =
            let x = linked L w h in
            let (found, some_found, settled) = (there L w h).linked x in
            let same : found ≡ set = cc in
            record {
              smaller = lt;
              linked = x;
              given = rw given_is (told_there i j t L (told L w) (omega arith) h);
              settled = rw same at settled;
            }

  -- the links of i with later entries below j
  pub record RowTo (i j : ℕ) (old new : List ℕ) (n : ℕ) : Type 0 where
    pub rows : List Link
    pub added : RowsAdded m.stamp.code rows old new n
    pub next : (L : Ledger) → Shows m s L → NextLinks m L i (i + 1) i j rows

  pub row_none : (i : ℕ) (old : List ℕ) → RowTo i (i + 1) old old 0
  row_none i old = record {
    rows = [];
    added = none_added m.stamp.code old;
    next = λ L w before u. rw append-nil u;
  }

  -- the links of the first i entries
  pub record LinksUpto (i : ℕ) (old new : List ℕ) (n : ℕ) : Type 0 where
    pub rows : List Link
    pub added : RowsAdded m.stamp.code rows old new n
    pub upto : (L : Ledger) → Shows m s L → LinksTo m L i (i + 1) rows

  pub links_none : (old : List ℕ) → LinksUpto 0 old old 0
  links_none old = record {
    rows = [];
    added = none_added m.stamp.code old;
    upto = λ L w. rows_none _ _ _ _ 1 (omega arith);
  }

  linked_within : (L : Ledger) → Shows m s L → (i j : ℕ) → Linked L.ties i j → (i < length L.names) × (j < length L.names)
  linked_within L w i j x = let d = apart w.proper x in (d.first_in, d.second_in)

  -- ---- one more, and all, where there are n entries

  module _ (n : ℕ) (counted : (L : Ledger) → Shows m s L → n ≡ length L.names) where
    pub entries_more : (k : ℕ) (old mid new : List ℕ) → k < n → EntriesTo k old mid → EntryAdded m s k mid new →
        EntriesTo (k + 1) old new
    entries_more k old mid new h p q L w o =
        let lt : k < length L.names = omega (arith, counted L w) in
        let long : length (take k L.names) ≡ k = length-take-le k L.names (omega arith) in
        let lines = entries_push 0 (take k L.names) (get_or L.names k []) in
        q L w o lt ∙ rw (p L w o, take_more L.names k [] lt, lines, long, zero-add k) (append_assoc old _ _)

    pub entries_all : (k : ℕ) (old new : List ℕ) → n ≤ k → EntriesTo k old new → EntriesAdded m s old new
    entries_all k old new h p L w o =
        let le : length L.names ≤ k = omega (arith, counted L w) in
        rw (take_all k L.names le) at (p L w o)

    pub row_more : (i j : ℕ) (old mid new : List ℕ) (a b : ℕ) → j < n → RowTo i j old mid a → PairAdded m s i j mid new b →
        RowTo i (j + 1) old new (a + b)
    row_more i j old mid new a b h p q = record {
      rows = p.rows ++ q.rows;
      added = both_added _ _ _ _ _ _ _ _ p.added q.added;
      next = λ L w before u.
          rw (← append_assoc before p.rows q.rows)
          (q.next L w (omega (arith, counted L w)) (before ++ p.rows) (p.next L w before u));
    }

    pub row_all : (i j : ℕ) (old new : List ℕ) (a : ℕ) → n ≤ j → RowTo i j old new a → RowAdded m s i old new a
    row_all i j old new a h p = record {
      rows = p.rows;
      added = p.added;
      next = λ L w _ before u.
          rows_row _ _ _ _ (p.next L w before u) (length L.names) (linked_within L w) (omega (arith, counted L w));
    }

    pub links_more : (i : ℕ) (old mid new : List ℕ) (a b : ℕ) → i < n → LinksUpto i old mid a → RowAdded m s i mid new b →
        LinksUpto (i + 1) old new (a + b)
    links_more i old mid new a b h p q = record {
      rows = p.rows ++ q.rows;
      added = both_added _ _ _ _ _ _ _ _ p.added q.added;
      upto = λ L w.
          let two : i + 1 + 1 ≡ i + 2 = omega arith in
          rw two (q.next L w (omega (arith, counted L w)) p.rows (p.upto L w));
    }

    pub links_all : (i : ℕ) (old new : List ℕ) (a : ℕ) → n ≤ i → LinksUpto i old new a → LinksAdded m s old new a
    links_all i old new a h p = record {
      rows = p.rows;
      added = p.added;
      links = λ L w. rows_all _ _ _ _ (p.upto L w) (length L.names) (linked_within L w) (omega (arith, counted L w));
    }

    -- ---- the whole

    pub listed : (stamp : Stamp) (tied : ℕ) (none head lines all text : List ℕ) → stamp ≡ m.stamp → none ≡ [] →
        head ≡ sheet_line_of stamp n tied → EntriesAdded m s none lines → LinksAdded m s lines all tied → text ≡ head ++ all →
        (L : Ledger) → Shows m s L → Orderly m L → ListingOf m L text
    listed stamp tied none head lines all text is nothing head_is e p f L w o = (
      p.rows,
      p.links L w,
      f ∙ rw (head_is, is, p.added.lines, e L w o, nothing, counted L w, p.added.counted) refl,
    )

-- ---- one listing

-- a row is determined by its pair
one_row : (m : Meaning) (L : Ledger) (x y : Link) → IsLink m L x → IsLink m L y →
    (y.first ≡ x.first) × (y.second ≡ x.second) → x ≡ y
one_row m L x y p q (d, e) =
    let given : y.given ≡ x.given =
    one_given m L.ties x.first x.second y.given x.given (rw (d, e) at q.given.given) p.given.given in
    let (S, s) = p.settled.one in
    let settled : y.settled ≡ x.settled = (rw (d, e) at (q.settled.every S s)) ∙ sym (p.settled.every S s) in
    rw (← d, ← e, ← given, ← settled) refl

pub one_listing : OneListing
one_listing m L these those (xs, p, e) (ys, q, f) =
    let same = rows_one (λ row. row.first) (λ row. row.second) (IsLink m L) (Linked L.ties) (λ x h. h.smaller)
    (λ x h. h.linked) (one_row m L) xs ys p q in
    e ∙ rw same (sym f)
