-- A file loads into a blank ledger exactly when it keeps the layout and its entries and ties would be taken one by one.
use Rattle.std.proofs.Common.{◌≡◌, ℕ, ◌+◌, ◌-◌, ◌*◌, List, [], ◌∷◌, ◌++◌, map, length, drop, Ok, Result, sym, refl, ap, ◌∙◌, subst, inl, inr, append_assoc, append-nil, arith, length-append, length-drop, take-append-drop, length-take}
use Rattle.std.proofs.lemmas.List.{take_at, drop_at, drop-drop, nil_from_length}
use Rattle.std.proofs.lemmas.Bool.{cases_eq}
use Rattle.algebra.specs.Meaning.{Meaning}
use Rattle.network.specs.Ties.{Tie}
use Rattle.programme.specs.Ledgers.{Ledger, blank, enter, Answered, taken}
use Rattle.programme.specs.Grown.{InTurn, ended, next}
use Rattle.programme.proofs.Growing.{both_in_turn}
use Rattle.qcue.specs.Records.{length_of, kind_of, payload_of, behind, Whole, tie_in}
use Rattle.qcue.specs.Loaded.{KnownKind, MayCome, Sized, Marked, Counts, KeptBy, ask_in, following, Served}
use Rattle.qcue.specs.Loaded.{Loads, done, broken, denied, onward}
use Rattle.qcue.specs.Held.{IsRecord, HeadRecord, EntryRecord, TieRecord, EndRecord, Row, none, more, as_tie, asks}
use Rattle.qcue.specs.Held.{Loadable, LoadsExactly}
use Rattle.qcue.specs.declared.loading.Expected.{Expected}
use Rattle.qcue.specs.declared.loading.Expected.TheVariants.{Head, Entries, Ties, Nothing}
use Rattle.qcue.specs.declared.refusals.Fault.{Fault}
use Rattle.qcue.specs.declared.refusals.FileRefusal.TheVariants.{TooShort, Occupied, Trailing, Unfinished, Cut}
use Rattle.qcue.specs.declared.refusals.FileRefusal.TheVariants.{UnknownKind, Misplaced, WrongLength, OtherStamp, WrongCount}

-- ---- the record at the front

-- the record at the front of the bytes has this kind and payload, and the rest is behind it
record Front (kind : ℕ) (payload rest bytes : List ℕ) : Type 0 where
  whole : Whole bytes
  kind_is : kind_of bytes ≡ kind
  payload_is : payload_of bytes ≡ payload
  rest_is : behind bytes ≡ rest

front : {kind : ℕ} {payload first : List ℕ} (rest : List ℕ) → IsRecord kind payload first →
    Front kind payload rest (first ++ rest)
front {kind} {payload} rest r =
    let bare : List ℕ = r.l0 ∷ r.l1 ∷ r.k0 ∷ r.k1 ∷ payload in
    let long : r.l0 + r.l1 * 256 ≡ length bare = r.long ∙ ap length r.parts in
    let all = length-append payload rest in
    let it : Front kind payload rest (bare ++ rest) = record {
      whole = record { headed = omega arith; long = omega arith; inside = omega arith };
      kind_is = r.told;
      payload_is = take_at payload rest (r.l0 + r.l1 * 256 - 4) (omega arith);
      rest_is = drop_at bare rest (r.l0 + r.l1 * 256) (sym long);
    } in
    subst (λ (first : List ℕ). Front kind payload rest (first ++ rest)) (sym r.parts) it

payload_length : (bytes : List ℕ) → Whole bytes → length (payload_of bytes) + 4 ≡ length_of bytes
payload_length bytes w = simp (length-take, length-drop) (omega arith)

-- the bytes of the record at the front, before those behind it
cut : (bytes : List ℕ) → Whole bytes →
    (first : List ℕ) × IsRecord (kind_of bytes) (payload_of bytes) first × (bytes ≡ first ++ behind bytes)
cut [] w = absurd (omega arith)
cut (a ∷ []) w = absurd (omega arith)
cut (a ∷ b ∷ []) w = absurd (omega arith)
cut (a ∷ b ∷ c ∷ []) w = absurd (omega arith)
cut (a ∷ b ∷ c ∷ d ∷ rest) w =
    let bytes : List ℕ = a ∷ b ∷ c ∷ d ∷ rest in
    let size : ℕ = length_of bytes - 4 in
    let long = payload_length bytes w in
    let all : 4 + size ≡ length_of bytes = omega arith in
    let left : drop size rest ≡ behind bytes = drop-drop size 4 bytes ∙ ap (λ n. drop n bytes) all in (
      a ∷ b ∷ c ∷ d ∷ payload_of bytes,
      record { l0 = a; l1 = b; k0 = c; k1 = d; parts = refl; long = omega arith; told = refl },
      ap (λ (l : List ℕ). a ∷ b ∷ c ∷ d ∷ l) (rw (← left) (sym (take-append-drop size rest))),
    )

-- ---- what may come next, by its kind and payload

-- the record keeps the rules; where entries may come, so may what comes later
data Fits (m : Meaning) (L : Ledger) : Expected → ℕ → List ℕ → Type 0 where
  head : {payload : List ℕ} → length L.names ≡ 0 → length payload ≡ 10 →
      Marked (λ stamp. stamp ≡ m.stamp) payload → Fits m L Head 1 payload
  entry : {payload : List ℕ} → Fits m L Entries 2 payload
  bond : {payload : List ℕ} → length payload ≡ 6 → Fits m L Ties 3 payload
  last : {payload : List ℕ} → length payload ≡ 3 → Counts (length L.names) (length L.ties) payload →
      Fits m L Ties 4 payload
  later : {kind : ℕ} {payload : List ℕ} → Fits m L Ties kind payload → Fits m L Entries kind payload

-- the same, as the rules say it
record Follows (m : Meaning) (L : Ledger) (x : Expected) (kind : ℕ) (payload : List ℕ) : Type 0 where
  may : MayCome x kind
  head : kind ≡ 1 → (length L.names ≡ 0) × (length payload ≡ 10) × Marked (λ stamp. stamp ≡ m.stamp) payload
  tied : kind ≡ 3 → length payload ≡ 6
  end : kind ≡ 4 → (length payload ≡ 3) × Counts (length L.names) (length L.ties) payload

follows : {m : Meaning} {L : Ledger} {x : Expected} {kind : ℕ} {payload : List ℕ} → Fits m L x kind payload →
    Follows m L x kind payload
follows (head v l k) =
    record { may = refl; head = λ _. (v, l, k); tied = λ e. absurd (omega arith); end = λ e. absurd (omega arith) }
follows entry = record {
  may = (omega arith, omega arith);
  head = λ e. absurd (omega arith);
  tied = λ e. absurd (omega arith);
  end = λ e. absurd (omega arith);
}
follows (bond l) = record {
  may = (omega arith, omega arith);
  head = λ e. absurd (omega arith);
  tied = λ _. l;
  end = λ e. absurd (omega arith);
}
follows (last l c) = record {
  may = (omega arith, omega arith);
  head = λ e. absurd (omega arith);
  tied = λ e. absurd (omega arith);
  end = λ _. (l, c);
}
follows (later f) =
    let g = follows f in
    record { may = (omega arith, omega arith); head = g.head; tied = g.tied; end = g.end }

known : (x : Expected) (kind : ℕ) → MayCome x kind → KnownKind kind
known Head kind may = (omega arith, omega arith)
known Entries kind may = (omega arith, omega arith)
known Ties kind may = (omega arith, omega arith)
known Nothing kind may = absurd may

module _ (m : Meaning) where
  keeps : {x : Expected} {L : Ledger} (bytes : List ℕ) → Whole bytes →
      Follows m L x (kind_of bytes) (payload_of bytes) → KeptBy m x L bytes
  keeps bytes w f TooShort = tt
  keeps bytes w f Occupied = λ e. (f.head (rw e at f.may)).0
  keeps bytes w f Trailing = λ e. rw e at f.may
  keeps bytes w f Unfinished = λ e. omega arith
  keeps bytes w f Cut = w
  keeps {x = x} bytes w f UnknownKind = known x (kind_of bytes) f.may
  keeps bytes w f Misplaced = f.may
  keeps bytes w f WrongLength =
      let size = payload_length bytes w in
      record {
        head = λ e. let long = (f.head e).1 in omega arith;
        tied = λ e. let long = f.tied e in omega arith;
        end = λ e. let long = (f.end e).0 in omega arith;
      }
  keeps bytes w f OtherStamp = λ e. (f.head e).2
  keeps bytes w f WrongCount = λ e. (f.end e).1

  fits_late : {L : Ledger} (bytes : List ℕ) → Whole bytes → Sized bytes →
      (kind_of bytes ≡ 4 → Counts (length L.names) (length L.ties) (payload_of bytes)) → MayCome Ties (kind_of bytes) →
      Fits m L Ties (kind_of bytes) (payload_of bytes)
  fits_late bytes w s c may =
      let size = payload_length bytes w in
      elim (cases_eq (kind_of bytes) 3) [
        | inl e ↦ let long = s.tied e in rw e (bond {payload = payload_of bytes} (omega arith))
        | inr d ↦
            let e : kind_of bytes ≡ 4 = omega arith in
            let long = s.end e in
            rw e (last {payload = payload_of bytes} (omega arith) (c e))
      ]

  fits : (x : Expected) {L : Ledger} (bytes : List ℕ) → KeptBy m x L bytes → Fits m L x (kind_of bytes) (payload_of bytes)
  fits Head bytes k =
      let e = k Misplaced in
      let size = payload_length bytes (k Cut) in
      let long = (k WrongLength).head e in
      rw e (head {payload = payload_of bytes} (k Occupied refl) (omega arith) (k OtherStamp e))
  fits Entries bytes k =
      let may = k Misplaced in
      elim (cases_eq (kind_of bytes) 2) [
        | inl e ↦ rw e entry
        | inr d ↦ later (fits_late bytes (k Cut) (k WrongLength) (k WrongCount) (omega arith, omega arith))
      ]
  fits Ties bytes k = fits_late bytes (k Cut) (k WrongLength) (k WrongCount) (k Misplaced)
  fits Nothing bytes k = absurd (k Misplaced)

  -- ---- what is asked in turn, and how much it leads to

  counts : {L K : Ledger} (names : List (List ℕ)) (ties : List Tie) → InTurn m L (asks names ties) K →
      (length K.names ≡ length L.names + length names) × (length K.ties ≡ length L.ties + length ties)
  counts [] [] ended = (omega arith, omega arith)
  counts [] (t ∷ ties) (next a p) = let q = simp length-append at (counts [] ties p) in (omega arith, omega arith)
  counts (name ∷ names) ties (next a p) = let q = simp length-append at (counts names ties p) in (omega arith, omega arith)

  counted : {K : Ledger} (names : List (List ℕ)) (ties : List Tie) → InTurn m blank (asks names ties) K →
      (length K.names ≡ length names) × (length K.ties ≡ length ties)
  counted names ties p = let q = counts names ties p in (omega arith, omega arith)

  module _ (K : Ledger) where
    -- ---- what is loadable loads

    -- it loads from any offset, and leads to K
    abbrev Goes : Expected → Ledger → List ℕ → Type 0
    Goes x L bytes = (offset : ℕ) → Loads (Answered m) m x L offset bytes (Ok 0) K

    goes : {x : Expected} {L M : Ledger} {kind : ℕ} {payload first bytes rest : List ℕ} → Fits m L x kind payload →
        IsRecord kind payload first → bytes ≡ first ++ rest → Served (Answered m) L (ask_in kind payload) (Ok M) →
        Goes (following kind) M rest → Goes x L bytes
    goes {x} {L} {M} {kind} {payload} {bytes = bytes} {rest} f is parts s g offset =
        let w : Front kind payload rest bytes = rw parts (front rest is) in
        onward {K = M} (keeps bytes w.whole (rw (w.kind_is, w.payload_is) (follows f)))
        (rw (w.kind_is, w.payload_is) s) (rw (w.kind_is, w.rest_is) (g (offset + length_of bytes)))

    -- ties and an end, where they may come
    ties_go : {x : Expected} {L : Ledger} {ties : List Tie} {bonds end : List ℕ} →
        ((L : Ledger) (kind : ℕ) (payload : List ℕ) → Fits m L Ties kind payload → Fits m L x kind payload) →
        Row TieRecord ties bonds → InTurn m L (map as_tie ties) K →
        EndRecord (length K.names) (length K.ties) end → Goes x L (bonds ++ end)
    ties_go c none ended e =
        goes (c _ _ _ (last e.long e.counted)) e.is (sym (append-nil _)) refl (λ offset. done refl refl)
    ties_go {L = L} c (more t row parts) (next {n = n} a p) e =
        let back = sym t.tied in
        goes (c _ _ _ (bond t.long)) t.is (rw (parts, append_assoc))
        (n, subst (λ (t : Tie). Answered m L (as_tie t) (Ok n)) back a, ap (λ (t : Tie). taken L (as_tie t)) back)
        (ties_go (λ _ _ _ f. f) row p e)

    -- entries before them
    names_go : {L : Ledger} {names : List (List ℕ)} {ties : List Tie} {entries bonds end : List ℕ} →
        Row EntryRecord names entries → Row TieRecord ties bonds → InTurn m L (asks names ties) K →
        EndRecord (length K.names) (length K.ties) end → Goes Entries L (entries ++ (bonds ++ end))
    names_go none bonds p e = ties_go (λ _ _ _ f. later f) bonds p e
    names_go (more is row parts) bonds (next {n = n} a p) e =
        goes entry is (rw (parts, append_assoc)) (n, a, refl) (names_go row bonds p e)

    from_loadable : {bytes : List ℕ} → Loadable m bytes K → Goes Head blank bytes
    from_loadable l =
        let h = l.holds in
        let q = counted l.names l.ties l.taken in
        goes (head refl h.is_head.long h.is_head.marked) h.is_head.is h.parts refl
        (names_go h.are_entries h.are_ties l.taken (rw (q.0, q.1) h.is_end))

    -- ---- what loads is loadable

    -- ties and an end, taken in turn
    record Ending (L : Ledger) (bytes : List ℕ) : Type 0 where
      ties : List Tie
      bonds : List ℕ
      end : List ℕ
      parts : bytes ≡ bonds ++ end
      are_ties : Row TieRecord ties bonds
      is_end : EndRecord (length K.names) (length K.ties) end
      taken : InTurn m L (map as_tie ties) K

    -- entries before them
    record Listing (L : Ledger) (bytes : List ℕ) : Type 0 where
      names : List (List ℕ)
      entries : List ℕ
      rest : List ℕ
      middle : Ledger
      parts : bytes ≡ entries ++ rest
      are_entries : Row EntryRecord names entries
      taken : InTurn m L (map enter names) middle
      ending : Ending middle rest

    -- a head before all
    record Opening (L : Ledger) (bytes : List ℕ) : Type 0 where
      head : List ℕ
      rest : List ℕ
      parts : bytes ≡ head ++ rest
      is_head : HeadRecord m.stamp head
      listing : Listing L rest

    -- the bytes that remain, where x may come next
    abbrev Tail : Expected → Ledger → List ℕ → Type 0
    Tail Head L bytes = Opening L bytes
    Tail Entries L bytes = Listing L bytes
    Tail Ties L bytes = Ending L bytes
    Tail Nothing L bytes = (L ≡ K) × (bytes ≡ [])

    tail_more : {L : Ledger} {x : Expected} (M : Ledger) {kind : ℕ} {payload first bytes : List ℕ} (rest : List ℕ) →
        Fits m L x kind payload → IsRecord kind payload first → bytes ≡ first ++ rest →
        Served (Answered m) L (ask_in kind payload) (Ok M) → Tail (following kind) M rest → Tail x L bytes
    tail_more M {payload = payload} {first} rest (head v l k) is parts s t = record {
      head = first;
      rest = rest;
      parts = parts;
      is_head = record { payload = payload; is = is; long = l; marked = k };
      listing = subst (λ (M : Ledger). Listing M rest) s t;
    }
    tail_more M {payload = payload} {first} rest entry is parts s t = record {
      names = payload ∷ t.names;
      entries = first ++ t.entries;
      rest = t.rest;
      middle = t.middle;
      parts = rw (parts, t.parts, append_assoc);
      are_entries = more is t.are_entries refl;
      taken = next s.1 (rw s.2 at t.taken);
      ending = t.ending;
    }
    tail_more M {payload = payload} {first} rest (bond l) is parts s t = record {
      ties = tie_in payload ∷ t.ties;
      bonds = first ++ t.bonds;
      end = t.end;
      parts = rw (parts, t.parts, append_assoc);
      are_ties = more (record { payload = payload; is = is; long = l; tied = refl }) t.are_ties refl;
      is_end = t.is_end;
      taken = next s.1 (rw s.2 at t.taken);
    }
    tail_more {L = L} M {payload = payload} {first} rest (last l c) is parts s t =
        let e : L ≡ K = sym s ∙ t.0 in
        record {
          ties = [];
          bonds = [];
          end = first;
          parts = rw (parts, t.1, append-nil);
          are_ties = none;
          is_end = record { payload = payload; is = is; long = l; counted = rw e at c };
          taken = rw e ended;
        }
    tail_more {L = L} M {bytes = bytes} rest (later f) is parts s t = record {
      names = [];
      entries = [];
      rest = bytes;
      middle = L;
      parts = refl;
      are_entries = none;
      taken = ended;
      ending = tail_more M rest f is parts s t;
    }

    tail : {x : Expected} {L : Ledger} {offset : ℕ} {bytes : List ℕ} {r : Result ℕ Fault} →
        Loads (Answered m) m x L offset bytes r K → r ≡ Ok 0 → Tail x L bytes
    tail {bytes = bytes} (done e z) o = rw e (refl, nil_from_length bytes z)
    tail (broken f b) o = let z : ◌≡◌ {A = ℕ} 0 1 = cc in absurd (omega arith)
    tail (denied k s) o = let z : ◌≡◌ {A = ℕ} 0 1 = cc in absurd (omega arith)
    tail {x} {bytes = bytes} (onward {K = M} k s h) o =
        let c = cut bytes (k Cut) in
        tail_more M (behind bytes) (fits x bytes k) c.1 c.2 s (tail h o)

    to_loadable : {bytes : List ℕ} → Opening blank bytes → Loadable m bytes K
    to_loadable t =
        let l = t.listing in
        let e = l.ending in
        let all = both_in_turn l.taken e.taken in
        let q = counted l.names e.ties all in
        record {
          names = l.names;
          ties = e.ties;
          holds = record {
            head = t.head;
            entries = l.entries;
            bonds = e.bonds;
            end = e.end;
            parts = rw (t.parts, l.parts, e.parts);
            is_head = t.is_head;
            are_entries = l.are_entries;
            are_ties = e.are_ties;
            is_end = rw (← q.0, ← q.1) e.is_end;
          };
          taken = all;
        }

pub loads_exactly : LoadsExactly
loads_exactly m bytes K = (λ h. to_loadable m K (tail m K h refl), λ l. from_loadable m K l 0)
