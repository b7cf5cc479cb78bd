-- Encoding: the bytes that are written for a stamp, names and ties hold them.
use Rattle.std.proofs.Common.{◌≡◌, ℕ, ◌+◌, ◌*◌, ◌/◌, ◌%◌, ◌^◌, ◌<◌, List, [], ◌∷◌, length, refl, ap, arith}
use mathlib.Core.List.{Memᴰ}
use Rattle.std.specs.List.{flat_map}
use Rattle.algebra.specs.declared.interface.Stamp.{Stamp}
use Rattle.network.specs.Ties.{Tie, Among}
use Rattle.programme.specs.Networks.{tie_of}
use Rattle.qcue.specs.Records.{le16, le32, u16_at, u32_at}
use Rattle.qcue.specs.Held.{Row, none, more, Holds}
use Rattle.qcue.specs.Written.{head_bytes, entry_bytes, tie_bytes, end_bytes, file_bytes}

-- a number that fits is what its bytes say
low16 : (n : ℕ) → n < 65536 → u16_at (le16 n) 0 ≡ n
low16 n h = omega arith

low32 : (n : ℕ) → n < 2 ^ 32 → u32_at (le32 n) 0 ≡ n
low32 n h =
    let a : n / 65536 ≡ n / 256 / 256 = omega arith in
    let b : n / 16777216 ≡ n / 65536 / 256 = omega arith in
    let c : n / 16777216 % 256 ≡ n / 16777216 = omega arith in
    let d : n / 65536 % 256 + n / 16777216 * 256 ≡ n / 65536 = omega arith in
    omega arith

row_joined : {X : Type 0} (Of : X → List ℕ → Type 0) (f : X → List ℕ) (xs : List X) →
    ((x : X) → Memᴰ x xs → Of x (f x)) → Row Of xs (flat_map f xs)
row_joined Of f [] each = none
row_joined Of f (x ∷ xs) each =
    more (each x (Memᴰ.head refl)) (row_joined Of f xs (λ y a. each y (Memᴰ.tail a))) refl

pub file_holds : (stamp : Stamp) (names : List (List ℕ)) (rows : List Tie) →
    stamp.house < 2 ^ 32 → length rows < 65536 → ((name : List ℕ) → Memᴰ name names → length name < 65532) →
    ((t : Tie) → Among t rows → t.mask < 2 ^ 32) → Holds (file_bytes stamp names rows) stamp names rows
file_holds stamp names rows house few short low = record {
  head = head_bytes stamp;
  entries = flat_map entry_bytes names;
  bonds = flat_map tie_bytes rows;
  end = end_bytes (length names) (length rows);
  parts = refl;
  is_head = record {
    payload = 0x51 ∷ 0x43 ∷ 0x55 ∷ 0x45 ∷ 1 ∷ stamp.code ∷ le32 stamp.house;
    is = record { l0 = 14; l1 = 0; k0 = 1; k1 = 0; parts = refl; long = refl; told = refl };
    long = refl;
    marked = record {
      marked = refl;
      version = refl;
      stamp = ap (λ (house : ℕ). record { code = stamp.code; house = house }) (low32 stamp.house house);
    };
  };
  are_entries = row_joined _ entry_bytes names (λ name a.
      let h = short name a in record {
        l0 = (4 + length name) % 256;
        l1 = (4 + length name) / 256 % 256;
        k0 = 2;
        k1 = 0;
        parts = refl;
        long = omega arith;
        told = refl;
      });
  are_ties = row_joined _ tie_bytes rows (λ t a. record {
    payload = t.first ∷ t.second ∷ le32 t.mask;
    is = record { l0 = 10; l1 = 0; k0 = 3; k1 = 0; parts = refl; long = refl; told = refl };
    long = refl;
    tied = ap (λ (set : ℕ). tie_of t.first t.second set) (low32 t.mask (low t a));
  });
  is_end = record {
    payload = length names ∷ le16 (length rows);
    is = record { l0 = 7; l1 = 0; k0 = 4; k1 = 0; parts = refl; long = refl; told = refl };
    long = refl;
    counted = record { entries_are = refl; ties_are = low16 (length rows) few };
  };
}
