-- The letters that stand for readings where a person reads or writes them.
use Rattle.std.specs.Prelude.{◌≡◌, ℕ, suc, ◌<◌, true, cond, List, [], ◌∷◌, length, codes, Option, MatchOption, ◌==◌, slice_index}
use Rattle.algebra.specs.Masks.{has}

-- the letters of the standard algebra with this code, from reading 0 up; another code has none
abbrev pub letters_of : ℕ → List ℕ
letters_of code =
    cond (code == 1) (codes "=<>") (cond (code == 2) (codes "epPmMoOsSdDfF") (cond (code == 3) (codes "edcotTnN") []))

abbrev pub Ascii : List ℕ → Type 0
Ascii xs = (k : ℕ) → k < length xs → slice_index xs k < 128

-- those of the letters whose readings are in s, where the first letter is that of reading k
unfoldable pub spelling_from : ℕ → List ℕ → ℕ → List ℕ
spelling_from k [] s = []
spelling_from k (x ∷ xs) s = cond (has s k) (x ∷ spelling_from (suc k) xs s) (spelling_from (suc k) xs s)

-- a set in letters, by rising reading
abbrev pub spelling : ℕ → ℕ → List ℕ
spelling code s = spelling_from 0 (letters_of code) s

-- the letter x stands for reading k
abbrev pub StandsFor : ℕ → ℕ → ℕ → Type 0
StandsFor code x k = (k < length (letters_of code)) × (slice_index (letters_of code) k ≡ x)

-- the reading that a letter stands for, or none if it is no letter
abbrev pub ReadsLetter : ℕ → ℕ → Option ℕ → Type 0
ReadsLetter code x r = MatchOption r ((k : ℕ) → StandsFor code x k → ⊥) (StandsFor code x)

-- m has just the readings that the first n bytes of the text stand for, each of which is a letter
pub record Reads (code : ℕ) (text : List ℕ) (n m : ℕ) : Type 0 where
  pub letter : (i : ℕ) → i < n → (k : ℕ) × StandsFor code (slice_index text i) k
  pub has_read : (k : ℕ) → has m k ≡ true → (i : ℕ) × (i < n) × StandsFor code (slice_index text i) k
  pub read_has : (i k : ℕ) → i < n → StandsFor code (slice_index text i) k → has m k ≡ true

-- the set that a text stands for, or none if one of its bytes is no letter
abbrev pub ReadsText : ℕ → List ℕ → Option ℕ → Type 0
ReadsText code text r =
    MatchOption r ((i : ℕ) × (i < length text) × ((k : ℕ) → StandsFor code (slice_index text i) k → ⊥)) (Reads code text (length text))
