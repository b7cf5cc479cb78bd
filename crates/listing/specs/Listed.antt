-- The listing of a sheet, line by line.
use Rattle.std.specs.Prelude.{◌≡◌, ℕ, suc, ◌+◌, ◌/◌, ◌%◌, ◌<◌, cond, List, [], ◌∷◌, ◌++◌, length, codes, decimal, ◌==◌, nat_lt}
use Rattle.std.specs.List.{flat_map}
use Rattle.algebra.specs.Meaning.{Meaning}
use Rattle.algebra.specs.Letters.{spelling}
use Rattle.algebra.specs.declared.interface.Stamp.{Stamp}
use Rattle.network.specs.Links.{Linked}
use Rattle.programme.specs.Ledgers.{Ledger}
use Rattle.programme.specs.Questions.{SettledSet, Told}
use Rattle.programme.specs.Pairs.{RowsOf}
use Rattle.listing.specs.declared.texts.Link.{Link}

-- ---- numbers and sets as they are printed

-- one hexadecimal digit, a capital from ten on
abbrev pub hex_digit_of : ℕ → ℕ
hex_digit_of d = cond (nat_lt d 10) (48 + d) (55 + d)

-- two for a byte
abbrev pub hex_byte_of : ℕ → List ℕ
hex_byte_of b = hex_digit_of (b / 16) ∷ hex_digit_of (b % 16) ∷ []

-- eight for a number of 32 bits, the high byte first
abbrev pub hexadecimal : ℕ → List ℕ
hexadecimal n =
    hex_byte_of (n / 16777216 % 256) ++ (hex_byte_of (n / 65536 % 256) ++ (hex_byte_of (n / 256 % 256) ++ hex_byte_of (n % 256)))

-- a given set in letters, or a dash where there is none
abbrev pub given_letters_of : ℕ → ℕ → List ℕ
given_letters_of code set = cond (set == 0) (codes "-") (spelling code set)

-- ---- the lines

-- `sheet`, the code, the house mask, how many entries and how many tied pairs
abbrev pub sheet_fields : ℕ → List ℕ → ℕ → ℕ → List ℕ
sheet_fields code house entries tied =
    codes "sheet " ++ (decimal code ++ (codes " " ++ (house ++ (codes " " ++
    (decimal entries ++ (codes " " ++ (decimal tied ++ codes "\n")))))))

abbrev pub sheet_line_of : Stamp → ℕ → ℕ → List ℕ
sheet_line_of stamp entries tied = sheet_fields stamp.code (hexadecimal stamp.house) entries tied

-- the number and the name of an entry
abbrev pub entry_line_of : ℕ → List ℕ → List ℕ
entry_line_of k name = decimal k ++ (codes " " ++ (name ++ codes "\n"))

-- .. of each, where the first has the number k
abbrev pub entry_lines_of : ℕ → List (List ℕ) → List ℕ
entry_lines_of k [] = []
entry_lines_of k (name ∷ names) = entry_line_of k name ++ entry_lines_of (k + 1) names

-- the two numbers, what is given and what is settled
abbrev pub link_fields : ℕ → ℕ → List ℕ → List ℕ → List ℕ
link_fields first second given settled =
    decimal first ++ (codes " " ++ (decimal second ++ (codes " " ++ (given ++ (codes " " ++ (settled ++ codes "\n"))))))

abbrev pub link_line_of : ℕ → Link → List ℕ
link_line_of code row =
    link_fields row.first row.second (given_letters_of code row.given) (spelling code row.settled)

-- ---- the listing of a ledger

-- the row is a link of the ledger, the smaller number first, with what is given and what is settled there
pub record IsLink (m : Meaning) (L : Ledger) (row : Link) : Type 0 where
  pub smaller : row.first < row.second
  pub linked : Linked L.ties row.first row.second
  pub given : Told m L row.first row.second row.given
  pub settled : SettledSet m L row.first row.second row.settled

-- the rows are all links, in rising order
abbrev pub Links : Meaning → Ledger → List Link → Type 0
Links m L rows = RowsOf (λ row. row.first) (λ row. row.second) (IsLink m L) (Linked L.ties) rows

-- how many of the links are tied
abbrev pub tied : List Link → ℕ
tied [] = 0
tied (row ∷ rows) = cond (row.given == 0) (tied rows) (suc (tied rows))

-- the text is the listing of the ledger
abbrev pub ListingOf : Meaning → Ledger → List ℕ → Type 0
ListingOf m L text =
    (rows : List Link) × Links m L rows ×
    (text ≡ sheet_line_of m.stamp (length L.names) (tied rows) ++
    (entry_lines_of 0 L.names ++ flat_map (link_line_of m.stamp.code) rows))

-- a ledger has one listing
abbrev pub OneListing : Type 0
OneListing =
    (m : Meaning) (L : Ledger) (these those : List ℕ) → ListingOf m L these → ListingOf m L those → these ≡ those
