-- Names as a sheet holds them.
use Rattle.std.specs.Prelude.{ℕ, ◌-◌, ◌≤◌, List, [], ◌++◌, length, replicate, slice_index_or}
use Rattle.programme.specs.declared.naming.Name.{Name}

-- a name as a sheet holds it: its bytes, and zeroes up to twelve
abbrev pub name_of : List ℕ → Name
name_of text = record { bytes = text ++ replicate (12 - length text) 0; len = length text }

-- what `slice_index_or` gives past the names
abbrev pub nobody : Name
nobody = record { bytes = []; len = 0 }

-- no name is longer than its bytes
abbrev pub Short : List Name → Type 0
Short names = (k : ℕ) → (slice_index_or names k nobody).len ≤ 12
