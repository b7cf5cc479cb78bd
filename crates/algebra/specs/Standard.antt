-- The standard algebras by their codes.
use Rattle.std.specs.Prelude.{◌≡◌, ℕ, cond, ◌≢◌, List, codes, Some, None, Ok, Err, Option, Result, ◌==◌}
use Rattle.algebra.specs.Meaning.{Meaning}
use Rattle.algebra.specs.Instants.{instants}
use Rattle.algebra.specs.Spans.{spans}
use Rattle.algebra.specs.Regions.{regions}
use Rattle.algebra.specs.declared.standards.Standard.{Standard}
use Rattle.algebra.specs.declared.standards.UnknownCode.{UnknownCode}
use Rattle.algebra.specs.declared.standards.UnknownName.{UnknownName}
use Rattle.algebra.specs.declared.standards.Standard.TheVariants.{Instants, Spans, Regions}

abbrev pub meaning_of : Standard → Meaning
meaning_of Instants = instants
meaning_of Spans = spans
meaning_of Regions = regions

-- the standard algebra whose stamp has the code
abbrev pub standard_of : ℕ → Option Standard
standard_of code = cond (code == 1) (Some Instants) (cond (code == 2) (Some Spans) (cond (code == 3) (Some Regions) None))

-- what is answered to a code: the algebra that has it, or that none does
abbrev pub Decodes : ℕ → Result Standard UnknownCode → Type 0
Decodes code (Ok standard) = standard_of code ≡ Some standard
Decodes code (Err unknown) = (standard_of code ≡ None) × (unknown.0 ≡ code)

-- how people call the standard algebras
abbrev pub called : Standard → List ℕ
called Instants = codes "instants"
called Spans = codes "spans"
called Regions = codes "regions"

-- what is answered to a name: the algebra that is called so, or that none is
abbrev pub Names : List ℕ → Result Standard UnknownName → Type 0
Names name (Ok standard) = called standard ≡ name
Names name (Err unknown) = (standard : Standard) → called standard ≢ name
