-- The algebra that a head names.
use Rattle.std.proofs.Common.{◌≡◌, ℕ, ◌≤◌, ◌≢◌, List, Some, None, Ok, sym, subst, inl, inr, arith}
use Rattle.std.proofs.lemmas.Bool.{cases_eq}
use Rattle.algebra.specs.Standard.{standard_of}
use Rattle.algebra.specs.declared.interface.Stamp.{Stamp}
use Rattle.algebra.specs.declared.standards.Standard.{Standard}
use Rattle.qcue.specs.Headed.{StandardCode, Headed}
use Rattle.qcue.specs.declared.refusals.FileRefusal.TheVariants.{Misplaced, OtherStamp}

-- a code that head takes is that of a standard algebra
pub always_named : (bytes : List ℕ) (stamp : Stamp) → Headed bytes (Ok stamp) → standard_of stamp.code ≢ None
always_named bytes stamp (kept, is) none = known stamp.code (subst StandardCode (sym is) (kept OtherStamp (kept Misplaced)).stamp) none
  where
    some : {x : Standard} → Some x ≢ None
    some e = cc

    known : (code : ℕ) → (1 ≤ code) × (code ≤ 3) → standard_of code ≢ None
    known code (low, high) none =
        elim (cases_eq code 1) [
          | inl e ↦ some (rw e at none)
          | inr d ↦ elim (cases_eq code 2) [
            | inl e ↦ some (rw e at none)
            | inr f ↦ let e : code ≡ 3 = omega arith in some (rw e at none)
          ]
        ]
