-- Lines of turns, of any kind.
use Rattle.std.specs.Prelude.{List, [], ◌∷◌}
use Rattle.programme.specs.declared.sheets.Sheet.{Sheet}

-- The turns on one sheet are answered one by one, each as Keeps says, and lead to the other sheet.
pub data Line {T A : Type 0} (Keeps : Sheet → T → A → Sheet → Type 0) : Sheet → List T → List A → Sheet → Type 0 where
  ended : {s : Sheet} → Line Keeps s [] [] s
  next : {s t u : Sheet} {turn : T} {r : A} {turns : List T} {answers : List A} → Keeps s turn r t →
      Line Keeps t turns answers u → Line Keeps s (turn ∷ turns) (r ∷ answers) u
