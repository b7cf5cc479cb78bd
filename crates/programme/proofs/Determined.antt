-- A ledger has one answer, and a line leads to one list of answers and one ledger.
use Rattle.std.proofs.Common.{ℕ, List, [], ◌∷◌, Ok, Err, Result, sym, refl, ap, ◌∙◌, subst, inl, inr}
use Rattle.std.proofs.lemmas.Bool.{cases_order}
use Rattle.programme.specs.Ledgers.{after, number, OneAnswer}
use Rattle.programme.specs.Performed.{Performed, ended, next, OneLine}
use Rattle.programme.specs.declared.refusals.Refusal.{Refusal}
use Rattle.programme.proofs.Refusing.{one_number}

pub one_answer : OneAnswer
one_answer m L ask (Ok n) (Ok k) x y = ap Ok (x.0 ∙ sym y.0)
one_answer m L ask (Ok n) (Err e) x y = absurd (x.1 e y.0)
one_answer m L ask (Err e) (Ok n) x y = absurd (y.1 e x.0)
one_answer m L ask (Err e) (Err f) x y =
    elim (cases_order (number e) (number f)) [
      | inl q ↦ ap Err (one_number e f q)
      | inr z ↦ elim z [ inl h ↦ absurd (y.1 e h x.0) | inr h ↦ absurd (x.1 f h y.0) ]
    ]

pub one_line : OneLine
one_line m L M N [] these those s t u v (ended x) (ended y) = (refl, refl)
one_line m L M N (ask ∷ asks) [] those s t u v p q = elim p [ ]
one_line m L M N (ask ∷ asks) (r ∷ these) [] s t u v p q = elim q [ ]
one_line m L M N (ask ∷ asks) (r ∷ these) (k ∷ those) s t u v (next x a p) (next {t = w} y b q) =
    let e = one_answer m L ask r k (a.answered L x.shown) (b.answered L y.shown) in
    let q' = subst (λ (z : Result ℕ Refusal). Performed m w (after L ask z) asks those v N) (sym e) q in
    let both = one_line m (after L ask r) M N asks these those _ t w v p q' in
    (ap (λ (z : Result ℕ Refusal). z ∷ these) e ∙ ap (λ (zs : List (Result ℕ Refusal)). k ∷ zs) both.0, both.1)
