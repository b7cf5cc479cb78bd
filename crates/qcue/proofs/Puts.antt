-- Parts that are put into a buffer one behind the other.
use Rattle.std.proofs.Common.{◌≡◌, ℕ, ◌+◌, ◌≤◌, List, [], ◌++◌, length, take, drop, sym, refl, ap, ◌∙◌, append_assoc, arith, length-append, drop-drop, take_at, drop_at}
use lib.Seq.{paste, paste-zero, length_paste_head, take-length}
use Rattle.qcue.specs.Laid.{Put}

pub put_none : (old : List ℕ) (at : ℕ) → Put [] old at old at
put_none old at = record { ends = omega arith; long = refl; there = λ _. paste-zero old at [] }

pub put_more : (a b old mid new : List ℕ) (at e end : ℕ) → Put a old at mid e → Put b mid e new end → Put (a ++ b) old at new end
put_more a b old mid new at e end p q = record {
  ends = omega (arith, p.ends, q.ends, length-append a b);
  long = q.long ∙ p.long;
  there = λ h. both (omega (arith, q.ends)) (omega (arith, p.long));
}
  where
    both : e ≤ length old → end ≤ length mid → new ≡ paste old at (a ++ b) (length (a ++ b))
    both h k =
        let m = p.there h in
        let before : List ℕ = take at old ++ take (length a) a in
        let long : length before ≡ e = length_paste_head old at a (length a) (omega (arith, p.ends)) (omega arith) ∙ sym p.ends in
        let front : take e mid ≡ before = ap (take e) m ∙ take_at before (drop (at + length a) old) e long in
        let back : drop e mid ≡ drop (at + length a) old = ap (drop e) m ∙ drop_at before (drop (at + length a) old) e long in
        let far : drop (e + length b) mid ≡ drop (at + length (a ++ b)) old =
        sym (drop-drop (length b) e mid) ∙ ap (drop (length b)) back ∙ drop-drop (length b) (at + length a) old
        ∙ ap (λ n. drop n old) (omega (arith, length-append a b)) in
        q.there k ∙ rw (front, far, take-length a, take-length b, take-length (a ++ b), append_assoc (take at old) a b)

pub put_same : (a b old new : List ℕ) (at end : ℕ) → a ≡ b → Put a old at new end → Put b old at new end
put_same a b old new at end e p = rw e at p
