-- Ties that follow from others.
use Rattle.network.specs.Statements.{Implied, Weaker, Alike}
use Rattle.network.proofs.Sets.{none, empty}
use Rattle.network.proofs.Links.{linked_too}
use Rattle.network.proofs.Nets.{fits}

pub implied : Implied
implied m less more T linked t under = record {
  linked = linked;
  under = λ D c u a r h. under u a r (t.greatest D c u.first u.second r (linked u a) h);
}

pub weaker : Weaker
weaker m less more T f t clear (S, s, (i, j, x, e)) =
    let inside = s.greatest T (fits m less more T f t.fit) in
    clear (T, t, (i, j, linked_too f.linked x, empty (T i j) (λ r h. none r (S i j) e (inside i j r x h))))

pub alike : Alike
alike m these those S f g s = record {
  fit = fits m these those S f s.fit;
  greatest = λ D c i j r x h. s.greatest D (fits m those these D g c) i j r (linked_too f.linked x) h;
}
