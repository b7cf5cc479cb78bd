-- Two entries that are not linked, and two that are.
use Rattle.std.proofs.Common.{ℕ, List, ◌++◌, string_bytes, ap, ◌∙◌}
use Rattle.algebra.specs.declared.interface.Stamp.{Stamp}
use Rattle.listing.specs.declared.texts.Link.{Link}
use Rattle.listing.specs.Listed.{link_line_of}
use Rattle.listing.proofs.Adding.{pair_none, pair_some}
use Rattle.listing.proofs.listings.Lines.add_link.Goals as goal

pub returns-in_default-clause-added : goal.returns-in_default-clause-added
returns-in_default-clause-added g c = pair_none _ _ _ _ _ _ c.requires c.look.ensures c.unwrap_or.ensures _ c.in_default.is

pub returns-clause-added : goal.returns-clause-added
returns-clause-added g c =
    let row : Link = record {
      first = c.args.first;
      second = c.args.second;
      given = c.unwrap_or-given.result;
      settled = c.in-Some.settled;
    } in
    let line = c.in_ok-line.ensures ∙ ap (λ (stamp : Stamp). link_line_of stamp.code row) c.stamp.ensures in
    let pushed =
    c.in_ok-push_str.ensures.bytes
    ∙ ap (λ (z : List ℕ). string_bytes c.args.self.now.text ++ z) c.as_str.ensures.value in
    pair_some _ _ _ _ _ _ c.requires c.look.ensures c.unwrap_or.ensures _ _ _ _ _ _ c.in-Some.is
    c.given.ensures c.unwrap_or-given.ensures line pushed
