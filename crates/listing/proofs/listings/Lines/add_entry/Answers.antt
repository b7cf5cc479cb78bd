-- An entry that is not there, and one that is.
use Rattle.std.proofs.Common.{◌≡◌, ◌++◌, codes, string_bytes, OnOk, rules}
use Rattle.std.proofs.lemmas.Result.{on_ok_weaker}
use Rattle.listing.proofs.Adding.{entry_added}
use Rattle.listing.proofs.listings.Lines.add_entry.Goals as goal

pub returns-clause-added : goal.returns-clause-added
returns-clause-added g c =
    let begun = string_bytes c.push_ascii.new.text in
    let ended : OnOk c.push_str.result (string_bytes c.push_str.new.self ≡ begun ++ codes "\n") = search rules in
    on_ok_weaker _ (entry_added _ _ _ _ _ _ _ _ (λ L w. (c.in-Ok.ensures.told L w).1) (search rules) c.in_ok-push_ascii.ensures) ended
