-- A byte of ASCII is a character of its own.
use Rattle.std.proofs.Common.{◌≡◌, ℕ, List, ◌++◌, length, map, OnOk, string_bytes, encode_utf8_all, inl, inr, arith, rules, tests}
use Rattle.std.proofs.lemmas.Bool.{cases_lt}
use Rattle.std.proofs.lemmas.Iterator.{YieldsList-from_slice, YieldsList-from_map}
use Rattle.std.proofs.lemmas.Iterator.Adapters.{items_from_extend}
use Rattle.std.proofs.lemmas.List.{get_or_past, map-id}
use Rattle.std.proofs.lemmas.Result.{on_ok_weaker}
use Rattle.std.proofs.lemmas.Str.{encodes-IsAscii}
use Rattle.std.specs.Str.{IsAscii}
use Rattle.algebra.specs.Letters.{Ascii}
use Rattle.listing.proofs.texts.push_ascii.Goals as goal

everywhere : (bytes : List ℕ) → Ascii bytes → IsAscii bytes
everywhere bytes low i = elim (cases_lt i (length bytes)) [
  | inl h ↦ low i h
  | inr h ↦ omega (arith, get_or_past bytes i 0 h)
]

spelled : (old new bytes : List ℕ) → new ≡ old ++ encode_utf8_all (map (λ x. x) bytes) → Ascii bytes → new ≡ old ++ bytes
spelled old new bytes e low = rw (map-id bytes, encodes-IsAscii bytes (everywhere bytes low)) at e

pub returns : goal.returns
returns c =
    let bytes = c.args.bytes.now in
    let old = string_bytes c.args.text.now in
    let new = string_bytes c.extend.new.self in
    let h : OnOk c.extend.result (new ≡ old ++ encode_utf8_all (map (λ x. x) bytes)) =
    items_from_extend c.extend.result c.extend.ensures.ran
    (YieldsList-from_map _ (λ x. x) (YieldsList-from_slice bytes cc) c.map.ensures.closure (λ x r q k. search (rules, tests))) in
    on_ok_weaker _ (spelled old new bytes) h
