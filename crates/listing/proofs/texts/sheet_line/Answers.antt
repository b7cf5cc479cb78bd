-- The mask in eight digits.
use Rattle.std.proofs.Common.{◌≡◌, List, ℕ, IfOk, string_bytes, subst, arith, rules}
use Rattle.listing.specs.Listed.{sheet_fields}
use Rattle.listing.proofs.Digits.{eight_digits, hex_word}
use Rattle.listing.proofs.texts.sheet_line.Goals as goal

pub returns : goal.returns
returns c =
    let stamp = c.args.stamp in
    let Prints = λ (house : List ℕ). IfOk c.format.result (λ text. string_bytes text ≡ sheet_fields stamp.code house c.args.entries c.args.tied) in
    let h : Prints (eight_digits stamp.house) = search rules in
    subst Prints (hex_word stamp.house (omega arith)) h
