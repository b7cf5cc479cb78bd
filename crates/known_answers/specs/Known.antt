-- The answers that a person can work out by hand, from the meanings.
use Rattle.std.specs.Prelude.{◌≡◌}
use Rattle.algebra.specs.Meaning.{composition_of}
use Rattle.algebra.specs.Instants.{instants}
use Rattle.algebra.specs.Spans.{spans}
use Rattle.algebra.specs.Regions.{regions}
use Rattle.algebra.specs.House.{kept}
use Rattle.known_answers.specs.declared.Answers.{Answers}

-- each call's answer is the meaning's, and that is the number
pub record Known (r : Answers) : Type 0 where
  -- instants: `=` or `<`, then `<`, is `<`
  pub instants_less : (r.instants_less ≡ composition_of instants 0x3 0x2) × (composition_of instants 0x3 0x2 ≡ 0x2)
  -- spans: meets, then during, is overlaps, starts or during
  pub meets_during : (r.meets_during ≡ composition_of spans 0x8 0x200) × (composition_of spans 0x8 0x200 ≡ 0x2A0)
  -- spans: overlaps twice is precedes, meets or overlaps
  pub overlaps_twice : (r.overlaps_twice ≡ composition_of spans 0x20 0x20) × (composition_of spans 0x20 0x20 ≡ 0x2A)
  -- regions: composition does not commute
  pub part_whole : (r.part_whole ≡ composition_of regions 0x10 0x20) × (composition_of regions 0x10 0x20 ≡ 0x3F)
  pub whole_part : (r.whole_part ≡ composition_of regions 0x20 0x10) × (composition_of regions 0x20 0x10 ≡ 0x39)
  -- precedes without its converse: only reading 0 is left
  pub one_sided : (r.one_sided ≡ kept spans 0x2) × (kept spans 0x2 ≡ 0x1)
