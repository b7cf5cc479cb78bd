-- The pairs one after the other, and each way out.
use Rattle.std.proofs.Common.{◌≡◌, ℕ, ◌*◌, ◌<◌, length, Some, Ok, Err, Decides, refl, arith, rules}
use Rattle.std.proofs.lemmas.Bool.Decides.{not_from_Decides}
use Rattle.programme.specs.declared.fitting.Misfit.TheVariants.{NoThing}
use Rattle.programme.proofs.Grouping.{group_within}
use Rattle.programme.proofs.Meeting.{Clear, tested, clear_more, no_thing, none_unmet, first_unmet}
use Rattle.programme.proofs.Arranging.{answer}
use Rattle.programme.proofs.programmes.Programme.fits.Given as given
use Rattle.programme.proofs.programmes.Programme.fits.Goals as goal
use Rattle.programme.proofs.programmes.Programme.fits.Goals.{After-met}

pub group-from-requires : goal.group-from-requires
group-from-requires g c =
    group_within _ _ _ c.rows.i c.rows-test.true (search rules)

pub group-to-requires : goal.group-to-requires
group-to-requires g c =
    group_within _ _ _ c.loop-j.j c.loop-j-test.true (search rules)

this_pair : (g : given.Over) (c : After-met g) → Decides c.met.result
    (Clear c.numbers-size.result (g.B.Timed.stand c.args.self.now.algebra) c.args.self.now.sheet
    c.args.numbers.now c.rows.i c.loop-j.j)
this_pair g c =
    tested c.numbers-size.result (g.B.Timed.stand c.args.self.now.algebra) c.args.self.now.sheet
    c.args.numbers.now c.rows.i c.loop-j.j _ c.group-from.result.now c.group-to.result.now
    c.met.result refl c.group-from.ensures c.group-to.ensures c.met.ensures

pub loop-j-preserved : goal.loop-j-preserved
loop-j-preserved g c = (
  c.loop-j.invariant.0,
  clear_more c.numbers-size.result (g.B.Timed.stand c.args.self.now.algebra) c.args.self.now.sheet
      c.args.numbers.now c.rows.i c.loop-j.j c.loop-j.invariant.1
      ((this_pair g (goal.at.loop-j-preserved g c).After-met).0 c.if-not-met.false),
)

pub returns-then-not-all_things : goal.returns-then-not-all_things
returns-then-not-all_things g c =
    let law = g.met.B.Algebra.lawful c.args.self.now.algebra in
    let full : length c.args.numbers.now ≡ c.args.self.now.sheet.count * c.numbers-size.result = search rules in
    answer _ law _ _ _ _ c.numbers-size.ensures.measured c.numbers-size.ensures.value _ _ (Err NoThing)
    (λ d L w. no_thing _ _ _ _ d _ L w _ full c.numbers-size.ensures.some (c.all_things.ensures.other c.if-not-all_things.true))

pub returns-after-rows : goal.returns-after-rows
returns-after-rows g c =
    let law = g.met.B.Algebra.lawful c.args.self.now.algebra in
    let full : length c.args.numbers.now ≡ c.args.self.now.sheet.count * c.numbers-size.result = search rules in
    let things = λ (i : ℕ) (h : i < c.args.self.now.sheet.count). c.all_things.ensures.all c.if-not-all_things.false i (group_within _ _ _ i h full) in
    answer _ law _ _ _ _ c.numbers-size.ensures.measured c.numbers-size.ensures.value _ _ (Ok c.rows.first-1)
    (λ d L w. none_unmet _ _ _ _ d _ L w _ full things _ c.rows.i c.rows.invariant.0 c.rows-test.false
    c.rows.invariant.1)

pub returns-then-not-met : goal.returns-then-not-met
returns-then-not-met g c =
    let law = g.met.B.Algebra.lawful c.args.self.now.algebra in
    let full : length c.args.numbers.now ≡ c.args.self.now.sheet.count * c.numbers-size.result = search rules in
    let things = λ (i : ℕ) (h : i < c.args.self.now.sheet.count). c.all_things.ensures.all c.if-not-all_things.false i (group_within _ _ _ i h full) in
    let unclear = not_from_Decides _ (this_pair g (goal.at.returns-then-not-met g c).After-met) c.if-not-met.true in
    answer _ law _ _ _ _ c.numbers-size.ensures.measured c.numbers-size.ensures.value _ _
    (Ok (Some (c.rows.i, c.loop-j.j)))
    (λ d L w. first_unmet _ _ _ _ d _ L w _ full things c.rows.i c.loop-j.j (omega arith) c.loop-j-test.true
    c.loop-j.invariant.1 unclear)
