use Rattle.std.proofs.Common.{◌≡◌, None, Some, sym, ap, ◌∙◌}
use Rattle.source_checks.specs.Symbols.{names_in}
use Rattle.source_checks.specs.Drivers.{is_among}
use Rattle.vbe_free.proofs.Bits.{other_text, some_none, some_some, apart_of, same_of}
use Rattle.vbe_free.proofs.reading.is_in.Goals as goal

pub returns-then-ne : goal.returns-then-ne
returns-then-ne c =
    other_text c.args.text.now c.args.of.now c.args.range c.args.bit (apart_of c.args.text.now c.args.of.now c.ne.result c.ne.ensures c.if-ne.true)

pub returns-in-Some-Some : goal.returns-in-Some-Some
returns-in-Some-Some c =
    c.has_bit.ensures
    ∙ some_some c.args.text.now c.args.of.now c.in-Some-Some.range c.in-Some-Some.k (same_of c.args.text.now c.args.of.now c.ne.result c.ne.ensures c.if-ne.false)
    ∙ (λ j. is_among (names_in c.args.text.now (sym c.in-Some-Some.is-0 j)) (record { text = c.args.of.now; bit = sym c.in-Some-Some.is-1 j }))

pub returns-in-Some-None : goal.returns-in-Some-None
returns-in-Some-None c =
    some_none c.args.text.now c.args.of.now c.in-Some-None.field-0-0
    ∙ (λ j. is_among (names_in c.args.text.now (sym c.in-Some-None.is-0 j)) (record { text = c.args.of.now; bit = sym c.in-Some-None.is-1 j }))
